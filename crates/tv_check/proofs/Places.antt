-- Where numbers stand first in a list, filled in from the end.
use Rattle.std.specs.Prelude.{◌≡◌, ℕ, suc, ◌+◌, ◌<◌, List, length, map, drop, Bool, true, false, nat_lt, ◌==◌, if◌then◌else◌, replicate}
use Rattle.std.specs.List.{list_all, range_with_len}
use Rattle.std.proofs.Common.{arith, get_or, set, ap, sym, subst, ◌∙◌, refl}
use Rattle.std.proofs.lemmas.Bool.{eqb-true, eqb-false, ltb-true}
use Rattle.std.proofs.lemmas.List.{drop_more, drop_all, get_or-set_same, get_or-set_other, length-set, ext_get_or, get_or-replicate, length-replicate}
use Rattle.std.proofs.lemmas.List.FromFn.{length-map-range_with_len, get_or-map-range_with_len}
use Rattle.tv_check.specs.RankNumbers.{first_at}
use Rattle.tv_naming.proofs.Lists.{list_all-at}

module _ (list : List ℕ) where
  -- what stands from i on is filled in
  pub record IsFilled (count i : ℕ) (places : List ℕ) : Type 0 where
    pub all : length places ≡ count
    pub at : (v : ℕ) → v < count → get_or places v 0 ≡ i + first_at v (drop i list)

  pub filled-none : (count : ℕ) → IsFilled count (length list) (replicate count (length list))
  filled-none count = record {
    all = length-replicate count (length list);
    at = λ v lt. get_or-replicate count v (length list) 0 lt ∙ (let e : length list ≡ length list + 0 = omega arith in e) ∙ ap (λ us. length list + first_at v us) (sym (drop_all (length list) list (omega arith)));
  }

  pub below-at : (count i : ℕ) → list_all (λ v. nat_lt v count) list ≡ true → i < length list → get_or list i 0 < count
  below-at count i h lt = ltb-true (get_or list i 0) count (list_all-at (λ v. nat_lt v count) list i 0 h lt)

  pub filled-more : (count i u : ℕ) (places : List ℕ) → i < length list → u ≡ get_or list i 0 → u < count → IsFilled count (i + 1) places → IsFilled count i (set places u i)
  filled-more count i u places lt is below h = record {
    all = length-set places u i ∙ h.all;
    at = λ v inside. cases v inside (v == u) refl;
  }
    where
      here : (v : ℕ) → first_at v (drop i list) ≡ (if v == u then 0 else suc (first_at v (drop (i + 1) list)))
      here v = ap (first_at v) (drop_more list i 0 lt) ∙ ap (λ w. if v == w then 0 else suc (first_at v (drop (i + 1) list))) (sym is)

      cases : (v : ℕ) → v < count → (b : Bool) → (v == u) ≡ b → get_or (set places u i) v 0 ≡ i + first_at v (drop i list)
      cases v inside true e =
          let same : u ≡ v = sym (eqb-true v u e) in
          let p : first_at v (drop i list) ≡ 0 = here v ∙ ap (λ b. if b then 0 else suc (first_at v (drop (i + 1) list))) e in
          let q : get_or (set places u i) v 0 ≡ i = subst (λ w. get_or (set places u i) w 0 ≡ i) same (get_or-set_same places u i 0 (omega (arith, h.all))) in
          omega (arith, p, q)
      cases v inside false e =
          let p : first_at v (drop i list) ≡ suc (first_at v (drop (i + 1) list)) = here v ∙ ap (λ b. if b then 0 else suc (first_at v (drop (i + 1) list))) e in
          let q : get_or (set places u i) v 0 ≡ get_or places v 0 = get_or-set_other places u v i 0 (eqb-false v u e) in
          omega (arith, p, q, h.at v inside)

  pub filled-all : (count : ℕ) (places : List ℕ) → IsFilled count 0 places → places ≡ map (λ v. first_at v list) (range_with_len 0 count)
  filled-all count places h =
      ext_get_or 0 places (map (λ v. first_at v list) (range_with_len 0 count)) (h.all ∙ sym (length-map-range_with_len (λ v. first_at v list) 0 count))
      (λ v lt. let inside : v < count = omega (arith, h.all) in h.at v inside ∙ (let e : 0 + first_at v list ≡ first_at v list = omega arith in e) ∙ sym (get_or-map-range_with_len (λ v. first_at v list) 0 count v v 0 inside (omega arith)))
