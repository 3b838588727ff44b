-- The places that a place splits into meet the conditions of joining, and join to it.
use Rattle.std.specs.Prelude.{◌≡◌, refl, ℕ, suc, ◌≤◌, min, List, [], ◌∷◌, ◌++◌, length, take, drop, Bool, true, false, if◌then◌else◌, Some, unwrap_or}
use Rattle.std.proofs.Common.{arith, ap, sym, subst, ◌∙◌, append_assoc, length-take}
use Rattle.tv_lemmas.specs.Members.{Each}
use Rattle.tv_value.specs.Nested.{Place}
use Rattle.tv_value.specs.Values.{Name}
use Rattle.tv_value.specs.Orders.{same_name, named}
use Rattle.tv_value.specs.Strategies.{Strategy, port, cross, dot, prefix, Strategies, no_strategies, strategy}
use Rattle.tv_strategy.specs.Measures.{strategy_depth, sum_of_depths, first_depth, leaf_names, DotsAgree, AllDotsAgree, HaveOneDepth}
use Rattle.tv_strategy.specs.Splits.{split, split_cross, split_dot}
use Rattle.tv_strategy.specs.Conditions.{HaveLengths, EachOnce, names_in, number_of, place_of, times}
use Rattle.tv_strategy.specs.Promises.{AreOf}
use Rattle.tv_strategy.specs.Stated.{JoinGivesPlaceBack}
use Rattle.tv_strategy.proofs.Sources.{each-append}
use Rattle.tv_strategy.proofs.PlaceLemmas.{same-itself}
use Rattle.tv_strategy.proofs.Joins.{length-front, length-back, joined-undoes}
use Rattle.tv_strategy.proofs.LawLemmas.{split-names_leaves}

there : (n : Name) (q : Place) (pre post : List (Name × Place)) → (k : ℕ) × (times n (names_in (pre ++ (n, q) ∷ post)) ≡ suc k)
there n q [] post = (times n (names_in post), ap (λ b. if b then suc (times n (names_in post)) else times n (names_in post)) (same-itself n))
there n q (x ∷ pre) post = by (same_name n x.0) (there n q pre post)
  where
    by : (b : Bool) → ((k : ℕ) × (times n (names_in (pre ++ (n, q) ∷ post)) ≡ suc k)) → (k : ℕ) × ((if b then suc (times n (names_in (pre ++ (n, q) ∷ post))) else times n (names_in (pre ++ (n, q) ∷ post))) ≡ suc k)
    by true t = (times n (names_in (pre ++ (n, q) ∷ post)), refl)
    by false t = t

found : (n : Name) (q : Place) (pre post : List (Name × Place)) → times n (names_in (pre ++ (n, q) ∷ post)) ≡ 1 → named n (pre ++ (n, q) ∷ post) ≡ Some q
found n q [] post h = ap (λ b. if b then Some q else named n post) (same-itself n)
found n q (x ∷ pre) post h = step (found n q pre post) (same_name n x.0) refl
  where
    twice : (t k : ℕ) → suc t ≡ 1 → t ≡ suc k → ⊥
    twice t k e f = omega arith

    step : (times n (names_in (pre ++ (n, q) ∷ post)) ≡ 1 → named n (pre ++ (n, q) ∷ post) ≡ Some q) → (b : Bool) → same_name n x.0 ≡ b → named n (x ∷ pre ++ (n, q) ∷ post) ≡ Some q
    step next true e = let t = there n q pre post in absurd (twice (times n (names_in (pre ++ (n, q) ∷ post))) t.0 (sym (ap (λ b. if b then suc (times n (names_in (pre ++ (n, q) ∷ post))) else times n (names_in (pre ++ (n, q) ∷ post))) e) ∙ h) t.1)
    step next false e = ap (λ b. if b then Some x.1 else named n (pre ++ (n, q) ∷ post)) e ∙ next (sym (ap (λ b. if b then suc (times n (names_in (pre ++ (n, q) ∷ post))) else times n (names_in (pre ++ (n, q) ∷ post))) e) ∙ h)

are-own : (pre rs : List (Name × Place)) → EachOnce (names_in rs) (names_in (pre ++ rs)) → AreOf (place_of (pre ++ rs)) rs
are-own pre [] h = tt
are-own pre (r ∷ rs) h =
    (ap (λ o. unwrap_or o []) (found r.0 r.1 pre rs h.0), subst (λ ws. AreOf (place_of ws) rs) (append_assoc pre (r ∷ []) rs) (are-own (pre ++ r ∷ []) rs (subst (λ ws. EachOnce (names_in rs) (names_in ws)) (sym (append_assoc pre (r ∷ []) rs)) h.1)))

module _ (mismatch : Name → ℕ) where
  abbrev Long : (Name × Place) → Type 0
  Long r = length r.1 ≡ mismatch r.0

  mutual
    split-long : (s : Strategy) (q : Place) → DotsAgree mismatch s → length q ≡ strategy_depth mismatch s → Each Long (split mismatch s q)
    split-long (port p) q a h = (h, tt)
    split-long (cross cs) q a h = cross-long cs q a h
    split-long (dot cs) q a h = dot-long cs q a.0 a.1 h
    split-long (prefix c d) q a h =
        let n = strategy_depth mismatch c in
        each-append Long (split mismatch c (take n q)) (split mismatch d q) (split-long c (take n q) a.0 (length-take n q ∙ least n (length q) (subst (λ m. n ≤ m) (sym h) a.2))) (split-long d q a.1 h)
      where
        least : (n m : ℕ) → n ≤ m → min n m ≡ n
        least n m h = omega arith

    cross-long : (cs : Strategies) (q : Place) → AllDotsAgree mismatch cs → length q ≡ sum_of_depths mismatch cs → Each Long (split_cross mismatch cs q)
    cross-long no_strategies q a h = tt
    cross-long (strategy c cs) q a h =
        let n = strategy_depth mismatch c in
        let m = sum_of_depths mismatch cs in
        each-append Long (split mismatch c (take n q)) (split_cross mismatch cs (drop n q)) (split-long c (take n q) a.0 (length-front q n m h)) (cross-long cs (drop n q) a.1 (length-back q n m h))

    dot-long : (cs : Strategies) (q : Place) → AllDotsAgree mismatch cs → HaveOneDepth mismatch cs → length q ≡ first_depth mismatch cs → Each Long (split_dot mismatch cs q)
    dot-long no_strategies q a o h = tt
    dot-long (strategy c no_strategies) q a o h = each-append Long (split mismatch c q) [] (split-long c q a.0 h) tt
    dot-long (strategy c (strategy d ds)) q a o h = each-append Long (split mismatch c q) (split_dot mismatch (strategy d ds) q) (split-long c q a.0 h) (dot-long (strategy d ds) q a.1 o.1 (h ∙ o.0))

  lengths-of : (ports : Name → Place) (rs : List (Name × Place)) → AreOf ports rs → Each Long rs → HaveLengths mismatch ports (names_in rs)
  lengths-of ports [] a l = tt
  lengths-of ports (r ∷ rs) a l = (ap length a.0 ∙ l.0, lengths-of ports rs a.1 l.1)

pub joins-back : JoinGivesPlaceBack
joins-back mismatch s u a q h =
    let m = number_of mismatch in
    let rs = split m s q in
    let names = split-names_leaves m s q in
    let of = are-own [] rs (subst (λ ns. EachOnce ns ns) (sym names) u.leaves_differ) in
    let lens = subst (λ ns. HaveLengths m (place_of rs) ns) names (lengths-of m (place_of rs) rs of (split-long m s q a h)) in
    (record { each_has_place = subst (λ ns. EachOnce (leaf_names s) ns) (sym names) u.leaves_differ; have_lengths = lens }, (joined-undoes m (place_of rs) s lens).only a q (h, of))
