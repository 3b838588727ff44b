-- The table of untaken vertices stays kept when one settles and when one is taken.
use Rattle.std.proofs.Common.{◌≡◌, ℕ, ◌<◌, ◌≤◌, Bool, true, false, not, ◌&&◌, ◌||◌, eqb, length, Option, Some, None, refl, sym, ap, ◌∙◌, subst, inl, inr, arith, MatchOption}
use Rattle.std.proofs.lemmas.Bool.{eqb-true, cases_eq, cases_Bool}
use Rattle.std.proofs.lemmas.Bool.Decides.{nat_tests}
use Rattle.std.specs.Prelude.{find}
use Rattle.tv_naming.specs.graphs.Graphs.{Graph, before, vertices}
use Rattle.tv_naming.specs.graphs.Untaken.{IsKept, awaited, is_ready, but, none}
use Rattle.tv_naming.proofs.Members.{find-passes, find-all, all-find, find-stays, find-stays-none, find-range, find-range-none}

module _ (g : Graph) (taken : ℕ → Bool) where
  pub IsKept-weaken : (P Q free : ℕ → Bool) (waits : ℕ → ℕ → Bool) → IsKept g P taken free waits → ((v : ℕ) → v < length g → Q v ≡ false → P v ≡ false) → IsKept g Q taken free waits
  IsKept-weaken P Q free waits k weaker = record {
    free_is = k.free_is;
    waits_is = k.waits_is;
    kept = λ v below is_open q. k.kept v below is_open (weaker v below q);
  }

  -- x is made free
  module _ (P free free' : ℕ → Bool) (waits waits' : ℕ → ℕ → Bool) (k : IsKept g P taken free waits) (x : ℕ) (below : x < length g) (open_x : taken x ≡ false) where
    pub IsKept-free : awaited g taken x ≡ None → ((u : ℕ) → free' u ≡ (free u || eqb u x)) → ((u v : ℕ) → waits' u v ≡ waits u v) → IsKept g (but P x) taken free' waits'
    IsKept-free waits_none frees same = record {
      free_is = λ v h. elim (cases_eq v x) [
        | inl e ↦ subst (λ (w : ℕ). (w < length g) × (taken w ≡ false) × (awaited g taken w ≡ None)) (sym e) (below, open_x, waits_none)
        | inr ne ↦ k.free_is v (grind (arith, nat_tests, frees v))
      ];
      waits_is = λ u v h. k.waits_is u v (sym (same u v) ∙ h);
      kept = λ v v_below v_open h. elim (cases_eq v x) [
        | inl e ↦ subst (λ (w : ℕ). MatchOption (awaited g taken w) (free' w ≡ true) (λ u. waits' u w ≡ true)) (sym e) (rw waits_none (grind (arith, nat_tests, frees x)))
        | inr ne ↦ kept_free v (awaited g taken v) (k.kept v v_below v_open (grind (arith, nat_tests)))
      ];
    }
      where
        kept_free : (v : ℕ) (o : Option ℕ) → MatchOption o (free v ≡ true) (λ u. waits u v ≡ true) → MatchOption o (free' v ≡ true) (λ u. waits' u v ≡ true)
        kept_free v None h = grind (arith, frees v)
        kept_free v (Some u) h = same u v ∙ h

    -- x waits for w
    pub IsKept-waits : (w : ℕ) → awaited g taken x ≡ Some w → ((u : ℕ) → free' u ≡ free u) → ((u v : ℕ) → waits' u v ≡ (waits u v || (eqb u w && eqb v x))) → IsKept g (but P x) taken free' waits'
    IsKept-waits w waits_w same adds = record {
      free_is = λ v h. k.free_is v (sym (same v) ∙ h);
      waits_is = λ u v h u_open. elim (cases_Bool (waits u v)) [
        | inl old ↦ k.waits_is u v old u_open
        | inr new ↦
            let both : (eqb u w && eqb v x) ≡ true = grind (arith, adds u v) in
            let eu : u ≡ w = eqb-true _ _ (grind arith) in
            let ev : v ≡ x = eqb-true _ _ (grind arith) in
            subst (λ (y : ℕ). (y < length g) × (taken y ≡ false) × (awaited g taken y ≡ Some u)) (sym ev) (below, open_x, waits_w ∙ ap Some (sym eu))
      ];
      kept = λ v v_below v_open h. elim (cases_eq v x) [
        | inl e ↦ subst (λ (y : ℕ). MatchOption (awaited g taken y) (free' y ≡ true) (λ u. waits' u y ≡ true)) (sym e) (rw waits_w (grind (arith, nat_tests, adds w x)))
        | inr ne ↦ kept_waits v (awaited g taken v) (k.kept v v_below v_open (grind (arith, nat_tests)))
      ];
    }
      where
        kept_waits : (v : ℕ) (o : Option ℕ) → MatchOption o (free v ≡ true) (λ u. waits u v ≡ true) → MatchOption o (free' v ≡ true) (λ u. waits' u v ≡ true)
        kept_waits v None h = same v ∙ h
        kept_waits v (Some u) h = grind (arith, adds u v)

-- v is taken, and those that waited for it are pending
module _ (g : Graph) (taken taken' free free' : ℕ → Bool) (waits waits' : ℕ → ℕ → Bool) (k : IsKept g none taken free waits) (v : ℕ) (is_free : free v ≡ true)
    (takes : (u : ℕ) → taken' u ≡ (taken u || eqb u v)) where
  others : (u : ℕ) → not (taken u) ≡ false → not (taken' u) ≡ false
  others u h = grind (arith, takes u)

  waits_other : (u w : ℕ) → waits u w ≡ true → taken u ≡ false → taken' w ≡ false
  waits_other u w h u_open =
      let is = k.waits_is u w h u_open in
      elim (cases_eq w v) [
        | inl e ↦ let s : Some u ≡ None = sym is.2 ∙ ap (awaited g taken) e ∙ (k.free_is v is_free).2 in cc
        | inr ne ↦ grind (arith, nat_tests, takes w, is.1)
      ]

  pub waiting_open : (w : ℕ) → waits v w ≡ true → (w < length g) × (taken' w ≡ false)
  waiting_open w h = ((k.waits_is v w h (k.free_is v is_free).1).0, waits_other v w h (k.free_is v is_free).1)

  pub IsKept-take : ((u : ℕ) → free' u ≡ (free u && not (eqb u v))) → ((u w : ℕ) → waits' u w ≡ (not (eqb u v) && waits u w)) → IsKept g (waits v) taken' free' waits'
  IsKept-take frees leaves = record {
    free_is = λ w h.
        let is = k.free_is w (grind (arith, frees w)) in
        (is.0, grind (arith, nat_tests, frees w, takes w, is.1), find-stays-none (λ u. not (taken u)) (λ u. not (taken' u)) others (before g w) is.2);
    waits_is = λ u w h u_open.
        let u_was : taken u ≡ false = grind (arith, takes u) in
        let h_was : waits u w ≡ true = grind (arith, leaves u w) in
        let is = k.waits_is u w h_was u_was in
        (is.0, waits_other u w h_was u_was, find-stays (λ y. not (taken y)) (λ y. not (taken' y)) others (before g w) u is.2 (ap not u_open));
    kept = λ w below w_open h.
        kept_take w (awaited g taken w) refl h w_open (k.kept w below (grind (arith, takes w)) refl);
  }
    where
      kept_take : (w : ℕ) (o : Option ℕ) → awaited g taken w ≡ o → waits v w ≡ false → taken' w ≡ false → MatchOption o (free w ≡ true) (λ u. waits u w ≡ true) → MatchOption (awaited g taken' w) (free' w ≡ true) (λ u. waits' u w ≡ true)
      kept_take w None is h w_open was =
          rw (find-stays-none (λ u. not (taken u)) (λ u. not (taken' u)) others (before g w) is) (grind (arith, nat_tests, frees w, takes w))
      kept_take w (Some u) is h w_open was =
          elim (cases_eq u v) [
            | inl e ↦ let s : waits v w ≡ true = subst (λ (y : ℕ). waits y w ≡ true) e was in cc
            | inr ne ↦
                let was_open : not (taken u) ≡ true = find-passes (λ y. not (taken y)) (before g w) u is in
                let is_open : not (taken' u) ≡ true = grind (arith, nat_tests, takes u) in
                rw (find-stays (λ y. not (taken y)) (λ y. not (taken' y)) others (before g w) u is is_open) (grind (arith, nat_tests, leaves u w))
          ]

module _ (g : Graph) (taken free : ℕ → Bool) (waits : ℕ → ℕ → Bool) (k : IsKept g none taken free waits) where
  ready_free : (v : ℕ) → v < length g → is_ready g taken v ≡ true → free v ≡ true
  ready_free v below ready =
      subst (λ (o : Option ℕ). MatchOption o (free v ≡ true) (λ u. waits u v ≡ true)) (all-find taken (before g v) (grind arith)) (k.kept v below (grind arith) refl)

  free_ready : (v : ℕ) → free v ≡ true → is_ready g taken v ≡ true
  free_ready v h = let is = k.free_is v h in grind (arith, is.1, find-all taken (before g v) is.2)

  pub ready-least : (v : ℕ) → free v ≡ true → ((u : ℕ) → free u ≡ true → v ≤ u) → find (is_ready g taken) (vertices g) ≡ Some v
  ready-least v h least =
      find-range (is_ready g taken) (length g) 0 v (omega arith) (omega (arith, (k.free_is v h).0)) (free_ready v h) (λ u _ less. not_ready u less (is_ready g taken u) refl)
    where
      not_ready : (u : ℕ) → u < v → (b : Bool) → is_ready g taken u ≡ b → b ≡ false
      not_ready u less false e = refl
      not_ready u less true e = absurd (omega (arith, least u (ready_free u (omega (arith, (k.free_is v h).0)) e)))

  pub ready-none : ((u : ℕ) → free u ≡ false) → find (is_ready g taken) (vertices g) ≡ None
  ready-none empty = find-range-none (is_ready g taken) (length g) 0 (λ u _ less. not_ready u (omega arith) (is_ready g taken u) refl)
    where
      not_ready : (u : ℕ) → u < length g → (b : Bool) → is_ready g taken u ≡ b → b ≡ false
      not_ready u below false e = refl
      not_ready u below true e = sym (ready_free u below e) ∙ empty u
