-- What comes before what: by more edges, by one edge more at either end, and by fewer edges than there are vertices.
use Rattle.std.proofs.Common.{◌≡◌, ℕ, ◌<◌, ◌≤◌, Bool, true, ◌||◌, suc, zero, eqb, ltb, List, [], ◌∷◌, length, sym, subst, inl, inr, ◌⊎◌, arith}
use Rattle.std.proofs.lemmas.Bool.{eqb-true, cases_eq, or_cases, ltb-true}
use Rattle.std.proofs.lemmas.Bool.Decides.{nat_tests}
use Rattle.std.specs.List.{list_any}
use Rattle.tv_naming.specs.graphs.Graphs.{Graph, is_graph, before, is_one_of, comes_before}
use Rattle.tv_naming.proofs.Members.{any-member, all-member}
use Rattle.tv_naming.proofs.Rows.{row-within}
use Rattle.tv_naming.proofs.Counting.{tally, tally-full, tally-grows}

-- a member that passes
pub any-find : (p : ℕ → Bool) (xs : List ℕ) → list_any p xs ≡ true → (x : ℕ) × (is_one_of xs x ≡ true) × (p x ≡ true)
any-find p [] h = cc
any-find p (x ∷ xs) h =
    elim (or_cases (p x) (list_any p xs) h) [
      | inl here ↦ (x, grind (arith, nat_tests), here)
      | inr there ↦ let found = any-find p xs there in (found.0, grind (arith, nat_tests, found.1), found.2)
    ]

module _ (g : Graph) where
  -- the last step: from u, directly before v, which is w or has w before it
  pub walk-last : (k w v : ℕ) → comes_before g (suc k) w v ≡ true → (u : ℕ) × (is_one_of (before g v) u ≡ true) × ((w ≡ u) ⊎ (comes_before g k w u ≡ true))
  walk-last k w v h =
      let found = any-find (λ u. eqb w u || comes_before g k w u) (before g v) h in
      (found.0, found.1, elim (or_cases (eqb w found.0) (comes_before g k w found.0) found.2) [ inl e ↦ inl (eqb-true w found.0 e) | inr r ↦ inr r ])

  pub walk-edge : (k w v : ℕ) → is_one_of (before g v) w ≡ true → comes_before g (suc k) w v ≡ true
  walk-edge k w v h = any-member (λ u. eqb w u || comes_before g k w u) (before g v) w h (grind (arith, nat_tests))

  pub walk-on : (k w u v : ℕ) → comes_before g k w u ≡ true → is_one_of (before g v) u ≡ true → comes_before g (suc k) w v ≡ true
  walk-on k w u v h e = any-member (λ x. eqb w x || comes_before g k w x) (before g v) u e (grind arith)

  pub walk-more : (k w v : ℕ) → comes_before g k w v ≡ true → comes_before g (suc k) w v ≡ true
  walk-more zero w v h = cc
  walk-more (suc k) w v h =
      let last = walk-last k w v h in
      elim last.2 [
        | inl e ↦ walk-edge (suc k) w v (subst (λ (x : ℕ). is_one_of (before g v) x ≡ true) (sym e) last.1)
        | inr r ↦ walk-on (suc k) w last.0 v (walk-more k w last.0 r) last.1
      ]

  pub walk-at_most : (m k w v : ℕ) → k ≤ m → comes_before g k w v ≡ true → comes_before g m w v ≡ true
  walk-at_most zero k w v le h = let e : k ≡ 0 = omega arith in subst (λ (x : ℕ). comes_before g x w v ≡ true) e h
  walk-at_most (suc m) k w v le h =
      elim (cases_eq k (suc m)) [
        | inl e ↦ subst (λ (x : ℕ). comes_before g x w v ≡ true) e h
        | inr ne ↦ walk-more m w v (walk-at_most m k w v (omega arith) h)
      ]

  -- one edge more at the far end
  pub walk-far : (k x w v : ℕ) → is_one_of (before g w) x ≡ true → comes_before g k w v ≡ true → comes_before g (suc k) x v ≡ true
  walk-far zero x w v e h = cc
  walk-far (suc k) x w v e h =
      let last = walk-last k w v h in
      elim last.2 [
        | inl same ↦ walk-on (suc k) x last.0 v (walk-edge k x last.0 (subst (λ (y : ℕ). is_one_of (before g y) x ≡ true) same e)) last.1
        | inr r ↦ walk-on (suc k) x last.0 v (walk-far k x w last.0 e r) last.1
      ]

  -- what holds of each vertex before one at which it holds, holds of all that comes before
  pub walk-closed : (p : ℕ → Bool) → ((v u : ℕ) → p v ≡ true → is_one_of (before g v) u ≡ true → p u ≡ true) →
      (k w v : ℕ) → ((u : ℕ) → is_one_of (before g v) u ≡ true → p u ≡ true) → comes_before g k w v ≡ true → p w ≡ true
  walk-closed p closed zero w v first h = cc
  walk-closed p closed (suc k) w v first h =
      let last = walk-last k w v h in
      elim last.2 [
        | inl e ↦ subst (λ (x : ℕ). p x ≡ true) (sym e) (first last.0 last.1)
        | inr r ↦ walk-closed p closed k w last.0 (λ u e. closed last.0 u (first last.0 last.1) e) r
      ]

  module _ (ok : is_graph g ≡ true) where
    pub before-below : (v u : ℕ) → is_one_of (before g v) u ≡ true → u < length g
    before-below v u h = ltb-true u (length g) (all-member (λ x. ltb x (length g)) (before g v) u (row-within g v ok) h)

    stable-more : (w k : ℕ) → ((v : ℕ) → v < length g → comes_before g (suc k) w v ≡ true → comes_before g k w v ≡ true) →
        (v : ℕ) → v < length g → comes_before g (suc (suc k)) w v ≡ true → comes_before g (suc k) w v ≡ true
    stable-more w k stable v below h =
        let last = walk-last (suc k) w v h in
        elim last.2 [
          | inl e ↦ walk-edge k w v (subst (λ (x : ℕ). is_one_of (before g v) x ≡ true) (sym e) last.1)
          | inr r ↦ walk-on k w last.0 v (stable last.0 (before-below v last.0 last.1) r) last.1
        ]

    counted : (w k : ℕ) → (k ≤ tally (comes_before g k w) 0 (length g)) ⊎ ((v : ℕ) → v < length g → comes_before g (suc k) w v ≡ true → comes_before g k w v ≡ true)
    counted w zero = inl (omega arith)
    counted w (suc k) =
        elim (counted w k) [
          | inr stable ↦ inr (stable-more w k stable)
          | inl many ↦
              elim (tally-grows (comes_before g k w) (comes_before g (suc k) w) (walk-more k w) (length g) 0) [
                | inl less ↦ inl (omega arith)
                | inr same ↦ inr (stable-more w k (λ v below h. same v (omega arith) (omega arith) h))
              ]
        ]

    pub walk-short : (w v : ℕ) → v < length g → comes_before g (suc (length g)) w v ≡ true → comes_before g (length g) w v ≡ true
    walk-short w v below h =
        elim (counted w (length g)) [
          | inl all ↦ tally-full (comes_before g (length g) w) (length g) 0 v all (omega arith) (omega arith)
          | inr stable ↦ stable v below h
        ]

    -- whatever comes before by some edges does so by at most as many as there are vertices
    pub walk-fits : (k w v : ℕ) → v < length g → comes_before g k w v ≡ true → comes_before g (length g) w v ≡ true
    walk-fits k w v below h =
        walk-closed (λ x. comes_before g (length g) x v) (λ y x far e. walk-short x v below (walk-far (length g) x y v e far)) k w v
        (λ x e. walk-short x v below (walk-edge (length g) x v e)) h
