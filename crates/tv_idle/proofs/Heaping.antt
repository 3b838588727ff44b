-- What each exchange in a heap keeps.
use Rattle.std.specs.Prelude.{◌≡◌, ℕ, ◌+◌, ◌*◌, ◌<◌, ◌≤◌, List, length, Bool, true, false}
use Rattle.std.specs.Cmp.{IsStrictWeakOrder}
use Rattle.std.proofs.Common.{arith, get_or, ap, ◌∙◌, inl, inr}
use Rattle.std.proofs.lemmas.Bool.{cases_eq}

module _ (lt : ℕ → ℕ → Bool) where
  abbrev pub NotBefore : List ℕ → ℕ → ℕ → Type 0
  NotBefore xs k p = lt (get_or xs k 0) (get_or xs p 0) ≡ false

  -- a heap, but for the one at j, which may stand before those above it
  pub record IsRising (xs : List ℕ) (j : ℕ) : Type 0 where
    pub others : (p k : ℕ) → p * 2 + 1 ≤ k → k ≤ p * 2 + 2 → k < length xs → (k ≡ j → ⊥) → NotBefore xs k p
    pub around : (p k : ℕ) → p * 2 + 1 ≤ j → j ≤ p * 2 + 2 → j * 2 + 1 ≤ k → k ≤ j * 2 + 2 → k < length xs → NotBefore xs k p

  -- a heap, but for the one at j, before which those below may stand
  pub record IsSinking (xs : List ℕ) (j : ℕ) : Type 0 where
    pub others : (p k : ℕ) → p * 2 + 1 ≤ k → k ≤ p * 2 + 2 → k < length xs → (p ≡ j → ⊥) → NotBefore xs k p
    pub around : (p k : ℕ) → p * 2 + 1 ≤ j → j ≤ p * 2 + 2 → j * 2 + 1 ≤ k → k ≤ j * 2 + 2 → k < length xs → NotBefore xs k p

  -- the ones at a and b in each other's place
  pub record Exchanged (xs ys : List ℕ) (a b : ℕ) : Type 0 where
    pub first : get_or ys a 0 ≡ get_or xs b 0
    pub second : get_or ys b 0 ≡ get_or xs a 0
    pub rest : (k : ℕ) → (k ≡ a → ⊥) → (k ≡ b → ⊥) → get_or ys k 0 ≡ get_or xs k 0
    pub many : length ys ≡ length xs

  by : (a b x y : ℕ) → a ≡ x → b ≡ y → lt x y ≡ false → lt a b ≡ false
  by a b x y p q h = ap (λ z. lt z b) p ∙ ap (lt x) q ∙ h

  at : (ys : List ℕ) (i j x : ℕ) → i ≡ j → get_or ys j 0 ≡ x → get_or ys i 0 ≡ x
  at ys i j x e h = ap (λ m. get_or ys m 0) e ∙ h

  module _ (o : IsStrictWeakOrder lt) (xs ys : List ℕ) (q j : ℕ) (from : q * 2 + 1 ≤ j) (to : j ≤ q * 2 + 2) where
    -- up: j stood before q, which is above it
    pub rise-step : j < length xs → Exchanged xs ys q j → lt (get_or xs j 0) (get_or xs q 0) ≡ true → IsRising xs j → IsRising ys q
    rise-step inside e t r = record {
      others = λ p k a b f u.
          let many = e.many in
          elim (cases_eq k j) [
            | inl w ↦
                by _ _ _ _ (at ys k j _ w e.second) (at ys p q _ (omega arith) e.first) (o.one_way _ _ t)
            | inr n ↦
                elim (cases_eq p q) [
                  | inl w ↦
                      by _ _ _ _ (e.rest k u n) (at ys p q _ w e.first)
                      (o.chain (get_or xs k 0) (get_or xs q 0) (get_or xs j 0) (r.others q k (omega arith) (omega arith) (omega arith) n) (o.one_way _ _ t))
                  | inr m ↦
                      elim (cases_eq p j) [
                        | inl w ↦
                            by _ _ _ _ (e.rest k u n) (at ys p j _ w e.second) (r.around q k from to (omega arith) (omega arith) (omega arith))
                        | inr l ↦ by _ _ _ _ (e.rest k u n) (e.rest p m l) (r.others p k a b (omega arith) n)
                      ]
                ]
          ];
      around = λ p k a b c d f.
          let many = e.many in
          let top : NotBefore xs q p = r.others p q a b (omega arith) (λ w. omega (arith, w)) in
          let same = e.rest p (λ w. omega (arith, w)) (λ w. omega (arith, w)) in
          elim (cases_eq k j) [
            | inl w ↦ by _ _ _ _ (at ys k j _ w e.second) same top
            | inr n ↦
                by _ _ _ _ (e.rest k (λ w. omega (arith, w)) n) same
                (o.chain (get_or xs k 0) (get_or xs q 0) (get_or xs p 0) (r.others q k c d (omega arith) n) top)
          ];
    }

    -- down: j is below q and stands before it, and none below q stands before j
    pub sink-step : j < length xs → Exchanged xs ys q j → lt (get_or xs j 0) (get_or xs q 0) ≡ true
        → ((k : ℕ) → q * 2 + 1 ≤ k → k ≤ q * 2 + 2 → k < length xs → NotBefore xs k j) → IsSinking xs q → IsSinking ys j
    sink-step inside e t best r = record {
      others = λ p k a b f u.
          let many = e.many in
          elim (cases_eq p q) [
            | inl w ↦
                elim (cases_eq k j) [
                  | inl v ↦ by _ _ _ _ (at ys k j _ v e.second) (at ys p q _ w e.first) (o.one_way _ _ t)
                  | inr n ↦
                      by _ _ _ _ (e.rest k (λ v. omega (arith, v)) n) (at ys p q _ w e.first) (best k (omega arith) (omega arith) (omega arith))
                ]
            | inr m ↦
                elim (cases_eq k q) [
                  | inl w ↦
                      by _ _ _ _ (at ys k q _ w e.first) (e.rest p m u) (r.around p j (omega arith) (omega arith) from to inside)
                  | inr n ↦
                      by _ _ _ _ (e.rest k n (λ v. omega (arith, v, m))) (e.rest p m u) (r.others p k a b (omega arith) m)
                ]
          ];
      around = λ p k a b c d f.
          let many = e.many in
          by _ _ _ _ (e.rest k (λ w. omega (arith, w)) (λ w. omega (arith, w))) (at ys p q _ (omega arith) e.first) (r.others j k c d (omega arith) (λ w. omega (arith, w)));
    }

  -- ---- the beginning and the end

  module _ (xs : List ℕ) where
    pub sink-ends : (j : ℕ) → ((k : ℕ) → j * 2 + 1 ≤ k → k ≤ j * 2 + 2 → k < length xs → NotBefore xs k j) → IsSinking xs j → (p k : ℕ) → p * 2 + 1 ≤ k → k ≤ p * 2 + 2 → k < length xs → NotBefore xs k p
    sink-ends j h r p k a b f =
        elim (cases_eq p j) [
          | inl e ↦ ap (λ m. lt (get_or xs k 0) (get_or xs m 0)) e ∙ h k (omega (arith, e)) (omega (arith, e)) f
          | inr n ↦ r.others p k a b f n
        ]
