-- How many numbers from one on pass a test, and what follows from that.
use Rattle.std.proofs.Common.{◌≡◌, ℕ, ◌+◌, ◌<◌, ◌≤◌, Bool, true, false, not, cond, ◌&&◌, suc, zero, eqb, refl, sym, subst, inl, inr, ◌⊎◌, arith}
use Rattle.std.proofs.lemmas.Bool.{cases_eq, cases_Bool}
use Rattle.std.proofs.lemmas.Bool.Decides.{nat_tests}

-- how many of the m numbers from a on pass
abbrev pub tally : (ℕ → Bool) → ℕ → ℕ → ℕ
tally p a zero = 0
tally p a (suc m) = cond (p a) 1 0 + tally p (a + 1) m

pub tally-le : (p : ℕ → Bool) (m a : ℕ) → tally p a m ≤ m
tally-le p zero a = omega arith
tally-le p (suc m) a = grind (arith, tally-le p m (a + 1))

pub tally-all : (p : ℕ → Bool) → ((u : ℕ) → p u ≡ true) → (m a : ℕ) → tally p a m ≡ m
tally-all p all zero a = refl
tally-all p all (suc m) a = rw (all a) (omega (arith, tally-all p all m (a + 1)))

pub tally-none : (p : ℕ → Bool) (m a v : ℕ) → tally p a m ≡ 0 → a ≤ v → v < a + m → p v ≡ false
tally-none p zero a v e low high = absurd (omega arith)
tally-none p (suc m) a v e low high =
    elim (cases_eq a v) [
      | inl same ↦ rw (← same) (grind arith)
      | inr ne ↦ tally-none p m (a + 1) v (grind arith) (omega arith) (omega arith)
    ]

pub tally-full : (p : ℕ → Bool) (m a v : ℕ) → m ≤ tally p a m → a ≤ v → v < a + m → p v ≡ true
tally-full p zero a v e low high = absurd (omega arith)
tally-full p (suc m) a v e low high =
    elim (cases_eq a v) [
      | inl same ↦ rw (← same) (grind (arith, tally-le p m (a + 1)))
      | inr ne ↦ tally-full p m (a + 1) v (grind arith) (omega arith) (omega arith)
    ]

pub tally-some : (p : ℕ → Bool) (m a : ℕ) → 0 < tally p a m → (v : ℕ) × (a ≤ v) × (v < a + m) × (p v ≡ true)
tally-some p zero a h = absurd (omega arith)
tally-some p (suc m) a h =
    elim (cases_Bool (p a)) [
      | inl e ↦ (a, omega arith, omega arith, e)
      | inr e ↦ let found = tally-some p m (a + 1) (grind arith) in (found.0, omega arith, omega arith, found.3)
    ]

pub tally-same : (p q : ℕ → Bool) (m a : ℕ) → ((u : ℕ) → a ≤ u → p u ≡ q u) → tally p a m ≡ tally q a m
tally-same p q zero a same = refl
tally-same p q (suc m) a same = rw (same a (omega arith), tally-same p q m (a + 1) (λ u low. same u (omega arith))) refl

-- one that passed no longer does
pub tally-less : (p q : ℕ → Bool) (v : ℕ) → ((u : ℕ) → q u ≡ (p u && not (eqb u v))) → p v ≡ true → (m a : ℕ) → a ≤ v → v < a + m → tally q a m + 1 ≡ tally p a m
tally-less p q v less passes zero a low high = absurd (omega arith)
tally-less p q v less passes (suc m) a low high =
    elim (cases_eq a v) [
      | inl same ↦
          let rest : tally q (a + 1) m ≡ tally p (a + 1) m = tally-same q p m (a + 1) (λ u far. grind (arith, nat_tests, less u)) in
          let pa : p a ≡ true = subst (λ (w : ℕ). p w ≡ true) (sym same) passes in
          let qa : q a ≡ false = grind (arith, nat_tests, less a) in
          rw (pa, qa, rest) (omega arith)
      | inr ne ↦
          let same : q a ≡ p a = grind (arith, nat_tests, less a) in
          rw same (omega (arith, tally-less p q v less passes m (a + 1) (omega arith) (omega arith)))
    ]

module _ (p q : ℕ → Bool) (more : (u : ℕ) → p u ≡ true → q u ≡ true) where
  pub tally-mono : (m a : ℕ) → tally p a m ≤ tally q a m
  tally-mono zero a = omega arith
  tally-mono (suc m) a = grind (arith, more a, tally-mono m (a + 1))

  -- more pass, or just the same
  pub tally-grows : (m a : ℕ) → (tally p a m < tally q a m) ⊎ ((v : ℕ) → a ≤ v → v < a + m → q v ≡ true → p v ≡ true)
  tally-grows zero a = inr (λ v low high h. absurd (omega arith))
  tally-grows (suc m) a = grows (p a) (q a) refl refl (tally-grows m (a + 1))
    where
      grows : (b c : Bool) → p a ≡ b → q a ≡ c → (tally p (a + 1) m < tally q (a + 1) m) ⊎ ((v : ℕ) → a + 1 ≤ v → v < (a + 1) + m → q v ≡ true → p v ≡ true) →
          (tally p a (suc m) < tally q a (suc m)) ⊎ ((v : ℕ) → a ≤ v → v < a + suc m → q v ≡ true → p v ≡ true)
      grows b c pa qa (inl less) = inl (grind (arith, more a))
      grows true c pa qa (inr same) = inr (λ v low high h. elim (cases_eq a v) [ inl e ↦ subst (λ (w : ℕ). p w ≡ true) e pa | inr ne ↦ same v (omega arith) (omega arith) h ])
      grows false true pa qa (inr same) = inl (grind (arith, tally-mono m (a + 1)))
      grows false false pa qa (inr same) = inr (λ v low high h. elim (cases_eq a v) [ inl e ↦ (let qv : q v ≡ false = subst (λ (w : ℕ). q w ≡ false) e qa in cc) | inr ne ↦ same v (omega arith) (omega arith) h ])
