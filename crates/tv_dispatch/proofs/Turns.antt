-- What is left of the list of turns after an attempt.
use Rattle.std.specs.Prelude.{◌≡◌, ℕ, zero, suc, ◌+◌, ◌-◌, ◌≤◌, ◌<◌, ◌≢◌, ◌⊎◌, List, [], ◌∷◌, ◌++◌, map, drop, refl, true, false, ◌&&◌, ◌==◌, Some}
use Rattle.std.specs.List.{range_with_len, slice_get}
use Rattle.std.proofs.Common.{arith, ap, ◌∙◌, inl, inr}
use Rattle.std.proofs.lemmas.Bool.{eq-eqb, cond-true, cond-false}
use Rattle.std.proofs.lemmas.Bool.Decides.{eqb_tells}
use Rattle.tv_dispatch.specs.declared.plan.Kind.{Kind}
use Rattle.tv_dispatch.specs.declared.plan.Kind.TheVariants.{Service, Nested}
use Rattle.tv_dispatch.specs.Plans.{PlanTurn, asks, turns, left_after}

-- attempts n and on, so many of them, at activity k
abbrev pub attempts : ℕ → ℕ → ℕ → List PlanTurn
attempts k n m = map (asks k) (range_with_len n m)

-- what is left after attempt n at activity k of these
abbrev pub rest : ℕ → List Kind → ℕ → ℕ → List PlanTurn
rest retries ks k n = attempts k (n + 1) (retries - n) ++ turns retries (k + 1) (drop (k + 1) ks)

other : (m n : ℕ) → m < n → (m == n) ≡ false
other m n h = by (eqb_tells m n)
  where
    by : ((m == n) ≡ true) × (m ≡ n) ⊎ ((m == n) ≡ false) × (m ≢ n) → (m == n) ≡ false
    by (inl e) = absurd (omega (arith, e.1))
    by (inr e) = e.0

-- attempts at another activity are passed over
past_block : (k n j a m : ℕ) (ts : List PlanTurn) → (j == k) ≡ false → left_after k n (attempts j a m ++ ts) ≡ left_after k n ts
past_block k n j a zero ts e = refl
past_block k n j a (suc m) ts e =
    cond-false (j == k && a == n) (attempts j (a + 1) m ++ ts) (left_after k n (attempts j (a + 1) m ++ ts)) (ap (λ b. b && a == n) e)
    ∙ past_block k n j (a + 1) m ts e

-- of the attempts at this activity those from the next on are left
in_block : (k n a m d : ℕ) (ts : List PlanTurn) → a ≤ n → n + 1 + d ≡ a + m → left_after k n (attempts k a m ++ ts) ≡ attempts k (n + 1) d ++ ts
in_block k n a zero d ts h e = absurd (none n a d h e)
  where
    none : (n a d : ℕ) → a ≤ n → n + 1 + d ≡ a + 0 → ⊥
    none n a d p q = omega arith
in_block k n a (suc m) d ts h e = by (eqb_tells a n) (λ p q. in_block k n (a + 1) m d ts p q)
  where
    here : (k == k && a == n) ≡ (a == n)
    here = ap (λ b. b && a == n) (eq-eqb k k refl)

    later : List PlanTurn
    later = attempts k (a + 1) m ++ ts

    by : ((a == n) ≡ true) × (a ≡ n) ⊎ ((a == n) ≡ false) × (a ≢ n) → (a + 1 ≤ n → n + 1 + d ≡ a + 1 + m → left_after k n later ≡ attempts k (n + 1) d ++ ts) → left_after k n (attempts k a (suc m) ++ ts) ≡ attempts k (n + 1) d ++ ts
    by (inl q) more =
        let same : m ≡ d = omega (arith, q.1) in
        cond-true (k == k && a == n) later (left_after k n later) (here ∙ q.0)
        ∙ ap (λ i. attempts k (i + 1) m ++ ts) q.1
        ∙ ap (λ i. attempts k (n + 1) i ++ ts) same
    by (inr q) more = cond-false (k == k && a == n) later (left_after k n later) (here ∙ q.0) ∙ more (omega (arith, q.1)) (omega arith)

-- what is left after attempt n at a service, the activities numbered from j
left_from : (retries j i n k : ℕ) (ks : List Kind) → slice_get ks i ≡ Some Service → n ≤ retries → k ≡ j + i → left_after k n (turns retries j ks) ≡ attempts k (n + 1) (retries - n) ++ turns retries (k + 1) (drop (suc i) ks)
left_from retries j i n k [] s h e = absurd (cc)
left_from retries j zero n k (Nested ∷ ks) s h e = absurd (cc)
left_from retries j zero n k (Service ∷ ks) s h e =
    let same : j ≡ k = omega arith in
    let next_number : suc j ≡ k + 1 = omega arith in
    ap (λ i. left_after k n (attempts i 0 (suc retries) ++ turns retries (suc j) ks)) same
    ∙ ap (λ i. left_after k n (attempts k 0 (suc retries) ++ turns retries i ks)) next_number
    ∙ in_block k n 0 (suc retries) (retries - n) (turns retries (k + 1) ks) (omega arith) (omega arith)
left_from retries j (suc i) n k (Service ∷ ks) s h e =
    past_block k n j 0 (suc retries) (turns retries (suc j) ks) (other j k (omega arith))
    ∙ left_from retries (suc j) i n k ks s h (omega arith)
left_from retries j (suc i) n k (Nested ∷ ks) s h e = left_from retries (suc j) i n k ks s h (omega arith)

pub left-rest : (retries : ℕ) (ks : List Kind) (k n : ℕ) → slice_get ks k ≡ Some Service → n ≤ retries → left_after k n (turns retries 0 ks) ≡ rest retries ks k n
left-rest retries ks k n s h =
    left_from retries 0 k n k ks s h (omega arith) ∙ ap (λ i. attempts k (n + 1) (retries - n) ++ turns retries (k + 1) (drop i ks)) (suc_is k)
  where
    suc_is : (k : ℕ) → suc k ≡ k + 1
    suc_is k = omega arith

-- a service is tried again as long as there are attempts
pub rest-again : (retries : ℕ) (ks : List Kind) (k n : ℕ) → n < retries → rest retries ks k n ≡ asks k (n + 1) ∷ rest retries ks k (n + 1)
rest-again retries ks k n h =
    ap (λ m. attempts k (n + 1) m ++ turns retries (k + 1) (drop (k + 1) ks)) (one_more retries n h)
  where
    one_more : (r n : ℕ) → n < r → r - n ≡ suc (r - (n + 1))
    one_more r n p = omega arith

-- and then the activities after it come
pub rest-over : (retries : ℕ) (ks : List Kind) (k n : ℕ) → retries ≤ n → rest retries ks k n ≡ turns retries (k + 1) (drop (k + 1) ks)
rest-over retries ks k n h = ap (λ m. attempts k (n + 1) m ++ turns retries (k + 1) (drop (k + 1) ks)) (none retries n h)
  where
    none : (r n : ℕ) → r ≤ n → r - n ≡ 0
    none r n p = omega arith
