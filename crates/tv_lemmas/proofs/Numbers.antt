-- Numbers: sums, what is less, and digits.
use Rattle.std.specs.Prelude.{◌≡◌, refl, ℕ, zero, suc, ◌+◌, ◌-◌, ◌*◌, ◌<◌, ◌≤◌, ◌==◌, min, true, false, ◌⊎◌}
use Rattle.std.specs.Str.{all_ascii_digits}
use Rattle.std.specs.Str.Parse.{digits_value}
use Rattle.std.proofs.Common.{arith, sym, ap, ◌∙◌, suc-mul, inl, inr}
use Rattle.std.proofs.lemmas.Bool.{ne_eqb}
use Rattle.std.proofs.lemmas.Str.Parse.{IsNumeralModel, numerals_by_value, tells_all_ascii_digits}

-- ---- sums

pub is-zero_plus : (n : ℕ) → n ≡ 0 + n
is-zero_plus n = omega arith

pub is-plus_zero : (n : ℕ) → n ≡ n + 0
is-plus_zero n = omega arith

pub plus-suc : (m n : ℕ) → m + suc n ≡ suc m + n
plus-suc m n = omega arith

pub suc-plus : (m n : ℕ) → suc m + n ≡ m + suc n
suc-plus m n = omega arith

pub one_less-times : (r l : ℕ) → 0 < r → (r - 1) * l + l ≡ r * l
one_less-times zero l h = absurd (omega arith)
one_less-times (suc r) l h = let e : suc r - 1 ≡ r = omega arith in ap (λ k. k * l + l) e ∙ sym (suc-mul r l)

-- ---- what is less

pub none-below : {A : Type 0} (n : ℕ) → n < 0 → A
none-below n h = absurd (omega arith)

pub none-after : {A : Type 0} (n : ℕ) → suc n ≤ 0 → A
none-after n h = absurd (omega arith)

pub zero-not_suc : (n : ℕ) → 0 ≡ suc n → ⊥
zero-not_suc n e = omega arith

pub not_zero-positive : (n : ℕ) → (n ≡ 0 → ⊥) → 0 < n
not_zero-positive zero h = absurd (h refl)
not_zero-positive (suc n) h = omega arith

pub less-positive : (m n : ℕ) → m < n → 0 < n
less-positive m n h = omega arith

pub suc-less : (m n : ℕ) → m < n → suc m < suc n
suc-less m n h = omega arith

pub less-back : (m n : ℕ) → suc m < suc n → m < n
less-back m n h = omega arith

pub less-or_same : (i n : ℕ) → i < suc n → (i < n) ⊎ (i ≡ n)
less-or_same zero zero h = inr refl
less-or_same zero (suc n) h = inl (omega arith)
less-or_same (suc i) zero h = absurd (omega (arith, h))
less-or_same (suc i) (suc n) h = by (less-or_same i n (omega (arith, h)))
  where
    by : (i < n) ⊎ (i ≡ n) → (suc i < suc n) ⊎ (suc i ≡ suc n)
    by (inl k) = inl (omega (arith, k))
    by (inr k) = inr (ap suc k)

pub less-unequal : (m n : ℕ) → suc m ≤ n → (m == n) ≡ false
less-unequal m n h = ne_eqb m n (unequal m n h)
  where
    unequal : (m n : ℕ) → suc m ≤ n → m ≡ n → ⊥
    unequal m n h e = omega arith

pub min-first : (i n l m : ℕ) → n ≡ min l m → i < n → i < l
min-first i n l m e h = omega arith

pub min-second : (i n l m : ℕ) → n ≡ min l m → i < n → i < m
min-second i n l m e h = omega arith

pub thrice-less : (n : ℕ) → 1 ≤ n → suc (suc (3 * (n - 1))) < 3 * n
thrice-less n h = omega arith

-- ---- digits

pub digits-model : IsNumeralModel (λ ds. all_ascii_digits ds ≡ true) (digits_value 10)
digits-model = numerals_by_value _ tells_all_ascii_digits
