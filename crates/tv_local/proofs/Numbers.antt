-- Number texts as `parse` reads them.
use Rattle.std.specs.Prelude.{◌≡◌, ◌≢◌, ◌⊎◌, ℕ, ℤ, pos, neg_ℤ, ◌<◌, List, [], ◌∷◌, Bool, true, false, ◌&&◌, not, ◌==◌, nat_lt, nat_le, if◌then◌else◌, Some, None, Result, Ok, Err, drop, length, refl}
use Rattle.std.specs.Result.{OkIff, result_ok}
use Rattle.std.specs.Str.{all_ascii_digits}
use Rattle.std.specs.Str.Parse.{digits_value, ParsesSigned}
use Rattle.std.proofs.Common.{arith, ap, sym, ◌∙◌, inl, inr, w64, get_or}
use Rattle.std.proofs.lemmas.Bool.{leb-true, le-leb, ltb-true, lt-ltb, and_parts, and_from}
use Rattle.std.proofs.lemmas.Bool.Decides.{eqb_tells}
use Rattle.std.proofs.lemmas.Str.Parse.{parse_signed_minus, parse_signed_plain}
use Rattle.tv_lemmas.proofs.Numbers.{digits-model}
use Rattle.tv_local.specs.Numbers.{are_digits, number_limit, read_plain, read_negative, read_number}

some_digits : (n : ℕ) → not (n == 0) ≡ true → 0 < n
some_digits n e = by (eqb_tells n 0)
  where
    by : ((n == 0) ≡ true) × (n ≡ 0) ⊎ ((n == 0) ≡ false) × (n ≢ 0) → 0 < n
    by (inl q) = absurd (no (ap not q.0))
      where
        no : not (n == 0) ≡ false → ⊥
        no p = cc
    by (inr q) = omega (arith, q.1)

digits_some : (n : ℕ) → 0 < n → not (n == 0) ≡ true
digits_some n h = by (eqb_tells n 0)
  where
    by : ((n == 0) ≡ true) × (n ≡ 0) ⊎ ((n == 0) ≡ false) × (n ≢ 0) → not (n == 0) ≡ true
    by (inl q) = absurd (omega (arith, q.1))
    by (inr q) = ap not q.0

to_digits : (ds : List ℕ) → are_digits ds ≡ true → (all_ascii_digits ds ≡ true) × (0 < length ds)
to_digits ds e = let h = and_parts (all_ascii_digits ds) (not (length ds == 0)) e in (h.0, some_digits (length ds) h.1)

from_digits : (ds : List ℕ) → all_ascii_digits ds ≡ true → 0 < length ds → are_digits ds ≡ true
from_digits ds p h = and_from (all_ascii_digits ds) (not (length ds == 0)) p (digits_some (length ds) h)

-- an answer that is there exactly where a test holds
as_test : {E : Type 0} (r : Result ℤ E) (b : Bool) (P : Type 0) (z : ℤ) → OkIff r P z → (b ≡ true → P) → (P → b ≡ true) → result_ok r ≡ (if b then Some z else None)
as_test (Ok y) b P z h to from = ap Some h.1 ∙ sym (ap (λ c. if c then Some z else None) (from h.0))
as_test (Err e) true P z h to from = absurd (h (to refl))
as_test (Err e) false P z h to from = refl

negative : {E : Type 0} (t : List ℕ) (r : Result ℤ E) → ParsesSigned w64 10 t r → get_or t 0 0 ≡ 45 → result_ok r ≡ read_negative (drop 1 t)
negative t r h e =
    let ds = drop 1 t in
    as_test r (are_digits ds && nat_le (digits_value 10 ds) number_limit) _ (neg_ℤ (pos (digits_value 10 ds))) (parse_signed_minus digits-model w64 t r h e)
    (λ b. let p = and_parts (are_digits ds) (nat_le (digits_value 10 ds) number_limit) b in let q = to_digits ds p.0 in (q.0, q.1, leb-true _ _ p.1))
    (λ p. and_from (are_digits ds) (nat_le (digits_value 10 ds) number_limit) (from_digits ds p.0 p.1) (le-leb _ _ p.2))

plain : {E : Type 0} (t : List ℕ) (r : Result ℤ E) → ParsesSigned w64 10 t r → get_or t 0 0 ≢ 43 → get_or t 0 0 ≢ 45 → result_ok r ≡ read_plain t
plain t r h e f =
    as_test r (are_digits t && nat_lt (digits_value 10 t) number_limit) _ (pos (digits_value 10 t)) (parse_signed_plain digits-model w64 t r h e f)
    (λ b. let p = and_parts (are_digits t) (nat_lt (digits_value 10 t) number_limit) b in let q = to_digits t p.0 in (q.0, q.1, ltb-true _ _ p.1))
    (λ p. and_from (are_digits t) (nat_lt (digits_value 10 t) number_limit) (from_digits t p.0 p.1) (lt-ltb _ _ p.2))

-- a text that begins with no plus is read as `parse` does
pub read-parsed : {E : Type 0} (t : List ℕ) (r : Result ℤ E) → ParsesSigned w64 10 t r → get_or t 0 0 ≢ 43 → result_ok r ≡ read_number t
read-parsed t r h e = by (eqb_tells (get_or t 0 0) 45)
  where
    by : ((get_or t 0 0 == 45) ≡ true) × (get_or t 0 0 ≡ 45) ⊎ ((get_or t 0 0 == 45) ≡ false) × (get_or t 0 0 ≢ 45) → result_ok r ≡ read_number t
    by (inl q) = negative t r h q.1 ∙ sym (ap (λ b. if b then read_negative (drop 1 t) else read_plain t) q.0)
    by (inr q) = plain t r h e q.1 ∙ sym (ap (λ b. if b then read_negative (drop 1 t) else read_plain t) q.0)

-- one that does is no number
pub read-plus : (t : List ℕ) → get_or t 0 0 ≡ 43 → read_number t ≡ None
read-plus [] e = absurd cc
read-plus (c ∷ t) e = ap (λ d. read_number (d ∷ t)) e
