-- Indices as `parse` reads them, and as they are printed.
use Rattle.std.specs.Prelude.{Bool, None, Ok, Err, Result, Some, [], false, if◌then◌else◌, length, nat_lt, not, refl, suc, true, zero, ℕ, ◌&&◌, ◌<◌, ◌==◌, ◌^◌, ◌≡◌, ◌≢◌, ◌⊎◌, ◌∷◌, decimal}
use Rattle.std.specs.Char.{is_ascii_digit}
use Rattle.std.specs.Result.{OkIff, result_ok}
use Rattle.std.specs.Str.{all_ascii_digits}
use Rattle.std.specs.Str.Parse.{ParsesUnsigned, digits_value}
use Rattle.std.proofs.Common.{ap, arith, get_or, inl, inr, sym, ◌∙◌}
use Rattle.std.proofs.lemmas.Bool.{lt-ltb, ltb-true, and_parts, and_from}
use Rattle.std.proofs.lemmas.Bool.Decides.{eqb_tells}
use Rattle.std.proofs.lemmas.Fmt.{decimal-digits_value, decimal_digit, decimal_nonempty, digits_decimal, digits_value-decimal, first_decimal}
use Rattle.std.proofs.lemmas.Str.Parse.{parse_plain}
use Rattle.tv_lemmas.proofs.Numbers.{digits-model}
use Rattle.tv_value.specs.Values.{Text}
use Rattle.tv_words.specs.elements.Elements.{index_of, is_plain}

-- a zero before something
abbrev pub is_padded : Text → Bool
is_padded t = nat_lt 1 (length t) && get_or t 0 0 == 48

-- where two bytes are there, that is whether the first is a zero
padded : (d e : ℕ) (ds : Text) (b : Bool) → is_padded (d ∷ e ∷ ds) ≡ b → (d == 48) ≡ b
padded d e ds b h = ap (λ c. c && d == 48) (sym (lt-ltb 1 (length (d ∷ e ∷ ds)) (omega arith))) ∙ h

-- digits with no zero before something
plain-from : (t : Text) → all_ascii_digits t ≡ true → 0 < length t → is_padded t ≡ false → is_plain t ≡ true
plain-from [] p l n = absurd (omega arith)
plain-from (d ∷ []) p l n = (and_parts (is_ascii_digit d) true p).0
plain-from (d ∷ e ∷ ds) p l n = and_from (not (d == 48)) (all_ascii_digits (d ∷ e ∷ ds)) (ap not (padded d e ds false n)) p

plain-to : (t : Text) → is_plain t ≡ true → (all_ascii_digits t ≡ true) × (0 < length t)
plain-to [] h = absurd cc
plain-to (d ∷ []) h = (and_from (is_ascii_digit d) true h refl, omega arith)
plain-to (d ∷ e ∷ ds) h = ((and_parts (not (d == 48)) (all_ascii_digits (d ∷ e ∷ ds)) h).1, omega arith)

-- an answer that is there exactly where a test holds
as_test : {E : Type 0} (r : Result ℕ E) (b : Bool) (P : Type 0) (n : ℕ) → OkIff r P n → (b ≡ true → P) → (P → b ≡ true) → result_ok r ≡ (if b then Some n else None)
as_test (Ok y) b P n h to from = ap Some h.1 ∙ sym (ap (λ c. if c then Some n else None) (from h.0))
as_test (Err e) true P n h to from = absurd (h (to refl))
as_test (Err e) false P n h to from = refl

pub index-parsed : {E : Type 0} (t : Text) (r : Result ℕ E) → ParsesUnsigned 32 10 t r → get_or t 0 0 ≢ 43 → is_padded t ≡ false → result_ok r ≡ index_of t
index-parsed t r h plus pad =
    as_test r (is_plain t && nat_lt (digits_value 10 t) (2 ^ 32)) _ (digits_value 10 t) (parse_plain digits-model 32 t r h plus)
    (λ b. let p = and_parts (is_plain t) (nat_lt (digits_value 10 t) (2 ^ 32)) b in let q = plain-to t p.0 in (q.0, q.1, ltb-true _ _ p.1))
    (λ p. and_from (is_plain t) (nat_lt (digits_value 10 t) (2 ^ 32)) (plain-from t p.0 p.1 pad) (lt-ltb _ _ p.2))

-- ---- as printed

-- what `decimal` writes of a number that it writes with two digits or more begins with no zero
front : (n d e : ℕ) (ds : Text) → n < 2 ^ 64 → decimal n ≡ d ∷ e ∷ ds → d ≢ 48
front zero d e ds h f z =
    let k : 48 ∷ [] ≡ d ∷ e ∷ ds = sym (decimal_digit 0 (omega arith)) ∙ f in
    cc
front (suc n) d e ds h f z = omega (arith, first_decimal (suc n) (omega arith) h, ap (λ t. get_or t 0 0) f, z)

no-zero : (d : ℕ) → d ≢ 48 → not (d == 48) ≡ true
no-zero d h = by (eqb_tells d 48)
  where
    by : ((d == 48) ≡ true) × (d ≡ 48) ⊎ ((d == 48) ≡ false) × (d ≢ 48) → not (d == 48) ≡ true
    by (inl q) = absurd (h q.1)
    by (inr q) = ap not q.0

plain-decimal : (n : ℕ) → n < 2 ^ 64 → is_plain (decimal n) ≡ true
plain-decimal n h = by (decimal n) refl
  where
    by : (t : Text) → decimal n ≡ t → is_plain t ≡ true
    by [] f = absurd (omega (arith, decimal_nonempty n h, ap length f))
    by (d ∷ []) f = (and_parts (is_ascii_digit d) true (sym (ap all_ascii_digits f) ∙ digits_decimal digits-model n h)).0
    by (d ∷ e ∷ ds) f = and_from (not (d == 48)) (all_ascii_digits (d ∷ e ∷ ds)) (no-zero d (front n d e ds h f)) (sym (ap all_ascii_digits f) ∙ digits_decimal digits-model n h)

pub index-decimal : (n : ℕ) → n < 2 ^ 32 → index_of (decimal n) ≡ Some n
index-decimal n h =
    ap (λ b. if b && nat_lt (digits_value 10 (decimal n)) (2 ^ 32) then Some (digits_value 10 (decimal n)) else None) (plain-decimal n small)
    ∙ ap (λ v. if nat_lt v (2 ^ 32) then Some v else None) (digits_value-decimal digits-model n small)
    ∙ ap (λ b. if b then Some n else None) (lt-ltb n (2 ^ 32) h)
  where
    small : n < 2 ^ 64
    small = omega arith

-- at most one digit where the first is a zero
lone : (t : Text) → is_plain t ≡ true → get_or t 0 0 ≡ 48 → length t ≡ 1
lone [] h f = absurd cc
lone (d ∷ []) h f = refl
lone (d ∷ e ∷ ds) h f =
    let p : not (d == 48) ≡ true = (and_parts (not (d == 48)) (all_ascii_digits (d ∷ e ∷ ds)) h).0 in
    let k : not (48 == 48) ≡ true = sym (ap (λ c. not (c == 48)) f) ∙ p in
    absurd cc

pub index-is : (t : Text) (n : ℕ) → index_of t ≡ Some n → (n < 2 ^ 32) × (t ≡ decimal n)
index-is t n e = by (is_plain t && nat_lt (digits_value 10 t) (2 ^ 32)) refl e
  where
    by : (b : Bool) → (is_plain t && nat_lt (digits_value 10 t) (2 ^ 32)) ≡ b → (if b then Some (digits_value 10 t) else None) ≡ Some n → (n < 2 ^ 32) × (t ≡ decimal n)
    by false f g = absurd cc
    by true f g =
        let p = and_parts (is_plain t) (nat_lt (digits_value 10 t) (2 ^ 32)) f in
        let q = plain-to t p.0 in
        let v : digits_value 10 t ≡ n = cc in
        let l : digits_value 10 t < 2 ^ 32 = ltb-true _ _ p.1 in
        (omega (arith, v, l), sym (decimal-digits_value digits-model t q.0 q.1 (lone t p.0) (omega (arith, l))) ∙ ap decimal v)
