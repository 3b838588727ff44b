-- Numbers as `parse` reads them, and as they are written.
use Rattle.std.specs.Prelude.{◌≡◌, ◌≢◌, ℕ, ◌^◌, ◌<◌, ◌≤◌, ◌==◌, ◌&&◌, ◌||◌, Bool, true, false, nat_lt, nat_le, [], ◌∷◌, length, Some, None, Result, Ok, Err, decimal, if◌then◌else◌, unwrap_or}
use Rattle.std.proofs.Common.{arith, ap, inl, inr, refl, subst, sym, get_or, ◌∙◌, eq-eqb, eqb-true, le-leb, leb-true, lt-ltb, ltb-true, true≢false}
use Rattle.std.specs.Result.{OkIff, result_ok}
use Rattle.std.specs.Str.Parse.{AllDigits, ParsesUnsigned, digits_value}
use Rattle.std.proofs.lemmas.Bool.{cases_lt, and_parts, or_parts, or_cases}
use Rattle.std.proofs.lemmas.Str.Parse.{digit_from_value}
use Rattle.std.proofs.lemmas.Fmt.{decimal_digit, decimal_is_IsNumeral, decimal-digits_value, first_decimal}
use Rattle.std.proofs.lemmas.Str.Parse.{IsNumeralModel, numerals_by_value, parse_plain, tells_digits}
use Rattle.tv_value.specs.Orders.{same_name}
use Rattle.tv_value.specs.Values.{Text}
use Rattle.tv_words.specs.Numbers.{number_between, writes}
use Rattle.tv_words.specs.Stated.{ReadsFrom}

own : IsNumeralModel (AllDigits 10) (digits_value 10)
own = numerals_by_value _ tells_digits

-- ---- texts compared byte by byte

same-itself : (t : Text) → same_name t t ≡ true
same-itself [] = refl
same-itself (b ∷ t) = rw (eq-eqb b b refl) (same-itself t)

same-text : (s t : Text) → same_name s t ≡ true → s ≡ t
same-text [] [] e = refl
same-text [] (b ∷ t) e = absurd (true≢false (sym e))
same-text (b ∷ s) [] e = absurd (true≢false (sym e))
same-text (b ∷ s) (d ∷ t) e = let h = and_parts (b == d) (same_name s t) e in rw (eqb-true b d h.0, same-text s t h.1) refl

-- ---- numbers that are written

-- what `parse` reads, and no plus or needless zero stands first
pub record IsPlain (t : Text) : Type 0 where
  pub digits : AllDigits 10 t
  pub some : 0 < length t
  pub small : digits_value 10 t < 2 ^ 32
  pub alone : get_or t 0 0 ≡ 48 → length t ≡ 1

-- a decimal has one digit, or begins with another digit than 0
decimal-alone : (n : ℕ) → n < 2 ^ 64 → get_or (decimal n) 0 0 ≡ 48 → length (decimal n) ≡ 1
decimal-alone n small zero_first = elim (cases_lt n 10) [
  | inl one ↦ ap length (decimal_digit n one)
  | inr more ↦ let first = first_decimal n (omega arith) small in absurd (omega arith)
]

plain-written : (t : Text) → IsPlain t → writes (digits_value 10 t) t ≡ true
plain-written t p =
    let small : digits_value 10 t < 2 ^ 64 = omega (arith, p.small) in
    ap (same_name t) (decimal-digits_value own t p.digits p.some p.alone small) ∙ same-itself t

written-plain : (t : Text) → digits_value 10 t < 2 ^ 32 → writes (digits_value 10 t) t ≡ true → IsPlain t
written-plain t fits e =
    let n = digits_value 10 t in
    let small : n < 2 ^ 64 = omega (arith, fits) in
    let is : decimal n ≡ t = sym (same-text t (decimal n) e) in
    let numeral = decimal_is_IsNumeral n small in
    record {
      digits = subst (AllDigits 10) is numeral.0.1;
      some = subst (λ (s : Text). 0 < length s) is numeral.0.0;
      small = fits;
      alone = subst (λ (s : Text). get_or s 0 0 ≡ 48 → length s ≡ 1) is (decimal-alone n small);
    }

-- ---- numbers in a range

in-range : (least most n : ℕ) → least ≤ n → n ≤ most → (nat_le least n && nat_le n most) ≡ true
in-range least most n low high = ap (λ b. b && nat_le n most) (le-leb least n low) ∙ le-leb n most high

by-test : (b : Bool) (n : ℕ) → (b ≡ true → ⊥) → None ≡ (if b then Some n else None)
by-test true n never = absurd (never refl)
by-test false n never = refl

-- a plain number in the range is read
pub number-read : (least most : ℕ) (t : Text) → IsPlain t → least ≤ digits_value 10 t → digits_value 10 t ≤ most
    → Some (digits_value 10 t) ≡ number_between least most t
number-read least most t p low high =
    let n = digits_value 10 t in
    sym (ap (λ b. if b && (nat_le least n && nat_le n most) then Some n else None) (plain-written t p)
    ∙ ap (λ b. if b then Some n else None) (in-range least most n low high))

-- nothing else is
pub number-unread : (least most : ℕ) (t : Text) → most < 2 ^ 32 → (IsPlain t → ⊥) → None ≡ number_between least most t
number-unread least most t fits other =
    let n = digits_value 10 t in
    by-test (writes n t && (nat_le least n && nat_le n most)) n (λ e.
    let written = and_parts (writes n t) _ e in
    let within = and_parts (nat_le least n) _ written.1 in
    let small : n < 2 ^ 32 = omega (arith, fits, leb-true n most within.1) in
    other (written-plain t small written.0))

-- ---- `parse`

pub parsed : {E : Type 0} (t : Text) (r : Result ℕ E) (m : ℕ) → ParsesUnsigned 32 10 t r → get_or t 0 0 ≢ 43 → (get_or t 0 0 ≡ 48 → length t ≤ 1)
    → result_ok r ≡ Some m → IsPlain t × (m ≡ digits_value 10 t)
parsed t r m reads no_plus alone e = by r (parse_plain own 32 t r reads no_plus) e
  where
    by : {E : Type 0} (r : Result ℕ E) → OkIff r (AllDigits 10 t × (0 < length t) × (digits_value 10 t < 2 ^ 32)) (digits_value 10 t) → result_ok r ≡ Some m
        → IsPlain t × (m ≡ digits_value 10 t)
    by (Ok y) h e = (record { digits = h.0.0; some = h.0.1; small = h.0.2; alone = λ zero. let one = alone zero in let some = h.0.1 in omega arith }, ap (λ o. unwrap_or o m) (sym e) ∙ h.1)
    by (Err x) h e = absurd cc

pub unparsed : {E : Type 0} (t : Text) (r : Result ℕ E) → ParsesUnsigned 32 10 t r → get_or t 0 0 ≢ 43 → result_ok r ≡ None → IsPlain t → ⊥
unparsed t r reads no_plus e p = by r (parse_plain own 32 t r reads no_plus) e
  where
    by : {E : Type 0} (r : Result ℕ E) → OkIff r (AllDigits 10 t × (0 < length t) × (digits_value 10 t < 2 ^ 32)) (digits_value 10 t) → result_ok r ≡ None → ⊥
    by (Ok y) h e = absurd cc
    by (Err x) h e = h (p.digits, p.some, p.small)

pub marked : (t : Text) → (get_or t 0 0 == 43 || (get_or t 0 0 == 48 && nat_lt 1 (length t))) ≡ true → IsPlain t → ⊥
marked [] e p = omega (arith, p.some)
marked (b ∷ t) e p = elim (or_cases (b == 43) _ e) [
  | inl plus ↦ let first = eqb-true b 43 plus in omega (arith, digit_from_value b p.digits.0)
  | inr padded ↦ let h = and_parts (b == 48) _ padded in let one = p.alone (eqb-true b 48 h.0) in let more = ltb-true 1 (length (b ∷ t)) h.1 in omega arith
]

pub unmarked : (t : Text) → (get_or t 0 0 == 43 || (get_or t 0 0 == 48 && nat_lt 1 (length t))) ≡ false
    → (get_or t 0 0 ≢ 43) × (get_or t 0 0 ≡ 48 → length t ≤ 1)
unmarked t e =
    let h = or_parts (get_or t 0 0 == 43) _ e in (
      λ plus. true≢false (sym (eq-eqb (get_or t 0 0) 43 plus) ∙ h.0),
      λ zero. elim (cases_lt 1 (length t)) [
        | inl more ↦ absurd (true≢false (sym (rw (eq-eqb (get_or t 0 0) 48 zero) (lt-ltb 1 (length t) more)) ∙ h.1))
        | inr one ↦ one
      ],
    )

-- ---- the law

by-then : (b : Bool) (m n : ℕ) → (if b then Some m else None) ≡ Some n → (b ≡ true) × (m ≡ n)
by-then true m n e = (refl, ap (λ o. unwrap_or o n) e)
by-then false m n e = absurd cc

pub reads-from : (least most : ℕ) → most < 2 ^ 32 → ReadsFrom least most (number_between least most)
reads-from least most fits t n = (only, all)
  where
    only : number_between least most t ≡ Some n → (t ≡ decimal n) × (least ≤ n) × (n ≤ most)
    only e =
        let m = digits_value 10 t in
        let test = by-then (writes m t && (nat_le least m && nat_le m most)) m n e in
        let written = and_parts (writes m t) _ test.0 in
        let within = and_parts (nat_le least m) _ written.1 in
        let low = leb-true least m within.0 in
        let high = leb-true m most within.1 in
        (same-text t (decimal m) written.0 ∙ ap decimal test.1, omega (arith, test.1), omega (arith, test.1))

    all : (t ≡ decimal n) × (least ≤ n) × (n ≤ most) → number_between least most t ≡ Some n
    all h =
        let small : n < 2 ^ 64 = omega (arith, h.2, fits) in
        let value : digits_value 10 t ≡ n = ap (digits_value 10) h.0 ∙ (decimal_is_IsNumeral n small).1 in
        let written : writes (digits_value 10 t) t ≡ true = ap (λ m. writes m t) value ∙ ap (same_name t) (sym h.0) ∙ same-itself t in
        let plain = written-plain t (omega (arith, value, h.2)) written in
        sym (number-read least most t plain (omega (arith, value, h.1)) (omega (arith, value, h.2))) ∙ ap Some value
