-- What is read is what is printed.
use Rattle.std.specs.Prelude.{Bool, List, None, Option, Some, [], codes, decimal, false, if◌then◌else◌, length, map, nat_le, refl, suc, true, zero, ℕ, ◌&&◌, ◌++◌, ◌<◌, ◌≡◌, ◌≢◌, ◌^◌, ◌∷◌}
use Rattle.std.specs.Char.{is_ascii_digit}
use Rattle.std.specs.List.{join_with_byte, list_all}
use Rattle.std.specs.Option.{option_and_then, option_map}
use Rattle.std.specs.Str.{all_ascii_digits}
use Rattle.std.proofs.Common.{ap, append_assoc, arith, subst, sym, ◌∙◌}
use Rattle.std.proofs.lemmas.Fmt.{decimal_nonempty, digits_decimal}
use Rattle.std.proofs.lemmas.List.Splits.{join_with_byte-slice_split}
use Rattle.std.proofs.lemmas.Bool.{and_parts}
use Rattle.tv_lemmas.specs.Members.{Each}
use Rattle.tv_lemmas.proofs.Numbers.{digits-model}
use Rattle.tv_value.specs.Nested.{Place}
use Rattle.tv_value.specs.Printed.{element_text}
use Rattle.tv_value.specs.Values.{Name, Text}
use Rattle.tv_flow.specs.Forms.{is_name, is_name_byte}
use Rattle.tv_words.specs.elements.Elements.{at_place, closed, element_of, index_of, indices_of, opened, place_of}
use Rattle.tv_words.specs.elements.Stated.{IsElement, ReadsPrinted}
use Rattle.tv_words.proofs.BracketLemmas.{Lacks, closed-at, closed-is, opened-at, opened-is}
use Rattle.tv_words.proofs.Indices.{index-decimal, index-is}
use Rattle.tv_words.proofs.Places.{cut, parts, whole}

abbrev AreIndices : Place → Type 0
AreIndices q = Each (λ i. i < 2 ^ 32) q

abbrev joined : List Text → Text
joined ts = join_with_byte 44 ts

-- ---- bytes that aren't there

-- a byte that fails the test is none of those that all pass it
lacks : (test : ℕ → Bool) (c : ℕ) (t : Text) → test c ≡ false → list_all test t ≡ true → Lacks c t
lacks test c [] f h i p = absurd (omega arith)
lacks test c (b ∷ bs) f h zero p = differs
  where
    differs : b ≢ c
    differs e =
        let g : test b ≡ true = (and_parts (test b) (list_all test bs) h).0 in
        let k : test c ≡ true = ap test (sym e) ∙ g in
        absurd cc
lacks test c (b ∷ bs) f h (suc i) p = lacks test c bs f (and_parts (test b) (list_all test bs) h).1 i (omega arith)

digits-all : (t : Text) → all_ascii_digits t ≡ true → list_all is_ascii_digit t ≡ true
digits-all [] h = refl
digits-all (b ∷ bs) h =
    let p = and_parts (is_ascii_digit b) (all_ascii_digits bs) h in
    ap (λ v. v && list_all is_ascii_digit bs) p.0 ∙ digits-all bs p.1

no-comma : (n : ℕ) → n < 2 ^ 32 → Lacks 44 (decimal n)
no-comma n h = lacks is_ascii_digit 44 (decimal n) refl (digits-all (decimal n) (digits_decimal digits-model n (omega (arith, h))))

no-bracket : (n : Name) → is_name n ≡ true → Lacks 91 n
no-bracket n h = lacks is_name_byte 91 n refl (and_parts (nat_le 1 (length n) && nat_le (length n) 64) (list_all is_name_byte n) h).1

-- ---- places

printed-parts : (i : ℕ) (q : Place) → i < 2 ^ 32 → AreIndices q → parts (joined (decimal i ∷ map decimal q)) ≡ decimal i ∷ map decimal q
printed-parts i [] h hs = whole (decimal i) (no-comma i h)
printed-parts i (j ∷ q) h hs =
    cut (decimal i) (joined (decimal j ∷ map decimal q)) (no-comma i h)
    ∙ ap (λ ps. decimal i ∷ ps) (printed-parts j q hs.0 hs.1)

printed-indices : (q : Place) → AreIndices q → indices_of (map decimal q) ≡ Some q
printed-indices [] hs = refl
printed-indices (i ∷ q) hs =
    ap (λ o. option_and_then (λ j. option_map (λ r. j ∷ r) (indices_of (map decimal q))) o) (index-decimal i hs.0)
    ∙ ap (option_map (λ r. i ∷ r)) (printed-indices q hs.1)

by-parts : (t : Text) → 0 < length t → place_of t ≡ indices_of (parts t)
by-parts [] h = absurd (omega arith)
by-parts (b ∷ bs) h = refl

some-text : (i : ℕ) (ts : List Text) → i < 2 ^ 32 → 0 < length (joined (decimal i ∷ ts))
some-text i [] h = decimal_nonempty i (omega (arith, h))
some-text i (t ∷ ts) h = longer (decimal i) (decimal_nonempty i (omega (arith, h)))
  where
    longer : (x : Text) → 0 < length x → 0 < length (x ++ 44 ∷ joined (t ∷ ts))
    longer [] p = absurd (omega arith)
    longer (b ∷ x) p = omega arith

place-printed : (q : Place) → AreIndices q → place_of (joined (map decimal q)) ≡ Some q
place-printed [] hs = refl
place-printed (i ∷ q) hs =
    by-parts (joined (decimal i ∷ map decimal q)) (some-text i (map decimal q) hs.0)
    ∙ ap indices_of (printed-parts i q hs.0 hs.1)
    ∙ printed-indices (i ∷ q) hs

abbrev AreThose : List Text → Type 0
AreThose ts = (r : Place) → indices_of ts ≡ Some r → AreIndices r × (ts ≡ map decimal r)

indices-are : (ts : List Text) (q : Place) → indices_of ts ≡ Some q → AreIndices q × (ts ≡ map decimal q)
indices-are [] q e = by q e
  where
    by : (q : Place) → Some [] ≡ Some q → AreIndices q × ([] ≡ map decimal q)
    by [] e = (tt, refl)
    by (i ∷ q) e = absurd cc
indices-are (t ∷ ts) q e = by (index_of t) refl e (λ r f. indices-are ts r f)
  where
    more : (i : ℕ) → index_of t ≡ Some i → (o : Option Place) → indices_of ts ≡ o → option_map (λ r. i ∷ r) o ≡ Some q → AreThose ts → AreIndices q × (t ∷ ts ≡ map decimal q)
    more i f None g h rec = absurd cc
    more i f (Some r) g h rec =
        let k : i ∷ r ≡ q = cc in
        let here = index-is t i f in
        let rest = rec r g in
        let all : AreIndices (i ∷ r) × (t ∷ ts ≡ map decimal (i ∷ r)) = ((here.0, rest.0), ap (λ u. u ∷ ts) here.1 ∙ ap (λ us. decimal i ∷ us) rest.1) in
        subst (λ (p : Place). AreIndices p × (t ∷ ts ≡ map decimal p)) k all

    by : (o : Option ℕ) → index_of t ≡ o → option_and_then (λ i. option_map (λ r. i ∷ r) (indices_of ts)) o ≡ Some q → AreThose ts → AreIndices q × (t ∷ ts ≡ map decimal q)
    by None f g rec = absurd cc
    by (Some i) f g rec = more i f (indices_of ts) refl g rec

place-is : (t : Text) (q : Place) → place_of t ≡ Some q → AreIndices q × (t ≡ joined (map decimal q))
place-is [] q e =
    let k : [] ≡ q = cc in
    subst (λ (p : Place). AreIndices p × ([] ≡ joined (map decimal p))) k (tt, refl)
place-is (b ∷ bs) q e =
    let h = indices-are (parts (b ∷ bs)) q e in
    (h.0, sym (join_with_byte-slice_split 44 (b ∷ bs)) ∙ ap joined h.1)

-- ---- elements

-- a port, brackets, and what stands between them
apart : (n inside : Text) → n ++ 91 ∷ (inside ++ 93 ∷ []) ≡ n ++ codes "[" ++ inside ++ codes "]"
apart n inside = sym (append_assoc (n ++ codes "[") inside (codes "]") ∙ append_assoc n (codes "[") (inside ++ codes "]"))

from-read : (t : Text) (l : Name × Place) → element_of t ≡ Some l → IsElement t l
from-read t l e = by-opened (opened t) refl e
  where
    by-place : (n r inside : Text) → opened t ≡ Some (n, r) → closed r ≡ Some inside → is_name n ≡ true → (o : Option Place) → place_of inside ≡ o → option_map (λ q. (n, q)) o ≡ Some l → IsElement t l
    by-place n r inside p c m None f g = absurd cc
    by-place n r inside p c m (Some q) f g =
        let k : (n, q) ≡ l = cc in
        let h = place-is inside q f in
        let e : t ≡ element_text (n, q) =
        opened-is t (n, r) p
        ∙ ap (λ u. n ++ 91 ∷ u) (closed-is r inside c)
        ∙ apart n inside
        ∙ ap (λ u. n ++ codes "[" ++ u ++ codes "]") h.1
        in
        subst (λ (x : Name × Place). IsElement t x) k (record { port = m; indices = h.0; text = e })

    by-name : (n r inside : Text) → opened t ≡ Some (n, r) → closed r ≡ Some inside → (b : Bool) → is_name n ≡ b → (if b then option_map (λ q. (n, q)) (place_of inside) else None) ≡ Some l → IsElement t l
    by-name n r inside p c false m g = absurd cc
    by-name n r inside p c true m g = by-place n r inside p c m (place_of inside) refl g

    by-closed : (n r : Text) → opened t ≡ Some (n, r) → (o : Option Text) → closed r ≡ o → option_and_then at_place (option_map (λ inside. (n, inside)) o) ≡ Some l → IsElement t l
    by-closed n r p None c g = absurd cc
    by-closed n r p (Some inside) c g = by-name n r inside p c (is_name n) refl g

    by-opened : (o : Option (Text × Text)) → opened t ≡ o → option_and_then at_place (option_and_then (λ (p : Text × Text). option_map (λ inside. (p.0, inside)) (closed p.1)) o) ≡ Some l → IsElement t l
    by-opened None p g = absurd cc
    by-opened (Some (n, r)) p g = by-closed n r p (closed r) refl g

to-read : (t : Text) (l : Name × Place) → IsElement t l → element_of t ≡ Some l
to-read t (n, q) h =
    let inside = joined (map decimal q) in
    ap element_of (h.text ∙ sym (apart n inside))
    ∙ ap (λ o. option_and_then at_place (option_and_then (λ (p : Text × Text). option_map (λ u. (p.0, u)) (closed p.1)) o)) (opened-at n (inside ++ 93 ∷ []) (no-bracket n h.port))
    ∙ ap (λ o. option_and_then at_place (option_map (λ u. (n, u)) o)) (closed-at inside)
    ∙ ap (λ b. if b then option_map (λ p. (n, p)) (place_of inside) else None) h.port
    ∙ ap (option_map (λ p. (n, p))) (place-printed q h.indices)

pub reads-printed : ReadsPrinted
reads-printed t l = (from-read t l, to-read t l)
