-- Joining and cutting, part by part.
use Rattle.std.specs.Prelude.{◌≡◌, ◌≢◌, ℕ, zero, suc, ◌+◌, pred, ◌<◌, ◌≤◌, List, [], ◌∷◌, ◌++◌, take, drop, length, refl, Bool, true, false, ◌&&◌, ◌==◌, ◌⊎◌, if◌then◌else◌}
use Rattle.std.specs.List.{onto_first}
use Rattle.std.specs.Str.Pattern.{LacksTextAt, HasTextAt}
use Rattle.std.proofs.Common.{arith, ap, sym, ◌∙◌, append_assoc, length-append, inl, inr}
use Rattle.std.proofs.lemmas.Bool.{eq-eqb}
use Rattle.std.proofs.lemmas.Bool.Decides.{eqb_tells}
use Rattle.tv_value.specs.Values.{Text}
use Rattle.tv_value.specs.Orders.{is_prefix}
use Rattle.tv_local.specs.Texts.{joined, parts, parts_after}

-- one text more
pub joined-push : (s t : Text) (us : List Text) (u : Text) → joined s (t ∷ us ++ u ∷ []) ≡ joined s (t ∷ us) ++ (s ++ u)
joined-push s t [] u = refl
joined-push s t (v ∷ us) u =
    ap (λ r. t ++ (s ++ r)) (joined-push s v us u)
    ∙ ap (λ r. t ++ r) (sym (append_assoc s (joined s (v ∷ us)) (s ++ u)))
    ∙ sym (append_assoc t (s ++ joined s (v ∷ us)) (s ++ u))

prefix_is : (s t : Text) → is_prefix s (s ++ t) ≡ true
prefix_is [] t = refl
prefix_is (c ∷ s) t = ap (λ b. b && is_prefix s (s ++ t)) (eq-eqb c c refl) ∙ prefix_is s t

-- a text that begins with another is that one and a rest
rest_of : (s t : Text) → is_prefix s t ≡ true → (r : Text) × (t ≡ s ++ r)
rest_of [] t e = (t, refl)
rest_of (c ∷ s) [] e = absurd cc
rest_of (c ∷ s) (d ∷ t) e = by (eqb_tells c d) (λ p. rest_of s t p)
  where
    by : ((c == d) ≡ true) × (c ≡ d) ⊎ ((c == d) ≡ false) × (c ≢ d) → (is_prefix s t ≡ true → (r : Text) × (t ≡ s ++ r)) → (r : Text) × (d ∷ t ≡ c ∷ s ++ r)
    by (inl q) more =
        let h = more (sym (ap (λ b. b && is_prefix s t) q.0) ∙ e) in
        (h.0, ap (λ x. x ∷ t) (sym q.1) ∙ ap (λ u. c ∷ u) h.1)
    by (inr q) more = absurd (no (sym (ap (λ b. b && is_prefix s t) q.0) ∙ e))
      where
        no : false ≡ true → ⊥
        no p = cc

not_prefix : (s t : Text) → LacksTextAt s t 0 → is_prefix s t ≡ false
not_prefix s t h = by (is_prefix s t) refl
  where
    by : (b : Bool) → is_prefix s t ≡ b → is_prefix s t ≡ false
    by true e = let r = rest_of s t e in absurd (h r.0 r.1)
    by false e = e

-- inside an occurrence
inside : (n : ℕ) (s t : Text) → n ≤ length t → parts_after n s t ≡ parts_after 0 s (drop n t)
inside zero s t h = refl
inside (suc n) s [] h = absurd (none n h)
  where
    none : (n : ℕ) → suc n ≤ 0 → ⊥
    none n p = omega arith
inside (suc n) s (c ∷ t) h = inside n s t (omega arith)

-- where a text has no occurrence it is the one part
pub parts-none : (s t : Text) → 0 < length s → ((i : ℕ) → i ≤ length t → LacksTextAt s t i) → parts s t ≡ t ∷ []
parts-none s [] p h = refl
parts-none s (c ∷ t) p h =
    ap (λ b. if b then [] ∷ parts_after (pred (length s)) s t else onto_first c (parts_after 0 s t)) (not_prefix s (c ∷ t) (h 0 (omega arith)))
    ∙ ap (onto_first c) (parts-none s t p (λ i k. h (suc i) (omega arith)))

-- the first part ends where the first occurrence begins, and the others are those of what comes after it
pub parts-cut : (s t : Text) (i : ℕ) → 0 < length s → ((k : ℕ) → k < i → LacksTextAt s t k) → drop i t ≡ s ++ drop (i + length s) t → parts s t ≡ take i t ∷ parts s (drop (i + length s) t)
parts-cut [] t i p h e = absurd (omega arith)
parts-cut (x ∷ s) [] zero p h e = absurd cc
parts-cut (x ∷ s) [] (suc i) p h e = absurd cc
parts-cut (x ∷ s) (c ∷ t) zero p h e =
    ap (λ b. if b then [] ∷ parts_after (length s) (x ∷ s) t else onto_first c (parts_after 0 (x ∷ s) t)) (ap (is_prefix (x ∷ s)) whole ∙ prefix_is (x ∷ s) (drop (0 + suc (length s)) (c ∷ t)))
    ∙ ap (λ ps. [] ∷ ps) (inside (length s) (x ∷ s) t (omega (arith, long)) ∙ ap (λ n. parts_after 0 (x ∷ s) (drop n (c ∷ t))) (same (length s)))
  where
    same : (n : ℕ) → suc n ≡ 0 + suc n
    same n = omega arith

    whole : c ∷ t ≡ (x ∷ s) ++ drop (0 + suc (length s)) (c ∷ t)
    whole = e

    long : length s ≤ length t
    long = long_enough (length s) (length t) (length (drop (0 + suc (length s)) (c ∷ t))) (ap length whole ∙ length-append (x ∷ s) (drop (0 + suc (length s)) (c ∷ t)))
      where
        long_enough : (m n k : ℕ) → suc n ≡ suc m + k → m ≤ n
        long_enough m n k q = omega arith
parts-cut (x ∷ s) (c ∷ t) (suc i) p h e =
    ap (λ b. if b then [] ∷ parts_after (length s) (x ∷ s) t else onto_first c (parts_after 0 (x ∷ s) t)) (not_prefix (x ∷ s) (c ∷ t) (h 0 (omega arith)))
    ∙ ap (onto_first c) (parts-cut (x ∷ s) t i p (λ k q. h (suc k) (omega arith)) (e ∙ ap (λ n. (x ∷ s) ++ drop n (c ∷ t)) (same i (suc (length s)))))
    ∙ ap (λ n. (c ∷ take i t) ∷ parts (x ∷ s) (drop n (c ∷ t))) (sym (same i (suc (length s))))
  where
    same : (i n : ℕ) → suc i + n ≡ suc (i + n)
    same i n = omega arith

-- the same at the place that a search found
pub parts-found : (s t front back : Text) (i j : ℕ) → 0 < length s → ((k : ℕ) → k < i → LacksTextAt s t k) → HasTextAt s t i j → front ≡ take i t → back ≡ drop j t → parts s t ≡ front ∷ parts s back
parts-found s t front back i j p h at e f =
    parts-cut s t i p h (at.split ∙ ap (λ n. s ++ drop n t) at.ends)
    ∙ ap (λ n. take i t ∷ parts s (drop n t)) (sym at.ends)
    ∙ ap (λ u. u ∷ parts s (drop j t)) (sym e)
    ∙ ap (λ u. front ∷ parts s u) (sym f)
