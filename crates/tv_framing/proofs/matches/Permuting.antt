-- Of lists that are permutations of one another, what both have in front falls away.
use Rattle.std.specs.List.{sum_by}
use Rattle.std.specs.Prelude.{◌≡◌, refl, ℕ, ◌+◌, ◌≤◌, Bool, true, false, cond, List, [], ◌∷◌, ◌++◌, IsPermutation}
use Rattle.std.proofs.Common.{arith, sym, ap, subst, ◌∙◌, inl, inr}
use Rattle.std.proofs.lemmas.List.Sorted.{IsPermutation-refl, IsPermutation-sym, IsPermutation-trans, IsPermutation-cons, IsPermutation-middle, sum_by-IsPermutation}
use Rattle.std.proofs.lemmas.List.Sums.{sum_by-cons, sum_by-append}
use Rattle.tv_lemmas.specs.Members.{In}

pub taken-out : {A : Type 0} (x : A) (ys : List A) → In x ys → (zs : List A) × IsPermutation ys (x ∷ zs)
taken-out x [] h = absurd h
taken-out x (y ∷ ys) (inl p) = (ys, subst (λ z. IsPermutation (y ∷ ys) (z ∷ ys)) (sym p) (IsPermutation-refl (y ∷ ys)))
taken-out x (y ∷ ys) (inr h) =
    let r = taken-out x ys h in
    (y ∷ r.0, IsPermutation-trans _ _ _ (IsPermutation-cons y ys (x ∷ r.0) r.1) (IsPermutation-middle (y ∷ []) x r.0))

-- where it can be tested whether two things are the same
module _ {A : Type 0} (same : A → A → Bool) (equal : (x y : A) → same x y ≡ true → x ≡ y) (itself : (x : A) → same x x ≡ true) where
  abbrev one : A → A → ℕ
  one x y = cond (same x y) 1 0

  abbrev times : A → List A → ℕ
  times x ys = sum_by (one x) ys

  one-itself : (x : A) → one x x ≡ 1
  one-itself x = ap (λ b. cond b 1 0) (itself x)

  there : (x : A) (ys : List A) → 1 ≤ times x ys → In x ys
  there x [] h = absurd (omega arith)
  there x (y ∷ ys) h = by (same x y) refl (subst (λ n. 1 ≤ n) (sum_by-cons (one x) y ys) h) (there x ys)
    where
      by : (b : Bool) → same x y ≡ b → 1 ≤ cond (same x y) 1 0 + times x ys → (1 ≤ times x ys → In x ys) → In x (y ∷ ys)
      by true e k rec = inl (equal x y e)
      by false e k rec = inr (rec (less (times x ys) (subst (λ b. 1 ≤ cond b 1 0 + times x ys) e k)))
        where
          less : (n : ℕ) → 1 ≤ 0 + n → 1 ≤ n
          less n l = omega arith

  -- lists that have each thing as often are permutations
  pub same-times : (xs ys : List A) → ((x : A) → times x xs ≡ times x ys) → IsPermutation xs ys
  same-times [] [] h = IsPermutation-refl []
  same-times [] (y ∷ ys) h = absurd (none (times y ys) (h y ∙ sum_by-cons (one y) y ys ∙ ap (λ n. n + times y ys) (one-itself y)))
    where
      none : (n : ℕ) → 0 ≡ 1 + n → ⊥
      none n e = omega arith
  same-times (x ∷ xs) ys h =
      let r = taken-out x ys (there x ys (some (times x xs) (times x ys) (sym (h x) ∙ sum_by-cons (one x) x xs ∙ ap (λ n. n + times x xs) (one-itself x)))) in
      IsPermutation-trans _ _ _
      (IsPermutation-cons x xs r.0 (same-times xs r.0 (λ z. less (one z x) (times z xs) (times z r.0) (sym (sum_by-cons (one z) x xs) ∙ h z ∙ sym (sum_by-IsPermutation (one z) ys (x ∷ r.0) r.1) ∙ sum_by-cons (one z) x r.0))))
      (IsPermutation-sym _ _ r.1)
    where
      some : (n m : ℕ) → m ≡ 1 + n → 1 ≤ m
      some n m e = omega arith

      less : (a n m : ℕ) → a + n ≡ a + m → n ≡ m
      less a n m e = omega arith

  pub cancel : (a b c d : List A) → IsPermutation a c → IsPermutation (a ++ b) (c ++ d) → IsPermutation b d
  cancel a b c d h k =
      same-times b d
      (λ x. less (times x a) (times x c) (times x b) (times x d) (sum_by-IsPermutation (one x) a c h)
      (sym (sum_by-append (one x) a b) ∙ sym (sum_by-IsPermutation (one x) (a ++ b) (c ++ d) k) ∙ sum_by-append (one x) c d))
    where
      less : (a c b d : ℕ) → c ≡ a → a + b ≡ c + d → b ≡ d
      less a c b d e f = omega arith
