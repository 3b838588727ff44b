-- Two lists of which as many count, since each that counts in one has a partner of its key in the other.
use Rattle.std.specs.Prelude.{◌≡◌, refl, ℕ, suc, ◌≤◌, ◌+◌, ◌⊎◌, List, [], ◌∷◌, Bool, true, false, not, ◌&&◌, count_by}
use Rattle.std.proofs.Common.{ap, arith, inl, inr, sym, ◌∙◌}
use Rattle.std.specs.Cmp.{first_so, second_so}
use Rattle.tv_lemmas.specs.Members.{In}
use Rattle.tv_value.specs.Orders.{same_job}
use Rattle.tv_value.specs.Values.{JobName}
use Rattle.tv_value.proofs.JobNameLemmas.{same_job_decides}
use Rattle.tv_lemmas.proofs.Cases.{on_test}
use Rattle.tv_model.proofs.Members.{once-of_apart}
use Rattle.tv_model.specs.JobOrder.{Apart}
use Rattle.tv_model.proofs.Tests.{both_true, true≠false}
use Rattle.tv_history.proofs.Counts.{bit, count-tally, tally}
use Rattle.tv_history.proofs.Tallies.{tally-none, tally-one_more}

-- each that counts among xs has a partner that counts among ys
abbrev pub ArePartnered : {A B : Type 0} → (A → JobName) → (B → JobName) → (A → Bool) → (B → Bool) → List A → List B
    → Type 0
ArePartnered {A} {B} a b p q xs ys =
    (x : A) → In x xs → p x ≡ true → (y : B) × In y ys × (q y ≡ true) × (b y ≡ a x)

module _ {A B : Type 0} (a : A → JobName) (b : B → JobName) (q : B → Bool) (xs : List A) (apart : Apart a xs) where
  -- those that count, but for the partner of y
  abbrev but : (A → Bool) → B → A → Bool
  but p y x = p x && not (same_job (a x) (b y))

  other : (p : A → Bool) (y : B) (x : A) → p x ≡ true → (a x ≡ b y → ⊥) → but p y x ≡ true
  other p y x h ne =
      both_true (p x) (not (same_job (a x) (b y))) h
      (on_test (same_job (a x) (b y)) (λ e. absurd (ne ((same_job_decides (a x) (b y)).0 e))) (λ e. ap not e))

  not-it : (p : A → Bool) (y : B) (x : A) → but p y x ≡ true → a x ≡ b y → ⊥
  not-it p y x h e =
      true≠false
      (sym (second_so (p x) (not (same_job (a x) (b y))) h) ∙ ap not ((same_job_decides (a x) (b y)).1 e))

  pub at-most : (p : A → Bool) (ys : List B) → Apart b ys → ArePartnered a b p q xs ys → ArePartnered b a q p ys xs
      → tally p xs ≤ tally q ys
  at-most p [] w there back =
      none (tally p xs) (tally-none p xs (λ x i. on_test (p x) (λ e. absurd (there x i e).1) (λ e. e)))
    where
      none : (n : ℕ) → n ≡ 0 → n ≤ 0
      none n e = omega arith
  at-most p (y ∷ ys) w there back =
      on_test (q y)
      (λ h.
      let mine = back y (inl refl) h in
      more (tally p xs) (tally (but p y) xs) (tally q ys) (q y) h
      (tally-one_more a p (but p y) mine.0 xs apart (either mine)) (at-most (but p y) ys w.1 there_but back_but))
      (λ h. same (tally p xs) (tally q ys) (q y) h (at-most p ys w.1 (there_same h) (λ z i. back z (inr i))))
    where
      more : (l m n : ℕ) (c : Bool) → c ≡ true → l ≤ suc m → m ≤ n → l ≤ bit c + n
      more l m n true e f g = omega (arith, f, g)
      more l m n false e f g = absurd (true≠false (sym e))

      same : (l n : ℕ) (c : Bool) → c ≡ false → l ≤ n → l ≤ bit c + n
      same l n true e f = absurd (true≠false e)
      same l n false e f = omega (arith, f)

      either : (mine : (x : A) × In x xs × (p x ≡ true) × (a x ≡ b y)) → (x : A) → In x xs → p x ≡ true
          → (but p y x ≡ true) ⊎ (x ≡ mine.0)
      either mine x i h =
          on_test (same_job (a x) (b y))
          (λ e. inr (once-of_apart a xs apart x mine.0 i mine.1 ((same_job_decides (a x) (b y)).0 e ∙ sym mine.3)))
          (λ e. inl (both_true (p x) (not (same_job (a x) (b y))) h (ap not e)))

      there_but : ArePartnered a b (but p y) q xs ys
      there_but x i h = by (there x i (first_so (p x) (not (same_job (a x) (b y))) h))
        where
          by : (z : B) × In z (y ∷ ys) × (q z ≡ true) × (b z ≡ a x) → (z : B) × In z ys × (q z ≡ true) × (b z ≡ a x)
          by (z, inl e, f, g) = absurd (not-it p y x h (sym g ∙ ap b e))
          by (z, inr j, f, g) = (z, j, f, g)

      back_but : ArePartnered b a q (but p y) ys xs
      back_but z i h =
          let r = back z (inr i) h in
          (r.0, r.1, other p y r.0 r.2 (λ e. w.0 z i (sym r.3 ∙ e)), r.3)

      there_same : q y ≡ false → ArePartnered a b p q xs ys
      there_same h x i e = by (there x i e)
        where
          by : (z : B) × In z (y ∷ ys) × (q z ≡ true) × (b z ≡ a x) → (z : B) × In z ys × (q z ≡ true) × (b z ≡ a x)
          by (z, inl k, f, g) = absurd (true≠false (sym f ∙ ap q k ∙ h))
          by (z, inr j, f, g) = (z, j, f, g)

pub as-many : {A B : Type 0} (a : A → JobName) (b : B → JobName) (p : A → Bool) (q : B → Bool) (xs : List A)
    (ys : List B) → Apart a xs → Apart b ys → ArePartnered a b p q xs ys → ArePartnered b a q p ys xs
    → count_by p xs ≡ count_by q ys
as-many a b p q xs ys u w there back =
    count-tally p xs
    ∙ both (tally p xs) (tally q ys) (at-most a b q xs u p ys w there back) (at-most b a p ys w q xs u back there)
    ∙ sym (count-tally q ys)
  where
    both : (m n : ℕ) → m ≤ n → n ≤ m → m ≡ n
    both m n h k = omega arith
