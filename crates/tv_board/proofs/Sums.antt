-- Sums over lists: by numbers that the members have, and of what is made of each member.
use Rattle.std.specs.List.{All, AllPairs, sum_by}
use Rattle.std.specs.Prelude.{◌≡◌, ◌≢◌, refl, ℕ, suc, ◌+◌, ◌==◌, ◌<◌, ◌≤◌, Bool, true, false, not, if◌then◌else◌, List, [], ◌∷◌, Some, filter, length, slice_get}
use Rattle.std.proofs.Common.{ap, ap₂, arith, inl, inr, subst, sym, ◌∙◌}
use Rattle.std.proofs.lemmas.Bool.{eq-eqb, true≢false}
use Rattle.std.proofs.lemmas.List.Elements.{All-cons, All-nil}
use Rattle.std.proofs.lemmas.List.Filters.{sum_by-filter_both}
use Rattle.std.proofs.lemmas.List.Kept.{AllPairs-cons}
use Rattle.std.proofs.lemmas.List.Sums.{sum_by-cons}
use Rattle.tv_lemmas.specs.Members.{In}
use Rattle.tv_lemmas.proofs.Members.{of-filter}
use Rattle.tv_model.specs.JobOrder.{Apart}

-- ---- those that pass

module _ {A : Type 0} (p : A → Bool) where
  -- they keep keys of their own
  pub apart-filter : {K : Type 0} (key : A → K) (xs : List A) → Apart key xs → Apart key (filter p xs)
  apart-filter key [] a = tt
  apart-filter key (x ∷ xs) a = by (p x) (apart-filter key xs a.1)
    where
      by : (b : Bool) → Apart key (filter p xs) → Apart key (if b then x ∷ filter p xs else filter p xs)
      by true rest = (λ y i e. a.0 y (of-filter p y xs i).0 e, rest)
      by false rest = rest

  -- of the others nothing is counted
  pub sum-filter : (f : A → ℕ) (xs : List A)
      → sum_by (λ x. if p x then f x else 0) xs ≡ sum_by f (filter p xs)
  sum-filter f [] = refl
  sum-filter f (x ∷ xs) =
      sum_by-cons (λ y. if p y then f y else 0) x xs
      ∙ ap (λ n. (if p x then f x else 0) + n) (sum-filter f xs)
      ∙ by (p x)
    where
      none : (n : ℕ) → 0 + n ≡ n
      none n = omega arith

      by : (b : Bool) → (if b then f x else 0) + sum_by f (filter p xs)
          ≡ sum_by f (if b then x ∷ filter p xs else filter p xs)
      by true = sym (sum_by-cons f x (filter p xs))
      by false = none (sum_by f (filter p xs))

-- ---- what is made of each member

module _ {A B : Type 0} where
  abbrev pub made : (xs : List A) → ((x : A) → In x xs → B) → List B
  made [] f = []
  made (x ∷ xs) f = f x (inl refl) ∷ made xs (λ y i. f y (inr i))

  pub of-made : (xs : List A) (f : (x : A) → In x xs → B) (b : B) → In b (made xs f)
      → (x : A) × (i : In x xs) × (b ≡ f x i)
  of-made [] f b h = absurd h
  of-made (x ∷ xs) f b (inl e) = (x, inl refl, e)
  of-made (x ∷ xs) f b (inr h) = let r = of-made xs (λ y i. f y (inr i)) b h in (r.0, inr r.1, r.2)

  pub sum-made : (c : A → ℕ) (g : B → ℕ) (xs : List A) (f : (x : A) → In x xs → B)
      → ((x : A) (i : In x xs) → c x ≡ g (f x i)) → sum_by c xs ≡ sum_by g (made xs f)
  sum-made c g [] f h = refl
  sum-made c g (x ∷ xs) f h =
      sum_by-cons c x xs
      ∙ ap₂ (λ m n. m + n) (h x (inl refl)) (sum-made c g xs (λ y i. f y (inr i)) (λ y i. h y (inr i)))
      ∙ sym (sum_by-cons g (f x (inl refl)) (made xs (λ y i. f y (inr i))))

  -- one key of theirs means one key before
  pub apart-made : {H K : Type 0} (h : A → H) (key : B → K) (xs : List A) (f : (x : A) → In x xs → B)
      → ((x y : A) (i : In x xs) (k : In y xs) → key (f x i) ≡ key (f y k) → h x ≡ h y)
      → Apart h xs → Apart key (made xs f)
  apart-made h key [] f same a = tt
  apart-made h key (x ∷ xs) f same a = (
    λ b i e.
        let r = of-made xs (λ y k. f y (inr k)) b i in
        a.0 r.0 r.1 (same r.0 x (inr r.1) (inl refl) (ap key (sym r.2) ∙ e)),
    apart-made h key xs (λ y i. f y (inr i)) (λ y z i k. same y z (inr i) (inr k)) a.1,
  )

-- ---- what is so of each member

module _ {A : Type 0} where
  pub all-in : (P : A → Type 0) (xs : List A) → ((x : A) → In x xs → P x) → All P xs
  all-in P [] h = All-nil P
  all-in P (x ∷ xs) h = All-cons P x xs (h x (inl refl)) (all-in P xs (λ y i. h y (inr i)))

  pub all-different : (xs : List A) → Apart (λ x. x) xs → AllPairs (λ x y. x ≢ y) xs
  all-different [] a = λ i j d l m. absurd (none j m)
    where
      none : (n : ℕ) → n < 0 → ⊥
      none n h = omega arith
  all-different (x ∷ xs) a =
      AllPairs-cons (λ y z. y ≢ z) x xs (all-in (λ y. x ≢ y) xs (λ y i e. a.0 y i (sym e)))
      (all-different xs a.1)

-- ---- by numbers

module _ {A : Type 0} (number : A → ℕ) (f : A → ℕ) where
  -- those of a number
  abbrev pub of_number : ℕ → List A → List A
  of_number n xs = filter (λ x. number x == n) xs

  -- and those of none but that
  abbrev others : ℕ → A → Bool
  others n x = not (number x == n)

  less-sum : (l m n o : ℕ) → l ≡ m → m + o ≡ n → l ≤ n
  less-sum l m n o e h = omega arith

  fewer : (p q : A → Bool) (xs : List A) → sum_by f (filter p (filter q xs)) ≤ sum_by f (filter p xs)
  fewer p q xs =
      less-sum (sum_by f (filter p (filter q xs))) (sum_by g (filter q xs)) (sum_by f (filter p xs))
      (sum_by g (filter (λ x. not (q x)) xs)) (sym (sum-filter p f (filter q xs)))
      (sum_by-filter_both q (λ x. not (q x)) (λ x. refl) g xs ∙ sum-filter p f xs)
    where
      g : A → ℕ
      g x = if p x then f x else 0

  module _ {B : Type 0} (c : B → ℕ) where
    -- where each number has room for those that have it
    from : (k : ℕ) (bs : List B) (xs : List A)
        → ((x : A) → In x xs → (k ≤ number x) × (number x < k + length bs))
        → ((n : ℕ) (b : B) → slice_get bs n ≡ Some b → sum_by f (of_number (k + n) xs) ≤ c b)
        → sum_by f xs ≤ sum_by c bs
    from k [] [] low room = omega arith
    from k [] (x ∷ xs) low room = let h = low x (inl refl) in absurd (nothing k (number x) h.0 h.1)
      where
        nothing : (k n : ℕ) → k ≤ n → n < k + 0 → ⊥
        nothing k n h l = omega arith
    from k (b ∷ bs) xs low room =
        together (sum_by f (of_number k xs)) (sum_by f (filter (others k) xs)) (c b) (sum_by c bs)
        (sum_by-filter_both (λ x. number x == k) (others k) (λ x. refl) f xs) (sum_by-cons c b bs)
        (subst (λ n. sum_by f (of_number n xs) ≤ c b) (plus-none k) (room 0 b refl))
        (from (suc k) bs (filter (others k) xs) low-rest room-rest)
      where
        plus-none : (k : ℕ) → k + 0 ≡ k
        plus-none k = omega arith

        plus-one : (k n : ℕ) → k + suc n ≡ suc k + n
        plus-one k n = omega arith

        together : {s t : ℕ} (l m n o : ℕ) → l + m ≡ s → t ≡ n + o → l ≤ n → m ≤ o → s ≤ t
        together l m n o e f h k = omega arith

        at-most : (l m n : ℕ) → l ≤ m → m ≤ n → l ≤ n
        at-most l m n h k = omega arith

        past : (k n l : ℕ) → (k ≤ n) × (n < k + suc l) → (n ≡ k → ⊥) → (suc k ≤ n) × (n < suc k + l)
        past k n l h ne = (omega (arith, h.0, ne), omega (arith, h.1))

        low-rest : (x : A) → In x (filter (others k) xs)
            → (suc k ≤ number x) × (number x < suc k + length bs)
        low-rest x i =
            let w = of-filter (others k) x xs i in
            past k (number x) (length bs) (low x w.0)
            (λ e. true≢false (sym w.1 ∙ ap not (eq-eqb (number x) k e)))

        room-rest : (n : ℕ) (d : B) → slice_get bs n ≡ Some d
            → sum_by f (of_number (suc k + n) (filter (others k) xs)) ≤ c d
        room-rest n d e =
            at-most (sum_by f (of_number (suc k + n) (filter (others k) xs)))
            (sum_by f (of_number (suc k + n) xs)) (c d)
            (fewer (λ x. number x == (suc k + n)) (others k) xs)
            (subst (λ m. sum_by f (of_number m xs) ≤ c d) (plus-one k n) (room (suc n) d e))

    pub by-numbers : (bs : List B) (xs : List A) → ((x : A) → In x xs → number x < length bs)
        → ((n : ℕ) (b : B) → slice_get bs n ≡ Some b → sum_by f (of_number n xs) ≤ c b)
        → sum_by f xs ≤ sum_by c bs
    by-numbers bs xs low room =
        from 0 bs xs (λ x i. (omega arith, subst (λ n. number x < n) (plus (length bs)) (low x i)))
        (λ n b e. subst (λ m. sum_by f (of_number m xs) ≤ c b) (plus n) (room n b e))
      where
        plus : (n : ℕ) → n ≡ 0 + n
        plus n = omega arith
