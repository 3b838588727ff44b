-- How many entries of a kind a history has, and sums over the jobs.
use Rattle.std.specs.Prelude.{◌≡◌, refl, ℕ, ◌+◌, ◌≤◌, List, [], ◌∷◌, length, filter, flat_map, count_by, sum_by, Bool, true, false, cond, Option, Some, None, is_some}
use Rattle.std.specs.Option.{option_map_or}
use Rattle.std.proofs.Common.{arith, sym, ap, ◌∙◌, inl, inr, length-append}
use Rattle.std.proofs.lemmas.List.Sums.{sum_by-cons}
use Rattle.tv_lemmas.specs.Members.{In}
use Rattle.tv_lemmas.proofs.Counts.{count-cons}
use Rattle.tv_value.specs.Values.{JobName}
use Rattle.tv_value.specs.Orders.{same_job}
use Rattle.tv_value.proofs.JobNameLemmas.{same_job_decides}
use Rattle.tv_history.specs.Entries.{Entry, History}
use Rattle.tv_model.proofs.Tests.{true≠false}
use Rattle.tv_model.specs.JobOrder.{Apart}

-- counts and sums as proofs go through them

abbrev pub bit : Bool → ℕ
bit true = 1
bit false = 0

abbrev pub tally : {A : Type 0} → (A → Bool) → List A → ℕ
tally p [] = 0
tally p (x ∷ xs) = bit (p x) + tally p xs

abbrev pub total : {A : Type 0} → (A → ℕ) → List A → ℕ
total f [] = 0
total f (x ∷ xs) = f x + total f xs

pub count-total : {A : Type 0} (p : A → Bool) (xs : List A) → count_by p xs ≡ total (λ x. bit (p x)) xs
count-total p [] = refl
count-total {A = A} p (x ∷ xs) = count-cons p x xs ∙ (λ i. one (p x) i + count-total p xs i)
  where
    one : (b : Bool) → cond b 1 0 ≡ bit b
    one true = refl
    one false = refl

pub count-tally : {A : Type 0} (p : A → Bool) (xs : List A) → count_by p xs ≡ tally p xs
count-tally {A = A} p xs = count-total p xs ∙ same xs
  where
    same : (ys : List A) → total (λ x. bit (p x)) ys ≡ tally p ys
    same [] = refl
    same (y ∷ ys) = ap (λ n. bit (p y) + n) (same ys)

pub sum-total : {A : Type 0} (f : A → ℕ) (xs : List A) → sum_by f xs ≡ total f xs
sum-total f [] = refl
sum-total f (x ∷ xs) = sum_by-cons f x xs ∙ ap (λ n. f x + n) (sum-total f xs)

pub total-same : {A : Type 0} (f g : A → ℕ) (xs : List A) → ((x : A) → In x xs → f x ≡ g x) → total f xs ≡ total g xs
total-same f g [] h = refl
total-same f g (x ∷ xs) h = omega (arith, h x (inl refl), total-same f g xs (λ y i. h y (inr i)))

pub total-at_most : {A : Type 0} (f g : A → ℕ) (xs : List A) → ((x : A) → In x xs → f x ≤ g x) → total f xs ≤ total g xs
total-at_most f g [] h = omega arith
total-at_most f g (x ∷ xs) h = omega (arith, h x (inl refl), total-at_most f g xs (λ y i. h y (inr i)))

pub total-of_sums : {A : Type 0} (f g : A → ℕ) (xs : List A) → total (λ x. f x + g x) xs ≡ total f xs + total g xs
total-of_sums f g [] = omega arith
total-of_sums f g (x ∷ xs) = omega (arith, total-of_sums f g xs)

pub total-zeros : {A : Type 0} (f : A → ℕ) (xs : List A) → ((x : A) → In x xs → f x ≡ 0) → total f xs ≡ 0
total-zeros f [] h = refl
total-zeros f (x ∷ xs) h = omega (arith, h x (inl refl), total-zeros f xs (λ y i. h y (inr i)))

pub total-in : {A : Type 0} (f : A → ℕ) (x : A) (xs : List A) → In x xs → f x ≤ total f xs
total-in f x [] h = absurd h
total-in f x (y ∷ xs) (inl p) = omega (arith, ap f p)
total-in f x (y ∷ xs) (inr h) = omega (arith, total-in f x xs h)

pub length-as_total : {A B : Type 0} (f : A → List B) (xs : List A) → length (flat_map f xs) ≡ total (λ x. length (f x)) xs
length-as_total f [] = refl
length-as_total f (x ∷ xs) = length-append (f x) (flat_map f xs) ∙ ap (λ n. length (f x) + n) (length-as_total f xs)

pub filter-as_total : {A : Type 0} (p : A → Bool) (xs : List A) → length (filter p xs) ≡ total (λ x. bit (p x)) xs
filter-as_total p [] = refl
filter-as_total {A = A} p (x ∷ xs) = by (p x) (filter-as_total p xs)
  where
    by : (b : Bool) → length (filter p xs) ≡ total (λ x. bit (p x)) xs → length (cond b (x ∷ filter p xs) (filter p xs)) ≡ bit b + total (λ x. bit (p x)) xs
    by true h = omega arith
    by false h = omega arith

pub length-as_ones : {A : Type 0} (xs : List A) → length xs ≡ total (λ x. 1) xs
length-as_ones [] = refl
length-as_ones (x ∷ xs) = omega (arith, length-as_ones xs)

pub nothing-counted : {A : Type 0} (p : A → Bool) (xs : List A) → ((x : A) → In x xs → p x ≡ false) → count_by p xs ≡ 0
nothing-counted p xs f = count-total p xs ∙ total-zeros (λ x. bit (p x)) xs (λ x i. ap bit (f x i))

pub uncounted : {A : Type 0} (p : A → Bool) (xs : List A) → count_by p xs ≡ 0 → (x : A) → In x xs → p x ≡ false
uncounted p xs e x i = by (p x) (total-in (λ y. bit (p y)) x xs i)
  where
    by : (b : Bool) → bit b ≤ total (λ y. bit (p y)) xs → b ≡ false
    by false h = refl
    by true h = absurd (omega (arith, h, sym (count-total p xs) ∙ e))

-- ---- each entry belongs to one

module _ {A : Type 0} (name : A → JobName) where
  -- where names are apart, one has this name
  pub once-counted : (k : JobName) (xs : List A) → Apart name xs → (x : A) → In x xs → name x ≡ k → total (λ y. bit (same_job (name y) k)) xs ≡ 1
  once-counted k [] a x h e = absurd h
  once-counted k (y ∷ xs) a x (inl p) e =
      by (same_job (name y) k) (total (λ y. bit (same_job (name y) k)) xs) ((same_job_decides (name y) k).1 (ap name (sym p) ∙ e))
      (total-zeros (λ y. bit (same_job (name y) k)) xs (λ z i. none z i))
    where
      by : (b : Bool) (n : ℕ) → b ≡ true → n ≡ 0 → bit b + n ≡ 1
      by true n p q = omega arith
      by false n p q = absurd (true≠false (sym p))

      none : (z : A) → In z xs → bit (same_job (name z) k) ≡ 0
      none z i = not_it (same_job (name z) k) refl
        where
          not_it : (b : Bool) → same_job (name z) k ≡ b → bit b ≡ 0
          not_it false q = refl
          not_it true q = absurd (a.0 z i ((same_job_decides (name z) k).0 q ∙ sym e ∙ ap name p))
  once-counted k (y ∷ xs) a x (inr i) e = by (same_job (name y) k) refl (total (λ y. bit (same_job (name y) k)) xs) (once-counted k xs a.1 x i e)
    where
      by : (b : Bool) → same_job (name y) k ≡ b → (n : ℕ) → n ≡ 1 → bit b + n ≡ 1
      by false q n p = omega arith
      by true q n p = absurd (a.0 x i (e ∙ sym ((same_job_decides (name y) k).0 q)))

  -- of a kind of entries, with the name that each has
  module _ (p : JobName → Entry → Bool) (kind : Entry → Option JobName) (agree : (n : JobName) (e : Entry) → p n e ≡ option_map_or (same_job n) (kind e) false) (xs : List A) (apart : Apart name xs) where
    abbrev pub Owned : Entry → Type 0
    Owned e = (k : JobName) → kind e ≡ Some k → (x : A) × In x xs × (name x ≡ k)

    one-entry : (e : Entry) → Owned e → total (λ x. bit (p (name x) e)) xs ≡ bit (is_some (kind e))
    one-entry e o = total-same (λ x. bit (p (name x) e)) (λ x. bit (option_map_or (same_job (name x)) (kind e) false)) xs (λ x i. ap bit (agree (name x) e)) ∙ by (kind e) refl
      where
        by : (q : Option JobName) → kind e ≡ q → total (λ x. bit (option_map_or (same_job (name x)) q false)) xs ≡ bit (is_some q)
        by None f = total-zeros (λ x. 0) xs (λ x i. refl)
        by (Some k) f = let r = o k f in once-counted k xs apart r.0 r.1 r.2

    pub all-entries : (past : History) → ((e : Entry) → In e past → Owned e) → total (λ x. tally (p (name x)) past) xs ≡ tally (λ e. is_some (kind e)) past
    all-entries [] o = total-zeros (λ x. 0) xs (λ x i. refl)
    all-entries (e ∷ past) o =
        total-of_sums (λ x. bit (p (name x) e)) (λ x. tally (p (name x)) past) xs
        ∙ (omega (arith, one-entry e (o e (inl refl)), all-entries past (λ f i. o f (inr i))))
