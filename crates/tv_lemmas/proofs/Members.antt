-- Members of joined, mapped and filtered lists, by their numbers, and by tests.
use Rattle.std.specs.Prelude.{◌≡◌, refl, ℕ, zero, suc, ◌≤◌, ◌⊎◌, List, [], ◌∷◌, ◌++◌, map, flat_map, filter, filter_map, find, length, slice_get, Bool, true, false, ◌||◌, cond, if◌then◌else◌, Option, Some, None}
use Rattle.std.specs.List.{cons_option, list_all, list_any}
use Rattle.std.proofs.Common.{arith, sym, ap, subst, ◌∙◌, inl, inr}
use Rattle.std.proofs.lemmas.Bool.{and_from, and_parts, or_left, or_right, true≢false}
use Rattle.std.proofs.lemmas.Option.{none-some, same_Some}
use Rattle.tv_lemmas.specs.Members.{Each, In}

pub in-left : {A : Type 0} (x : A) (xs ys : List A) → In x xs → In x (xs ++ ys)
in-left x [] ys h = absurd h
in-left x (y ∷ xs) ys (inl p) = inl p
in-left x (y ∷ xs) ys (inr h) = inr (in-left x xs ys h)

pub in-right : {A : Type 0} (x : A) (xs ys : List A) → In x ys → In x (xs ++ ys)
in-right x [] ys h = h
in-right x (y ∷ xs) ys h = inr (in-right x xs ys h)

pub in-append : {A : Type 0} (x : A) (xs ys : List A) → In x (xs ++ ys) → In x xs ⊎ In x ys
in-append x [] ys h = inr h
in-append x (y ∷ xs) ys (inl p) = inl (inl p)
in-append x (y ∷ xs) ys (inr h) = more (in-append x xs ys h)
  where
    more : In x xs ⊎ In x ys → In x (y ∷ xs) ⊎ In x ys
    more (inl k) = inl (inr k)
    more (inr k) = inr k

pub in-map : {A B : Type 0} (f : A → B) (x : A) (xs : List A) → In x xs → In (f x) (map f xs)
in-map f x [] h = absurd h
in-map f x (y ∷ xs) (inl p) = inl (ap f p)
in-map f x (y ∷ xs) (inr h) = inr (in-map f x xs h)

pub of-map : {A B : Type 0} (f : A → B) (b : B) (xs : List A) → In b (map f xs) → (x : A) × In x xs × (b ≡ f x)
of-map f b [] h = absurd h
of-map f b (x ∷ xs) (inl p) = (x, inl refl, p)
of-map f b (x ∷ xs) (inr h) = let r = of-map f b xs h in (r.0, inr r.1, r.2)

pub in-flat : {A B : Type 0} (f : A → List B) (x : A) (y : B) (xs : List A) → In x xs → In y (f x) → In y (flat_map f xs)
in-flat f x y [] h k = absurd h
in-flat f x y (z ∷ xs) (inl p) k = in-left y (f z) (flat_map f xs) (subst (λ w. In y (f w)) p k)
in-flat f x y (z ∷ xs) (inr h) k = in-right y (f z) (flat_map f xs) (in-flat f x y xs h k)

pub of-flat : {A B : Type 0} (f : A → List B) (y : B) (xs : List A) → In y (flat_map f xs) → (x : A) × In x xs × In y (f x)
of-flat f y [] h = absurd h
of-flat {A = A} f y (x ∷ xs) h = by (in-append y (f x) (flat_map f xs) h) (λ k. of-flat f y xs k)
  where
    by : In y (f x) ⊎ In y (flat_map f xs) → (In y (flat_map f xs) → (z : A) × In z xs × In y (f z)) → (z : A) × In z (x ∷ xs) × In y (f z)
    by (inl k) rec = (x, inl refl, k)
    by (inr k) rec = let r = rec k in (r.0, inr r.1, r.2)

pub of-options : {A B : Type 0} (f : A → Option B) (y : B) (xs : List A) → In y (filter_map f xs) → (x : A) × In x xs × (f x ≡ Some y)
of-options f y [] h = absurd h
of-options {A = A} {B = B} f y (x ∷ xs) h = by (f x) refl h (λ k. of-options f y xs k)
  where
    by : (o : Option B) → f x ≡ o → In y (cons_option o (filter_map f xs)) → (In y (filter_map f xs) → (z : A) × In z xs × (f z ≡ Some y)) → (z : A) × In z (x ∷ xs) × (f z ≡ Some y)
    by None e k rec = let r = rec k in (r.0, inr r.1, r.2)
    by (Some z) e (inl p) rec = (x, inl refl, e ∙ ap (λ w. Some w) (sym p))
    by (Some z) e (inr k) rec = let r = rec k in (r.0, inr r.1, r.2)

pub in-options : {A B : Type 0} (f : A → Option B) (x : A) (y : B) (xs : List A) → In x xs → f x ≡ Some y → In y (filter_map f xs)
in-options f x y [] h e = absurd h
in-options {A = A} {B = B} f x y (z ∷ xs) (inl p) e = by (f z) (ap f (sym p) ∙ e)
  where
    by : (o : Option B) → o ≡ Some y → In y (cons_option o (filter_map f xs))
    by None g = absurd (true≢false (sym (ap has g)))
      where
        has : Option B → Bool
        has None = false
        has (Some w) = true
    by (Some w) g = inl (ap (λ o. or_this o) (sym g))
      where
        or_this : Option B → B
        or_this None = y
        or_this (Some v) = v
in-options {A = A} {B = B} f x y (z ∷ xs) (inr h) e = by (f z) (in-options f x y xs h e)
  where
    by : (o : Option B) → In y (filter_map f xs) → In y (cons_option o (filter_map f xs))
    by None k = k
    by (Some w) k = inr k

pub in-slice : {A : Type 0} (xs : List A) (k : ℕ) (x : A) → slice_get xs k ≡ Some x → In x xs
in-slice [] k x e = absurd (none-some x e)
in-slice (y ∷ xs) zero x e = inl (sym (same_Some y x e))
in-slice (y ∷ xs) (suc k) x e = inr (in-slice xs k x e)

pub get-in : {A : Type 0} (x : A) (xs : List A) → In x xs → (k : ℕ) × (slice_get xs k ≡ Some x)
get-in x [] h = absurd h
get-in x (y ∷ xs) (inl e) = (0, ap Some (sym e))
get-in x (y ∷ xs) (inr h) = let r = get-in x xs h in (suc r.0, r.1)

pub each_in : {A : Type 0} (P : A → Type 0) (xs : List A) → Each P xs → (x : A) → In x xs → P x
each_in P [] e x h = absurd h
each_in P (y ∷ xs) e x (inl p) = subst P (sym p) e.0
each_in P (y ∷ xs) e x (inr h) = each_in P xs e.1 x h

pub in_each : {A : Type 0} (P : A → Type 0) (xs : List A) → ((x : A) → In x xs → P x) → Each P xs
in_each P [] f = tt
in_each P (x ∷ xs) f = (f x (inl refl), in_each P xs (λ y h. f y (inr h)))

-- ---- what passes a test

pub all-in : {A : Type 0} (p : A → Bool) (xs : List A) → ((x : A) → In x xs → p x ≡ true) → list_all p xs ≡ true
all-in p [] h = refl
all-in p (x ∷ xs) h = and_from (p x) (list_all p xs) (h x (inl refl)) (all-in p xs (λ y i. h y (inr i)))

pub of-all : {A : Type 0} (p : A → Bool) (xs : List A) → list_all p xs ≡ true → (x : A) → In x xs → p x ≡ true
of-all p [] h x i = absurd i
of-all p (y ∷ xs) h x (inl e) = ap p e ∙ (and_parts (p y) (list_all p xs) h).0
of-all p (y ∷ xs) h x (inr i) = of-all p xs (and_parts (p y) (list_all p xs) h).1 x i

pub any-in : {A : Type 0} (p : A → Bool) (x : A) (xs : List A) → In x xs → p x ≡ true → list_any p xs ≡ true
any-in p x [] h e = absurd h
any-in p x (y ∷ xs) (inl q) e = or_left (p y) (list_any p xs) (ap p (sym q) ∙ e)
any-in p x (y ∷ xs) (inr h) e = or_right (p y) (list_any p xs) (any-in p x xs h e)

pub some_in : {A : Type 0} (p : A → Bool) (xs : List A) → list_any p xs ≡ true → (x : A) × In x xs × (p x ≡ true)
some_in p [] h = absurd (true≢false (sym h))
some_in p (x ∷ xs) h = pick (p x) refl h (λ k. some_in p xs k)
  where
    pick : (b : Bool) → p x ≡ b → (b || list_any p xs) ≡ true → (list_any p xs ≡ true → (y : _) × In y xs × (p y ≡ true)) → (y : _) × In y (x ∷ xs) × (p y ≡ true)
    pick true e k rec = (x, inl refl, e)
    pick false e k rec = let r = rec k in (r.0, inr r.1, r.2)

pub found-in : {A : Type 0} (p : A → Bool) (xs : List A) (x : A) → find p xs ≡ Some x → In x xs × (p x ≡ true)
found-in p [] x e = absurd (none-some x e)
found-in p (y ∷ xs) x e = by (p y) refl e (λ k. found-in p xs x k)
  where
    by : (b : Bool) → p y ≡ b → (if b then Some y else find p xs) ≡ Some x → (find p xs ≡ Some x → In x xs × (p x ≡ true)) → In x (y ∷ xs) × (p x ≡ true)
    by true g k rec = let same : y ≡ x = same_Some y x k in (inl (sym same), subst (λ z. p z ≡ true) same g)
    by false g k rec = let r = rec k in (inr r.0, r.1)

pub in-filter : {A : Type 0} (p : A → Bool) (x : A) (xs : List A) → In x xs → p x ≡ true → In x (filter p xs)
in-filter p x [] h e = absurd h
in-filter {A = A} p x (y ∷ xs) (inl q) e = by (p y) (ap p (sym q) ∙ e)
  where
    by : (b : Bool) → b ≡ true → In x (cond b (y ∷ filter p xs) (filter p xs))
    by true f = inl q
    by false f = absurd (true≢false (sym f))
in-filter {A = A} p x (y ∷ xs) (inr h) e = by (p y) (in-filter p x xs h e)
  where
    by : (b : Bool) → In x (filter p xs) → In x (cond b (y ∷ filter p xs) (filter p xs))
    by true k = inr k
    by false k = k

pub of-filter : {A : Type 0} (p : A → Bool) (x : A) (xs : List A) → In x (filter p xs) → In x xs × (p x ≡ true)
of-filter p x [] h = absurd h
of-filter {A = A} p x (y ∷ xs) h = by (p y) refl h (λ k. of-filter p x xs k)
  where
    by : (b : Bool) → p y ≡ b → In x (cond b (y ∷ filter p xs) (filter p xs)) → (In x (filter p xs) → In x xs × (p x ≡ true)) → In x (y ∷ xs) × (p x ≡ true)
    by true e (inl q) rec = (inl q, ap p q ∙ e)
    by true e (inr k) rec = let r = rec k in (inr r.0, r.1)
    by false e k rec = let r = rec k in (inr r.0, r.1)

pub each-filter : {A : Type 0} (R : A → Type 0) (p : A → Bool) (xs : List A) → Each R xs → Each R (filter p xs)
each-filter R p [] h = tt
each-filter {A = A} R p (x ∷ xs) h = by (p x) (each-filter R p xs h.1)
  where
    by : (b : Bool) → Each R (filter p xs) → Each R (cond b (x ∷ filter p xs) (filter p xs))
    by true k = (h.0, k)
    by false k = k

pub filter-length : {A : Type 0} (p : A → Bool) (xs : List A) → length (filter p xs) ≤ length xs
filter-length p [] = omega arith
filter-length p (x ∷ xs) = by (p x) (filter-length p xs)
  where
    by : (b : Bool) → length (filter p xs) ≤ length xs → length (cond b (x ∷ filter p xs) (filter p xs)) ≤ suc (length xs)
    by true h = omega (arith, h)
    by false h = omega (arith, h)

-- one that doesn't pass is left out
pub filter-shorter : {A : Type 0} (p : A → Bool) (x : A) (xs : List A) → In x xs → p x ≡ false → suc (length (filter p xs)) ≤ length xs
filter-shorter p x [] h e = absurd h
filter-shorter p x (y ∷ xs) (inl q) e = by (p y) (ap p (sym q) ∙ e) (filter-length p xs)
  where
    by : (b : Bool) → b ≡ false → length (filter p xs) ≤ length xs → suc (length (cond b (y ∷ filter p xs) (filter p xs))) ≤ suc (length xs)
    by true f h = absurd (true≢false f)
    by false f h = omega (arith, h)
filter-shorter p x (y ∷ xs) (inr k) e = by (p y) (filter-shorter p x xs k e)
  where
    by : (b : Bool) → suc (length (filter p xs)) ≤ length xs → suc (length (cond b (y ∷ filter p xs) (filter p xs))) ≤ suc (length xs)
    by true h = omega (arith, h)
    by false h = omega (arith, h)
