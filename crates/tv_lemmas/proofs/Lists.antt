-- Lists: their elements by number, and maps, filters and tests of all.
use Rattle.std.specs.Prelude.{◌≡◌, refl, ℕ, zero, suc, ◌+◌, ◌<◌, ◌⊎◌, Bool, true, false, cond, List, [], ◌∷◌, ◌++◌, map, filter, flat_map, length, take, get_or, slice_get, slice_index_or, Some, None, IsPermutation}
use Rattle.std.specs.List.{list_all, range_with_len}
use Rattle.std.proofs.Common.{arith, sym, ap, subst, ◌∙◌, append_assoc, inl, inr}
use Rattle.std.proofs.lemmas.Bool.{and_from, and_parts}
use Rattle.std.proofs.lemmas.Grind.{flat_map-append}
use Rattle.std.proofs.lemmas.List.FromFn.{length-map-range_with_len, get_or-map-range_with_len}
use Rattle.std.proofs.lemmas.List.Sorted.{IsPermutation-append_left, IsPermutation-append_comm}
use Rattle.std.proofs.lemmas.Option.{none-some, same_Some, slice_get_read, get_or_from_slice_get}
use Rattle.tv_lemmas.proofs.Numbers.{less-back, none-below}

-- ---- elements by number

pub get-within : {A : Type 0} (xs : List A) (k : ℕ) → k < length xs → (x : A) × (slice_get xs k ≡ Some x)
get-within [] k l = none-below k l
get-within (x ∷ xs) zero l = (x, refl)
get-within (x ∷ xs) (suc k) l = get-within xs k (less-back k (length xs) l)

pub within-not_none : {A : Type 0} (xs : List A) (k : ℕ) → k < length xs → slice_get xs k ≡ None → ⊥
within-not_none [] k l e = none-below k l
within-not_none (x ∷ xs) zero l e = none-some x (sym e)
within-not_none (x ∷ xs) (suc k) l e = within-not_none xs k (less-back k (length xs) l) e

pub get-read : {A : Type 0} (xs : List A) (k : ℕ) (x : A) → k < length xs → x ≡ get_or xs k x → slice_get xs k ≡ Some x
get-read xs k x l e = slice_get_read xs (length xs) k x refl l e

pub get-end : {A : Type 0} (xs : List A) (x : A) → slice_get (xs ++ x ∷ []) (length xs) ≡ Some x
get-end [] x = refl
get-end (y ∷ xs) x = get-end xs x

-- one list behind another
pub in-front : {A : Type 0} (xs ys : List A) (n : ℕ) (x : A) → slice_get xs n ≡ Some x → slice_get (xs ++ ys) n ≡ Some x
in-front [] ys n x e = absurd (none-some x e)
in-front (z ∷ xs) ys zero x e = e
in-front (z ∷ xs) ys (suc n) x e = in-front xs ys n x e

pub in-behind : {A : Type 0} (xs ys : List A) (p : ℕ) → slice_get (xs ++ ys) (length xs + p) ≡ slice_get ys p
in-behind [] ys p = let e : 0 + p ≡ p = omega arith in ap (slice_get ys) e
in-behind (z ∷ xs) ys p =
    let e : suc (length xs) + p ≡ suc (length xs + p) = omega arith in
    ap (slice_get (z ∷ (xs ++ ys))) e ∙ in-behind xs ys p

pub get-last : {A : Type 0} (xs : List A) (y : A) (n : ℕ) (x : A) → slice_get (xs ++ y ∷ []) n ≡ Some x → (slice_get xs n ≡ Some x) ⊎ ((n ≡ length xs) × (x ≡ y))
get-last [] y zero x e = inr (refl, sym (same_Some y x e))
get-last [] y (suc n) x e = absurd (none-some x e)
get-last (z ∷ xs) y zero x e = inl e
get-last (z ∷ xs) y (suc n) x e =
    elim (get-last xs y n x e) [
      | inl h ↦ inl h
      | inr h ↦ inr (ap suc h.0, h.1)
    ]

pub take-next : {A : Type 0} (xs : List A) (k : ℕ) (x : A) → k < length xs → x ≡ get_or xs k x → take (suc k) xs ≡ take k xs ++ x ∷ []
take-next [] k x l e = none-below k l
take-next (y ∷ xs) zero x l e = ap (λ z. z ∷ []) (sym e)
take-next (y ∷ xs) (suc k) x l e = ap (λ zs. y ∷ zs) (take-next xs k x (less-back k (length xs) l) e)

pub rest-less : (xs : List ℕ) (i : ℕ) (ys : List ℕ) (h : ℕ) → xs ≡ i ∷ ys → length xs < h → suc (length ys) < h
rest-less xs i ys h e l = subst (λ zs. length zs < h) e l

pub same-lists : {A : Type 0} (xs ys : List A) → length xs ≡ length ys → ((k : ℕ) (y : A) → slice_get ys k ≡ Some y → slice_get xs k ≡ Some y) → xs ≡ ys
same-lists [] [] e h = refl
same-lists [] (y ∷ ys) e h = cc
same-lists (x ∷ xs) [] e h = cc
same-lists (x ∷ xs) (y ∷ ys) e h =
    let p : Some x ≡ Some y = h 0 y refl in
    let q : xs ≡ ys = same-lists xs ys (omega (arith, e)) (λ k z g. h (suc k) z g) in
    cc

-- ---- mapped lists

pub get-map : {A B : Type 0} (f : A → B) (xs : List A) (k : ℕ) (x : A) → slice_get xs k ≡ Some x → slice_get (map f xs) k ≡ Some (f x)
get-map f [] k x e = absurd (none-some x e)
get-map f (y ∷ xs) zero x e = ap (λ z. Some (f z)) (same_Some y x e)
get-map f (y ∷ xs) (suc k) x e = get-map f xs k x e

pub of-get_map : {A B : Type 0} (f : A → B) (xs : List A) (k : ℕ) (y : B) → slice_get (map f xs) k ≡ Some y → (x : A) × ((slice_get xs k ≡ Some x) × (y ≡ f x))
of-get_map f [] k y e = cc
of-get_map f (x ∷ xs) zero y e = let p : f x ≡ y = cc in (x, (refl, sym p))
of-get_map f (x ∷ xs) (suc k) y e = of-get_map f xs k y e

pub of-image : {A B : Type 0} (f : A → B) (xs : List A) (n : ℕ) (y : B) → slice_get (map f xs) n ≡ Some y → (x : A) × (slice_get xs n ≡ Some x) × (f x ≡ y)
of-image f [] n y e = absurd (none-some y e)
of-image f (x ∷ xs) zero y e = (x, refl, same_Some (f x) y e)
of-image f (x ∷ xs) (suc n) y e = of-image f xs n y e

pub get-map_read : {A B : Type 0} (f : A → B) (xs : List A) (k : ℕ) (x : A) → k < length xs → x ≡ get_or xs k x → slice_get (map f xs) k ≡ Some (f x)
get-map_read f xs k x l e = get-map f xs k x (get-read xs k x l e)

pub index-map : {A B : Type 0} (f : A → B) (xs : List A) (k : ℕ) (x : A) (d : B) → slice_get xs k ≡ Some x → slice_index_or (map f xs) k d ≡ f x
index-map f [] k x d e = absurd (none-some x e)
index-map f (y ∷ xs) zero x d e = ap f (same_Some y x e)
index-map f (y ∷ xs) (suc k) x d e = index-map f xs k x d e

pub get-map_range : (f : ℕ → ℕ) (m n : ℕ) → n < m → slice_get (map f (range_with_len 0 m)) n ≡ Some (f n)
get-map_range f m n l =
    let many = length-map-range_with_len f 0 m in
    let x = get-within (map f (range_with_len 0 m)) n (subst (λ k. n < k) (sym many) l) in
    x.1 ∙ ap (λ y. Some y) (sym (get_or_from_slice_get (map f (range_with_len 0 m)) n x.0 0 x.1) ∙ get_or-map-range_with_len f 0 m n n 0 l (omega arith))

pub range-more : (a n : ℕ) → range_with_len a (n + 1) ≡ range_with_len a n ++ (a + n) ∷ []
range-more a zero = let e : a ≡ a + 0 = omega arith in ap (λ k. k ∷ []) e
range-more a (suc n) =
    let e : a + 1 + n ≡ a + suc n = omega arith in
    ap (λ k. range_with_len a k) (plus n)
    ∙ ap (λ l. a ∷ l) (range-more (a + 1) n ∙ ap (λ k. range_with_len (a + 1) n ++ k ∷ []) e)
  where
    plus : (n : ℕ) → suc n + 1 ≡ suc (n + 1)
    plus n = omega arith

pub map-after : {A B C : Type 0} (g : B → C) (f : A → B) (xs : List A) → map (λ x. g (f x)) xs ≡ map g (map f xs)
map-after g f [] = refl
map-after g f (x ∷ xs) = ap (λ l. g (f x) ∷ l) (map-after g f xs)

pub map-take : {A B : Type 0} (f : A → B) (n : ℕ) (xs : List A) → map f (take n xs) ≡ take n (map f xs)
map-take f zero xs = refl
map-take f (suc n) [] = refl
map-take f (suc n) (x ∷ xs) = ap (λ l. f x ∷ l) (map-take f n xs)

pub flat-singles : {A : Type 0} (xs : List A) → flat_map (λ x. x ∷ []) xs ≡ xs
flat-singles [] = refl
flat-singles (x ∷ xs) = ap (λ l. x ∷ l) (flat-singles xs)

pub flat-flat : {A B C : Type 0} (g : B → List C) (f : A → List B) (xs : List A) → flat_map g (flat_map f xs) ≡ flat_map (λ x. flat_map g (f x)) xs
flat-flat g f [] = refl
flat-flat g f (x ∷ xs) = flat_map-append g (f x) (flat_map f xs) ∙ ap (λ l. flat_map g (f x) ++ l) (flat-flat g f xs)

-- ---- filters, and tests of all

pub filter-all : {A : Type 0} (xs : List A) → filter (λ x. true) xs ≡ xs
filter-all [] = refl
filter-all (x ∷ xs) = ap (λ l. x ∷ l) (filter-all xs)

pub filter-map : {A B : Type 0} (p : B → Bool) (f : A → B) (xs : List A) → filter p (map f xs) ≡ map f (filter (λ x. p (f x)) xs)
filter-map p f [] = refl
filter-map p f (x ∷ xs) = by (p (f x)) (filter-map p f xs)
  where
    by : (b : Bool) → filter p (map f xs) ≡ map f (filter (λ y. p (f y)) xs) → cond b (f x ∷ filter p (map f xs)) (filter p (map f xs)) ≡ map f (cond b (x ∷ filter (λ y. p (f y)) xs) (filter (λ y. p (f y)) xs))
    by true e = ap (λ l. f x ∷ l) e
    by false e = e

pub all-weaken : {A : Type 0} (p q : A → Bool) → ((x : A) → p x ≡ true → q x ≡ true) → (xs : List A) → list_all p xs ≡ true → list_all q xs ≡ true
all-weaken p q w [] h = refl
all-weaken p q w (x ∷ xs) h = let r = and_parts (p x) (list_all p xs) h in and_from (q x) _ (w x r.0) (all-weaken p q w xs r.1)

pub all-second : {A : Type 0} (p : A → Bool) (xs ys : List A) → list_all p (xs ++ ys) ≡ true → list_all p ys ≡ true
all-second p [] ys h = h
all-second p (x ∷ xs) ys h = all-second p xs ys (and_parts (p x) (list_all p (xs ++ ys)) h).1

-- ---- parts

pub append-none : {A : Type 0} (xs ys : List A) → xs ++ ys ≡ [] → (xs ≡ []) × (ys ≡ [])
append-none [] ys e = (refl, e)
append-none (x ∷ xs) ys e = cc

pub permute-front : {A : Type 0} (a b c : List A) → IsPermutation (a ++ (b ++ c)) (b ++ (a ++ c))
permute-front a b c =
    subst (λ l. IsPermutation l (b ++ (a ++ c))) (append_assoc a b c)
    (subst (λ l. IsPermutation ((a ++ b) ++ c) l) (append_assoc b a c) (IsPermutation-append_left c (a ++ b) (b ++ a) (IsPermutation-append_comm a b)))
