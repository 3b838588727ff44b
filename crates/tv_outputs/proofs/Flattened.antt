-- Lists that are made of lists have no two things that are the same, where the lists don't and no two share one.
use Rattle.std.specs.List.{All, AllPairs, range_with_len}
use Rattle.std.specs.Prelude.{◌≡◌, ◌≢◌, ℕ, ◌<◌, List, [], ◌∷◌, ◌++◌, flat_map, length, map, slice_index_or}
use Rattle.std.proofs.Common.{arith, sym, subst, ◌∙◌}
use Rattle.std.proofs.lemmas.List.Elements.{All-append}
use Rattle.std.proofs.lemmas.List.FromFn.{get_or-map-range_with_len, length-map-range_with_len}
use Rattle.std.proofs.lemmas.List.Kept.{AllPairs-cons}
use Rattle.tv_outputs.specs.Stated.{AreDifferent}
use Rattle.tv_outputs.proofs.Counting.{all-first, all-rest, pairs-first, pairs-rest}

-- ---- one list behind another

pub pairs-append : {A : Type 0} (R : A → A → Type 0) (xs ys : List A) → AllPairs R xs → AllPairs R ys → All (λ x. All (R x) ys) xs → AllPairs R (xs ++ ys)
pairs-append R [] ys a b c = b
pairs-append R (x ∷ xs) ys a b c =
    AllPairs-cons R x (xs ++ ys) (All-append (R x) xs ys (pairs-first R x xs a) (all-first (λ z. All (R z) ys) x xs c))
    (pairs-append R xs ys (pairs-rest R x xs a) b (all-rest (λ z. All (R z) ys) x xs c))

-- ---- lists of each

module _ {A B : Type 0} (f : A → List B) where
  pub all-flat : (P : A → Type 0) (Q : B → Type 0) (xs : List A) → All P xs → ((x : A) → P x → All Q (f x)) → All Q (flat_map f xs)
  all-flat P Q [] a h = λ k d l. absurd (none k l)
    where
      none : (k : ℕ) → k < 0 → ⊥
      none k l = omega arith
  all-flat P Q (x ∷ xs) a h = All-append Q (f x) (flat_map f xs) (h x (all-first P x xs a)) (all-flat P Q xs (all-rest P x xs a) h)

  module _ (P : A → Type 0) (own : (x : A) → P x → AreDifferent (f x)) (apart : (x y : A) → P x → P y → x ≢ y → All (λ b. All (λ c. b ≢ c) (f y)) (f x)) where
    others : (x : A) → P x → (xs : List A) → All P xs → All (λ y. x ≢ y) xs → All (λ b. All (λ c. b ≢ c) (flat_map f xs)) (f x)
    others x p xs a differ k d l = all-flat (λ y. P y × (x ≢ y)) (λ c. slice_index_or (f x) k d ≢ c) xs (λ j e m. (a j e m, differ j e m)) (λ y h. apart x y p h.0 h.1 k d l)

    pub flat-different : (xs : List A) → All P xs → AreDifferent xs → AreDifferent (flat_map f xs)
    flat-different [] a differ = λ i j d l m. absurd (none j m)
      where
        none : (k : ℕ) → k < 0 → ⊥
        none k l = omega arith
    flat-different (x ∷ xs) a differ =
        let p = all-first P x xs a in
        let rest = all-rest P x xs a in
        pairs-append (λ b c. b ≢ c) (f x) (flat_map f xs) (own x p) (flat-different xs rest (pairs-rest (λ y z. y ≢ z) x xs differ)) (others x p xs rest (pairs-first (λ y z. y ≢ z) x xs differ))

-- ---- what stands at the numbers below another

module _ {B : Type 0} (g : ℕ → B) (n : ℕ) where
  within : (k : ℕ) → k < length (map g (range_with_len 0 n)) → k < n
  within k l = subst (λ m. k < m) (length-map-range_with_len g 0 n) l

  read : (k : ℕ) (d : B) → k < length (map g (range_with_len 0 n)) → slice_index_or (map g (range_with_len 0 n)) k d ≡ g k
  read k d l = get_or-map-range_with_len g 0 n k k d (within k l) (omega arith)

  pub all-numbered : (Q : B → Type 0) → ((k : ℕ) → k < n → Q (g k)) → All Q (map g (range_with_len 0 n))
  all-numbered Q h k d l = subst Q (sym (read k d l)) (h k (within k l))

  pub numbered-different : ((i j : ℕ) → g i ≡ g j → i ≡ j) → AreDifferent (map g (range_with_len 0 n))
  numbered-different own i j d less l e = differ i j less (own i j (sym (read i d (before i j (length (map g (range_with_len 0 n))) less l)) ∙ e ∙ read j d l))
    where
      before : (i j m : ℕ) → i < j → j < m → i < m
      before i j m h k = omega arith

      differ : (i j : ℕ) → i < j → i ≡ j → ⊥
      differ i j h k = omega arith
