-- Members of mapped, joined and permuted lists.
use Rattle.std.specs.Prelude.{◌≡◌, refl, List, [], ◌∷◌, Bool, true, false, IsPermutation}
use Rattle.std.specs.List.{AllByRecursion}
use Rattle.std.proofs.Common.{inl, inr}
use Rattle.std.proofs.lemmas.List.Sorted.{All-permutation}
use Rattle.std.proofs.lemmas.List.Elements.{All-from_recursion, recursion_from_All}
use Rattle.tv_lemmas.specs.Members.{Each, In}
use Rattle.tv_lemmas.proofs.Members.{each_in, in_each}
use Rattle.tv_matching.specs.Items.{if_so}

pub in-if : {A : Type 0} (b : Bool) (x : A) → b ≡ true → In x (if_so b x)
in-if true x h = inl refl
in-if false x h = absurd (cc)

pub of-if : {A : Type 0} (b : Bool) (x y : A) → In y (if_so b x) → (b ≡ true) × (y ≡ x)
of-if true x y (inl p) = (refl, p)
of-if true x y (inr h) = absurd h
of-if false x y h = absurd h

to_recursion : {A : Type 0} (P : A → Type 0) (xs : List A) → Each P xs → AllByRecursion P xs
to_recursion P [] h = tt
to_recursion P (x ∷ xs) h = (h.0, to_recursion P xs h.1)

of_recursion : {A : Type 0} (P : A → Type 0) (xs : List A) → AllByRecursion P xs → Each P xs
of_recursion P [] h = tt
of_recursion P (x ∷ xs) h = (h.0, of_recursion P xs h.1)

pub each-permutes : {A : Type 0} (P : A → Type 0) (xs ys : List A) → IsPermutation xs ys → Each P xs → Each P ys
each-permutes P xs ys h e = of_recursion P ys (recursion_from_All P ys (All-permutation P xs ys h (All-from_recursion P xs (to_recursion P xs e))))

pub in-permutes : {A : Type 0} (x : A) (xs ys : List A) → IsPermutation xs ys → In x ys → In x xs
in-permutes x xs ys h k = each_in (λ y. In y xs) ys (each-permutes (λ y. In y xs) xs ys h (in_each (λ y. In y xs) xs (λ y i. i))) x k
