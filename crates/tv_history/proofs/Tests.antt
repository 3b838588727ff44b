-- Tests of a list by its members, and of two tests at once.
use Rattle.std.specs.Prelude.{◌≡◌, refl, ℕ, ◌+◌, ◌≤◌, ◌⊎◌, List, [], ◌∷◌, Bool, true, false, ◌&&◌, if◌then◌else◌, cond, Some, nat_lt, count_by, find}
use Rattle.std.specs.List.{list_any, list_all}
use Rattle.std.specs.Option.{option_map_or}
use Rattle.std.proofs.Common.{arith, sym, ap, subst, ◌∙◌, inl, inr}
use Rattle.std.proofs.lemmas.Bool.{false_from_ne_true, lt-ltb, or_parts}
use Rattle.std.proofs.lemmas.List.Sums.{sum_by-cons}
use Rattle.std.proofs.lemmas.Option.{same_Some, none-some}
use Rattle.tv_lemmas.specs.Members.{Each, In}
use Rattle.tv_lemmas.proofs.Members.{of-all}
use Rattle.tv_value.specs.Orders.{same_job}
use Rattle.tv_value.specs.Values.{JobName}
use Rattle.tv_value.proofs.JobNameLemmas.{same_job_decides}
use Rattle.tv_model.specs.Lists.{first_of_list, rest_of}
use Rattle.tv_lemmas.proofs.Cases.{on_either, on_or}
use Rattle.tv_model.proofs.Tests.{true≠false, or_right}
use Rattle.tv_model.proofs.Turns.{or_left}

pub if-fails : (b c : Bool) → (if b then c else true) ≡ false → (b ≡ true) × (c ≡ false)
if-fails true c h = (refl, h)
if-fails false c h = absurd (true≠false h)

-- a name is itself
pub same-itself : (n : JobName) → same_job n n ≡ true
same-itself n = (same_job_decides n n).1 refl

-- no member passes
pub none_pass : {A : Type 0} (p : A → Bool) (xs : List A) → list_any p xs ≡ false → Each (λ x. p x ≡ false) xs
none_pass p [] h = tt
none_pass p (x ∷ xs) h = ((or_parts (p x) (list_any p xs) h).0, none_pass p xs (or_parts (p x) (list_any p xs) h).1)

pub any_weaken : {A : Type 0} (p q : A → Bool) → ((x : A) → p x ≡ true → q x ≡ true) → (xs : List A) → list_any p xs ≡ true → list_any q xs ≡ true
any_weaken p q f [] h = h
any_weaken p q f (x ∷ xs) h = on_or (p x) (list_any p xs) h (λ k. or_left (q x) (list_any q xs) (f x k)) (λ k. or_right (q x) (list_any q xs) (any_weaken p q f xs k))

-- what is found is a member and passes
pub found_in : {A : Type 0} (p q : A → Bool) (xs : List A) → option_map_or p (find q xs) false ≡ true → (x : A) × In x xs × (q x ≡ true) × (p x ≡ true)
found_in p q [] h = absurd (true≠false (sym h))
found_in {A = A} p q (x ∷ xs) h = by (q x) refl h (λ k. found_in p q xs k)
  where
    by : (b : Bool) → q x ≡ b → option_map_or p (cond b (Some x) (find q xs)) false ≡ true → (option_map_or p (find q xs) false ≡ true → (y : A) × In y xs × (q y ≡ true) × (p y ≡ true)) → (y : A) × In y (x ∷ xs) × (q y ≡ true) × (p y ≡ true)
    by true e k rec = (x, inl refl, e, k)
    by false e k rec = let r = rec k in (r.0, inr r.1, r.2, r.3)

pub first-in : {A : Type 0} (x : A) (xs : List A) → first_of_list xs ≡ Some x → In x xs
first-in x [] h = absurd (none-some x h)
first-in x (y ∷ ys) h = inl (sym (same_Some y x h))

pub rest-in : {A : Type 0} (x : A) (xs : List A) → In x (rest_of xs) → In x xs
rest-in x [] i = i
rest-in x (y ∷ ys) i = inr i

-- one that fails
pub fails_in : {A : Type 0} (p : A → Bool) (xs : List A) → list_all p xs ≡ false → (x : A) × In x xs × (p x ≡ false)
fails_in p [] h = absurd (true≠false h)
fails_in {A = A} p (x ∷ xs) h = by (p x) refl h (λ k. fails_in p xs k)
  where
    by : (b : Bool) → p x ≡ b → (b && list_all p xs) ≡ false → (list_all p xs ≡ false → (y : A) × In y xs × (p y ≡ false)) → (y : A) × In y (x ∷ xs) × (p y ≡ false)
    by false e k rec = (x, inl refl, e)
    by true e k rec = let r = rec k in (r.0, inr r.1, r.2)

pub all-fails : {A : Type 0} (p : A → Bool) (x : A) (xs : List A) → In x xs → p x ≡ false → list_all p xs ≡ false
all-fails p x xs h e = false_from_ne_true (list_all p xs) (λ g. true≠false (sym (of-all p xs g x h) ∙ e))

-- where a count isn't 0, something is counted
counted : {A : Type 0} (p : A → Bool) (xs : List A) → (count_by p xs ≡ 0) ⊎ ((x : A) × In x xs × (p x ≡ true))
counted p [] = inl refl
counted {A = A} p (x ∷ xs) = by (p x) refl (counted p xs)
  where
    by : (b : Bool) → p x ≡ b → (count_by p xs ≡ 0) ⊎ ((y : A) × In y xs × (p y ≡ true)) → (count_by p (x ∷ xs) ≡ 0) ⊎ ((y : A) × In y (x ∷ xs) × (p y ≡ true))
    by true e r = inr (x, inl refl, e)
    by false e (inr r) = inr (r.0, inr r.1, r.2)
    by false e (inl r) = inl (sum_by-cons (λ y. cond (p y) 1 0) x xs ∙ ap (λ b. cond b 1 0 + count_by p xs) e ∙ (omega (arith, r)))

-- a place is free, or something is counted
pub full : {A : Type 0} (p : A → Bool) (xs : List A) (limit : ℕ) → 1 ≤ limit → nat_lt (count_by p xs) limit ≡ false → (x : A) × In x xs × (p x ≡ true)
full {A = A} p xs limit w h = on_either (counted p xs) (λ e. absurd (true≠false (sym (lt-ltb 0 limit w) ∙ subst (λ n. nat_lt n limit ≡ false) e h))) (λ r. r)
