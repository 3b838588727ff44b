-- Members of lists, and lists whose members have keys of their own.
use Rattle.std.specs.Prelude.{◌≡◌, refl, ℕ, suc, ◌≤◌, ◌⊎◌, List, [], ◌∷◌, ◌++◌, flat_map}
use Rattle.std.proofs.Common.{arith, sym, ap, ◌∙◌, inl, inr, append_assoc, append-nil}
use Rattle.tv_lemmas.specs.Members.{In}
use Rattle.tv_lemmas.proofs.Members.{in-append, of-flat}
use Rattle.tv_value.specs.Nested.{leaf, list, no_trees, tree, Place, nodes, nodes_below, nodes_from}
use Rattle.tv_strategy.specs.Iterations.{Iteration, Iterations}
use Rattle.tv_model.specs.Lists.{rest_of}
use Rattle.tv_model.specs.JobOrder.{Apart}
use Rattle.tv_model.proofs.Sound.{cancel}

-- ---- keys

pub apart-append : {A K : Type 0} (key : A → K) (xs ys : List A) → Apart key xs → Apart key ys → ((x y : A) → In x xs → In y ys → key y ≡ key x → ⊥) → Apart key (xs ++ ys)
apart-append key [] ys a b f = b
apart-append {A = A} key (x ∷ xs) ys a b f = (λ y h e. by y (in-append y xs ys h) e, apart-append key xs ys a.1 b (λ u v i k e. f u v (inr i) k e))
  where
    by : (y : A) → In y xs ⊎ In y ys → key y ≡ key x → ⊥
    by y (inl h) e = a.0 y h e
    by y (inr h) e = f x y (inl refl) h e

pub once-of_apart : {A K : Type 0} (key : A → K) (xs : List A) → Apart key xs → (x y : A) → In x xs → In y xs → key x ≡ key y → x ≡ y
once-of_apart key [] a x y h k e = absurd h
once-of_apart key (z ∷ xs) a x y (inl p) (inl q) e = p ∙ sym q
once-of_apart key (z ∷ xs) a x y (inl p) (inr k) e = absurd (a.0 y k (sym e ∙ ap key p))
once-of_apart key (z ∷ xs) a x y (inr h) (inl q) e = absurd (a.0 x h (e ∙ ap key q))
once-of_apart key (z ∷ xs) a x y (inr h) (inr k) e = once-of_apart key xs a.1 x y h k e

-- where one key of what they give means one key of theirs
pub apart-flat : {A B H K : Type 0} (h : A → H) (key : B → K) (f : A → List B) (xs : List A) → Apart h xs → ((x : A) → In x xs → Apart key (f x)) → ((x z : A) → In x xs → In z xs → (y w : B) → In y (f x) → In w (f z) → key y ≡ key w → h x ≡ h z) → Apart key (flat_map f xs)
apart-flat h key f [] a own same = tt
apart-flat h key f (x ∷ xs) a own same =
    apart-append key (f x) (flat_map f xs) (own x (inl refl)) (apart-flat h key f xs a.1 (λ y i. own y (inr i)) (λ y z i k. same y z (inr i) (inr k)))
    (λ y w i k e. let r = of-flat f w xs k in a.0 r.0 r.1 (same r.0 x (inr r.1) (inl refl) w y r.2 i e))

-- ---- the places of a tree are apart

pub not-longer : {A : Type 0} (xs : List A) (a : A) (r : List A) → xs ≡ xs ++ a ∷ r → ⊥
not-longer xs a r e = nothing (cancel xs [] (a ∷ r) (append-nil xs ∙ e))
  where
    nothing : [] ≡ a ∷ r → ⊥
    nothing f = cc

from-either : (t : Iteration) (ts : Iterations) (q : Place) (i : ℕ) (x : Place × Iteration) → In x (nodes_below (q ++ i ∷ []) t) ⊎ In x (nodes_from q (suc i) ts) → (In x (nodes_below (q ++ i ∷ []) t) → (r : Place) × (x.0 ≡ (q ++ i ∷ []) ++ r)) → (In x (nodes_from q (suc i) ts) → (j : ℕ) × (r : Place) × (suc i ≤ j) × (x.0 ≡ q ++ j ∷ r)) → (j : ℕ) × (r : Place) × (i ≤ j) × (x.0 ≡ q ++ j ∷ r)
from-either t ts q i x (inl k) f g = let r = f k in (i, r.0, omega arith, r.1 ∙ append_assoc q (i ∷ []) r.0)
from-either t ts q i x (inr k) f g = let r = g k in (r.0, r.1, omega (arith, r.2), r.3)

mutual
  below-place : (t : Iteration) (q : Place) (x : Place × Iteration) → In x (nodes_below q t) → (r : Place) × (x.0 ≡ q ++ r)
  below-place (leaf s e) q x (inl p) = ([], ap (λ y. y.0) p ∙ sym (append-nil q))
  below-place (leaf s e) q x (inr h) = absurd h
  below-place (list s ts) q x (inl p) = ([], ap (λ y. y.0) p ∙ sym (append-nil q))
  below-place (list s ts) q x (inr h) = let r = from-place ts q 0 x h in (r.0 ∷ r.1, r.3)

  from-place : (ts : Iterations) (q : Place) (i : ℕ) (x : Place × Iteration) → In x (nodes_from q i ts) → (j : ℕ) × (r : Place) × (i ≤ j) × (x.0 ≡ q ++ j ∷ r)
  from-place no_trees q i x h = absurd h
  from-place (tree t ts) q i x h = from-either t ts q i x (in-append x (nodes_below (q ++ i ∷ []) t) (nodes_from q (suc i) ts) h) (λ k. below-place t (q ++ i ∷ []) x k) (λ k. from-place ts q (suc i) x k)

abbrev first_index : ℕ → Place → ℕ
first_index d [] = d
first_index d (i ∷ q) = i

differ : (q : Place) (i : ℕ) (x y : Place × Iteration) → (r : Place) × (x.0 ≡ (q ++ i ∷ []) ++ r) → (j : ℕ) × (r : Place) × (suc i ≤ j) × (y.0 ≡ q ++ j ∷ r) → y.0 ≡ x.0 → ⊥
differ q i x y a b e =
    let same = ap (first_index 0) (cancel q (b.0 ∷ b.1) (i ∷ a.0) (sym b.3 ∙ e ∙ a.1 ∙ append_assoc q (i ∷ []) a.0)) in omega (arith, same, b.2)

mutual
  below-apart : (t : Iteration) (q : Place) → Apart (λ x. x.0) (nodes_below q t)
  below-apart (leaf s e) q = (λ y h e. absurd h, tt)
  below-apart (list s ts) q = (λ y h e. let r = from-place ts q 0 y h in not-longer q r.0 r.1 (sym e ∙ r.3), from-apart ts q 0)

  from-apart : (ts : Iterations) (q : Place) (i : ℕ) → Apart (λ x. x.0) (nodes_from q i ts)
  from-apart no_trees q i = tt
  from-apart (tree t ts) q i = apart-append (λ x. x.0) (nodes_below (q ++ i ∷ []) t) (nodes_from q (suc i) ts) (below-apart t (q ++ i ∷ [])) (from-apart ts q (suc i)) (λ x y h k e. differ q i x y (below-place t (q ++ i ∷ []) x h) (from-place ts q (suc i) y k) e)

pub nodes-apart : (t : Iteration) → Apart (λ x. x.0) (nodes t)
nodes-apart t = below-apart t []

-- ---- names

pub no-nil : {A : Type 0} (ys : List A) (b : A) → [] ≡ ys ++ b ∷ [] → ⊥
no-nil [] b e = cc
no-nil (y ∷ ys) b e = cc

-- a list with one more at its end determines both
pub snoc-parts : {A : Type 0} (d : A) (xs ys : List A) (a b : A) → xs ++ a ∷ [] ≡ ys ++ b ∷ [] → (xs ≡ ys) × (a ≡ b)
snoc-parts d [] [] a b e = (refl, cc)
snoc-parts d [] (y ∷ ys) a b e = absurd (no-nil ys b (ap rest_of e))
snoc-parts d (x ∷ xs) [] a b e = absurd (no-nil xs a (sym (ap rest_of e)))
snoc-parts {A = A} d (x ∷ xs) (y ∷ ys) a b e = let r = snoc-parts d xs ys a b (ap rest_of e) in (ap (λ l. x ∷ l) r.0 ∙ ap (λ z. z ∷ ys) (heads x y (xs ++ a ∷ []) (ys ++ b ∷ []) e), r.1)
  where
    heads : (x y : A) (us vs : List A) → x ∷ us ≡ y ∷ vs → x ≡ y
    heads x y us vs e = cc
