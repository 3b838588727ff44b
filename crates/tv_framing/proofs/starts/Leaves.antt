-- What a leaf is told, among what is told of all leaves of a step.
use Rattle.std.specs.List.{list_all}
use Rattle.std.specs.Prelude.{◌≡◌, refl, ℕ, zero, suc, Bool, true, false, List, [], ◌∷◌, ◌++◌, flat_map, if◌then◌else◌, map, IsPermutation, Some}
use Rattle.std.specs.Ordering.{is_lt}
use Rattle.std.proofs.Common.{sym, ap, ap₂, subst, ◌∙◌, append-nil, inl, inr}
use Rattle.std.proofs.lemmas.Bool.{and_parts}
use Rattle.tv_lemmas.specs.Members.{Each, In}
use Rattle.tv_lemmas.proofs.Orderings.{is_lt-less}
use Rattle.tv_value.specs.Nested.{Place, Tree, Trees, leaf, list, no_trees, tree}
use Rattle.tv_value.specs.Orders.{name_cmp, named, same_name}
use Rattle.tv_value.specs.Values.{Name, Scalar, fault, holds_fault, text}
use Rattle.tv_value.proofs.NameLemmas.{same_name-is, same_name-refl, same_name-sym}
use Rattle.tv_flow.specs.Formed.{is_ascending}
use Rattle.tv_strategy.specs.Origins.{Traced}
use Rattle.tv_strategy.proofs.Sources.{each-append}
use Rattle.tv_naming.proofs.ByPosition.{below-differs, names_of}
use Rattle.tv_matching.specs.Items.{Item, if_so, item}
use Rattle.tv_matching.specs.Told.{Spot, Told, item_there, tellings, told_kind, told_leaf, told_place, told_to}
use Rattle.tv_matching.proofs.Permutes.{flat-permutes}
use Rattle.tv_matching.proofs.LawLemmas.{told-more}
use Rattle.tv_telling.specs.ValueTellings.{value_told, values_told}
use Rattle.tv_framing.specs.PortTellings.{seen_told}
use Rattle.tv_framing.proofs.engine.Told.{bound-to, IsTo}

-- ---- parts of a list

pub each-first : {A : Type 0} (P : A → Type 0) (xs ys : List A) → Each P (xs ++ ys) → Each P xs
each-first P [] ys h = tt
each-first P (x ∷ xs) ys h = (h.0, each-first P xs ys h.1)

pub each-last : {A : Type 0} (P : A → Type 0) (xs ys : List A) → Each P (xs ++ ys) → Each P ys
each-last P [] ys h = h
each-last P (x ∷ xs) ys h = each-last P xs ys h.1

-- ---- one leaf

mutual
  pub value-to : {N : Type 0} (m : Name) (k : ℕ) (q : Place) (v : Tree N Scalar) → IsTo m (value_told m k q v)
  value-to m zero q v = (bound-to m q (holds_fault v), tt)
  value-to m (suc k) q (leaf n (text t)) = tt
  value-to m (suc k) q (leaf n (fault e)) = (refl, tt)
  value-to m (suc k) q (list n ts) = (refl, values-to m k q 0 ts)

  values-to : {N : Type 0} (m : Name) (k : ℕ) (q : Place) (i : ℕ) (ts : Trees N Scalar) → IsTo m (values_told m k q i ts)
  values-to m k q i no_trees = tt
  values-to m k q i (tree t ts) =
      each-append (λ t. told_leaf t ≡ m) (value_told m k (q ++ i ∷ []) t) (values_told m k q (suc i) ts) (value-to m k (q ++ i ∷ []) t) (values-to m k q (suc i) ts)

-- what is told of one leaf is told to it, and to no other
pub own-told : (values : Name → Traced) (p : Name) (ts : List Told) → IsTo p ts → map (item_there values) (told_to ts p) ≡ map (seen_told values) ts
own-told values p [] h = refl
own-told values p (t ∷ ts) h =
    ap (λ b. map (item_there values) (if_so b (item (told_place t) (told_kind t)) ++ told_to ts p)) (ap (same_name p) h.0 ∙ same_name-refl p)
    ∙ ap (λ l. seen_told values t ∷ l) (own-told values p ts h.1)

pub other-told : (p m : Name) (ts : List Told) → same_name p m ≡ false → IsTo m ts → told_to ts p ≡ []
other-told p m [] e h = refl
other-told p m (t ∷ ts) e h =
    ap (λ b. if_so b (item (told_place t) (told_kind t)) ++ told_to ts p) (ap (same_name p) h.0 ∙ e) ∙ other-told p m ts e h.1

pub told-permutes : (ts us : List Told) → IsPermutation (tellings ts) (tellings us) → (p : Name) → IsPermutation (told_to ts p) (told_to us p)
told-permutes ts us h p = flat-permutes (λ t. if_so (same_name p t.leaf) t.item) (tellings ts) (tellings us) h

-- ---- the leaves of a list of names in order

abbrev pub Later : {A : Type 0} → Name → List (Name × A) → Type 0
Later n xs = Each (λ x. same_name x.0 n ≡ false) xs

later : {A : Type 0} (n : Name) (xs : List (Name × A)) → list_all (λ m. is_lt (name_cmp n m)) (names_of xs) ≡ true → Later n xs
later n [] h = tt
later n (x ∷ xs) h =
    let b = and_parts (is_lt (name_cmp n x.0)) (list_all (λ m. is_lt (name_cmp n m)) (names_of xs)) h in
    (below-differs n x.0 (is_lt-less (name_cmp n x.0) b.0), later n xs b.1)

among : {A : Type 0} (n : Name) (x : Name × A) (xs : List (Name × A)) → Later n xs → In x xs → same_name x.0 n ≡ false
among n x [] h i = absurd i
among n x (z ∷ xs) h (inl e) = ap (λ w. same_name w.0 n) e ∙ h.0
among n x (z ∷ xs) h (inr i) = among n x xs h.1 i

-- each of these names is found with its own thing
pub named-own : {A B : Type 0} (F : Name × A → B) (xs : List (Name × A)) → is_ascending (names_of xs) ≡ true → (x : Name × A) → In x xs → named x.0 (map (λ y. (y.0, F y)) xs) ≡ Some (F x)
named-own F [] h x i = absurd i
named-own F (y ∷ xs) h x (inl e) =
    ap (λ z. named z.0 (map (λ y. (y.0, F y)) (y ∷ xs))) e
    ∙ ap (λ b. if b then Some (F y) else named y.0 (map (λ y. (y.0, F y)) xs)) (same_name-refl y.0)
    ∙ ap (λ z. Some (F z)) (sym e)
named-own F (y ∷ xs) h x (inr i) =
    let b = and_parts (list_all (λ m. is_lt (name_cmp y.0 m)) (names_of xs)) (is_ascending (names_of xs)) h in
    ap (λ c. if c then Some (F y) else named x.0 (map (λ y. (y.0, F y)) xs)) (among y.0 x xs (later y.0 xs b.0) i) ∙ named-own F xs b.1 x i

module _ {A : Type 0} (F : Name × A → List Told) (to : (x : Name × A) → IsTo x.0 (F x)) where
  -- a leaf that none of these names is told nothing
  none-told : (n : Name) (xs : List (Name × A)) → Later n xs → told_to (flat_map F xs) n ≡ []
  none-told n [] h = refl
  none-told n (x ∷ xs) h =
      told-more (F x) (flat_map F xs) n
      ∙ ap₂ (λ a b. a ++ b) (other-told n x.0 (F x) (same_name-sym n x.0 ∙ h.0) (to x)) (none-told n xs h.1)

  -- each is told what is told of it
  pub told-at : (xs : List (Name × A)) → is_ascending (names_of xs) ≡ true → (x : Name × A) → In x xs → told_to (flat_map F xs) x.0 ≡ told_to (F x) x.0
  told-at [] h x i = absurd i
  told-at (y ∷ xs) h x (inl e) =
      let b = and_parts (list_all (λ m. is_lt (name_cmp y.0 m)) (names_of xs)) (is_ascending (names_of xs)) h in
      told-more (F y) (flat_map F xs) x.0
      ∙ ap (λ n. told_to (F y) x.0 ++ told_to (flat_map F xs) n) (ap (λ (z : Name × A). z.0) e)
      ∙ ap (λ l. told_to (F y) x.0 ++ l) (none-told y.0 xs (later y.0 xs b.0))
      ∙ append-nil (told_to (F y) x.0)
      ∙ ap (λ z. told_to (F z) x.0) (sym e)
  told-at (y ∷ xs) h x (inr i) =
      let b = and_parts (list_all (λ m. is_lt (name_cmp y.0 m)) (names_of xs)) (is_ascending (names_of xs)) h in
      told-more (F y) (flat_map F xs) x.0
      ∙ ap (λ l. l ++ told_to (flat_map F xs) x.0) (other-told x.0 y.0 (F y) (among y.0 x xs (later y.0 xs b.0) i) (to y))
      ∙ told-at xs b.1 x i

  -- what is so of nothing and of each is so of every leaf
  pub told-any : (P : List (Item Spot Spot) → Type 0) → P [] → (xs : List (Name × A)) → is_ascending (names_of xs) ≡ true → Each (λ x. P (told_to (F x) x.0)) xs → (n : Name) → P (told_to (flat_map F xs) n)
  told-any P none [] h each n = none
  told-any P none (y ∷ xs) h each n = by (same_name n y.0) refl (told-any P none xs (and_parts (list_all (λ m. is_lt (name_cmp y.0 m)) (names_of xs)) (is_ascending (names_of xs)) h).1 each.1 n)
    where
      by : (b : Bool) → same_name n y.0 ≡ b → P (told_to (flat_map F xs) n) → P (told_to (flat_map F (y ∷ xs)) n)
      by true e k = subst (λ m. P (told_to (flat_map F (y ∷ xs)) m)) (sym (same_name-is n y.0 e)) (subst P (sym (told-at (y ∷ xs) h y (inl refl))) each.0)
      by false e k = subst P (sym (told-more (F y) (flat_map F xs) n ∙ ap (λ l. l ++ told_to (flat_map F xs) n) (other-told n y.0 (F y) e (to y)))) k
