-- Loops over items.
use Rattle.std.specs.Prelude.{◌≡◌, refl, ℕ, zero, suc, ◌+◌, ◌≤◌, ◌<◌, Bool, true, false, cond, find, List, [], ◌∷◌, ◌++◌, length, map, take, Option, Some, None}
use Rattle.std.proofs.Common.{sym, ap, ap₂, subst, ◌∙◌, append-nil, append_assoc, get_or, le_of_suc-le-suc, not-suc-le-zero, add-zero, zero-add}
use Rattle.std.proofs.Math.Numerals.{suc-eq-add-one}
use Rattle.tv_lemmas.proofs.Numbers.{none-below, less-back, suc-plus}
use Rattle.tv_value.specs.Nested.{Place, Tree, trees_of}
use Rattle.tv_value.specs.Values.{JobName}
use Rattle.tv_lineage.specs.Touching.{Mark}
use Rattle.tv_traces.specs.Leaves.{leaf_places, places_from}
use Rattle.tv_traces.specs.Shapes.{shape_used, shapes_used}
use Rattle.tv_traces.specs.Views.{node_view, nodes_view}
use Rattle.tv_traces.specs.declared.node.Node.{Node}

-- ---- the first that passes a test

module _ {A : Type 0} (p : A → Bool) where
  rest-none : (y : A) (xs : List A) → find p (y ∷ xs) ≡ None → (p y ≡ false) × (find p xs ≡ None)
  rest-none y xs e = by (p y) refl e
    where
      by : (b : Bool) → p y ≡ b → cond b (Some y) (find p xs) ≡ None → (p y ≡ false) × (find p xs ≡ None)
      by true g h = absurd (cc)
      by false g h = (g, h)

  skip : (y : A) (xs : List A) (o : Option A) → p y ≡ false → find p xs ≡ o → find p (y ∷ xs) ≡ o
  skip y xs o e f = ap (λ b. cond b (Some y) (find p xs)) e ∙ f

  pub found-at : (xs : List A) (i : ℕ) (x : A) → find p (take i xs) ≡ None → i < length xs → x ≡ get_or xs i x → p x ≡ true → find p xs ≡ Some x
  found-at [] i x h lt is t = none-below i lt
  found-at (y ∷ xs) zero x h lt is t = ap (λ b. cond b (Some y) (find p xs)) (ap p (sym is) ∙ t) ∙ ap (λ z. Some z) (sym is)
  found-at (y ∷ xs) (suc i) x h lt is t = let r = rest-none y (take i xs) h in skip y xs (Some x) r.0 (found-at xs i x r.1 (less-back i (length xs) lt) is t)

  none-next : (xs : List A) (i : ℕ) (x : A) → find p (take i xs) ≡ None → i < length xs → x ≡ get_or xs i x → p x ≡ false → find p (take (suc i) xs) ≡ None
  none-next [] i x h lt is t = none-below i lt
  none-next (y ∷ xs) zero x h lt is t = skip y [] None (ap p (sym is) ∙ t) refl
  none-next (y ∷ xs) (suc i) x h lt is t = let r = rest-none y (take i xs) h in skip y (take (suc i) xs) None r.0 (none-next xs i x r.1 (less-back i (length xs) lt) is t)

  pub none-at : (xs : List A) (i : ℕ) (x : A) → find p (take i xs) ≡ None → i < length xs → x ≡ get_or xs i x → p x ≡ false → find p (take (i + 1) xs) ≡ None
  none-at xs i x h lt is t = subst (λ n. find p (take n xs) ≡ None) (suc-eq-add-one i) (none-next xs i x h lt is t)

  pub none-all : (xs : List A) (i : ℕ) → find p (take i xs) ≡ None → length xs ≤ i → find p xs ≡ None
  none-all [] i h le = refl
  none-all (y ∷ xs) zero h le = absurd (not-suc-le-zero {n = length xs} le)
  none-all (y ∷ xs) (suc i) h le = let r = rest-none y (take i xs) h in skip y xs None r.0 (none-all xs i r.1 (le_of_suc-le-suc {n = length xs} {m = i} le))

-- ---- places of leaves

module _ {B N A : Type 0} (g : B → Tree N A) where
  places-next : (q : Place) (j : ℕ) (xs : List B) (i : ℕ) (x : B) → i < length xs → x ≡ get_or xs i x → places_from q j (trees_of (map g (take (suc i) xs))) ≡ places_from q j (trees_of (map g (take i xs))) ++ leaf_places (q ++ (j + i) ∷ []) (g x)
  places-next q j [] i x lt is = none-below i lt
  places-next q j (y ∷ xs) zero x lt is = append-nil (leaf_places (q ++ j ∷ []) (g y)) ∙ ap₂ (λ k z. leaf_places (q ++ k ∷ []) (g z)) (sym (add-zero j)) (sym is)
  places-next q j (y ∷ xs) (suc i) x lt is =
      ap (λ l. leaf_places (q ++ j ∷ []) (g y) ++ l) (places-next q (suc j) xs i x (less-back i (length xs) lt) is)
      ∙ sym (append_assoc (leaf_places (q ++ j ∷ []) (g y)) (places_from q (suc j) (trees_of (map g (take i xs)))) (leaf_places (q ++ (suc j + i) ∷ []) (g x)))
      ∙ ap (λ k. (leaf_places (q ++ j ∷ []) (g y) ++ places_from q (suc j) (trees_of (map g (take i xs)))) ++ leaf_places (q ++ k ∷ []) (g x)) (suc-plus j i)

  pub places-more : (q : Place) (xs : List B) (i : ℕ) (x : B) → i < length xs → x ≡ get_or xs i x → (p : Place) → p ≡ q ++ i ∷ [] → (old now new : List Place) → now ≡ old ++ places_from q 0 (trees_of (map g (take i xs))) → new ≡ now ++ leaf_places p (g x) → new ≡ old ++ places_from q 0 (trees_of (map g (take (i + 1) xs)))
  places-more q xs i x lt is p e old now new h f =
      f ∙ ap₂ (λ a b. a ++ leaf_places b (g x)) h e
      ∙ append_assoc old (places_from q 0 (trees_of (map g (take i xs)))) (leaf_places (q ++ i ∷ []) (g x))
      ∙ ap (λ l. old ++ l) (ap (λ k. places_from q 0 (trees_of (map g (take i xs))) ++ leaf_places (q ++ k ∷ []) (g x)) (sym (zero-add i)) ∙ sym (places-next q 0 xs i x lt is) ∙ ap (λ n. places_from q 0 (trees_of (map g (take n xs)))) (suc-eq-add-one i))

-- ---- marks of items

module _ (name : Place → JobName) where
  used-next : (q : Place) (j : ℕ) (xs : List Node) (i : ℕ) (x : Node) → i < length xs → x ≡ get_or xs i x → shapes_used name q j (nodes_view (take (suc i) xs)) ≡ shapes_used name q j (nodes_view (take i xs)) ++ shape_used name (q ++ (j + i) ∷ []) (node_view x)
  used-next q j [] i x lt is = none-below i lt
  used-next q j (y ∷ xs) zero x lt is = append-nil (shape_used name (q ++ j ∷ []) (node_view y)) ∙ ap₂ (λ k z. shape_used name (q ++ k ∷ []) (node_view z)) (sym (add-zero j)) (sym is)
  used-next q j (y ∷ xs) (suc i) x lt is =
      ap (λ l. shape_used name (q ++ j ∷ []) (node_view y) ++ l) (used-next q (suc j) xs i x (less-back i (length xs) lt) is)
      ∙ sym (append_assoc (shape_used name (q ++ j ∷ []) (node_view y)) (shapes_used name q (suc j) (nodes_view (take i xs))) (shape_used name (q ++ (suc j + i) ∷ []) (node_view x)))
      ∙ ap (λ k. (shape_used name (q ++ j ∷ []) (node_view y) ++ shapes_used name q (suc j) (nodes_view (take i xs))) ++ shape_used name (q ++ k ∷ []) (node_view x)) (suc-plus j i)

  pub used-more : (q : Place) (xs : List Node) (i : ℕ) (x : Node) → i < length xs → x ≡ get_or xs i x → (p : Place) → p ≡ q ++ i ∷ [] → (old now new : List Mark) → now ≡ old ++ shapes_used name q 0 (nodes_view (take i xs)) → new ≡ now ++ shape_used name p (node_view x) → new ≡ old ++ shapes_used name q 0 (nodes_view (take (i + 1) xs))
  used-more q xs i x lt is p e old now new h f =
      f ∙ ap₂ (λ a b. a ++ shape_used name b (node_view x)) h e
      ∙ append_assoc old (shapes_used name q 0 (nodes_view (take i xs))) (shape_used name (q ++ i ∷ []) (node_view x))
      ∙ ap (λ l. old ++ l) (ap (λ k. shapes_used name q 0 (nodes_view (take i xs)) ++ shape_used name (q ++ k ∷ []) (node_view x)) (sym (zero-add i)) ∙ sym (used-next q 0 xs i x lt is) ∙ ap (λ n. shapes_used name q 0 (nodes_view (take n xs))) (suc-eq-add-one i))
