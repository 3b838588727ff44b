-- Nested lists as trees: every node has a note, and every leaf has a thing. Values, traced values and iterations are such trees.
use Rattle.std.specs.Prelude.{ℕ, zero, suc, List, [], ◌∷◌, ◌++◌, Option, Some, None, option_and_then}

mutual
  pub data Tree (N A : Type 0) : Type 0 where
    leaf : N → A → Tree N A
    list : N → Trees N A → Tree N A

  pub data Trees (N A : Type 0) : Type 0 where
    no_trees : Trees N A
    tree : Tree N A → Trees N A → Trees N A

-- a place is a list of indices, the outermost first; [] is the whole tree
abbrev pub Place : Type 0
Place = List ℕ

-- the note at the top
abbrev pub note : {N A : Type 0} → Tree N A → N
note (leaf n a) = n
note (list n ts) = n

abbrev pub count : {N A : Type 0} → Trees N A → ℕ
count no_trees = 0
count (tree t ts) = suc (count ts)

abbrev pub items : {N A : Type 0} → Trees N A → List (Tree N A)
items no_trees = []
items (tree t ts) = t ∷ items ts

abbrev pub trees_of : {N A : Type 0} → List (Tree N A) → Trees N A
trees_of [] = no_trees
trees_of (t ∷ ts) = tree t (trees_of ts)

abbrev pub item_at : {N A : Type 0} → Trees N A → ℕ → Option (Tree N A)
item_at no_trees i = None
item_at (tree t ts) zero = Some t
item_at (tree t ts) (suc i) = item_at ts i

abbrev pub children : {N A : Type 0} → Tree N A → Trees N A
children (leaf n a) = no_trees
children (list n ts) = ts

-- what stands at a place
abbrev pub at : {N A : Type 0} → Tree N A → Place → Option (Tree N A)
at t [] = Some t
at t (i ∷ q) = option_and_then (λ u. at u q) (item_at (children t) i)

-- the same tree with other notes and other things
abbrev mutual
  pub map_tree : {N M A B : Type 0} → (N → M) → (A → B) → Tree N A → Tree M B
  map_tree f g (leaf n a) = leaf (f n) (g a)
  map_tree f g (list n ts) = list (f n) (map_trees f g ts)

  pub map_trees : {N M A B : Type 0} → (N → M) → (A → B) → Trees N A → Trees M B
  map_trees f g no_trees = no_trees
  map_trees f g (tree t ts) = tree (map_tree f g t) (map_trees f g ts)

-- the notes of all nodes, a node before those inside
abbrev mutual
  pub notes : {N A : Type 0} → Tree N A → List N
  notes (leaf n a) = n ∷ []
  notes (list n ts) = n ∷ all_notes ts

  pub all_notes : {N A : Type 0} → Trees N A → List N
  all_notes no_trees = []
  all_notes (tree t ts) = notes t ++ all_notes ts

-- the things at the leaves, in order
abbrev mutual
  pub leaves : {N A : Type 0} → Tree N A → List A
  leaves (leaf n a) = a ∷ []
  leaves (list n ts) = all_leaves ts

  pub all_leaves : {N A : Type 0} → Trees N A → List A
  all_leaves no_trees = []
  all_leaves (tree t ts) = leaves t ++ all_leaves ts

-- all nodes with their places below q, a node before those inside
abbrev mutual
  pub nodes_below : {N A : Type 0} → Place → Tree N A → List (Place × Tree N A)
  nodes_below q (leaf n a) = (q, leaf n a) ∷ []
  nodes_below q (list n ts) = (q, list n ts) ∷ nodes_from q 0 ts

  pub nodes_from : {N A : Type 0} → Place → ℕ → Trees N A → List (Place × Tree N A)
  nodes_from q i no_trees = []
  nodes_from q i (tree t ts) = nodes_below (q ++ i ∷ []) t ++ nodes_from q (suc i) ts

abbrev pub nodes : {N A : Type 0} → Tree N A → List (Place × Tree N A)
nodes t = nodes_below [] t
