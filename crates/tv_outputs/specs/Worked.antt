-- A worked example: how many nodes trees have, and how many a change takes.
use Rattle.std.specs.Prelude.{◌≡◌, ℕ, [], ◌∷◌}
use Rattle.tv_parts.specs.Changes.{arrive, close_at}
use Rattle.tv_parts.specs.Partials.{Partial, wanting}
use Rattle.tv_stream.specs.NodeCounts.{new_nodes, tree_nodes}

abbrev pub nothing : Partial ℕ
nothing = wanting

-- an item comes as the first of the second list
abbrev pub one_item : Partial ℕ
one_item = arrive (1 ∷ 0 ∷ []) 7 nothing

-- then another as its third, and the first list is closed, of which nothing else is known
abbrev pub two_items : Partial ℕ
two_items = close_at (0 ∷ []) 2 (arrive (1 ∷ 2 ∷ []) 8 one_item)

-- a root from the start; then the second list and its item; then an item alone and a list alone, with nothing for what is wanting
abbrev pub CountsKnownPlaces : Type 0
CountsKnownPlaces =
    (tree_nodes nothing ≡ 1)
    × (new_nodes (1 ∷ 0 ∷ []) nothing ≡ 2)
    × (tree_nodes one_item ≡ 3)
    × (new_nodes (1 ∷ 2 ∷ []) one_item ≡ 1)
    × (tree_nodes two_items ≡ 5)
