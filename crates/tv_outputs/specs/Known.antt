-- What is known of outputs: the partial trees of values that trees of pieces show.
use Rattle.std.specs.Prelude.{ℕ, zero, suc, ◌+◌, List, [], ◌∷◌, map, slice_index_or}
use Rattle.tv_value.specs.Values.{Value}
use Rattle.tv_parts.specs.Partials.{Partial, wanting, map_partial}
use Rattle.tv_pool.specs.Pool.{Pool}
use Rattle.tv_stream.specs.declared.nodes.Entry.{Entry}
use Rattle.tv_stream.specs.declared.held.Held.{Held}
use Rattle.tv_stream.specs.declared.partial.Partial.{Partial as Handle}
use Rattle.tv_stream.specs.Trees.{Marked, tree_of}
use Rattle.tv_stream.specs.NodeCounts.{tree_nodes}
use Rattle.tv_cell.specs.declared.piece.Piece.{Piece}
use Rattle.tv_cell.specs.PieceValues.{piece_value}
use Rattle.tv_outputs.specs.declared.outputs.Outputs.{Outputs}

abbrev pub Nodes : Type 0
Nodes = Pool (Entry (Held Piece))

abbrev pub item_value : Marked Piece → Value
item_value x = piece_value x.value

-- with the values that the pieces stand for
abbrev pub value_tree : Partial (Marked Piece) → Partial Value
value_tree = map_partial item_value

abbrev pub known_of : Nodes → Handle Piece → Partial Value
known_of pool tree = value_tree (tree_of pool tree)

abbrev pub known_in : Nodes → List (Handle Piece) → List (Partial Value)
known_in pool trees = map (known_of pool) trees

-- what is known of each output
abbrev pub known : Nodes → Outputs → List (Partial Value)
known pool outputs = known_in pool outputs.trees.items

abbrev pub depths_in : List (Handle Piece) → List ℕ
depths_in trees = map (λ tree. tree.depth) trees

abbrev pub depths : Outputs → List ℕ
depths outputs = depths_in outputs.trees.items

-- of one output; nothing where there is none
abbrev pub tree_in : List (Partial Value) → ℕ → Partial Value
tree_in trees number = slice_index_or trees number wanting

abbrev pub depth_in : List ℕ → ℕ → ℕ
depth_in ds number = slice_index_or ds number 0

-- how many nodes a change of so many trees from the first on may take: for each tree one more than its depth
abbrev pub needed : List ℕ → ℕ → ℕ → ℕ
needed ds first zero = 0
needed ds first (suc count) = needed ds first count + (depth_in ds (first + count) + 1)

-- how many nodes trees have together
abbrev pub all_nodes : List (Partial Value) → ℕ
all_nodes [] = 0
all_nodes (tree ∷ trees) = tree_nodes tree + all_nodes trees
