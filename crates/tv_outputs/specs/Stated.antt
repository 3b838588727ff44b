-- A region has a node for each place of its trees at which something is known, and no others but the roots of trees of which nothing is known.
use Rattle.std.specs.List.{All, AllPairs}
use Rattle.std.specs.Prelude.{◌≢◌, ℕ, ◌≤◌, List, length}
use Rattle.tv_value.specs.Nested.{Place, notes}
use Rattle.tv_value.specs.Values.{Value}
use Rattle.tv_parts.specs.Below.{Below}
use Rattle.tv_parts.specs.Partials.{Partial, known_at, wanting}
use Rattle.tv_pool.specs.Pool.{number_of, region_at, stored_in}
use Rattle.tv_pool.specs.declared.handles.Region.{Region}
use Rattle.tv_stream.specs.NodeCounts.{tree_nodes}
use Rattle.tv_outputs.specs.declared.outputs.Outputs.{Outputs}
use Rattle.tv_outputs.specs.Kept.{Stand}
use Rattle.tv_outputs.specs.Known.{Nodes, all_nodes, known, tree_in}

-- no two of the list are the same
abbrev pub AreDifferent : {A : Type 0} → List A → Type 0
AreDifferent xs = AllPairs (λ x y. x ≢ y) xs

-- how many nodes the region has
abbrev pub node_count : Nodes → Region → ℕ
node_count pool region = length (stored_in (region_at pool (number_of region)))

-- something is known at a place of the tree of a number
abbrev pub KnowsAt : List (Partial Value) → ℕ × Place → Type 0
KnowsAt trees x = known_at x.1 (tree_in trees x.0) ≢ wanting

-- where trees stand in a region, it has at least one node for each place at which something is
-- known
abbrev pub PlacesHaveNodes : Type 0
PlacesHaveNodes =
    (pool : Nodes) (outputs : Outputs) (region : Region)
    → Stand pool outputs region
    → (places : List (ℕ × Place))
    → AreDifferent places
    → All (KnowsAt (known pool outputs)) places
    → length places ≤ node_count pool region

-- and no more than its trees have, the root of each counted though nothing is known of it
abbrev pub TreesHaveAllNodes : Type 0
TreesHaveAllNodes =
    (pool : Nodes) (outputs : Outputs) (region : Region)
    → Stand pool outputs region
    → node_count pool region ≤ all_nodes (known pool outputs)

-- a tree has at most as many nodes as a value that it is below
abbrev pub TreesHaveNoMore : Type 0
TreesHaveNoMore = (r : Partial Value) (v : Value) → Below r v → tree_nodes r ≤ length (notes v)
