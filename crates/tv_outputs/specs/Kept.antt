-- When trees stand in one region, each on slots of its own, with what their calls put there.
use Rattle.std.specs.Prelude.{◌≡◌, ◌≢◌, ℕ, ◌+◌, ◌≤◌, List, Option, Some, slice_get}
use Rattle.tv_value.specs.Values.{holds_fault}
use Rattle.tv_parts.specs.Partials.{Partial, wanting, item, growing, closed, Parts, no_parts, part}
use Rattle.tv_pool.specs.Pool.{number_of}
use Rattle.tv_pool.specs.declared.handles.Region.{Region}
use Rattle.tv_stream.specs.nodes.Calls.{count_in}
use Rattle.tv_stream.specs.nodes.Stands.{Spot}
use Rattle.tv_stream.specs.declared.partial.Partial.{Partial as Handle}
use Rattle.tv_stream.specs.Trees.{Marked, tree_of}
use Rattle.tv_stream.specs.Stands.{StandsOn, IsIn, Apart}
use Rattle.tv_cell.specs.declared.piece.Piece.{Piece}
use Rattle.tv_cell.specs.PieceValues.{piece_value}
use Rattle.tv_cell.specs.Soundness.{IsSound}
use Rattle.tv_outputs.specs.declared.outputs.Outputs.{Outputs}
use Rattle.tv_outputs.specs.Known.{Nodes, all_nodes, known_in}

-- the piece points at something throughout, and is marked exactly where its value holds a fault
pub record IsNoted (x : Marked Piece) : Type 0 where
  pub sound : IsSound x.value
  pub marked : x.marked ≡ holds_fault (piece_value x.value)

-- each item there or inside is such
abbrev mutual
  pub EachItem : {A : Type 0} → (A → Type 0) → Partial A → Type 0
  EachItem P wanting = Unit {0}
  EachItem P (item x) = P x
  EachItem P (growing ps) = EachPart P ps
  EachItem P (closed ps) = EachPart P ps

  pub EachPart : {A : Type 0} → (A → Type 0) → Parts A → Type 0
  EachPart P no_parts = Unit {0}
  EachPart P (part p ps) = EachItem P p × EachPart P ps

-- the tree stands in the region on these slots, and its items are noted
pub record IsKept (pool : Nodes) (region : Region) (tree : Handle Piece) (spots : ℕ
    → Option Spot) : Type 0 where
  pub stands : StandsOn pool tree spots
  pub within : IsIn tree region
  pub items : EachItem IsNoted (tree_of pool tree)

-- each tree does, on slots that no other has, and the region has at most their nodes and so many others
pub record AreKeptBeside (others : ℕ) (pool : Nodes) (region : Region)
    (trees : List (Handle Piece)) : Type 0 where
  pub slots : ℕ → ℕ → Option Spot
  pub kept : (k : ℕ) (tree : Handle Piece) → slice_get trees k ≡ Some tree
      → IsKept pool region tree (slots k)
  pub apart : (j k : ℕ) (one other : Handle Piece) → j ≢ k → slice_get trees j ≡ Some one
      → slice_get trees k ≡ Some other → Apart (slots j) (slots k)
  pub few : count_in pool (number_of region) ≤ others + all_nodes (known_in pool trees)

-- and the region has no others
abbrev pub AreKept : Nodes → Region → List (Handle Piece) → Type 0
AreKept pool region trees = AreKeptBeside 0 pool region trees

abbrev pub StandBeside : ℕ → Nodes → Outputs → Region → Type 0
StandBeside others pool outputs region = AreKeptBeside others pool region outputs.trees.items

abbrev pub Stand : Nodes → Outputs → Region → Type 0
Stand pool outputs region = AreKept pool region outputs.trees.items
