use Rattle.std.proofs.Common.{◌≡◌, drop}
use Rattle.tv_parts.specs.Partials.{Partial, known_at}
use Rattle.tv_stream.specs.Trees.{Marked, memory_of, tree_of}
use Rattle.tv_stream.specs.Inside.{IsAt}
use Rattle.tv_stream.proofs.partial.Partial.node_at.Given as goal

abbrev pub invariant-levels : goal.invariant-levels
invariant-levels g l = (r : Partial (Marked _)) × (IsAt (memory_of l.pool l.self) l.node.slot r × (known_at (drop l.index-index l.place) r ≡ known_at l.place (tree_of l.pool l.self)))
