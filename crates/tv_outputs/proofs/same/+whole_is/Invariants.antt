use Rattle.std.proofs.Common.{map}
use Rattle.tv_value.specs.Nested.{trees_of}
use Rattle.tv_value.specs.Views.{view}
use Rattle.tv_parts.specs.Partials.{Partial}
use Rattle.tv_stream.specs.Looks.{Shows}
use Rattle.tv_stream.specs.Trees.{Marked}
use Rattle.tv_cell.specs.declared.piece.Piece.{Piece}
use Rattle.tv_outputs.specs.Kept.{IsNoted, EachItem}
use Rattle.tv_outputs.proofs.Comparing.{AreFound, size, sizes}
use Rattle.tv_outputs.proofs.same.+whole_is.Given as goal

abbrev pub decreases-whole_is : goal.decreases-whole_is
decreases-whole_is l = size (view l.value.now)

abbrev pub decreases-parts_are : goal.decreases-parts_are
decreases-parts_are l = sizes (trees_of (map view l.values.now))

abbrev pub invariant-parts_are-loop-index : goal.invariant-parts_are-loop-index
invariant-parts_are-loop-index l = (r : Partial (Marked Piece)) → Shows l.look r → EachItem IsNoted r → AreFound r (map view l.values) l.index
