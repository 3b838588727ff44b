use Rattle.std.proofs.Common.{ap, map, ◌∙◌, arith}
use Rattle.std.proofs.lemmas.List.{take_all}
use Rattle.tv_value.specs.Nested.{items}
use Rattle.tv_value.specs.Views.{view}
use Rattle.tv_value.proofs.ItemLemmas.{items-trees_of}
use Rattle.tv_cell.specs.PieceValues.{piece_values}
use Rattle.tv_run.proofs.values.values_of.Goals as goal

pub returns : goal.returns
returns c =
    ap items c.of.ensures
    ∙ items-trees_of (map view c.loop-piece.values.items)
    ∙ c.loop-piece.invariant
    ∙ ap piece_values (take_all c.loop-piece.piece-index c.args.pieces.now (omega (arith, c.loop-piece-test.false)))
