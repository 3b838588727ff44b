use Rattle.std.specs.Prelude.{◌≡◌, take}
use Rattle.tv_value.specs.Views.{view}
use Rattle.tv_flow.specs.Views.{each}
use Rattle.tv_cell.specs.PieceValues.{piece_value}
use Rattle.tv_run.proofs.outputs.output_values.Given as goal

abbrev pub invariant-loop-output : goal.invariant-loop-output
invariant-loop-output l = each view l.values.items ≡ each piece_value (take l.output-index l.outputs)
