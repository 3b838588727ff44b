use Rattle.tv_cell.specs.PieceValues.{piece_values}
use Rattle.tv_telling.specs.Views.{AreTellings}
use Rattle.tv_binding.specs.Constants.{constant_of_port, constants_view}
use Rattle.tv_frame.proofs.StartingLemmas.{last_start}
use Rattle.tv_frame.proofs.starting.step_start.Given as goal

abbrev pub invariant-loop-back : goal.invariant-loop-back
invariant-loop-back l =
    AreTellings l.tellings.items (last_start (piece_values l.inputs) (constant_of_port (constants_view l.constants) l.step) l.ports l.back)
