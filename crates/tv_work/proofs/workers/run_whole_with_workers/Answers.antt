use Rattle.std.proofs.Common.{ap, refl, ◌∙◌}
use Rattle.tv_flow.specs.Views.{each}
use Rattle.tv_cell.specs.PieceValues.{piece_value}
use Rattle.tv_work.proofs.Wholes.{none-at_start, of-document}
use Rattle.tv_work.proofs.workers.run_whole_with_workers.Goals as goal

pub run_with_workers-requires-clause-free : goal.run_with_workers-requires-clause-free
run_with_workers-requires-clause-free g c κs lives = none-at_start g.V.Services.gives c.in_ok-begun.begun c.in_ok-begun.ensures.empty

pub returns : goal.returns
returns g c =
    let b = c.in_ok-board.board in
    let told = c.in_ok-outputs.ensures ∙ ap (each piece_value) c.as_slice.ensures ∙ c.in_ok-pieces.ensures.values in
    record { run = of-document g.V.Services.gives _ b b c.in_ok-outputs.outputs c.totals-totals.result (c.in_ok-board.ensures.goes_on.document ∙ c.in_ok-begun.ensures.document) refl told (c.totals-totals.ensures.done c.in_ok-board.ensures.worked_off.done) }
