use Rattle.tv_board.proofs.Calls.{legal-now, still}
use Rattle.std.specs.Prelude.{refl}
use Rattle.tv_run.specs.Standing.{run_of}
use Rattle.tv_board.proofs.board.Board.start.Goals as goal

pub invariant_of-result : goal.invariant_of-result
invariant_of-result g c = still g.V.Services.gives c.in_ok-start.field-0 (c.in_ok-start.ensures.stands g.V.Services.gives)

pub returns-clause-legal : goal.returns-clause-legal
returns-clause-legal g c = legal-now g.V.Services.gives c.in_ok-start.field-0 (run_of c.in_ok-start.field-0) refl (invariant_of-result g c)
