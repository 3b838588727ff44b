use Rattle.std.proofs.Common.{ap, ◌∙◌}
use Rattle.tv_history.specs.Calls.{totals_so_far}
use Rattle.tv_history.proofs.Totals.{totals-done}
use Rattle.tv_board.proofs.Calls.{legal-now}
use Rattle.tv_board.proofs.board.Board.totals.Goals as goal

pub returns-clause-so_far : goal.returns-clause-so_far
returns-clause-so_far g c = c.totals.ensures g.V.Services.gives c.self.invariant ∙ ap (totals_so_far g.V.Services.gives) c.self.view_is

pub returns-clause-done : goal.returns-clause-done
returns-clause-done g c = λ done.
    returns-clause-so_far g c
    ∙ totals-done g.V.Services.gives c.args.self.now (legal-now g.V.Services.gives c.self.inside.run c.args.self.now c.self.view_is c.self.invariant).legal done
