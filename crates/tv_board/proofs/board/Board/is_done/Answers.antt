use Rattle.std.proofs.Common.{ap, ◌∙◌}
use Rattle.tv_history.specs.Histories.{is_done}
use Rattle.tv_history.specs.Runs.{past_of}
use Rattle.tv_board.proofs.board.Board.is_done.Goals as goal

pub returns : goal.returns
returns g c = c.is_done.ensures.done g.V.Services.gives c.self.invariant ∙ ap (λ x. is_done (past_of x)) c.self.view_is
