use Rattle.std.proofs.Common.{ap, ◌∙◌}
use Rattle.tv_history.specs.Histories.{is_done}
use Rattle.tv_history.specs.Runs.{Run, past_of}
use Rattle.tv_board.proofs.board.Board.traced.Goals as goal

pub traces-requires : goal.traces-requires
traces-requires g c =
    (g.V.Services.gives, c.self.invariant, ap (λ (r : Run). is_done (past_of r)) c.self.view_is ∙ c.requires)

pub invariant_of-result : goal.invariant_of-result
invariant_of-result g c =
    let done = ap (λ (r : Run). is_done (past_of r)) c.self.view_is ∙ c.requires in
    (c.self.invariant, done, c.in-Ok.ensures g.V.Services.gives c.self.invariant done)
