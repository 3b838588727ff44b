use Rattle.std.proofs.Common.{ap, ◌∙◌}
use Rattle.tv_history.specs.Histories.{is_done}
use Rattle.tv_history.specs.Runs.{Run, past_of}
use Rattle.tv_board.proofs.Calls.{outputs-told}
use Rattle.tv_board.proofs.board.Board.outputs.Goals as goal

pub outputs-requires : goal.outputs-requires
outputs-requires g c = (g.V.Services.gives, c.self.invariant, ap (λ (r : Run). is_done (past_of r)) c.self.view_is ∙ c.requires)

pub returns-clause-values : goal.returns-clause-values
returns-clause-values g c =
    outputs-told g.V.Services.gives c.self.inside.run c.args.self.now c.self.view_is c.self.invariant c.requires c.outputs.result c.outputs.ensures.values
