use Rattle.tv_board.proofs.Calls.{legal-now}
use Rattle.tv_board.proofs.board.Board.history.Goals as goal

pub returns-clause-legal : goal.returns-clause-legal
returns-clause-legal g c = legal-now g.V.Services.gives c.self.inside.run c.args.self.now c.self.view_is c.self.invariant
