use Rattle.std.specs.Prelude.{refl}
use Rattle.tv_run.specs.Standing.{run_of}
use Rattle.tv_board.proofs.Calls.{legal-now, move-stands, move-tells, over-moves, stays}
use Rattle.tv_board.proofs.board.Board.move_on.Goals as goal

pub returns-then-is_done-clause-moved : goal.returns-then-is_done-clause-moved
returns-then-is_done-clause-moved g c = over-moves g.V.Services.gives c.self.inside.run c.args.self.now c.self.view_is (c.if-is_done.ensures.over refl g.V.Services.gives c.self.invariant)

pub returns-then-is_done-clause-legal : goal.returns-then-is_done-clause-legal
returns-then-is_done-clause-legal g c = legal-now g.V.Services.gives c.self.inside.run c.args.self.now c.self.view_is c.self.invariant

pub invariant_of-self : goal.invariant_of-self
invariant_of-self g c = move-stands g.V.Services.gives c.self.inside.run c.move_on.new.self c.args.self.now c.self.view_is (c.if-is_done.ensures.still refl g.V.Services.gives c.self.invariant) c.move_on.result c.move_on.ensures.moved c.move_on.ensures.refused

pub returns-clause-moved : goal.returns-clause-moved
returns-clause-moved g c = move-tells g.V.Services.gives c.self.inside.run c.move_on.new.self c.args.self.now c.self.view_is (c.if-is_done.ensures.still refl g.V.Services.gives c.self.invariant) c.move_on.result c.move_on.ensures.moved

pub returns-clause-refused : goal.returns-clause-refused
returns-clause-refused g c = stays g.V.Services.gives c.self.inside.run c.move_on.new.self c.args.self.now c.self.view_is (c.if-is_done.ensures.still refl g.V.Services.gives c.self.invariant) c.move_on.result c.move_on.ensures.refused

pub returns-clause-legal : goal.returns-clause-legal
returns-clause-legal g c = legal-now g.V.Services.gives c.move_on.new.self (run_of c.move_on.new.self) refl (invariant_of-self g c)
