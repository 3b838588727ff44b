use Rattle.std.specs.Prelude.{refl}
use Rattle.tv_run.specs.Standing.{run_of}
use Rattle.tv_board.proofs.Calls.{legal-now, over-settles, settle-stands, settle-tells, stays}
use Rattle.tv_board.proofs.board.Board.settle_one.Goals as goal

pub returns-then-is_done-clause-settled : goal.returns-then-is_done-clause-settled
returns-then-is_done-clause-settled g c = over-settles g.V.Services.gives c.self.inside.run c.args.self.now c.self.view_is (c.if-is_done.ensures.over refl g.V.Services.gives c.self.invariant)

pub returns-then-is_done-clause-legal : goal.returns-then-is_done-clause-legal
returns-then-is_done-clause-legal g c = legal-now g.V.Services.gives c.self.inside.run c.args.self.now c.self.view_is c.self.invariant

pub invariant_of-self : goal.invariant_of-self
invariant_of-self g c = settle-stands g.V.Services.gives c.self.inside.run c.settle_one.new.self c.args.self.now c.self.view_is (c.if-is_done.ensures.still refl g.V.Services.gives c.self.invariant) c.settle_one.result c.settle_one.ensures.settled c.settle_one.ensures.refused

pub returns-clause-settled : goal.returns-clause-settled
returns-clause-settled g c = settle-tells g.V.Services.gives c.self.inside.run c.settle_one.new.self c.args.self.now c.self.view_is (c.if-is_done.ensures.still refl g.V.Services.gives c.self.invariant) c.settle_one.result c.settle_one.ensures.settled

pub returns-clause-refused : goal.returns-clause-refused
returns-clause-refused g c = stays g.V.Services.gives c.self.inside.run c.settle_one.new.self c.args.self.now c.self.view_is (c.if-is_done.ensures.still refl g.V.Services.gives c.self.invariant) c.settle_one.result c.settle_one.ensures.refused

pub returns-clause-legal : goal.returns-clause-legal
returns-clause-legal g c = legal-now g.V.Services.gives c.settle_one.new.self (run_of c.settle_one.new.self) refl (invariant_of-self g c)
