use Rattle.std.specs.Prelude.{refl}
use Rattle.tv_run.specs.Standing.{run_of}
use Rattle.tv_board.proofs.Calls.{hand-names, hand-stands, hand-tells, legal-now, over-offers}
use Rattle.tv_board.proofs.board.Board.hand_out.Goals as goal

pub returns-then-is_done-clause-ticket : goal.returns-then-is_done-clause-ticket
returns-then-is_done-clause-ticket g c = over-offers g.V.Services.gives c.self.inside.run c.args.self.now c.self.view_is (c.if-is_done.ensures.over refl g.V.Services.gives c.self.invariant)

pub returns-then-is_done-clause-legal : goal.returns-then-is_done-clause-legal
returns-then-is_done-clause-legal g c = legal-now g.V.Services.gives c.self.inside.run c.args.self.now c.self.view_is c.self.invariant

pub invariant_of-self : goal.invariant_of-self
invariant_of-self g c = hand-stands g.V.Services.gives c.self.inside.run c.hand_out.new.self c.args.self.now c.self.view_is (c.if-is_done.ensures.still refl g.V.Services.gives c.self.invariant) c.hand_out.result (c.hand_out.ensures g.V.Services.gives (c.if-is_done.ensures.still refl g.V.Services.gives c.self.invariant))

pub returns-clause-ticket : goal.returns-clause-ticket
returns-clause-ticket g c = hand-tells g.V.Services.gives c.self.inside.run c.hand_out.new.self c.args.self.now c.self.view_is (c.if-is_done.ensures.still refl g.V.Services.gives c.self.invariant) c.hand_out.result (c.hand_out.ensures g.V.Services.gives (c.if-is_done.ensures.still refl g.V.Services.gives c.self.invariant))

pub returns-clause-names : goal.returns-clause-names
returns-clause-names g c = hand-names g.V.Services.gives c.self.inside.run c.hand_out.new.self c.args.self.now c.self.view_is (c.if-is_done.ensures.still refl g.V.Services.gives c.self.invariant) c.hand_out.result (c.hand_out.ensures g.V.Services.gives (c.if-is_done.ensures.still refl g.V.Services.gives c.self.invariant))

pub returns-clause-legal : goal.returns-clause-legal
returns-clause-legal g c = legal-now g.V.Services.gives c.hand_out.new.self (run_of c.hand_out.new.self) refl (invariant_of-self g c)
