use Rattle.std.proofs.Common.{ap, sym, ◌∙◌}
use Rattle.std.specs.Prelude.{refl}
use Rattle.tv_history.specs.Calls.{out_now}
use Rattle.tv_run.specs.Standing.{run_of}
use Rattle.tv_board.proofs.Calls.{legal-now, over-idle, over-out, recall-counts, recall-idle, recall-names, recall-none_out, recall-stands, recall-tells, stays}
use Rattle.tv_board.proofs.board.Board.recall_all.Goals as goal

pub returns-then-is_done-clause-count : goal.returns-then-is_done-clause-count
returns-then-is_done-clause-count g c = sym (over-out g.V.Services.gives c.self.inside.run c.args.self.now c.self.view_is (c.if-is_done.ensures.over refl g.V.Services.gives c.self.invariant))

pub returns-then-is_done-clause-idle : goal.returns-then-is_done-clause-idle
returns-then-is_done-clause-idle g c = over-idle g.V.Services.gives c.self.inside.run c.args.self.now c.self.view_is (c.if-is_done.ensures.over refl g.V.Services.gives c.self.invariant)

pub returns-then-is_done-clause-none_out : goal.returns-then-is_done-clause-none_out
returns-then-is_done-clause-none_out g c = over-out g.V.Services.gives c.self.inside.run c.args.self.now c.self.view_is (c.if-is_done.ensures.over refl g.V.Services.gives c.self.invariant)

pub returns-then-is_done-clause-legal : goal.returns-then-is_done-clause-legal
returns-then-is_done-clause-legal g c = legal-now g.V.Services.gives c.self.inside.run c.args.self.now c.self.view_is c.self.invariant

pub invariant_of-self : goal.invariant_of-self
invariant_of-self g c = recall-stands g.V.Services.gives c.self.inside.run c.recall_all.new.self c.args.self.now c.self.view_is (c.if-is_done.ensures.still refl g.V.Services.gives c.self.invariant) c.recall_all.result c.recall_all.ensures.recalled c.recall_all.ensures.refused

pub returns-clause-count : goal.returns-clause-count
returns-clause-count g c = recall-counts g.V.Services.gives c.self.inside.run c.recall_all.new.self c.args.self.now c.self.view_is (c.if-is_done.ensures.still refl g.V.Services.gives c.self.invariant) c.recall_all.result c.recall_all.ensures.recalled

pub returns-clause-recalled : goal.returns-clause-recalled
returns-clause-recalled g c = recall-tells g.V.Services.gives c.self.inside.run c.recall_all.new.self c.args.self.now c.self.view_is (c.if-is_done.ensures.still refl g.V.Services.gives c.self.invariant) c.recall_all.result c.recall_all.ensures.recalled

pub returns-clause-names : goal.returns-clause-names
returns-clause-names g c = recall-names g.V.Services.gives c.self.inside.run c.recall_all.new.self c.args.self.now c.self.view_is (c.if-is_done.ensures.still refl g.V.Services.gives c.self.invariant) c.recall_all.result c.recall_all.ensures.recalled c.recall_all.ensures.refused

pub returns-clause-idle : goal.returns-clause-idle
returns-clause-idle g c = recall-idle g.V.Services.gives c.self.inside.run c.recall_all.new.self c.args.self.now c.self.view_is (c.if-is_done.ensures.still refl g.V.Services.gives c.self.invariant) c.recall_all.result c.recall_all.ensures.recalled

pub returns-clause-none_out : goal.returns-clause-none_out
returns-clause-none_out g c = recall-none_out g.V.Services.gives c.self.inside.run c.recall_all.new.self c.args.self.now c.self.view_is (c.if-is_done.ensures.still refl g.V.Services.gives c.self.invariant) c.recall_all.result c.recall_all.ensures.recalled

pub returns-clause-quiet : goal.returns-clause-quiet
returns-clause-quiet g c = λ h. c.recall_all.ensures.quiet g.V.Services.gives (c.if-is_done.ensures.still refl g.V.Services.gives c.self.invariant) (ap (out_now g.V.Services.gives) c.self.view_is ∙ h)

pub returns-clause-refused : goal.returns-clause-refused
returns-clause-refused g c = stays g.V.Services.gives c.self.inside.run c.recall_all.new.self c.args.self.now c.self.view_is (c.if-is_done.ensures.still refl g.V.Services.gives c.self.invariant) c.recall_all.result c.recall_all.ensures.refused

pub returns-clause-legal : goal.returns-clause-legal
returns-clause-legal g c = legal-now g.V.Services.gives c.recall_all.new.self (run_of c.recall_all.new.self) refl (invariant_of-self g c)
