use Rattle.std.proofs.Common.{◌≡◌, ◌+◌, arith}
use Rattle.tv_flow.specs.Views.{flow_view}
use Rattle.tv_frame.proofs.TableLemmas.{first-none, firsts-next, within-flow}
use Rattle.tv_frame.proofs.tables.first_trees.Goals as goal

pub loop-step-init : goal.loop-step-init
loop-step-init c = (c.in_ok-firsts.ensures.items, first-none (flow_view c.args.plan.now.flow).steps)

pub loop-step-preserved : goal.loop-step-preserved
loop-step-preserved c =
    let more : c.in-Some.more ≡ c.loop-step.next + c.trees_of.result = omega (arith, c.in-Some.ensures.1) in
    firsts-next (flow_view c.args.plan.now.flow).steps c.loop-step.step c.loop-step.firsts.items c.push.new.self.items c.loop-step.next c.trees_of.result c.in-Some.more
    (within-flow c.args.plan.now.flow c.as_slice-count.result.now c.loop-step.step c.as_slice-count.ensures c.loop-step-test.true) c.trees_of.ensures c.loop-step.invariant.0 c.loop-step.invariant.1 c.in_ok-push.ensures.items more
