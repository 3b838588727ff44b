use Rattle.tv_frame.proofs.TableLemmas.{depths-next}
use Rattle.tv_frame.proofs.tables.tree_depths.Goals as goal

pub loop-number-preserved : goal.loop-number-preserved
loop-number-preserved c =
    depths-next c.args.plan.now c.as_slice-step-items.result.now c.loop-number.number c.step-item.result c.trees_of.result c.loop-number.depths.items c.push_times.new.depths.items c.as_slice-step-items.ensures c.loop-number-test.true c.step-item.is c.trees_of.ensures c.loop-number.invariant
    c.in_ok-push_times.ensures
