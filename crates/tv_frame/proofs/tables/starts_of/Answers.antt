use Rattle.std.proofs.Common.{◌∙◌, ap, map}
use Rattle.tv_naming.proofs.Told.{got-in}
use Rattle.tv_frame.proofs.TableLemmas.{all-begin, begins, levels-small, take-same}
use Rattle.tv_frame.proofs.tables.starts_of.Goals as goal

pub leaf_starts-requires : goal.leaf_starts-requires
leaf_starts-requires c =
    levels-small c.args.plan.now c.loop-step.step-index c.step-item.result
    (got-in c.as_slice-steps.result.now c.args.plan.now.steps c.loop-step.step-index c.step-item.result c.as_slice-steps.ensures c.loop-step-test.true c.step-item.is)

pub returns : goal.returns
returns c =
    c.loop-step.invariant
    ∙ ap (map begins) (take-same c.as_slice-steps.result.now c.args.plan.now.steps c.loop-step.step-index c.as_slice-steps.ensures c.loop-step-test.false)
    ∙ all-begin c.args.plan.now
