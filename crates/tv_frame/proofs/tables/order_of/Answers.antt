use Rattle.std.proofs.Common.{arith}
use Rattle.tv_frame.proofs.Order.{few-steps, fill-more, filled-all, rank-low}
use Rattle.tv_frame.proofs.tables.order_of.Goals as goal

pub overflow_sub-at-in-loop-number : goal.overflow_sub-at-in-loop-number
overflow_sub-at-in-loop-number c =
    rank-low c.args.plan.now c.as_slice-steps.result.now c.as_slice-steps.ensures c.loop-number.number c.index-steps-number.result c.loop-number-test.true c.index-steps-number.is

pub overflow_cast-number : goal.overflow_cast-number
overflow_cast-number c = omega (arith, c.loop-number-test.true, few-steps c.args.plan.now c.as_slice-steps.result.now c.as_slice-steps.ensures)

pub loop-number-preserved : goal.loop-number-preserved
loop-number-preserved c =
    fill-more c.args.plan.now c.as_slice-steps.result.now c.as_slice-steps.ensures c.loop-number.order.items c.loop-number.number c.index-steps-number.result c.loop-number-test.true c.index-steps-number.is c.loop-number.invariant

pub returns : goal.returns
returns c = filled-all c.args.plan.now c.as_slice-steps.result.now c.as_slice-steps.ensures c.loop-number.order.items c.loop-number.number c.loop-number-test.false c.loop-number.invariant
