use Rattle.std.proofs.Common.{arith, ◌≡◌, ◌∙◌, ap, length, slice_index_or}
use Rattle.tv_flow.specs.Views.{flow_view}
use Rattle.tv_check.specs.Tables.{step_level}
use Rattle.tv_frame.proofs.FaultingRead.{planned}
use Rattle.tv_frame.proofs.rooms.levels_left.Goals as goal

pub returns-in-Ok : goal.returns-in-Ok
returns-in-Ok c = λ s e.
    let depth : (slice_index_or c.as_slice.result.now c.args.step c.index-as_slice-step.result).depth ≡ step_level (flow_view c.args.plan.now.flow) s.1 = ap (λ xs. (slice_index_or xs c.args.step c.index-as_slice-step.result).depth) c.as_slice.ensures ∙ planned c.args.plan.now c.args.step c.index-as_slice-step.result s e in
    let p = c.saturating_sub.ensures in
    let q = c.in-Ok.ensures in
    let r = ap length c.as_slice-2.ensures in
    omega (arith, depth, p, q, r)
