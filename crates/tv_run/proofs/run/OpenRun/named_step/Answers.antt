use Rattle.std.proofs.Common.{length, subst, sym, ◌<◌}
use Rattle.tv_naming.proofs.Told.{got-in}
use Rattle.tv_run.proofs.Steps.{code-step, code-within, plan-there}
use Rattle.tv_run.proofs.run.OpenRun.named_step.Goals as goal

pub plan_of-plan-requires : goal.plan_of-plan-requires
plan_of-plan-requires c =
    let q = c.requires in
    plan-there c.args.self.now q.0 q.1 c.args.job c.known.result c.known.ensures

pub bounds-as_slice-step : goal.bounds-as_slice-step
bounds-as_slice-step c =
    let q = c.requires in
    subst (λ l. c.step_number-step.result < length l) (sym c.as_slice.ensures)
    (code-within c.args.self.now q.0 q.1 c.args.job c.known.result c.known.ensures c.plan_of-plan.result.now
    (λ x at. c.plan_of-plan.ensures q.0 x q.1 at) c.step_number-step.result c.step_number-step.ensures)

pub returns : goal.returns
returns c =
    let r = c.args.self.now in
    let q = c.requires in
    let n = c.step_number-step.result in
    let x = c.index-as_slice-step.result in
    let low =
    code-within r q.0 q.1 c.args.job c.known.result c.known.ensures c.plan_of-plan.result.now
    (λ y at. c.plan_of-plan.ensures q.0 y q.1 at) n
    c.step_number-step.ensures in
    code-step r q.0 q.1 c.args.job c.known.result c.known.ensures c.plan_of-plan.result.now
    (λ y at. c.plan_of-plan.ensures q.0 y q.1 at) n
    c.step_number-step.ensures x
    (got-in c.as_slice.result.now c.plan_of-plan.result.now.flow.steps n x c.as_slice.ensures
    (subst (λ l. n < length l) (sym c.as_slice.ensures) low) c.index-as_slice-step.is)
