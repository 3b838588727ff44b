use Rattle.std.specs.Prelude.{length, ◌<◌}
use Rattle.std.proofs.Common.{arith, subst}
use Rattle.tv_lemmas.proofs.Lists.{get-within}
use Rattle.tv_flow.specs.Flows.{Flow}
use Rattle.tv_flow.specs.Views.{flow_view}
use Rattle.tv_instances.specs.Firsts.{step_limit}
use Rattle.tv_instances.proofs.FirstLemmas.{begins-first, limit-is, none-begins}
use Rattle.tv_instances.proofs.OpenLemmas.{step-too}
use Rattle.tv_instances.proofs.open.Open.first_to_begin.Goals as goal

pub returns-then-running-limit : goal.returns-then-running-limit
returns-then-running-limit c d v io =
    let q = c.requires in
    let o = c.args.self.now in
    let plan = c.args.plan.now in
    let pool = c.args.pool.now in
    let n = c.args.step in
    let low = step-too q.0 d plan pool o q.1 v q.2 io n q.3 in
    let t = get-within v.flow.steps n low in
    let x = c.index-as_slice-step.result in
    let limit =
    limit-is plan c.as_slice.result.now c.as_slice.ensures n (subst (λ (f : Flow). n < length f.steps) io.keeps.flow_is low) x
    c.index-as_slice-step.is in
    let many = c.if-running-limit.true in
    let run = c.running.ensures in
    none-begins d plan pool o v io n t.0 t.1 (step_limit (flow_view plan.flow) n) (omega (arith, limit, many, run))

pub returns : goal.returns
returns c d v io =
    let q = c.requires in
    let o = c.args.self.now in
    let plan = c.args.plan.now in
    let pool = c.args.pool.now in
    let n = c.args.step in
    let low = step-too q.0 d plan pool o q.1 v q.2 io n q.3 in
    let t = get-within v.flow.steps n low in
    let x = c.index-as_slice-step.result in
    let limit =
    limit-is plan c.as_slice.result.now c.as_slice.ensures n (subst (λ (f : Flow). n < length f.steps) io.keeps.flow_is low) x
    c.index-as_slice-step.is in
    let few = c.if-running-limit.false in
    let run = c.running.ensures in
    begins-first d plan pool o v io n t.0 t.1 (step_limit (flow_view plan.flow) n) (omega (arith, limit, few, run))
    c.first_good.result (c.first_good.ensures.first d.flows v t.0 io.keeps t.1)
