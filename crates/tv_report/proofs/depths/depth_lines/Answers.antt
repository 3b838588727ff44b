use Rattle.std.proofs.Common.{◌≡◌, ◌<◌, ap, sym, ◌∙◌, get_or, subst, string_bytes}
use Rattle.std.proofs.Math.ListN.{get_or-map}
use Rattle.tv_value.specs.Values.{Name}
use Rattle.tv_flow.specs.Flows as spec
use Rattle.tv_flow.specs.Views.{each, flow_view}
use Rattle.tv_flow.specs.declared.document.Flow.{Flow}
use Rattle.tv_check.specs.FlowPlanViews.{flow_plan_view}
use Rattle.tv_check.specs.RunViews.{run_view}
use Rattle.tv_report.proofs.Plans.{grown-flow}
use Rattle.tv_report.proofs.depths.depth_lines.Goals as goal

abbrev seen : Name × Flow → Name × spec.Flow
seen f = (f.0, flow_view f.1)

pub loop-number-preserved : goal.loop-number-preserved
loop-number-preserved c =
    let d = run_view c.args.run.now in
    let i = c.loop-number.number in
    let fs = c.as_slice-flows.result.now in
    let f = c.index-flows-number.result in
    let same : each flow_view fs ≡ d.flows = ap (each flow_view) c.as_slice-flows.ensures ∙ ap (λ e. e.flows) c.document.ensures.view in
    grown-flow (string_bytes c.loop-number.text) (string_bytes c.push_flow.new.text) d i (flow_plan_view c.flow.result.now) (f.0, flow_view f.1)
    (subst (λ n. i < n) c.flows-number-end.ensures c.loop-number-test.true)
    (ap seen c.index-flows-number.is ∙ sym (get_or-map seen fs i f) ∙ ap (λ l. get_or l i (seen f)) same)
    c.flow.ensures c.loop-number.invariant c.in_ok-push_flow.ensures
