use Rattle.std.proofs.Common.{◌<◌, ◌∙◌, ap, sym, subst, length, map}
use Rattle.std.proofs.lemmas.Simd.{map-map}
use Rattle.tv_lemmas.proofs.Lists.{get-map, get-read}
use Rattle.tv_flow.specs.DocumentViews.{document_view}
use Rattle.tv_flow.specs.Views.{each, flow_view}
use Rattle.tv_check.specs.FlowPlanViews.{flow_plan_view}
use Rattle.tv_check.specs.Plannable.{IsToPlan}
use Rattle.tv_check.specs.Plans.{flow_plan}
use Rattle.tv_naming.proofs.Forms.{length-each}
use Rattle.tv_naming.proofs.Lists.{map-more, map-now}
use Rattle.tv_check.proofs.NestedLemmas.{worked-length}
use Rattle.tv_naming.proofs.Told.{got-in}
use Rattle.tv_check.proofs.ToPlan.{orders-many, to-plan}
use Rattle.tv_check.proofs.accepted.plans_of.Goals as goal

pub bounds-orders-number : goal.bounds-orders-number
bounds-orders-number c =
    let d = c.args.document.now in
    subst (λ n. c.loop-number.number < n) (ap length c.as_slice-flows.ensures ∙ sym (length-each flow_view d.flows) ∙ sym (orders-many (document_view d) c.args.orders.now c.args.measured.now c.requires)) c.loop-number-test.true

pub bounds-measured-number : goal.bounds-measured-number
bounds-measured-number c =
    let d = c.args.document.now in
    subst (λ n. c.loop-number.number < n) (ap length c.as_slice-flows.ensures ∙ sym (length-each flow_view d.flows) ∙ sym (worked-length (each flow_view d.flows) c.args.measured.now c.requires.worked)) c.loop-number-test.true

pub plan_of-requires : goal.plan_of-requires
plan_of-requires c =
    let d = c.args.document.now in
    let i = c.loop-number.number in
    let x = c.index-flows-number.result in
    let o = c.index-orders-number.result in
    let w = c.index-measured-number.result in
    let os = c.args.orders.now in
    let ws = c.args.measured.now in
    let inside = ap length c.as_slice-flows.ensures ∙ sym (length-each flow_view d.flows) in
    let below_orders = subst (λ n. i < n) (inside ∙ sym (orders-many (document_view d) os ws c.requires)) c.loop-number-test.true in
    let below_measured = subst (λ n. i < n) (inside ∙ sym (worked-length (each flow_view d.flows) ws c.requires.worked)) c.loop-number-test.true in
    let at = get-map (λ e. (e.0, flow_view e.1)) d.flows i x (got-in c.as_slice-flows.result.now d.flows i x c.as_slice-flows.ensures c.loop-number-test.true c.index-flows-number.is) in
    subst (λ ks. IsToPlan (flow_view x.1) ks w) (sym c.as_slice-order.ensures.value)
    (to-plan (document_view d) os ws c.requires i (x.0, flow_view x.1) at o w (get-read os i o below_orders c.index-orders-number.is) (get-read ws i w below_measured c.index-measured-number.is))

pub loop-number-preserved : goal.loop-number-preserved
loop-number-preserved c =
    ap (map flow_plan_view) c.in_ok-push.ensures.items
    ∙ map-more flow_plan_view (λ e. flow_plan (flow_view e.1)) c.loop-number.plans.items c.in_ok-plan_of.field-0 c.as_slice-flows.result.now c.loop-number.number c.index-flows-number.result c.loop-number-test.true c.index-flows-number.is c.loop-number.invariant c.in_ok-plan_of.ensures

pub returns : goal.returns
returns c =
    let d = c.args.document.now in
    ap (map flow_plan_view) c.of.ensures
    ∙ map-now flow_plan_view (λ e. flow_plan (flow_view e.1)) c.loop-number.plans.items c.as_slice-flows.result.now c.loop-number.number c.loop-number-test.false c.loop-number.invariant
    ∙ ap (map (λ e. flow_plan (flow_view e.1))) c.as_slice-flows.ensures
    ∙ sym (map-map (λ f. flow_plan f.1) (λ e. (e.0, flow_view e.1)) d.flows)
