use Rattle.std.proofs.Common.{arith, sym, ap, subst, ◌∙◌, length, get_or, List, ℕ}
use Rattle.std.proofs.lemmas.Result.{IfOk-weaker}
use Rattle.tv_lemmas.proofs.Lists.{get-read}
use Rattle.tv_value.specs.Values.{Name}
use Rattle.tv_flow.specs.Flows.{Step}
use Rattle.tv_flow.specs.Views.{flow_view}
use Rattle.tv_check.specs.declared.ports.Port.{Port}
use Rattle.tv_check.specs.Ports.{ports_of}
use Rattle.tv_frame.proofs.Order.{few-steps}
use Rattle.tv_frame.proofs.TableLemmas.{levels-small}
use Rattle.tv_traces.specs.OfNodes.{IsWalked, Telling}
use Rattle.tv_traces.specs.Sights.{done_in, what_in}
use Rattle.tv_traces.specs.Views.{node_view, shapes_view}
use Rattle.tv_traces.specs.Walking.{begins_of}
use Rattle.tv_traces.proofs.Plan.{step-entry, step-plan, step-ports}
use Rattle.tv_traces.proofs.stepping.step_node.Goals as goal

pub leaf_starts-requires : goal.leaf_starts-requires
leaf_starts-requires c = levels-small c.args.plan.now c.args.number c.index-as_slice-number.result (get-read c.args.plan.now.steps c.args.number c.index-as_slice-number.result c.requires.number (c.index-as_slice-number.is ∙ ap (λ l. get_or l c.args.number c.index-as_slice-number.result) c.as_slice.ensures))

pub overflow_cast-walk : goal.overflow_cast-walk
overflow_cast-walk c = omega (arith, c.requires.number, few-steps c.args.plan.now c.as_slice.result.now c.as_slice.ensures, ap length c.as_slice.ensures)

pub returns : goal.returns
returns c = IfOk-weaker c.walked.result _ _ (λ u h s e.
    let q = step-plan c.args.plan.now c.args.number c.requires.number s e c.as_slice.result.now c.as_slice.ensures c.index-as_slice-number.result c.index-as_slice-number.is in
    let entry = step-entry c.args.plan.now c.args.number c.requires.number s e c.as_slice-2.result.now c.as_slice-2.ensures c.index-as_slice-number-2.result c.index-as_slice-number-2.is in
    let name = ap (λ (x : Name × Step). x.0) entry in
    let outputs = ap (λ (x : Name × Step). x.1.outputs) entry in
    let ports = c.as_slice-4.ensures ∙ step-ports c.args.plan.now c.args.number c.requires.number s e c.as_slice-3.result.now c.as_slice-3.ensures c.index-as_slice-number-3.result c.index-as_slice-number-3.is in
    let begins = c.as_slice-5.ensures.value ∙ c.in_ok-starts.ensures ∙ q.begins in
    let telling : Name → List Port → List ℕ → Telling = λ m ps bs. record { flow = flow_view c.args.plan.now.flow; shapes = shapes_view c.args.shapes.now; ports = ps; begins = bs; what = what_in c.args.sight.now c.args.number; settled = done_in c.args.sight.now c.args.number; name = m } in
    subst (λ k. IsWalked (telling s.0 (ports_of (flow_view c.args.plan.now.flow) s.1) (begins_of (flow_view c.args.plan.now.flow) s.1)) s k c.args.records.now c.walked.new.records (node_view u)) q.depth
    (subst (λ t. IsWalked t s c.index-as_slice-number.result.depth c.args.records.now c.walked.new.records (node_view u)) (λ i. telling (name i) (ports i) (begins i)) (h s (sym outputs ∙ sym c.as_slice-6.ensures)))) c.walked.ensures
