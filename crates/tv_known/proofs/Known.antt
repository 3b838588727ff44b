-- What a run knows so far of an open instance is below what is meant, and is all that is known after the history.
use Rattle.std.specs.Option.{IsSomeAnd}
use Rattle.std.specs.Prelude.{◌≡◌, ℕ, true, Some, slice_get}
use Rattle.std.proofs.Common.{subst}
use Rattle.tv_lemmas.specs.Members.{In}
use Rattle.tv_value.specs.Values.{Name}
use Rattle.tv_flow.specs.Flows.{Feed, Flow, Step, StepInput, output}
use Rattle.tv_strategy.specs.Origins.{plain}
use Rattle.tv_naming.specs.Naming.{is_there}
use Rattle.tv_check.specs.RunViews.{run_view}
use Rattle.tv_parts.specs.Below.{Below}
use Rattle.tv_history.specs.Runs.{meant, past_of}
use Rattle.tv_frame.specs.Tables.{levels_in}
use Rattle.tv_frame_laws.specs.values.Exact.{IsAllKnown}
use Rattle.tv_frame_laws.specs.values.Known.{known_of_feed, known_of_port, tree_of}
use Rattle.tv_run.specs.Standing.{run_of}
use Rattle.tv_known.specs.Meant.{flow_output_value, flow_values, output_value, port_value}
use Rattle.tv_known.specs.Stated.{FlowOutputsHaveTheirValues, KnownFlowOutputsAreBelow, KnownFlowOutputsAreExact, KnownOutputsAreBelow, KnownOutputsAreExact, KnownPortsAreBelow, KnownPortsAreExact, known_now}
use Rattle.tv_known.proofs.Below.{flow_output-below, flow_output-exact, flow_output-value, output-below, output-exact, port-all, port-below}
use Rattle.tv_known.proofs.Here.{here}
use Rattle.tv_known.proofs.Outputs.{there}
use Rattle.tv_known.proofs.Values.{values-fed}

pub known_outputs-are_below : KnownOutputsAreBelow
known_outputs-are_below gives r h I flow f is =
    let w = here gives r h.0 h.1 I flow f is in
    subst (λ (g : Flow). (t o : Name) → is_there g (output t o) ≡ true → IsSomeAnd (output_value (meant gives (run_of r)) I t o) (λ u. Below (tree_of r.pool f g t o) (plain u))) w.is_flow
    (output-below gives (run_view r.run).flows (meant gives (run_of r)) (past_of (run_of r)) I (levels_in w.instance.flow) w.view w.run w.plan r.pool f w.keeps)

pub known_outputs-are_exact : KnownOutputsAreExact
known_outputs-are_exact gives r h I flow f is =
    let w = here gives r h.0 h.1 I flow f is in
    subst (λ (g : Flow). (t o : Name) → is_there g (output t o) ≡ true → IsSomeAnd (output_value (meant gives (run_of r)) I t o) (IsAllKnown (known_now gives r) (tree_of r.pool f g t o))) w.is_flow
    (output-exact gives (run_view r.run).flows (meant gives (run_of r)) (past_of (run_of r)) I (levels_in w.instance.flow) w.view w.run w.plan r.pool f w.keeps)

pub known_ports-are_below : KnownPortsAreBelow
known_ports-are_below gives r h I flow f is =
    let w = here gives r h.0 h.1 I flow f is in
    subst (λ (g : Flow). (s : Name × Step) → In s g.steps → (i : Name × StepInput) → In i s.1.inputs → IsSomeAnd (port_value (meant gives (run_of r)) I s.0 i.0) (λ u. Below (known_of_port r.pool f g i.1) (plain u))) w.is_flow
    (port-below gives (run_view r.run).flows (meant gives (run_of r)) (past_of (run_of r)) I (levels_in w.instance.flow) w.view w.run w.plan r.pool f w.keeps)

pub known_ports-are_exact : KnownPortsAreExact
known_ports-are_exact gives r h I flow f is =
    let w = here gives r h.0 h.1 I flow f is in
    subst (λ (g : Flow). (s : Name × Step) → In s g.steps → (i : Name × StepInput) → In i s.1.inputs → IsSomeAnd (port_value (meant gives (run_of r)) I s.0 i.0) (IsAllKnown (known_now gives r) (known_of_port r.pool f g i.1))) w.is_flow
    (port-all gives (run_view r.run).flows (meant gives (run_of r)) (past_of (run_of r)) I (levels_in w.instance.flow) w.view w.run w.plan r.pool f w.keeps)

pub known_flow_outputs-are_below : KnownFlowOutputsAreBelow
known_flow_outputs-are_below gives r h I flow f is =
    let w = here gives r h.0 h.1 I flow f is in
    let past = past_of (run_of r) in
    let levels = levels_in w.instance.flow in
    let gave = values-fed gives (run_view r.run) levels_in past h.0 h.1.stand w.instance w.view w.shown w.own_flow levels w.number w.there I w.named w.run in
    subst (λ (g : Flow). (k : ℕ) (o : Name × Feed) → slice_get g.outputs k ≡ Some o → IsSomeAnd (slice_get (flow_values (meant gives (run_of r)) I) k) (λ x. Below (known_of_feed r.pool f g o.1) x)) w.is_flow
    (flow_output-below gives (run_view r.run).flows (meant gives (run_of r)) past I levels w.view w.run w.plan r.pool f w.keeps gave)

pub known_flow_outputs-are_exact : KnownFlowOutputsAreExact
known_flow_outputs-are_exact gives r h I flow f is =
    let w = here gives r h.0 h.1 I flow f is in
    let past = past_of (run_of r) in
    let one = there gives (run_view r.run) levels_in past h.0 h.1.stand w.instance w.view w.shown w.own_flow w.number w.there I w.named in
    subst (λ (g : Flow). (k : ℕ) (o : Name × Feed) → slice_get g.outputs k ≡ Some o → IsSomeAnd (flow_output_value (meant gives (run_of r)) I k) (IsAllKnown (known_now gives r) (known_of_feed r.pool f g o.1))) w.is_flow
    (flow_output-exact gives (run_view r.run).flows (meant gives (run_of r)) past I (levels_in w.instance.flow) w.view w.run w.plan r.pool f w.keeps one)

pub flow_outputs-have_their_values : FlowOutputsHaveTheirValues
flow_outputs-have_their_values gives r h I flow f is =
    let w = here gives r h.0 h.1 I flow f is in
    let past = past_of (run_of r) in
    let levels = levels_in w.instance.flow in
    let one = there gives (run_view r.run) levels_in past h.0 h.1.stand w.instance w.view w.shown w.own_flow w.number w.there I w.named in
    let gave = values-fed gives (run_view r.run) levels_in past h.0 h.1.stand w.instance w.view w.shown w.own_flow levels w.number w.there I w.named w.run in
    flow_output-value gives (run_view r.run).flows (meant gives (run_of r)) past I levels w.view w.run w.plan r.pool f w.keeps one gave
