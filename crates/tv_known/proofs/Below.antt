-- What a frame knows of an open instance is below what the meaning has there, and is all that is known after the history.
use Rattle.std.specs.Option.{IsSomeAnd}
use Rattle.std.specs.Prelude.{◌≡◌, refl, ℕ, Bool, true, List, Option, None, Some, map, option_and_then, option_map, slice_get}
use Rattle.std.proofs.Common.{sym, ap, subst, ◌∙◌}
use Rattle.std.proofs.lemmas.Option.{slice_get-map}
use Rattle.std.proofs.lemmas.Simd.{map-map}
use Rattle.tv_lemmas.specs.Members.{In}
use Rattle.tv_lemmas.proofs.Lists.{get-map}
use Rattle.tv_lemmas.proofs.Members.{in-slice}
use Rattle.tv_value.specs.Values.{JobName, Name, Value}
use Rattle.tv_gate.specs.Outcomes.{Giving}
use Rattle.tv_flow.specs.Flows.{Feed, Flow, Step, StepInput, link, output}
use Rattle.tv_strategy.specs.Origins.{Origin, Traced, plain}
use Rattle.tv_naming.specs.Naming.{is_there}
use Rattle.tv_check.specs.declared.plans.FlowPlan.{FlowPlan}
use Rattle.tv_model.specs.instance.ByResults.{InstanceStep, Results, step_of}
use Rattle.tv_model.specs.instance.Delivered.{Delivered, feed_delivers, link_delivers, wrapped}
use Rattle.tv_model.specs.Instances.{given_of}
use Rattle.tv_model.specs.Made.{Instance as Meant, Meaning}
use Rattle.tv_parts.specs.Below.{Below}
use Rattle.tv_outputs.specs.Known.{Nodes}
use Rattle.tv_history.specs.Entries.{History}
use Rattle.tv_history.specs.Histories.{is_known}
use Rattle.tv_framing.specs.Views.{View}
use Rattle.tv_framing.proofs.starts.Ports.{IsFound}
use Rattle.tv_forest.proofs.views.Runs.{Runs, results_here, steps_here}
use Rattle.tv_frame.specs.declared.frame.Frame.{Frame}
use Rattle.tv_frame.specs.Kept.{Keeps}
use Rattle.tv_frame.specs.Tables.{levels_in}
use Rattle.tv_frame.proofs.Feeds.{output-found}
use Rattle.tv_frame_laws.specs.values.Exact.{IsAllKnown}
use Rattle.tv_frame_laws.specs.values.Known.{known_of_feed, known_of_port, tree_of}
use Rattle.tv_frame_laws.specs.values.Parts.{wraps_of}
use Rattle.tv_frame_laws.specs.values.Stated.{port_takes}
use Rattle.tv_frame_laws.proofs.Exact.{flow_outputs-exact, outputs-exact, port-exact}
use Rattle.tv_frame_laws.proofs.Feeds.{flow_outputs-below, port-links, port-takes, ports-below, wired}
use Rattle.tv_frame_laws.proofs.Holding.{outputs-below}
use Rattle.tv_known.specs.Meant.{flow_output_value, flow_values, output_value, port_value}
use Rattle.tv_known.proofs.Gives.{fed}
use Rattle.tv_known.proofs.Nodes.{Own, all-known_now, feed-own, wrapped-at}
use Rattle.tv_known.proofs.Outputs.{IsThere, outputs-fed}
use Rattle.tv_known.proofs.Steps.{output-meant, port-meant}

option_map-twice : {A B C : Type 0} (g : B → C) (f : A → B) (o : Option A) → option_map g (option_map f o) ≡ option_map (λ x. g (f x)) o
option_map-twice g f None = refl
option_map-twice g f (Some x) = refl

module _ (gives : Giving) (flows : List (Name × Flow)) (m : Meaning) (past : History) (I : JobName) (levels : Name → ℕ) (v : View) (run : Runs gives flows m past I levels v)
    (plan : FlowPlan) (pool : Nodes) (f : Frame) (keeps : Keeps flows plan pool f v) where
  abbrev results : Results
  results = results_here gives flows m past I levels v run

  abbrev fs : List InstanceStep
  fs = steps_here gives flows m past I levels v run

  abbrev given : List (Name × Delivered)
  given = given_of v.flow v.inputs

  abbrev known : Origin → Bool
  known o = is_known m past o.known

  -- ---- outputs

  module _ (t o : Name) (there : is_there v.flow (output t o) ≡ true) where
    abbrev delivered : Traced
    delivered = (link_delivers step_of given fs (output t o)).value

    found : IsFound v.flow (levels_in v.flow) I results v.inputs t o fs (link_delivers step_of given fs (output t o))
    found =
        output-found flows (levels_in v.flow) v keeps.of_depths (wired flows plan pool f v keeps) keeps.frame.legal I results
        run.right run.gave t o there

    -- what is so of what the output delivers is so of what it is meant to
    meant-output : (P : Traced → Type 0) → P delivered → IsSomeAnd (output_value m I t o) P
    meant-output P h = subst (λ u. IsSomeAnd u P) (sym (output-meant gives flows m past I levels v run t o (levels_in v.flow) found)) h

    pub output-below : IsSomeAnd (output_value m I t o) (λ u. Below (tree_of pool f v.flow t o) (plain u))
    output-below =
        meant-output (λ u. Below (tree_of pool f v.flow t o) (plain u))
        (outputs-below flows plan pool f v keeps t o there I results run.right run.gave)

    pub output-exact : IsSomeAnd (output_value m I t o) (IsAllKnown known (tree_of pool f v.flow t o))
    output-exact =
        meant-output (IsAllKnown known (tree_of pool f v.flow t o))
        (all-known_now gives flows m past I levels v run (tree_of pool f v.flow t o) delivered
        (feed-own gives flows m past I levels v run (link (output t o)))
        (outputs-exact flows plan pool f v keeps t o there I results run.right run.gave))

  -- ---- ports

  module _ (s : Name × Step) (among : In s v.flow.steps) (i : Name × StepInput) (port : In i s.1.inputs) where
    meant-port : (P : Traced → Type 0) → IsSomeAnd (port_takes fs s.0 i.0) P → IsSomeAnd (port_value m I s.0 i.0) P
    meant-port P h = subst (λ u. IsSomeAnd u P) (sym (port-meant gives flows m past I levels v run s.0 i.0)) h

    pub port-below : IsSomeAnd (port_value m I s.0 i.0) (λ u. Below (known_of_port pool f v.flow i.1) (plain u))
    port-below =
        meant-port (λ u. Below (known_of_port pool f v.flow i.1) (plain u))
        (ports-below flows plan pool f v keeps s among i port I results run.right run.gave)

    pub port-all : IsSomeAnd (port_value m I s.0 i.0) (IsAllKnown known (known_of_port pool f v.flow i.1))
    port-all =
        let u = (feed_delivers step_of given fs i.1.from).value in
        meant-port (IsAllKnown known (known_of_port pool f v.flow i.1))
        (subst (λ o. IsSomeAnd o (IsAllKnown known (known_of_port pool f v.flow i.1)))
        (sym (port-takes flows plan pool f v keeps I results run.right run.gave s among i port))
        (all-known_now gives flows m past I levels v run (known_of_port pool f v.flow i.1) (wrapped (wraps_of v.flow i.1) u)
        (wrapped-at (Own gives flows m past I levels v run) tt (wraps_of v.flow i.1) u (feed-own gives flows m past I levels v run i.1.from))
        (port-exact flows plan pool f v keeps I results run.right run.gave i.1 (port-links flows plan pool f v keeps s among i port))))

  -- ---- outputs of the flow

  pub flow_output-below : flow_values m I ≡ fed gives flows m past I levels v run → (k : ℕ) (o : Name × Feed) → slice_get v.flow.outputs k ≡ Some o
      → IsSomeAnd (slice_get (flow_values m I) k) (Below (known_of_feed pool f v.flow o.1))
  flow_output-below gave k o e =
      subst (λ x. IsSomeAnd x (Below (known_of_feed pool f v.flow o.1)))
      (sym (ap (λ (l : List Value). slice_get l k) gave ∙ get-map (λ (p : Name × Feed). plain (feed_delivers step_of given fs p.1).value) v.flow.outputs k o e))
      (flow_outputs-below flows plan pool f v keeps o (in-slice v.flow.outputs k o e) I results run.right run.gave)

  module _ (w : IsThere gives flows m I v) where
    -- what the k-th output is fed
    flow_output-meant : (k : ℕ) → flow_output_value m I k ≡ option_map (λ (o : Name × Feed). (feed_delivers step_of given fs o.1).value) (slice_get v.flow.outputs k)
    flow_output-meant k =
        let at_k : Meant → Option Traced = λ i. option_map (λ (o : Name × Traced). o.1) (slice_get i.outputs k) in
        ap (option_and_then at_k) w.found
        ∙ ap (λ (l : List (Name × Traced)). option_map (λ (o : Name × Traced). o.1) (slice_get l k)) (outputs-fed gives flows m past I levels v run w)
        ∙ sym (slice_get-map (λ (o : Name × Traced). o.1) (map (λ (o : Name × Feed). (o.0, (feed_delivers step_of given fs o.1).value)) v.flow.outputs) k)
        ∙ ap (λ (l : List Traced). slice_get l k) (map-map (λ (o : Name × Traced). o.1) (λ (o : Name × Feed). (o.0, (feed_delivers step_of given fs o.1).value)) v.flow.outputs)
        ∙ slice_get-map (λ (o : Name × Feed). (feed_delivers step_of given fs o.1).value) v.flow.outputs k

    pub flow_output-exact : (k : ℕ) (o : Name × Feed) → slice_get v.flow.outputs k ≡ Some o → IsSomeAnd (flow_output_value m I k) (IsAllKnown known (known_of_feed pool f v.flow o.1))
    flow_output-exact k o e =
        let u = (feed_delivers step_of given fs o.1).value in
        subst (λ x. IsSomeAnd x (IsAllKnown known (known_of_feed pool f v.flow o.1)))
        (sym (flow_output-meant k ∙ ap (option_map (λ (p : Name × Feed). (feed_delivers step_of given fs p.1).value)) e))
        (all-known_now gives flows m past I levels v run (known_of_feed pool f v.flow o.1) u (feed-own gives flows m past I levels v run o.1)
        (flow_outputs-exact flows plan pool f v keeps o (in-slice v.flow.outputs k o e) I results run.right run.gave))

    -- whose value the flow is meant to give
    pub flow_output-value : flow_values m I ≡ fed gives flows m past I levels v run → (k : ℕ) → option_map plain (flow_output_value m I k) ≡ slice_get (flow_values m I) k
    flow_output-value gave k =
        ap (option_map plain) (flow_output-meant k)
        ∙ option_map-twice plain (λ (o : Name × Feed). (feed_delivers step_of given fs o.1).value) (slice_get v.flow.outputs k)
        ∙ sym (slice_get-map (λ (o : Name × Feed). plain (feed_delivers step_of given fs o.1).value) v.flow.outputs k)
        ∙ sym (ap (λ (l : List Value). slice_get l k) gave)
