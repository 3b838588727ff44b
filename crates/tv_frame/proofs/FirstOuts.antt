-- The outputs of a flow without steps: they come from inputs and constants, so all of them are there at the start.
use Rattle.std.specs.List.{list_all}
use Rattle.std.specs.Option.{option_map_or}
use Rattle.std.specs.Prelude.{◌≡◌, refl, ℕ, ◌+◌, ◌<◌, ◌&&◌, true, false, IsTrue, is_some, length, List, [], ◌∷◌, map, Some, option_and_then, slice_index_or, unwrap_or}
use Rattle.std.proofs.Common.{arith, sym, ap, ap₂, subst, ◌∙◌, true≢false}
use Rattle.std.proofs.lemmas.Bool.{and_parts}
use Rattle.std.proofs.lemmas.List.{length-map}
use Rattle.std.proofs.lemmas.Option.{same_Some}
use Rattle.tv_lemmas.specs.Members.{Each}
use Rattle.tv_lemmas.proofs.Lists.{get-map, get-within}
use Rattle.tv_value.specs.Orders.{named}
use Rattle.tv_value.specs.Values.{Name, Value}
use Rattle.tv_flow.specs.Flows.{Feed, Flow, Step, input, output}
use Rattle.tv_flow.specs.Formed.{is_feed}
use Rattle.tv_flow.specs.Forms.{is_name}
use Rattle.tv_flow.specs.Views.{flow_view}
use Rattle.tv_strategy.specs.Origins.{plain}
use Rattle.tv_naming.specs.Naming.{feed_links, has_name, is_there}
use Rattle.tv_naming.specs.Numbers.{position}
use Rattle.tv_naming.proofs.ByPosition.{there}
use Rattle.tv_naming.proofs.FormedParts.{all-pass, flow-outputs}
use Rattle.tv_model.specs.instance.Delivered.{Delivered, feed_delivers}
use Rattle.tv_cell.specs.declared.piece.Piece.{Piece}
use Rattle.tv_cell.specs.PieceValues.{piece_values}
use Rattle.tv_cell.specs.Soundness.{AreSound}
use Rattle.tv_check.specs.declared.plans.FlowPlan.{FlowPlan}
use Rattle.tv_check.specs.declared.feeds.NumberedFeed.{NumberedFeed}
use Rattle.tv_check.specs.declared.wiring.Wiring.{Wiring}
use Rattle.tv_check.specs.Feeds.{feed_numbered}
use Rattle.tv_binding.specs.Constants.{FlowConstants, constant_in, constant_of_output, flow_constants}
use Rattle.tv_binding.specs.Delivered.{FlowValues, feed_value, no_items}
use Rattle.tv_binding.specs.Found.{Known}
use Rattle.tv_binding.specs.Jobs.{outputs_found}
use Rattle.tv_binding.specs.Sourced.{IsCounted}
use Rattle.tv_model.specs.Instances.{given_of, value_given}
use Rattle.tv_model.specs.instance.ByResults.{InstanceStep, step_of}
use Rattle.tv_framing.specs.Answers.{AreOutputs}
use Rattle.tv_framing.specs.Views.{View, steps_with}
use Rattle.tv_framing.proofs.starts.Plain.{plain-input}
use Rattle.tv_framing.proofs.starts.Ports.{link-found}
use Rattle.tv_frame.specs.Calls.{CanStart}
use Rattle.tv_frame.specs.Started.{AreFirstOuts}
use Rattle.tv_frame.proofs.Coming.{as-declared}
use Rattle.tv_frame.proofs.Feeds.{AreLinkValues, feed-numbered, input-numbered}
use Rattle.tv_frame.proofs.Given.{feed-counted}
use Rattle.tv_frame.proofs.OutputLinks.{has_output_links, output-links}
use Rattle.tv_frame.proofs.OutsFound.{IsAllWhole, constant_or, outputs-whole, whole_values}
use Rattle.tv_frame.proofs.TableLemmas.{plan-wired, wiring-is}

-- ---- feeds are counted

module _ (f : Flow) where
  all-counted : (os : List (Name × Feed)) → list_all (λ (o : Name × Feed). is_name o.0 && is_feed o.1) os ≡ true → Each IsCounted (map (λ (o : Name × Feed). feed_numbered f o.1) os)
  all-counted [] h = tt
  all-counted (o ∷ os) h =
      let b = and_parts (is_name o.0 && is_feed o.1) (list_all (λ (u : Name × Feed). is_name u.0 && is_feed u.1) os) h in
      (feed-counted f o.1 (and_parts (is_name o.0) (is_feed o.1) b.0).1, all-counted os b.1)

outputs-are : (plan : FlowPlan) → plan.wiring.outputs ≡ map (λ (o : Name × Feed). feed_numbered (flow_view plan.flow) o.1) (flow_view plan.flow).outputs
outputs-are plan = ap (λ (w : Wiring). w.outputs) (wiring-is plan)

pub outputs-counted : (plan : FlowPlan) (fs : List NumberedFeed) → fs ≡ plan.wiring.outputs → Each IsCounted fs
outputs-counted plan fs e =
    let f = flow_view plan.flow in
    subst (Each IsCounted) (sym (e ∙ outputs-are plan)) (all-counted f f.outputs (all-pass is_feed 0 16 f.outputs (flow-outputs f (plan-wired plan).formed)))

-- ---- what outputs deliver, by names and by numbers

module _ (f : Flow) (given : List (Name × Delivered)) (fs : List InstanceStep) (d : FlowValues) (are : AreLinkValues f given fs d) where
  pub feeds-numbered : (os : List (Name × Feed)) → list_all (λ (o : Name × Feed). list_all (is_there f) (feed_links o.1)) os ≡ true
      → map (λ (o : Name × Feed). feed_value d (feed_numbered f o.1) (constant_or o.1)) os ≡ map (λ (o : Name × Feed). plain (feed_delivers step_of given fs o.1).value) os
  feeds-numbered [] h = refl
  feeds-numbered (o ∷ os) h =
      let p = and_parts (list_all (is_there f) (feed_links o.1)) (list_all (λ (u : Name × Feed). list_all (is_there f) (feed_links u.1)) os) h in
      ap₂ (λ y ys. y ∷ ys)
      (feed-numbered f given fs d are o.1 p.0 (constant_or o.1) (λ c g. ap (λ z. unwrap_or z no_items) g))
      (feeds-numbered os p.1)

-- ---- a flow without steps, from what is known

no-output : (ss : List (Name × Step)) → length ss ≡ 0 → (t o : Name) → option_map_or (λ (s : Step). has_name s.outputs o) (named t ss) false ≡ true → ⊥
no-output [] e t o h = true≢false (sym h)
no-output (s ∷ ss) e t o h = omega (arith, e)

-- what its outputs deliver
abbrev delivered : Known → Flow → List Value
delivered k f = map (λ (o : Name × Feed). feed_value (whole_values k) (feed_numbered f o.1) (constant_or o.1)) f.outputs

module _ (f : Flow) (links : has_output_links f ≡ true) (none : length f.steps ≡ 0) (k : Known) where
  all-whole : length k.inputs ≡ length f.inputs → IsAllWhole f k
  all-whole many = record {
    inputs = λ x h. get-within k.inputs (position x f.inputs) (subst (λ n. position x f.inputs < n) (sym many) (there x f.inputs h).below);
    outputs = λ t o h. absurd (no-output f.steps none t o h);
  }

  -- WHAT IS FOUND
  outputs-found : length k.inputs ≡ length f.inputs → outputs_found k (flow_constants f) (map (λ (o : Name × Feed). feed_numbered f o.1) f.outputs) ≡ Some (delivered k f)
  outputs-found many =
      outputs-whole f k (all-whole many) (flow_constants f) 0 f.outputs links
      (λ i o g. ap (constant_of_output (flow_constants f)) (from-zero i) ∙ ap (option_and_then (λ c. c)) (get-map (λ (u : Name × Feed). constant_in u.1) f.outputs i o g))
    where
      from-zero : (m : ℕ) → 0 + m ≡ m
      from-zero m = omega arith

-- WHAT IS DELIVERED in each instance on these inputs
module _ (v : View) (links : has_output_links v.flow ≡ true) (none : length v.flow.steps ≡ 0) (k : Known) (values : k.inputs ≡ map (λ (x : Name × Value). x.1) v.inputs) (names : map (λ (x : Name × Value). x.0) v.inputs ≡ map (λ (x : Name × ℕ). x.0) v.flow.inputs) where
  outputs-delivered : AreOutputs v (delivered k v.flow)
  outputs-delivered instance results depth x = feeds-numbered v.flow (given_of v.flow v.inputs) fs (whole_values k) are v.flow.outputs links
    where
      fs : List InstanceStep
      fs = steps_with v instance results

      are : AreLinkValues v.flow (given_of v.flow v.inputs) fs (whole_values k)
      are (input y) h =
          ap (λ vs. slice_index_or vs (position y v.flow.inputs) no_items) values
          ∙ input-numbered v names y h
          ∙ sym (ap plain (link-found v.flow (λ s. 0) instance results v.inputs [] tt (input y) h refl) ∙ plain-input y [] (value_given v.inputs y))
      are (output t o) h = absurd (no-output v.flow.steps none t o h)

-- ---- in the words of the call

module _ (plan : FlowPlan) (none : length (flow_view plan.flow).steps ≡ 0) (k : Known) (cs : FlowConstants) (fs : List NumberedFeed) (constants : cs ≡ flow_constants (flow_view plan.flow)) (feeds : fs ≡ plan.wiring.outputs) where
  links-there : has_output_links (flow_view plan.flow) ≡ true
  links-there = output-links (flow_view plan.flow) plan.kept.1

  -- it takes as many inputs as the flow has
  found-so : (flows : List (Name × Flow)) → CanStart flows plan k.inputs → outputs_found k cs fs ≡ Some (delivered k (flow_view plan.flow))
  found-so flows can =
      let f = flow_view plan.flow in
      let many : length k.inputs ≡ length f.inputs = as-declared (map (λ (x : Name × ℕ). x.1) f.inputs) k.inputs can.right ∙ length-map f.inputs (λ (x : Name × ℕ). x.1) in
      ap (λ c. outputs_found k c fs) constants
      ∙ ap (outputs_found k (flow_constants f)) (feeds ∙ outputs-are plan)
      ∙ outputs-found f links-there none k many

  pub first-found : (flows : List (Name × Flow)) → CanStart flows plan k.inputs → IsTrue (is_some (outputs_found k cs fs))
  first-found flows can = ap is_some (found-so flows can)

  -- THE OUTPUTS
  pub first-outs : (flows : List (Name × Flow)) → CanStart flows plan k.inputs → (ps : List Piece) → AreSound ps → outputs_found k cs fs ≡ Some (piece_values ps) → AreFirstOuts plan k.inputs (Some ps)
  first-outs flows can ps sound found = (
    none,
    sound,
    λ v flow values names.
        subst (AreOutputs v) (ap (delivered k) flow ∙ same_Some (delivered k (flow_view plan.flow)) (piece_values ps) (sym (found-so flows can) ∙ found))
        (outputs-delivered v (subst (λ g. has_output_links g ≡ true) (sym flow) links-there) (ap (λ (g : Flow). length g.steps) flow ∙ none) k (sym values) names),
  )
