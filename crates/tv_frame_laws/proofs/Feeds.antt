-- What is known of a feed is below what the feed delivers, and so is what is known of a port.
use Rattle.std.specs.List.{list_all}
use Rattle.std.specs.Option.{IsSomeAnd}
use Rattle.std.specs.Prelude.{◌≡◌, ℕ, zero, suc, ◌-◌, true, List, [], ◌∷◌, Some, map, option_and_then, option_map, slice_index_or}
use Rattle.std.proofs.Common.{sym, ap, subst, ◌∙◌}
use Rattle.std.proofs.lemmas.Bool.{and_parts}
use Rattle.tv_lemmas.specs.Members.{In}
use Rattle.tv_value.specs.Nested.{map_trees, trees_of}
use Rattle.tv_value.specs.Orders.{named}
use Rattle.tv_value.specs.Values.{JobName, Name, Value}
use Rattle.tv_flow.specs.Flows.{Feed, Flow, Link, Step, StepInput, constant, input, link, merge, output}
use Rattle.tv_flow.specs.Formed.{is_step_input}
use Rattle.tv_strategy.specs.Origins.{Traced, fixed, plain}
use Rattle.tv_naming.specs.Naming.{feed_links, has_name, is_there}
use Rattle.tv_naming.specs.Numbers.{position}
use Rattle.tv_naming.proofs.FormedParts.{ascending, passes, step-at, step-inputs}
use Rattle.tv_model.specs.instance.Delivered.{Delivered, Ported, feed_delivers, link_delivers, at_port, wrapped}
use Rattle.tv_parts.specs.Below.{Below, EachBelow}
use Rattle.tv_parts.specs.Partials.{Partial}
use Rattle.tv_check.specs.PlanViews.{IsOfDocument}
use Rattle.tv_check.specs.declared.plans.FlowPlan.{FlowPlan}
use Rattle.tv_outputs.specs.Known.{Nodes}
use Rattle.tv_frame.specs.Delivered.{no_items}
use Rattle.tv_model.specs.Instances.{given_of}
use Rattle.tv_model.specs.instance.ByResults.{InstanceStep, Results, step_of}
use Rattle.tv_model.specs.instance.Events.{Extends}
use Rattle.tv_frame.specs.FramingViews.{AreOfDepth, View, steps_with}
use Rattle.tv_frame.proofs.Frames.{in-finds, steps-distinct}
use Rattle.tv_frame.specs.engine.WiredFlows.{IsWired}
use Rattle.tv_frame.proofs.framing_starts.Plain.{plain-traced}
use Rattle.tv_frame.proofs.framing_feeds.Standing.{fed-depth, stands}
use Rattle.tv_lemmas.proofs.Members.{get-in as in-at}
use Rattle.tv_frame.specs.declared.frame.Frame.{Frame}
use Rattle.tv_frame.specs.Kept.{Keeps}
use Rattle.tv_frame.specs.Tables.{levels_in}
use Rattle.tv_frame.proofs.Binding.{named-mapped, named-there}
use Rattle.tv_frame.proofs.Feeds.{input-numbered, input-plain}
use Rattle.tv_frame.proofs.Keeping.{kept-wired}
use Rattle.tv_frame.proofs.OutputLinks.{output-links}
use Rattle.tv_frame_laws.specs.values.Known.{input_of, known_of_feed, known_of_port, tree_of}
use Rattle.tv_frame_laws.specs.values.Parts.{link_part, parts_of, wrapped_part, wraps_of}
use Rattle.tv_frame_laws.specs.values.Stated.{FlowOutputsAreBelow, PortsAreBelow, port_takes}
use Rattle.tv_frame_laws.proofs.Holding.{outputs-below}

wrapped-below : (k : ℕ) (r : Partial Value) (u : Traced) → Below r (plain u) → Below (wrapped_part k r) (plain (wrapped k u))
wrapped-below zero r u h = h
wrapped-below (suc k) r u h = (wrapped-below k r u h, tt)

module _ (flows : List (Name × Flow)) (plan : FlowPlan) (pool : Nodes) (f : Frame) (v : View) (keeps : Keeps flows plan pool f v) where
  pub wired : IsWired v.flow
  wired = kept-wired flows plan pool f v keeps

  -- all links are there
  pub port-links : (s : Name × Step) → In s v.flow.steps → (i : Name × StepInput) → In i s.1.inputs → list_all (is_there v.flow) (feed_links i.1.from) ≡ true
  port-links s among i port =
      let n = in-at s v.flow.steps among in
      let k = in-at i s.1.inputs port in
      passes (λ (j : Name × StepInput). list_all (is_there v.flow) (feed_links j.1.from)) s.1.inputs k.0 i
      (passes (λ (t : Name × Step). list_all (λ j. list_all (is_there v.flow) (feed_links j.1.from)) t.1.inputs) v.flow.steps n.0 s wired.links n.1) k.1

  pub flow_output-links : (o : Name × Feed) → In o v.flow.outputs → list_all (is_there v.flow) (feed_links o.1) ≡ true
  flow_output-links o among =
      let k = in-at o v.flow.outputs among in
      passes (λ (p : Name × Feed). list_all (is_there v.flow) (feed_links p.1)) v.flow.outputs k.0 o
      (output-links v.flow (subst IsOfDocument (sym keeps.flow_is) plan.kept.1)) k.1

  module _ (instance : JobName) (results : Results) (depth : AreOfDepth v instance results) (x : Extends results v.events) where
    abbrev pub fs : List InstanceStep
    fs = steps_with v instance results

    abbrev pub given : List (Name × Delivered)
    given = given_of v.flow v.inputs

    abbrev pub delivers : Feed → Delivered
    delivers = feed_delivers step_of given fs

    abbrev known_link : Link → Partial Value
    known_link = link_part (input_of f v.flow) (tree_of pool f v.flow)

    -- ---- links and feeds

    input-is : (y : Name) → has_name v.flow.inputs y ≡ true → input_of f v.flow y ≡ plain (link_delivers step_of given fs (input y)).value
    input-is y there =
        ap (λ vs. slice_index_or vs (position y v.flow.inputs) no_items) (sym keeps.inputs_are.values)
        ∙ input-numbered v keeps.inputs_are.names y there
        ∙ sym (input-plain flows (levels_in v.flow) v keeps.of_depths wired keeps.frame.legal instance results depth x y there)

    link-below : (l : Link) → is_there v.flow l ≡ true → Below (known_link l) (plain (link_delivers step_of given fs l).value)
    link-below (input y) there = input-is y there
    link-below (output t o) there = outputs-below flows plan pool f v keeps t o there instance results depth x

    links-below : (ls : List Link) → list_all (is_there v.flow) ls ≡ true → EachBelow (parts_of (map known_link ls)) (map_trees (λ o. tt) (λ a. a) (trees_of (map (λ (d : Delivered). d.value) (map (link_delivers step_of given fs) ls))))
    links-below [] there = tt
    links-below (l ∷ ls) there =
        let b = and_parts (is_there v.flow l) (list_all (is_there v.flow) ls) there in
        (link-below l b.0, links-below ls b.1)

    -- THE FEEDS
    pub feed-below : (d : Feed) → list_all (is_there v.flow) (feed_links d) ≡ true → Below (known_of_feed pool f v.flow d) (plain (delivers d).value)
    feed-below (link l) there = link-below l (and_parts (is_there v.flow l) true there).0
    feed-below (merge []) there = tt
    feed-below (merge (l ∷ ls)) there = links-below (l ∷ ls) there
    feed-below (constant w) there = sym (plain-traced fixed w)

    -- ---- ports

    -- the port of a step takes what its feed delivers, wrapped as the plan says
    pub port-takes : (s : Name × Step) → In s v.flow.steps → (i : Name × StepInput) → In i s.1.inputs → port_takes fs s.0 i.0 ≡ Some (wrapped (wraps_of v.flow i.1) (delivers i.1.from).value)
    port-takes s among i port =
        let n = in-at s v.flow.steps among in
        let k = in-at i s.1.inputs port in
        let h = stands flows (levels_in v.flow) v keeps.of_depths wired instance results n.0 s n.1 in
        let found = in-finds fs (steps-distinct v instance results) h.step h.there in
        ap (λ m. port_takes fs m i.0) (sym h.stands.name)
        ∙ ap (option_and_then (λ (g : InstanceStep). option_map (λ (p : Ported). p.value) (named i.0 g.step.inputs))) found
        ∙ ap (λ ps. option_map (λ (p : Ported). p.value) (named i.0 ps)) h.stands.inputs
        ∙ ap (option_map (λ (p : Ported). p.value))
        (named-mapped (λ (j : StepInput). at_port j.depth (delivers j.from)) i.0 s.1.inputs i.1
        (named-there s.1.inputs k.0 i (ascending is_step_input 0 16 s.1.inputs (step-inputs s.1 (step-at v.flow wired.formed n.0 s n.1))) k.1))
        ∙ ap (λ c. Some (wrapped (i.1.depth - c) (delivers i.1.from).value)) (fed-depth flows (levels_in v.flow) v keeps.of_depths wired instance results i.1.from)

    -- THE PORTS
    pub port-below : (i : StepInput) → list_all (is_there v.flow) (feed_links i.from) ≡ true → Below (known_of_port pool f v.flow i) (plain (wrapped (wraps_of v.flow i) (delivers i.from).value))
    port-below i there = wrapped-below (wraps_of v.flow i) (known_of_feed pool f v.flow i.from) (delivers i.from).value (feed-below i.from there)

pub ports-below : PortsAreBelow
ports-below flows plan pool f v keeps s among i port instance results depth x =
    subst (λ o. IsSomeAnd o (λ u. Below (known_of_port pool f v.flow i.1) (plain u)))
    (sym (port-takes flows plan pool f v keeps instance results depth x s among i port))
    (port-below flows plan pool f v keeps instance results depth x i.1 (port-links flows plan pool f v keeps s among i port))

pub flow_outputs-below : FlowOutputsAreBelow
flow_outputs-below flows plan pool f v keeps o among instance results depth x =
    feed-below flows plan pool f v keeps instance results depth x o.1 (flow_output-links flows plan pool f v keeps o among)
