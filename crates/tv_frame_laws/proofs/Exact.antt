-- What is known of a feed or a port shows exactly the known nodes of what the feed delivers or the
-- port takes.
use Rattle.std.specs.List.{list_all}
use Rattle.std.specs.Option.{IsSomeAnd}
use Rattle.std.specs.Prelude.{◌≡◌, refl, ℕ, zero, suc, Bool, true, List, [], ◌∷◌, Some, map, option_and_then}
use Rattle.std.proofs.Common.{sym, ap, subst, ◌∙◌}
use Rattle.std.proofs.lemmas.Bool.{and_parts}
use Rattle.std.proofs.lemmas.Option.{none-some, same_Some}
use Rattle.tv_lemmas.specs.Members.{Each}
use Rattle.tv_value.specs.Nested.{Place, at, item_at, list, no_trees, note, trees_of}
use Rattle.tv_value.specs.Values.{JobName, Name, Value}
use Rattle.tv_flow.specs.Flows.{Feed, Flow, Link, StepInput, constant, input, link, merge, output}
use Rattle.tv_strategy.specs.Origins.{Origin, Traced, fixed, plain}
use Rattle.tv_strategy.proofs.Each.{each-weaken}
use Rattle.tv_naming.specs.Naming.{feed_links, is_there}
use Rattle.tv_model.specs.instance.Delivered.{Delivered, link_delivers, wrapped}
use Rattle.tv_parts.specs.Below.{Below}
use Rattle.tv_parts.specs.Partials.{Partial, part_of, shows}
use Rattle.tv_parts.proofs.Known.{whole-noted}
use Rattle.tv_parts.proofs.Wholeness.{whole-is}
use Rattle.tv_check.specs.declared.plans.FlowPlan.{FlowPlan}
use Rattle.tv_outputs.specs.Known.{Nodes}
use Rattle.tv_model.specs.Instances.{given_of, value_given}
use Rattle.tv_model.specs.instance.ByResults.{InstanceStep, Results, result_at, step_of}
use Rattle.tv_model.specs.instance.Events.{Extends, is_known_by, known_by}
use Rattle.tv_frame.specs.Arriving.{part_so_far}
use Rattle.tv_frame.specs.FramingViews.{AreOfDepth, View, steps_with}
use Rattle.tv_frame.specs.engine.WiredFlows.{IsWired}
use Rattle.tv_frame.proofs.engine.Pieces.{so_far-shows}
use Rattle.tv_frame.proofs.framing_starts.Ports.{link-found}
use Rattle.tv_frame.proofs.framing_starts.Steps.{IsMade, IsPlaced, all_depths, steps-placed}
use Rattle.tv_frame.specs.declared.frame.Frame.{Frame}
use Rattle.tv_frame.specs.Kept.{Keeps}
use Rattle.tv_frame.specs.Tables.{levels_in}
use Rattle.tv_frame.proofs.Feeds.{fit-step, output-found, output-tree}
use Rattle.tv_frame.proofs.KnownFeeds.{traced-note}
use Rattle.tv_frame_laws.specs.values.Exact.{FlowOutputsAreExact, IsAllKnown, OutputsAreExact, PortsAreExact}
use Rattle.tv_frame_laws.specs.values.Known.{input_of, known_of_feed, known_of_port, tree_of}
use Rattle.tv_frame_laws.specs.values.Parts.{link_part, parts_of, wraps_of}
use Rattle.tv_frame_laws.proofs.Holding.{outputs-below, tree-is}
use Rattle.tv_frame_laws.proofs.Feeds.{delivers, feed-below, flow_output-links, port-below, port-links, port-takes, wired}
use Rattle.tv_frame_laws.proofs.Shown.{IsShown, input-note, out-shown, wrapped-shown}

-- a tree that shows the known nodes is whole where all are known
all-known : (known : Origin → Bool) (r : Partial Value) (u : Traced) → Below r (plain u) → IsShown known r u → IsAllKnown known r u
all-known known r u below shown = record {
  shown = λ y w e. sym (shown y w e);
  whole_where = sym (whole-noted Origin known r u below shown);
  value = whole-is r (plain u) below;
}

module _ (flows : List (Name × Flow)) (plan : FlowPlan) (pool : Nodes) (f : Frame) (v : View) (keeps : Keeps flows plan pool f v) (instance : JobName) (results : Results) (depth : AreOfDepth v instance results) (x : Extends results v.events) where
  abbrev levels : Name → ℕ
  levels = levels_in v.flow

  abbrev fs : List InstanceStep
  fs = steps_with v instance results

  abbrev given : List (Name × Delivered)
  given = given_of v.flow v.inputs

  abbrev known : Origin → Bool
  known = known_by instance v.events

  abbrev known_link : Link → Partial Value
  known_link = link_part (input_of f v.flow) (tree_of pool f v.flow)

  abbrev link_value : Link → Traced
  link_value l = (link_delivers step_of given fs l).value

  abbrev Made : InstanceStep → Type 0
  Made = IsMade v.flow levels instance results given

  abbrev its_wired : IsWired v.flow
  its_wired = wired flows plan pool f v keeps

  made : Each Made fs
  made =
      each-weaken (IsPlaced v.flow levels instance results given flows (all_depths flows levels v keeps.of_depths its_wired) fs) Made (λ g p. p.own) fs
      (steps-placed flows levels v keeps.of_depths its_wired instance results depth)

  link-shown : (l : Link) → is_there v.flow l ≡ true → IsShown known (known_link l) (link_value l)
  link-shown (input z) there y w e =
      ap (is_known_by instance v.events)
      (input-note z [] (value_given v.inputs z) y w (ap (λ u. at u y) (sym (link-found v.flow levels instance results v.inputs fs made (input z) there refl)) ∙ e))
  link-shown (output t o) there y w e =
      let h = output-found flows levels v keeps.of_depths its_wired keeps.frame.legal instance results depth x t o there in
      let g = h.step in
      let tree = tree-is flows plan pool f v keeps t o there ∙ output-tree flows levels v keeps.of_depths its_wired keeps.frame.legal instance results depth x t o there in
      let shows_all = so_far-shows g h.out.0 h.out.2 h.out.1 v.events (fit-step flows levels v keeps.of_depths its_wired keeps.frame.legal instance results depth x g h.among) in
      subst (λ (r : Partial Value). known (note w) ≡ shows r y) (sym tree)
      (out-shown instance g.step.step v.events (result_at results g.step.step h.out.0) h.out.1 g.step.iteration [] h.out.2 (part_so_far g.step.step h.out.0 h.out.2 h.out.1 v.events) shows_all y w
      (ap (λ u. at u y) (sym h.out.3) ∙ e))

  links-shown : (ls : List Link) → list_all (is_there v.flow) ls ≡ true → (i : ℕ) (y : Place) (w : Traced)
      → option_and_then (λ (u : Traced). at u y) (item_at (trees_of (map (λ (d : Delivered). d.value) (map (link_delivers step_of given fs) ls))) i) ≡ Some w
      → known (note w) ≡ shows (part_of (parts_of (map known_link ls)) i) y
  links-shown [] there i y w e = absurd (none-some w e)
  links-shown (l ∷ ls) there zero y w e = link-shown l (and_parts (is_there v.flow l) (list_all (is_there v.flow) ls) there).0 y w e
  links-shown (l ∷ ls) there (suc i) y w e = links-shown ls (and_parts (is_there v.flow l) (list_all (is_there v.flow) ls) there).1 i y w e

  feed-shown : (d : Feed) → list_all (is_there v.flow) (feed_links d) ≡ true → IsShown known (known_of_feed pool f v.flow d) (delivers flows plan pool f v keeps instance results depth x d).value
  feed-shown (link l) there y w e = link-shown l (and_parts (is_there v.flow l) true there).0 y w e
  feed-shown (merge []) there [] w e = ap (λ (u : Traced). known (note u)) (sym (same_Some (list fixed no_trees) w e))
  feed-shown (merge []) there (i ∷ y) w e = absurd (none-some w e)
  feed-shown (merge (l ∷ ls)) there [] w e = ap (λ (u : Traced). known (note u)) (sym (same_Some (list fixed (trees_of (map (λ (d : Delivered). d.value) (map (link_delivers step_of given fs) (l ∷ ls))))) w e))
  feed-shown (merge (l ∷ ls)) there (i ∷ y) w e = links-shown (l ∷ ls) there i y w e
  feed-shown (constant c) there y w e = ap known (traced-note fixed c y w e)

  -- THE FEEDS
  pub feed-exact : (d : Feed) → list_all (is_there v.flow) (feed_links d) ≡ true → IsAllKnown known (known_of_feed pool f v.flow d) (delivers flows plan pool f v keeps instance results depth x d).value
  feed-exact d there =
      all-known known (known_of_feed pool f v.flow d) (delivers flows plan pool f v keeps instance results depth x d).value
      (feed-below flows plan pool f v keeps instance results depth x d there) (feed-shown d there)

  -- THE PORTS
  pub port-exact : (i : StepInput) → list_all (is_there v.flow) (feed_links i.from) ≡ true → IsAllKnown known (known_of_port pool f v.flow i) (wrapped (wraps_of v.flow i) (delivers flows plan pool f v keeps instance results depth x i.from).value)
  port-exact i there =
      let u = (delivers flows plan pool f v keeps instance results depth x i.from).value in
      all-known known (known_of_port pool f v.flow i) (wrapped (wraps_of v.flow i) u)
      (port-below flows plan pool f v keeps instance results depth x i there)
      (wrapped-shown known refl (wraps_of v.flow i) (known_of_feed pool f v.flow i.from) u (feed-shown i.from there))

pub outputs-exact : OutputsAreExact
outputs-exact flows plan pool f v keeps t o there instance results depth x =
    all-known (known_by instance v.events) (tree_of pool f v.flow t o)
    (link_delivers step_of (given_of v.flow v.inputs) (steps_with v instance results) (output t o)).value
    (outputs-below flows plan pool f v keeps t o there instance results depth x)
    (link-shown flows plan pool f v keeps instance results depth x (output t o) there)

pub ports-exact : PortsAreExact
ports-exact flows plan pool f v keeps s among i port instance results depth x =
    subst (λ o. IsSomeAnd o (IsAllKnown (known_by instance v.events) (known_of_port pool f v.flow i.1)))
    (sym (port-takes flows plan pool f v keeps instance results depth x s among i port))
    (port-exact flows plan pool f v keeps instance results depth x i.1 (port-links flows plan pool f v keeps s among i port))

pub flow_outputs-exact : FlowOutputsAreExact
flow_outputs-exact flows plan pool f v keeps o among instance results depth x =
    feed-exact flows plan pool f v keeps instance results depth x o.1 (flow_output-links flows plan pool f v keeps o among)
