-- A known fault in what a feed delivers is found by what is known so far of the feed's inputs and outputs.
use Rattle.std.specs.List.{list_all}
use Rattle.std.specs.Prelude.{◌≡◌, refl, ℕ, zero, suc, ◌-◌, ◌<◌, Bool, true, false, List, [], ◌∷◌, if◌then◌else◌, map, Some, option_and_then, slice_get, unwrap_or}
use Rattle.std.proofs.Common.{arith, sym, ap, ap₂, subst, ◌∙◌}
use Rattle.std.proofs.lemmas.Bool.{and_parts}
use Rattle.std.proofs.lemmas.Option.{none-some, same_Some}
use Rattle.tv_lemmas.specs.Members.{Each, In}
use Rattle.tv_lemmas.proofs.Members.{each_in}
use Rattle.tv_value.specs.Nested.{Place, at, item_at, leaf, trees_of}
use Rattle.tv_value.specs.Orders.{named, same_name}
use Rattle.tv_value.specs.Values.{ErrorDoc, JobName, Name, fault, fault_value}
use Rattle.tv_flow.specs.Flows.{Feed, Flow, Link, StepInput, constant, input, link, merge, output}
use Rattle.tv_strategy.specs.Levels.{HasLevels}
use Rattle.tv_strategy.specs.Origins.{Origin, fixed, plain, traced}
use Rattle.tv_naming.specs.Naming.{feed_links, has_name, is_there}
use Rattle.tv_naming.specs.Numbers.{position}
use Rattle.tv_value.proofs.NameLemmas.{same_name-is}
use Rattle.tv_model.specs.instance.Delivered.{Delivered, Ported, feed_delivers, link_delivers, at_port, wrapped}
use Rattle.tv_check.specs.Feeds.{feed_numbered, link_numbered, outputs_of}
use Rattle.tv_outputs.specs.FoundIn.{found_in}
use Rattle.tv_binding.specs.Constants.{constant_in}
use Rattle.tv_binding.specs.Found.{Known, feed_found, link_found}
use Rattle.tv_model.specs.Instances.{given_of, value_given}
use Rattle.tv_model.specs.instance.ByResults.{InstanceStep, Results, ports_on, step_of}
use Rattle.tv_model.specs.instance.Events.{Extends, known_by}
use Rattle.tv_model.specs.instance.Fitting.{FitStep}
use Rattle.tv_framing.proofs.instances.Legal.{legal-fit}
use Rattle.tv_framing.proofs.instances.Levels.{steps-have_their_levels}
use Rattle.tv_framing.specs.instances.Stated.{HasItsLevels}
use Rattle.tv_framing.specs.Arriving.{part_so_far}
use Rattle.tv_framing.specs.Frames.{IsFrame}
use Rattle.tv_framing.specs.Stated.{IsOfDepths}
use Rattle.tv_framing.specs.Views.{AreOfDepth, View, steps_with}
use Rattle.tv_framing.proofs.Frames.{in-finds, steps-distinct}
use Rattle.tv_framing.proofs.starts.Plain.{plain-input, plain-traced}
use Rattle.tv_framing.proofs.starts.Ports.{LinkIsFound, LinksAreFound}
use Rattle.tv_framing.proofs.starts.Steps.{IsMade}
use Rattle.tv_framing.specs.faults.Known.{tree_of}
use Rattle.tv_framing.proofs.faults.Places.{mapped-at}
use Rattle.tv_frame.proofs.FaultingTrees.{leaf-found}

-- all that is known of inputs and outputs, by their numbers
pub record KnowsAll (levels : Name → ℕ) (v : View) (k : Known) : Type 0 where
  pub inputs : (y : Name) → has_name v.flow.inputs y ≡ true → slice_get k.inputs (position y v.flow.inputs) ≡ Some (value_given v.inputs y)
  pub outputs :
      (t o : Name) → is_there v.flow (output t o) ≡ true
      → k.outputs (position t v.flow.steps) (position o (outputs_of v.flow t)) ≡ tree_of v.flow levels v.events t o

module _ (flows : List (Name × Flow)) (levels : Name → ℕ) (v : View) (depths : IsOfDepths flows levels v) (frame : IsFrame v) (k : Known) (all : KnowsAll levels v k) (instance : JobName) (results : Results) (depth : AreOfDepth v instance results) (x : Extends results v.events)
    (before : List InstanceStep) (made : Each (IsMade v.flow levels instance results (given_of v.flow v.inputs)) before) (stay : (g : InstanceStep) → In g before → In g (steps_with v instance results)) where
  abbrev given : List (Name × Delivered)
  given = given_of v.flow v.inputs

  abbrev fs : List InstanceStep
  fs = steps_with v instance results

  fits : (g : InstanceStep) → In g before → FitStep g v.events
  fits g i = legal-fit instance fs g (in-finds fs (steps-distinct v instance results) g (stay g i)) v.events (frame.legal instance results depth x)

  leveled : (g : InstanceStep) → In g before → HasLevels g.step.iteration (levels g.step.step)
  leveled g i = (each_in (HasItsLevels levels) fs (steps-have_their_levels flows v.flow depths.flow v.inputs depths.inputs instance results depth levels depths.levels_are) g (stay g i)).levels_told

  link-known : (l : Link) → is_there v.flow l ≡ true → LinkIsFound v.flow levels instance results v.inputs before l (link_delivers step_of given before l) → (q : Place) (o : Origin) (e : ErrorDoc) → at (link_delivers step_of given before l).value q ≡ Some (leaf o (fault e)) → known_by instance v.events o ≡ true → link_found k (link_numbered v.flow l) q ≡ Some (fault_value e)
  link-known (input y) there h q o e a c =
      ap (option_and_then (λ u. at u q)) (all.inputs y there)
      ∙ ap (λ u. at u q) (sym (ap plain h ∙ plain-input y [] (value_given v.inputs y)))
      ∙ mapped-at (λ n. tt) (link_delivers step_of given before (input y)).value q (leaf o (fault e)) a
  link-known (output t p) there h q o e a c =
      let outs = outputs_of v.flow t in
      let same : tree_of v.flow levels v.events t p ≡ part_so_far h.step.step.step h.out.0 h.out.2 h.out.1 v.events =
      ap (λ s. part_so_far s (position p outs) (levels t) (unwrap_or (named p outs) 0) v.events) (sym h.name)
      ∙ ap (λ m. part_so_far h.step.step.step m (levels t) (unwrap_or (named p outs) 0) v.events) (sym h.number)
      ∙ ap₂ (λ m d. part_so_far h.step.step.step h.out.0 m d v.events) (sym h.leveled) (sym h.declared) in
      let deep : HasLevels h.step.step.iteration h.out.2 = subst (HasLevels h.step.step.iteration) (ap levels h.name ∙ sym h.leveled) (leveled h.step h.among) in
      ap (found_in q) (all.outputs t p there ∙ same)
      ∙ leaf-found instance results h.step (link_delivers step_of given before (output t p)) h.out deep v.events x (fits h.step h.among) q o e a c

  links-known : (ls : List Link) (i : ℕ) → list_all (is_there v.flow) ls ≡ true → LinksAreFound v.flow levels instance results v.inputs before made ls → (q : Place) (o : Origin) (e : ErrorDoc) → option_and_then (λ u. at u q) (item_at (trees_of (map (λ (y : Delivered). y.value) (map (link_delivers step_of given before) ls))) i) ≡ Some (leaf o (fault e)) → known_by instance v.events o ≡ true → option_and_then (λ l. link_found k l q) (slice_get (map (link_numbered v.flow) ls) i) ≡ Some (fault_value e)
  links-known [] i there h q o e a c = absurd (none-some (leaf o (fault e)) a)
  links-known (l ∷ ls) zero there h q o e a c = link-known l (and_parts (is_there v.flow l) (list_all (is_there v.flow) ls) there).0 h.0 q o e a c
  links-known (l ∷ ls) (suc i) there h q o e a c = links-known ls i (and_parts (is_there v.flow l) (list_all (is_there v.flow) ls) there).1 h.1 q o e a c

  -- THE FEEDS
  pub feed-known : (d : Feed) → list_all (is_there v.flow) (feed_links d) ≡ true → LinksAreFound v.flow levels instance results v.inputs before made (feed_links d) → (q : Place) (o : Origin) (e : ErrorDoc) → at (feed_delivers step_of given before d).value q ≡ Some (leaf o (fault e)) → known_by instance v.events o ≡ true → feed_found k (feed_numbered v.flow d) (constant_in d) q ≡ Some (fault_value e)
  feed-known (link l) there h q o e a c = link-known l (and_parts (is_there v.flow l) true there).0 h.0 q o e a c
  feed-known (merge []) there h [] o e a c = absurd (cc)
  feed-known (merge []) there h (i ∷ q) o e a c = absurd (none-some (leaf o (fault e)) a)
  feed-known (merge (l ∷ ls)) there h [] o e a c = absurd (cc)
  feed-known (merge (l ∷ ls)) there h (i ∷ q) o e a c = links-known (l ∷ ls) i there h q o e a c
  feed-known (constant w) there h q o e a c =
      ap (λ u. at u q) (sym (plain-traced fixed w))
      ∙ mapped-at (λ n. tt) (traced fixed w) q (leaf o (fault e)) a

-- ---- ports

-- a port of a name is what its input is delivered
pub record IsPortAt (delivers : Feed → Delivered) (is : List (Name × StepInput)) (n : Name) (p : Ported) : Type 0 where
  pub number : ℕ
  pub takes : StepInput
  pub stands : slice_get is number ≡ Some (n, takes)
  pub port_is : p ≡ at_port takes.depth (delivers takes.from)

pub port-at : (delivers : Feed → Delivered) (is : List (Name × StepInput)) (n : Name) (p : Ported) → named n (ports_on delivers is) ≡ Some p → IsPortAt delivers is n p
port-at delivers [] n p e = absurd (none-some p e)
port-at delivers (i ∷ is) n p e = by (same_name n i.0) refl e (λ g. port-at delivers is n p g)
  where
    by : (b : Bool) → same_name n i.0 ≡ b → (if b then Some (at_port i.1.depth (delivers i.1.from)) else named n (ports_on delivers is)) ≡ Some p → (named n (ports_on delivers is) ≡ Some p → IsPortAt delivers is n p) → IsPortAt delivers (i ∷ is) n p
    by true f g rec = record { number = 0; takes = i.1; stands = ap (λ m. Some (m, i.1)) (sym (same_name-is n i.0 f)); port_is = sym (same_Some _ _ g) }
    by false f g rec = let r = rec g in record { number = suc r.number; takes = r.takes; stands = r.stands; port_is = r.port_is }

-- a port that walks levels is not wrapped
pub not-wrapped : (declared : ℕ) (d : Delivered) → 0 < (at_port declared d).mismatch → (at_port declared d).value ≡ d.value
not-wrapped declared d h = ap (λ n. wrapped n d.value) (none d.depth h)
  where
    none : (n : ℕ) → 0 < n - declared → declared - n ≡ 0
    none n g = omega arith
