-- Each port of a known job is found to bind what the job binds.
use Rattle.std.specs.List.{list_all, list_any}
use Rattle.std.specs.Option.{option_map_or}
use Rattle.std.specs.Prelude.{◌≡◌, refl, ℕ, suc, ◌+◌, ◌-◌, ◌||◌, Bool, true, false, if◌then◌else◌, List, [], ◌∷◌, map, Option, Some, option_and_then, option_map, slice_get, unwrap_or}
use Rattle.std.proofs.Common.{arith, sym, ap, ap₂, subst, ◌∙◌}
use Rattle.std.proofs.lemmas.Bool.{true≢false}
use Rattle.std.proofs.lemmas.Option.{same_Some}
use Rattle.tv_lemmas.specs.Members.{Each}
use Rattle.tv_value.specs.Nested.{Place, at}
use Rattle.tv_value.specs.Orders.{named, same_name}
use Rattle.tv_value.specs.Values.{JobName, Name, Value}
use Rattle.tv_flow.specs.Flows.{Flow, Step, StepInput}
use Rattle.tv_strategy.specs.Conditions.{place_of}
use Rattle.tv_strategy.specs.Measures.{leaf_names}
use Rattle.tv_strategy.specs.Origins.{Traced, plain}
use Rattle.tv_naming.specs.Naming.{feed_links, is_there, numbered}
use Rattle.tv_value.proofs.NameLemmas.{same_name-is}
use Rattle.tv_model.specs.instance.Delivered.{Ported, feed_delivers, at_port}
use Rattle.tv_model.specs.instance.Steps.{port_iteration, port_mismatch, strategy_of}
use Rattle.tv_matching.specs.Told.{Spot}
use Rattle.tv_check.specs.Feeds.{feed_numbered}
use Rattle.tv_check.specs.Ports.{leaf_number, port_among}
use Rattle.tv_binding.specs.declared.jobs.StepPorts.{StepPorts}
use Rattle.tv_binding.specs.Constants.{FlowConstants, constant_in, constant_of_port}
use Rattle.tv_binding.specs.Delivered.{wrapped_value}
use Rattle.tv_binding.specs.Found.{Known, all_found, feed_found}
use Rattle.tv_binding.specs.Jobs.{port_found, wraps}
use Rattle.tv_model.specs.Instances.{given_of}
use Rattle.tv_model.specs.instance.ByResults.{InstanceStep, Results, step_of}
use Rattle.tv_model.specs.instance.Events.{Extends, known_by}
use Rattle.tv_model.specs.instance.Legality.{AreLegal}
use Rattle.tv_framing.specs.Stated.{IsOfDepths}
use Rattle.tv_framing.specs.Views.{AreOfDepth, InAll, View, steps_with}
use Rattle.tv_framing.specs.engine.WiredFlows.{IsWired}
use Rattle.tv_framing.proofs.matches.Matched.{at-plain}
use Rattle.tv_framing.proofs.matches.Steps.{value_in}
use Rattle.tv_frame.proofs.JobValues.{IsKnownThere}
use Rattle.tv_frame.proofs.KnownFeeds.{IsKnownIn}
use Rattle.tv_frame.proofs.PortValues.{port-is_found}

-- what stands at the number of a leaf
pub record IsLeafAt (P : Spot → Type 0) (n : Name) (rs : List Spot) (ns : List Name) : Type 0 where
  pub place : Place
  pub here : slice_get rs (leaf_number n ns) ≡ Some (n, place)
  pub named_so : named n rs ≡ Some place
  pub has : P (n, place)

pub leaf-at : (P : Spot → Type 0) (n : Name) (rs : List Spot) → list_any (same_name n) (map (λ (r : Spot). r.0) rs) ≡ true → Each P rs → IsLeafAt P n rs (map (λ (r : Spot). r.0) rs)
leaf-at P n [] h e = absurd (true≢false (sym h))
leaf-at P n (r ∷ rs) h e = by (same_name n r.0) refl h (λ k. leaf-at P n rs k e.1)
  where
    by : (b : Bool) → same_name n r.0 ≡ b → (b || list_any (same_name n) (map (λ (t : Spot). t.0) rs)) ≡ true → (list_any (same_name n) (map (λ (t : Spot). t.0) rs) ≡ true → IsLeafAt P n rs (map (λ (t : Spot). t.0) rs)) → IsLeafAt P n (r ∷ rs) (map (λ (t : Spot). t.0) (r ∷ rs))
    by true g k rec =
        let same = same_name-is n r.0 g in
        record {
          place = r.1;
          here = ap (λ b. slice_get (r ∷ rs) (if b then 0 else suc (leaf_number n (map (λ (t : Spot). t.0) rs)))) g ∙ ap (λ m. Some (m, r.1)) (sym same);
          named_so = ap (λ b. if b then Some r.1 else named n rs) g;
          has = subst (λ m. P (m, r.1)) (sym same) e.0;
        }
    by false g k rec =
        let r2 = rec k in
        record {
          place = r2.place;
          here = ap (λ b. slice_get (r ∷ rs) (if b then 0 else suc (leaf_number n (map (λ (t : Spot). t.0) rs)))) g ∙ r2.here;
          named_so = ap (λ b. if b then Some r.1 else named n rs) g ∙ r2.named_so;
          has = r2.has;
        }

module _ (flows : List (Name × Flow)) (levels : Name → ℕ) (w : View) (depths : IsOfDepths flows levels w) (wired : IsWired w.flow) (legal : InAll w (λ instance results fs. AreLegal instance fs w.events)) (instance : JobName) (results : Results) (depth : AreOfDepth w instance results) (x : Extends results w.events)
    (k : Known) (is : IsKnownIn levels w k) (g : InstanceStep) where
  abbrev takes : StepInput → Ported
  takes i = at_port i.depth (feed_delivers step_of (given_of w.flow w.inputs) (steps_with w instance results) i.from)

  abbrev IsThere : Spot → Type 0
  IsThere r = IsKnownThere (λ o. known_by instance w.events o) (port_iteration g.step.inputs) (λ p. value_in (named p g.step.inputs)) (port_mismatch g.step.inputs) r

  less : (a b m : ℕ) → a - b ≡ suc m → b - a ≡ 0
  less a b m e = omega (arith, e)

  -- THE PORT of that number, where it is wrapped as often as it takes more levels than are delivered
  pub port-binds : (cs : FlowConstants) (p : StepPorts) (n : ℕ) (s : Step) (i : Name × StepInput) → list_all (is_there w.flow) (feed_links i.1.from) ≡ true → constant_of_port cs p.number n ≡ constant_in i.1.from
      → wraps p.inputs.now p.delivered.now n ≡ i.1.depth - (feed_delivers step_of (given_of w.flow w.inputs) (steps_with w instance results) i.1.from).depth
      → named i.0 g.step.inputs ≡ Some (takes i.1)
      → (rs : List Spot) → map (λ (r : Spot). r.0) rs ≡ leaf_names (strategy_of s) → list_any (same_name i.0) (leaf_names (strategy_of s)) ≡ true → Each IsThere rs
      → (u : Traced) × (port_found k cs p rs (n, port_among w.flow (leaf_names (strategy_of s)) i) ≡ Some (plain u)) × ((q : Place) → named i.0 rs ≡ Some q → at (takes i.1).value q ≡ Some u)
  port-binds cs p n s i there constant wrapping found rs names leaf each =
      let l = leaf-at IsThere i.0 rs (subst (λ ns. list_any (same_name i.0) ns ≡ true) (sym names) leaf) each in
      let value : at (takes i.1).value l.place ≡ Some l.has.value = ap (λ o. at (value_in o) l.place) (sym found) ∙ l.has.stands in
      let port = port-is_found flows levels w depths wired legal instance results depth x k is i.1.depth i.1.from there l.place l.has.value value l.has.known_all
      (λ m e. l.has.top (ap (λ o. option_map_or (λ (d : Ported). d.mismatch) o 0) found ∙ less i.1.depth _ m e)) in (
        l.has.value,
        ap (λ ns. option_and_then (λ (r : Spot). option_map (wrapped_value (wraps p.inputs.now p.delivered.now n)) (feed_found k (feed_numbered w.flow i.1.from) (constant_of_port cs p.number n) r.1)) (slice_get rs (leaf_number i.0 ns))) (sym names)
            ∙ ap (λ o. option_and_then (λ (r : Spot). option_map (wrapped_value (wraps p.inputs.now p.delivered.now n)) (feed_found k (feed_numbered w.flow i.1.from) (constant_of_port cs p.number n) r.1)) o) l.here
            ∙ ap (λ m. option_map (wrapped_value m) (feed_found k (feed_numbered w.flow i.1.from) (constant_of_port cs p.number n) l.place)) wrapping
            ∙ ap (λ c. option_map (wrapped_value (i.1.depth - (feed_delivers step_of (given_of w.flow w.inputs) (steps_with w instance results) i.1.from).depth)) (feed_found k (feed_numbered w.flow i.1.from) c l.place)) constant
            ∙ port,
        λ q e. ap (at (takes i.1).value) (same_Some q l.place (sym e ∙ l.named_so)) ∙ value,
      )

  -- what is so of the port of that number
  pub record IsPortHere (cs : FlowConstants) (p : StepPorts) (s : Step) (n : ℕ) (i : Name × StepInput) : Type 0 where
    pub there : list_all (is_there w.flow) (feed_links i.1.from) ≡ true
    pub constant : constant_of_port cs p.number n ≡ constant_in i.1.from
    pub wrapping : wraps p.inputs.now p.delivered.now n ≡ i.1.depth - (feed_delivers step_of (given_of w.flow w.inputs) (steps_with w instance results) i.1.from).depth
    pub found : named i.0 g.step.inputs ≡ Some (takes i.1)
    pub leaf : list_any (same_name i.0) (leaf_names (strategy_of s)) ≡ true

  -- these values are found at the ports, and stand at the parts of the place
  pub record AreBoundAt (cs : FlowConstants) (p : StepPorts) (s : Step) (rs : List Spot) (m : ℕ) (ports : List (Name × StepInput)) : Type 0 where
    pub values : List Value
    pub all : all_found (map (port_found k cs p rs) (numbered m (map (port_among w.flow (leaf_names (strategy_of s))) ports))) ≡ Some values
    pub stand : map {B = Option Value} (λ v. Some v) values ≡ map {B = Option Value} (λ (d : Name × Ported). at (plain d.1.value) (place_of rs d.0)) (map (λ (i : Name × StepInput). (i.0, takes i.1)) ports)

  -- ALL PORTS of a known job
  pub job-binds : (cs : FlowConstants) (p : StepPorts) (s : Step) (rs : List Spot) → map (λ (r : Spot). r.0) rs ≡ leaf_names (strategy_of s) → Each IsThere rs → (m : ℕ) (ports : List (Name × StepInput))
      → ((j : ℕ) (i : Name × StepInput) → slice_get ports j ≡ Some i → IsPortHere cs p s (m + j) i) → AreBoundAt cs p s rs m ports
  job-binds cs p s rs names each m [] h = record { values = []; all = refl; stand = refl }
  job-binds cs p s rs names each m (i ∷ ports) h =
      let a : IsPortHere cs p s m i = subst (λ n. IsPortHere cs p s n i) (sym (here m)) (h 0 i refl) in
      let one = port-binds cs p m s i a.there a.constant a.wrapping a.found rs names a.leaf each in
      let rest = job-binds cs p s rs names each (suc m) ports (λ j t e. subst (λ n. IsPortHere cs p s n t) (sym (later m j)) (h (suc j) t e)) in
      let l = leaf-at IsThere i.0 rs (subst (λ ns. list_any (same_name i.0) ns ≡ true) (sym names) a.leaf) each in
      record {
        values = plain one.0 ∷ rest.values;
        all =
            ap (λ o. all_found (o ∷ map (port_found k cs p rs) (numbered (suc m) (map (port_among w.flow (leaf_names (strategy_of s))) ports)))) one.1
            ∙ ap (option_map (λ vs. plain one.0 ∷ vs)) rest.all;
        stand =
            ap₂ (λ y ys. y ∷ ys)
            (sym (ap (λ o. at (plain (takes i.1).value) (unwrap_or o [])) l.named_so ∙ at-plain l.place (takes i.1).value ∙ ap (option_map plain) (one.2 l.place l.named_so)))
            rest.stand;
      }
    where
      here : (b : ℕ) → b ≡ b + 0
      here b = omega arith

      later : (b c : ℕ) → suc b + c ≡ b + suc c
      later b c = omega arith
