-- The fault that waits last at a step: it is found in what is known of the feed of its port, and may be passed.
use Rattle.std.specs.List.{list_all, list_any}
use Rattle.std.specs.Prelude.{◌≡◌, refl, ℕ, zero, suc, ◌<◌, true, drop, get_or, if◌then◌else◌, List, [], ◌∷◌, map, Option, Some, None, slice_get}
use Rattle.std.proofs.Common.{sym, ap, subst, ◌∙◌}
use Rattle.std.proofs.lemmas.Bool.{not-true}
use Rattle.std.proofs.lemmas.Option.{none-some, same_Some}
use Rattle.tv_lemmas.specs.Members.{Each, In}
use Rattle.tv_lemmas.proofs.Members.{in-slice, of-all, of-filter}
use Rattle.tv_lemmas.proofs.Lists.{get-map}
use Rattle.tv_value.specs.Nested.{Place, at}
use Rattle.tv_value.specs.Orders.{named, same_name}
use Rattle.tv_value.specs.Values.{ErrorDoc, JobName, Name, Value, fault_value}
use Rattle.tv_value.specs.Views.{strategy_view}
use Rattle.tv_flow.specs.Flows.{Flow, Step, StepInput}
use Rattle.tv_strategy.specs.Conditions.{EachOnce, number_of}
use Rattle.tv_strategy.specs.Measures.{DotsAgree, leaf_names}
use Rattle.tv_naming.specs.Naming.{feed_links, is_there}
use Rattle.tv_naming.proofs.FormedParts.{passes}
use Rattle.tv_model.specs.instance.Delivered.{Ported, feed_delivers, at_port}
use Rattle.tv_model.specs.instance.Steps.{strategy_of}
use Rattle.tv_matching.specs.Matchers.{Outcome, fault_at}
use Rattle.tv_matching.specs.Matchers as matchers
use Rattle.tv_matching.specs.Told.{IsFit, Told}
use Rattle.tv_match.specs.declared.matchers.Matcher.{Matcher}
use Rattle.tv_match.specs.Filed.{filed}
use Rattle.tv_match.specs.Seen.{matching}
use Rattle.tv_match.proofs.Calls.{told-fit}
use Rattle.tv_check.specs.declared.ports.Port.{Port}
use Rattle.tv_check.specs.Feeds.{feed_numbered}
use Rattle.tv_check.specs.Ports.{leaf_number, mismatches, port_among, ports_of}
use Rattle.tv_binding.specs.Constants.{constant_in}
use Rattle.tv_binding.specs.Found.{Known, feed_found}
use Rattle.tv_check.specs.declared.plans.FlowPlan.{FlowPlan}
use Rattle.tv_check.specs.PlanViews.{IsOfDocument}
use Rattle.tv_outputs.specs.Known.{Nodes}
use Rattle.tv_intake.specs.Intaken.{IsSoundAt, matcher_at}
use Rattle.tv_model.specs.Instances.{given_of}
use Rattle.tv_model.specs.instance.ByResults.{InstanceStep, Results, step_of}
use Rattle.tv_model.specs.instance.Events.{Extends, fault_set, has_level, known_by}
use Rattle.tv_framing.specs.Answers.{CanSettle}
use Rattle.tv_framing.specs.Views.{AreOfDepth, View, steps_with}
use Rattle.tv_framing.proofs.Possible.{some-possible}
use Rattle.tv_framing.specs.engine.WiredFlows.{IsWired}
use Rattle.tv_framing.proofs.engine.Wires.{leaf-named}
use Rattle.tv_framing.proofs.starts.Instances.{inputs-rise, ports-are, step-of, step-there}
use Rattle.tv_framing.proofs.starts.Leaves.{named-own}
use Rattle.tv_framing.specs.matches.Steps.{IsStepAt, IsStepTold}
use Rattle.tv_framing.specs.matches.Waiting.{is_waiting, waiting_of}
use Rattle.tv_framing.proofs.matches.LawLemmas.{waiting_faults-can_settle}
use Rattle.tv_lemmas.proofs.Members.{in-slice as at-in}
use Rattle.tv_framing.proofs.matches.Steps.{IsMadeOf, made-step, rising, steps-paired}
use Rattle.tv_frame.specs.declared.frame.Frame.{Frame}
use Rattle.tv_frame.specs.Kept.{HasMatcher, Keeps, followed_by}
use Rattle.tv_frame.specs.Tables.{levels_in, step_starts}
use Rattle.tv_frame.proofs.Bringing.{told-before, told_by}
use Rattle.tv_frame.proofs.FaultingFeeds.{KnowsAll, feed-known, not-wrapped, port-at}
use Rattle.tv_frame.proofs.FaultingSteps.{IsKnownAt, fault-known}
use Rattle.tv_frame.proofs.Keeping.{kept-ranked, kept-wired}
use Rattle.tv_frame.proofs.Plans.{dots-agree, leaves-differ}

-- ---- lists

-- what a mapped list has comes from what the list has
pub record IsMappedFrom {A B : Type 0} (g : A → B) (xs : List A) (k : ℕ) (y : B) : Type 0 where
  pub thing : A
  pub stands : slice_get xs k ≡ Some thing
  pub is : g thing ≡ y

mapped-from : {A B : Type 0} (g : A → B) (xs : List A) (k : ℕ) (y : B) → slice_get (map g xs) k ≡ Some y → IsMappedFrom g xs k y
mapped-from g [] k y e = absurd (none-some y e)
mapped-from g (x ∷ xs) zero y e = record { thing = x; stands = refl; is = same_Some (g x) y e }
mapped-from g (x ∷ xs) (suc k) y e = let r = mapped-from g xs k y e in record { thing = r.thing; stands = r.stands; is = r.is }

same-number : (n : Name) (ns : List Name) → leaf_number n ns ≡ matchers.leaf_number ns n
same-number n [] = refl
same-number n (m ∷ ns) = ap (λ k. if same_name n m then 0 else suc k) (same-number n ns)

fit-by : (v : View) (s : Name × Step) (o : Option Matcher) → HasMatcher v s o → IsSoundAt o → Each (IsFit (number_of (mismatches v.flow s.1))) (told_by o)
fit-by v s None h sound = absurd h
fit-by v s (Some m) h sound = subst (λ ms. Each (IsFit (number_of ms)) (matching m).told) h.mismatch_is (told-fit (strategy_view m.tree) m.mismatch (filed m.root) m.log m.out m.told m.given sound.keeps)

module _ (flows : List (Name × Flow)) (plan : FlowPlan) (pool : Nodes) (f : Frame) (v : View) (n : ℕ) (s : Name × Step) (keeps : Keeps flows plan pool f v) (stands : IsStepAt v n s) (q : Place) (l : ℕ) (waits : In (fault_at q l) (waiting_of v.events s.0 (followed_by (matcher_at f.intakes n)))) where
  abbrev os : List Outcome
  os = followed_by (matcher_at f.intakes n)

  abbrev ts : List Told
  ts = told_by (matcher_at f.intakes n)

  abbrev leaves : List Name
  leaves = leaf_names (strategy_of s.1)

  abbrev levels : Name → ℕ
  levels = levels_in v.flow

  wired : IsWired v.flow
  wired = kept-wired flows plan pool f v keeps

  told : IsStepTold v s ts os
  told = told-before v s (matcher_at f.intakes n) (keeps.matchers_are n s stands) (keeps.intaken.sound n)

  once : EachOnce leaves leaves
  once = leaves-differ v.flow (subst IsOfDocument (sym keeps.flow_is) plan.kept.1) n s stands

  dots : DotsAgree (number_of (mismatches v.flow s.1)) (strategy_of s.1)
  dots = dots-agree flows v.flow wired keeps.of_depths.flow n s stands

  follows : In (fault_at q l) os × (is_waiting v.events s.0 (fault_at q l) ≡ true)
  follows = of-filter (is_waiting v.events s.0) (fault_at q l) os waits

  -- in an instance
  pub made-at : (instance : JobName) (results : Results) → AreOfDepth v instance results → (g : InstanceStep) → In g (steps_with v instance results) → g.step.step ≡ s.0 → IsMadeOf v.flow s g
  made-at instance results depth g i e =
      let ranked = kept-ranked flows plan pool f v keeps in
      made-step v.flow (steps_with v instance results) v.flow.steps (rising flows levels v ranked) (steps-paired flows levels v ranked instance results depth) s (at-in v.flow.steps n s stands) g i e

  pub known-at : (instance : JobName) (results : Results) → AreOfDepth v instance results → Extends results v.events → (g : InstanceStep) → In g (steps_with v instance results) → g.step.step ≡ s.0 → IsKnownAt v.flow s g (known_by instance v.events) q l
  known-at instance results depth x g i e =
      fault-known v.flow s g (made-at instance results depth g i e) instance v.events ts (told.told instance results depth x g i e)
      (fit-by v s (matcher_at f.intakes n) (keeps.matchers_are n s stands) (keeps.intaken.sound n))
      once dots os told.outcomes q l follows.0

  -- in one of them
  one : (instance : JobName) × (results : Results) × (depth : AreOfDepth v instance results) × (g : InstanceStep) × In g (steps_with v instance results) × (g.step.step ≡ s.0) × IsKnownAt v.flow s g (known_by instance v.events) q l
  one =
      let r = some-possible v [] keeps.frame.given in
      let g = step-there v wired n s stands [] r.0 in
      ([], r.0, r.1, g.0, g.1, g.2, known-at [] r.0 r.1 r.2 g.0 g.1 g.2)

  -- where the leaf begins
  pub begins : (start : ℕ) × (slice_get (map (λ (x : Name × ℕ). x.1) (step_starts v.flow s)) l ≡ Some start)
  begins = let k = one.6 in (k.start, k.start_is)

  -- its port is there
  pub port-there : (k : ℕ) × (p : Port) × (slice_get (ports_of v.flow s.1) k ≡ Some p) × (p.leaf ≡ l)
  port-there =
      let w = step-of flows levels v keeps.of_depths wired n s stands one.0 one.1 one.2 one.3 one.4 one.5 in
      let known = one.6 in
      let delivers = feed_delivers step_of (given_of v.flow v.inputs) w.before in
      let p = port-at delivers s.1.inputs known.name known.port (ap (named known.name) (sym (ports-are v.flow levels one.0 one.1 v.inputs flows (steps_with v one.0 one.1) one.3 s w)) ∙ known.input) in
      (p.number, port_among v.flow leaves (known.name, p.takes), get-map (port_among v.flow leaves) s.1.inputs p.number (known.name, p.takes) p.stands, same-number known.name leaves ∙ sym known.number)

  -- a port that is the leaf
  module _ (j : ℕ) (p : Port) (there : slice_get (ports_of v.flow s.1) j ≡ Some p) (of_leaf : p.leaf ≡ l) (k : Known) (all : KnowsAll levels v k) where
    pub from : IsMappedFrom (port_among v.flow leaves) s.1.inputs j p
    from = mapped-from (port_among v.flow leaves) s.1.inputs j p there

    abbrev pub takes : Name × StepInput
    takes = from.thing

    among : In takes s.1.inputs
    among = in-slice s.1.inputs j takes from.stands

    links : list_all (is_there v.flow) (feed_links takes.1.from) ≡ true
    links =
        of-all (λ (i : Name × StepInput). list_all (is_there v.flow) (feed_links i.1.from)) s.1.inputs
        (passes (λ (t : Name × Step). list_all (λ (i : Name × StepInput). list_all (is_there v.flow) (feed_links i.1.from)) t.1.inputs) v.flow.steps n s wired.links stands) takes among

    leaf-among : list_any (same_name takes.0) leaves ≡ true
    leaf-among =
        of-all (λ (i : Name × StepInput). list_any (same_name i.0) leaves) s.1.inputs
        (passes (λ (t : Name × Step). list_all (λ (i : Name × StepInput). list_any (same_name i.0) (leaf_names (strategy_of t.1))) t.1.inputs) v.flow.steps n s wired.leaves stands) takes among

    found-at : (instance : JobName) (results : Results) (depth : AreOfDepth v instance results) → Extends results v.events → (g : InstanceStep) (i : In g (steps_with v instance results)) (e : g.step.step ≡ s.0) → (known : IsKnownAt v.flow s g (known_by instance v.events) q l) → feed_found k (feed_numbered v.flow takes.1.from) (constant_in takes.1.from) (drop known.start q) ≡ Some (fault_value known.fault.document)
    found-at instance results depth x g i e known =
        let w = step-of flows levels v keeps.of_depths wired n s stands instance results depth g i e in
        let delivers = feed_delivers step_of (given_of v.flow v.inputs) w.before in
        let name : takes.0 ≡ known.name = sym (leaf-named takes.0 leaves leaf-among) ∙ ap (λ m. get_or leaves m []) (ap (λ (y : Port). y.leaf) from.is ∙ of_leaf) ∙ known.leaf_is in
        let own : named takes.0 g.step.inputs ≡ Some (at_port takes.1.depth (delivers takes.1.from)) =
        ap (named takes.0) (ports-are v.flow levels instance results v.inputs flows (steps_with v instance results) g s w)
        ∙ named-own (λ (y : Name × StepInput). at_port y.1.depth (delivers y.1.from)) s.1.inputs (inputs-rise flows levels v keeps.of_depths wired n s stands) takes among in
        let port : known.port ≡ at_port takes.1.depth (delivers takes.1.from) = same_Some _ _ (sym known.input ∙ ap (λ m. named m g.step.inputs) (sym name) ∙ own) in
        let value : known.port.value ≡ (delivers takes.1.from).value =
        ap (λ (y : Ported). y.value) port ∙ not-wrapped takes.1.depth (delivers takes.1.from) (subst (λ (y : Ported). 0 < y.mismatch) port known.walks) in
        feed-known flows levels v keeps.of_depths keeps.frame k all instance results depth x w.before w.made w.stay takes.1.from links (w.ports takes among).found (drop known.start q) known.fault.origin known.fault.document
        (ap (λ y. at y (drop known.start q)) (sym value) ∙ known.fault.is) known.fault.knows

    -- from where the leaf begins
    module _ (start : ℕ) (start_is : slice_get (map (λ (x : Name × ℕ). x.1) (step_starts v.flow s)) l ≡ Some start) where
      found-from : (instance : JobName) (results : Results) (depth : AreOfDepth v instance results) → Extends results v.events → (g : InstanceStep) (i : In g (steps_with v instance results)) (e : g.step.step ≡ s.0) → (known : IsKnownAt v.flow s g (known_by instance v.events) q l) → feed_found k (feed_numbered v.flow takes.1.from) (constant_in takes.1.from) (drop start q) ≡ Some (fault_value known.fault.document)
      found-from instance results depth x g i e known =
          ap (λ b. feed_found k (feed_numbered v.flow takes.1.from) (constant_in takes.1.from) (drop b q)) (same_Some _ _ (sym start_is ∙ known.start_is))
          ∙ found-at instance results depth x g i e known

      -- THE FAULT: it is found, and may be passed
      pub fault-found : (d : ErrorDoc) × (feed_found k (feed_numbered v.flow takes.1.from) (constant_in takes.1.from) (drop start q) ≡ Some (fault_value d)) × CanSettle v (fault_set s.0 q d)
      fault-found =
          let r = some-possible v [] keeps.frame.given in
          let h = step-there v wired n s stands [] r.0 in
          let known = known-at [] r.0 r.1 r.2 h.0 h.1 h.2 in
          let d : ErrorDoc = known.fault.document in
          let found = found-from [] r.0 r.1 r.2 h.0 h.1 h.2 known in (
            d,
            found,
            waiting_faults-can_settle flows levels v (kept-ranked flows plan pool f v keeps) n s stands once ts os told q l follows.0 (not-true (has_level v.events s.0 q) follows.1) d
                (λ instance results depth x g i e.
                let other = known-at instance results depth x g i e in
                let same : fault_value other.fault.document ≡ fault_value d = same_Some _ _ (sym (found-from instance results depth x g i e other) ∙ found) in
                record { port = other.is_of.port; input = other.is_of.input; there = other.is_of.there ∙ ap (λ (y : Value). Some y) same }),
          )
