-- What a known job binds is found, and in all instances it is what stands at the parts of the job's place.
use Rattle.std.specs.Global.{Global}
use Rattle.std.specs.List.{list_all, list_any}
use Rattle.std.specs.Option.{option_map_or}
use Rattle.std.specs.Prelude.{◌≡◌, refl, ℕ, zero, suc, ◌+◌, ◌-◌, ◌&&◌, ◌↔◌, Bool, true, false, IsTrue, find, is_some, ◌<◌, length, Vec, List, [], ◌∷◌, map, IfOk, Ok, Err, Result, Option, Some, None, option_and_then, slice_get, slice_index_or}
use Rattle.std.proofs.Common.{arith, sym, ap, ap₂, subst, ◌∙◌}
use Rattle.std.proofs.lemmas.Bool.{and_parts, true≢false}
use Rattle.std.proofs.lemmas.List.{length-map}
use Rattle.std.proofs.lemmas.List.Sorted.{IsPermutation-sym}
use Rattle.std.proofs.lemmas.Option.{get_or_from_slice_get, none-some, same_Some, slice_get_within}
use Rattle.tv_lemmas.specs.Members.{Each, In}
use Rattle.tv_lemmas.proofs.Members.{each_in}
use Rattle.tv_lemmas.proofs.Lists.{get-map}
use Rattle.tv_value.specs.Nested.{Place, at, item_at, leaf, list, no_trees, tree}
use Rattle.tv_value.specs.Orders.{named, same_name}
use Rattle.tv_value.specs.Values.{JobName, Name, Value}
use Rattle.tv_value.specs.Views.{strategy_view}
use Rattle.tv_flow.specs.Flows.{Feed, Flow, Step, StepInput}
use Rattle.tv_flow.specs.Formed.{are_named, is_depth, is_feed, is_step_input}
use Rattle.tv_flow.specs.Forms.{is_name}
use Rattle.tv_flow.specs.Views.{flow_view, step_input_view, step_view}
use Rattle.tv_flow.specs.declared.document.Step.{Step as CodeStep}
use Rattle.tv_flow.specs.declared.document.StepInput.{StepInput as CodeInput}
use Rattle.tv_strategy.specs.Conditions.{number_of, place_of}
use Rattle.tv_strategy.specs.Iterations.{Binding, Iteration, Iterations, job, passed}
use Rattle.tv_strategy.specs.Levels.{AllHaveLevels, HasLevels}
use Rattle.tv_strategy.specs.Measures.{DotsAgree, leaf_names, strategy_depth}
use Rattle.tv_strategy.specs.Origins.{Origin, plain}
use Rattle.tv_strategy.specs.Splits.{split}
use Rattle.tv_strategy.proofs.LawLemmas.{split-names_leaves}
use Rattle.tv_naming.specs.Naming.{feed_links, is_there, numbered}
use Rattle.tv_naming.proofs.FormedParts.{all-pass, ascending, passes, step-at, step-inputs}
use Rattle.tv_model.specs.instance.CheckedDepths.{feed_depth, flow_depths}
use Rattle.tv_model.specs.instance.Delivered.{Delivered, Ported, feed_delivers, at_port}
use Rattle.tv_model.specs.instance.Steps.{strategy_of}
use Rattle.tv_check.specs.declared.plans.FlowPlan.{FlowPlan}
use Rattle.tv_check.specs.declared.plans.StepPlan.{StepPlan}
use Rattle.tv_check.specs.Plans as plans
use Rattle.tv_check.specs.PlanViews.{IsOfDocument, step_plan_view}
use Rattle.tv_matching.specs.Items.{Bound, Item, Stopped, known_items, kind_of}
use Rattle.tv_matching.proofs.Members.{in-permutes}
use Rattle.tv_check.specs.declared.ports.Port.{Port}
use Rattle.tv_check.specs.declared.wiring.Wiring.{Wiring}
use Rattle.tv_check.specs.Ports.{mismatches, port_among, ports_of}
use Rattle.tv_outputs.specs.Known.{Nodes}
use Rattle.tv_intake.specs.Intaken.{IsFaultyAt, known_jobs, matcher_at}
use Rattle.tv_cell.specs.declared.piece.Piece.{Piece}
use Rattle.tv_cell.specs.PieceValues.{piece_values}
use Rattle.tv_binding.specs.declared.jobs.StepPorts.{StepPorts}
use Rattle.tv_binding.specs.declared.sources.Sources.{Sources}
use Rattle.tv_binding.specs.Constants.{FlowConstants, constant_of_port, constants_view, flow_constants}
use Rattle.tv_binding.specs.Found.{all_found}
use Rattle.tv_binding.specs.Jobs.{job_found, port_found}
use Rattle.tv_binding.specs.Parts.{IsPartOf}
use Rattle.tv_binding.specs.Sourced.{IsCounted, known_by as sourced_by}
use Rattle.tv_model.specs.Instances.{given_of}
use Rattle.tv_model.specs.instance.ByResults.{InstanceStep, Results, step_of}
use Rattle.tv_model.specs.instance.Events.{Extends, gave, known_by}
use Rattle.tv_framing.specs.instances.Stated.{HasItsLevels}
use Rattle.tv_framing.proofs.instances.Levels.{steps-have_their_levels}
use Rattle.tv_framing.specs.Answers.{AreInputs, numbered as numbered_job}
use Rattle.tv_framing.specs.Frames as frames
use Rattle.tv_framing.specs.Frames.{FitsKind}
use Rattle.tv_framing.specs.Views.{AreOfDepth, View, steps_with}
use Rattle.tv_framing.proofs.Frames.{AreDistinct, in-finds, job-end, known-stands, steps-distinct}
use Rattle.tv_framing.proofs.Possible.{some-possible}
use Rattle.tv_framing.specs.engine.WiredFlows.{IsWired}
use Rattle.tv_framing.proofs.feeds.Standing.{fed-depth, stands}
use Rattle.tv_framing.specs.matches.Items.{StandAtParts}
use Rattle.tv_framing.specs.matches.Steps.{IsOfRankedFlow}
use Rattle.tv_framing.proofs.matches.LawLemmas.{parts-are_inputs}
use Rattle.tv_lemmas.proofs.Members.{in-slice as at-in}
use Rattle.tv_framing.proofs.matches.Steps.{IsMadeOf, made-step, rising, steps-paired}
use Rattle.tv_frame.specs.declared.frame.Frame.{Frame}
use Rattle.tv_frame.specs.Kept.{Keeps, named_job}
use Rattle.tv_frame.specs.StepPorts.{ArePortsOf}
use Rattle.tv_frame.specs.Tables.{levels_in, step_starts}
use Rattle.tv_frame.proofs.Binding.{binds-once, each-mapped, named-mapped, named-there, port-part}
use Rattle.tv_frame.proofs.FirstRooms.{plan-parts}
use Rattle.tv_frame.proofs.Given.{constant-at, feed-counted, ports-at}
use Rattle.tv_frame.proofs.HoldAround.{fewer-trees, levels-measured}
use Rattle.tv_frame.proofs.JobPorts.{AreBoundAt, IsPortHere, job-binds}
use Rattle.tv_frame.proofs.JobLemmas as jobs
use Rattle.tv_frame.proofs.JobValues.{job-leaves}
use Rattle.tv_frame.proofs.Keeping.{kept-ranked, kept-wired, levels-are}
use Rattle.tv_frame.proofs.KnownFeeds.{IsKnownIn}
use Rattle.tv_frame.proofs.FaultingKnown.{index-mapped}
use Rattle.tv_frame.proofs.OutLemmas.{IsSourcesOf, tree-known, tree-named}
use Rattle.tv_frame.proofs.Plans.{dots-agree}
use Rattle.tv_frame.proofs.TableLemmas.{step-of, wiring-is}

-- ---- a job stands as deep as its iteration

mutual
  pub job-deep : (t : Iteration) (d : ℕ) (q : Place) (r : List Origin) (b : Binding) → HasLevels t d → at t q ≡ Some (leaf r (job b)) → length q ≡ d
  job-deep t d [] r b h e = sym (subst (λ u. HasLevels u d) (same_Some t (leaf r (job b)) e) h)
  job-deep (leaf s g) d (i ∷ q) r b h e = absurd (none-some (leaf r (job b)) e)
  job-deep (list s ts) zero (i ∷ q) r b h e = absurd h
  job-deep (list s ts) (suc d) (i ∷ q) r b h e = ap suc (jobs-deep ts i d q r b h e)

  jobs-deep : (ts : Iterations) (i d : ℕ) (q : Place) (r : List Origin) (b : Binding) → AllHaveLevels ts d → option_and_then (λ (y : Iteration). at y q) (item_at ts i) ≡ Some (leaf r (job b)) → length q ≡ d
  jobs-deep no_trees i d q r b h e = absurd (none-some (leaf r (job b)) e)
  jobs-deep (tree t ts) zero d q r b h e = job-deep t d q r b h.0 e
  jobs-deep (tree t ts) (suc i) d q r b h e = jobs-deep ts i d q r b h.1 e

pub item-deep : (t : Iteration) (d : ℕ) (q : Place) (s : Name) (u : Iteration) → HasLevels t d → at t q ≡ Some u → FitsKind (gave s q []) (kind_of u) → length q ≡ d
item-deep t d q s (leaf r (job b)) h e k = job-deep t d q r b h e
item-deep t d q s (leaf r (passed m x)) h e k = absurd k
item-deep t d q s (list r ts) h e k = absurd k

-- ---- one step of a name

same-step : (fs : List InstanceStep) → AreDistinct fs → (g h : InstanceStep) → In g fs → In h fs → g.step.step ≡ h.step.step → g ≡ h
same-step fs d g h i j e =
    same_Some g h (sym (in-finds fs d g i) ∙ ap (λ t. find (λ (k : InstanceStep). same_name t k.step.step) fs) e ∙ in-finds fs d h j)

-- ---- what the code hands to the search

delivered-of : (f : Flow) (q : StepPlan) (s : Name × Step) → step_plan_view q ≡ plans.step_plan f s → q.delivered ≡ map (λ (i : Name × StepInput). (i.0, feed_depth f.inputs (flow_depths f) i.1.from)) s.1.inputs
delivered-of f q (n, s) e = ap (λ (r : plans.StepPlan). r.delivered) e

abbrev seen_input : Name × CodeInput → Name × StepInput
seen_input i = (i.0, step_input_view i.1)

abbrev seen_step : Name × CodeStep → Name × Step
seen_step t = (t.0, step_view t.1)

depth-at : (is : List (Name × CodeInput)) (k : ℕ) (i : Name × StepInput) → slice_get (map seen_input is) k ≡ Some i → option_map_or (λ (j : Name × CodeInput). j.1.depth) (slice_get is k) 0 ≡ i.1.depth
depth-at [] k i e = absurd (none-some i e)
depth-at (j ∷ is) zero i e = ap (λ (t : Name × StepInput). t.1.depth) (same_Some (seen_input j) i e)
depth-at (j ∷ is) (suc k) i e = depth-at is k i e

module _ (flows : List (Name × Flow)) (plan : FlowPlan) (pool : Nodes) (f : Frame) (v : View) (keeps : Keeps flows plan pool f v) (a : Sources) (of : IsSourcesOf pool f a) (number n : ℕ) (q : Place) (there : slice_get (known_jobs f.intakes) number ≡ Some (n, q)) (faulty : Bool) (said : IsFaultyAt (matcher_at f.intakes n) q faulty)
    (p : StepPorts) (own : ArePortsOf plan n p) where
  abbrev levels : Name → ℕ
  levels = levels_in v.flow

  abbrev s : Name × Step
  s = (jobs.step flows plan pool f v keeps number n q there faulty said).0

  its-place : slice_get v.flow.steps n ≡ Some s
  its-place = (jobs.step flows plan pool f v keeps number n q there faulty said).1

  wired : IsWired v.flow
  wired = kept-wired flows plan pool f v keeps

  ranked-flow : IsOfRankedFlow flows levels v
  ranked-flow = kept-ranked flows plan pool f v keeps

  of-document : IsOfDocument v.flow
  of-document = subst IsOfDocument (sym keeps.flow_is) plan.kept.1

  one-step : (t : Name × Step) → slice_get (flow_view plan.flow).steps n ≡ Some t → t ≡ s
  one-step t e = same_Some t s (sym e ∙ ap (λ (g : Flow). slice_get g.steps n) (sym keeps.flow_is) ∙ its-place)

  plan-is : step_plan_view own.planned ≡ plans.step_plan v.flow s
  plan-is =
      let r = step-of plan n own.planned own.at_plan in
      subst (λ g. step_plan_view own.planned ≡ plans.step_plan g s) (sym keeps.flow_is)
      (subst (λ t. step_plan_view own.planned ≡ plans.step_plan (flow_view plan.flow) t) (one-step r.0 r.1.0) r.1.1)

  strategy-is : strategy_view p.tree.now ≡ strategy_of s.1
  strategy-is = ap strategy_view own.tree ∙ (plan-parts v.flow own.planned s plan-is).0

  mismatch-is : p.mismatch.now ≡ mismatches v.flow s.1
  mismatch-is = own.mismatch ∙ (plan-parts v.flow own.planned s plan-is).1

  delivered-is : p.delivered.now ≡ map (λ (i : Name × StepInput). (i.0, feed_depth v.flow.inputs (flow_depths v.flow) i.1.from)) s.1.inputs
  delivered-is = own.delivered ∙ delivered-of v.flow own.planned s plan-is

  inputs-are : map seen_input p.inputs.now ≡ s.1.inputs
  inputs-are =
      ap (map seen_input) own.inputs
      ∙ ap (λ (t : Name × Step). t.1.inputs) (one-step (seen_step own.described) (get-map seen_step plan.flow.steps n own.described own.at_flow))

  ports-are : p.ports.now ≡ ports_of v.flow s.1
  ports-are =
      let r = ports-at plan n p.ports.now own.at_ports in
      r.1.1 ∙ ap (λ (t : Name × Step). ports_of (flow_view plan.flow) t.1) (one-step r.0 r.1.0) ∙ ap (λ g. ports_of g s.1) (sym keeps.flow_is)

  -- THE STRATEGY
  agree : DotsAgree (number_of p.mismatch.now) (strategy_view p.tree.now)
  agree = subst (λ m. DotsAgree (number_of m) (strategy_view p.tree.now)) (sym mismatch-is) (subst (DotsAgree (number_of (mismatches v.flow s.1))) (sym strategy-is) (dots-agree flows v.flow wired keeps.of_depths.flow n s its-place))

  -- THE PORTS
  pub inputs-many : length p.inputs.now ≡ length p.ports.now
  inputs-many =
      sym (length-map p.inputs.now seen_input) ∙ ap length inputs-are
      ∙ sym (length-map s.1.inputs (port_among v.flow (leaf_names (strategy_of s.1)))) ∙ sym (ap length ports-are)

  pub delivered-many : length p.delivered.now ≡ length p.ports.now
  delivered-many =
      ap length delivered-is ∙ length-map s.1.inputs (λ (i : Name × StepInput). (i.0, feed_depth v.flow.inputs (flow_depths v.flow) i.1.from))
      ∙ sym (length-map s.1.inputs (port_among v.flow (leaf_names (strategy_of s.1)))) ∙ sym (ap length ports-are)

  ports-counted : (is : List (Name × StepInput)) → list_all (λ (i : Name × StepInput). is_name i.0 && is_step_input i.1) is ≡ true → Each (λ (r : Port). IsCounted r.feed) (map (port_among v.flow (leaf_names (strategy_of s.1))) is)
  ports-counted [] h = tt
  ports-counted (i ∷ is) h =
      let b = and_parts (is_name i.0 && is_step_input i.1) (list_all (λ (j : Name × StepInput). is_name j.0 && is_step_input j.1) is) h in
      (feed-counted v.flow i.1.from (and_parts (is_depth i.1.depth) (is_feed i.1.from) (and_parts (is_name i.0) (is_step_input i.1) b.0).1).1, ports-counted is b.1)

  formed-inputs : are_named is_step_input 0 16 s.1.inputs ≡ true
  formed-inputs = step-inputs s.1 (step-at v.flow wired.formed n s its-place)

  pub counted : Each (λ (r : Port). IsCounted r.feed) p.ports.now
  counted = subst (Each (λ (r : Port). IsCounted r.feed)) (sym ports-are) (ports-counted s.1.inputs (all-pass is_step_input 0 16 s.1.inputs formed-inputs))

  -- ---- in an instance

  known-in : IsKnownIn levels v (sourced_by a)
  known-in = record {
    names = keeps.inputs_are.names;
    inputs = ap piece_values of.inputs ∙ sym keeps.inputs_are.values;
    outputs = λ t o h. tree-named flows plan pool f v keeps a of v.events t o h (sourced_by a).outputs (λ m u e k l. tree-known flows plan pool f v keeps a of m u e k (fewer-trees u k l));
  }

  module _ (instance : JobName) (results : Results) (depth : AreOfDepth v instance results) (x : Extends results v.events) where
    abbrev fs : List InstanceStep
    fs = steps_with v instance results

    abbrev delivers : Feed → Delivered
    delivers = feed_delivers step_of (given_of v.flow v.inputs) fs

    its-end : (g : InstanceStep) × In g fs × (g.step.step ≡ s.0) × (y : Item Bound Stopped) × In y (known_items (known_by instance v.events) g.step.iteration) × (y.place ≡ q) × FitsKind (gave s.0 q []) y.kind
    its-end =
        job-end (known_by instance v.events) fs s.0 q
        (in-permutes (s.0, q) (frames.known_jobs (known_by instance v.events) fs) v.jobs (IsPermutation-sym _ _ (keeps.frame.known instance results depth x)) (jobs.known flows plan pool f v keeps number n q there faulty said))

    abbrev g : InstanceStep
    g = its-end.0

    made : IsMadeOf v.flow s g
    made = made-step v.flow fs v.flow.steps (rising flows levels v ranked-flow) (steps-paired flows levels v ranked-flow instance results depth) s (at-in v.flow.steps n s its-place) g its-end.1 its-end.2

    -- as deep as the levels of its step
    deep-here : length q ≡ strategy_depth (number_of p.mismatch.now) (strategy_view p.tree.now)
    deep-here =
        let has = (each_in (HasItsLevels levels) fs (steps-have_their_levels flows v.flow keeps.of_depths.flow v.inputs keeps.of_depths.inputs instance results depth levels keeps.of_depths.levels_are) g its-end.1).levels_told in
        let st = known-stands (known_by instance v.events) g.step.iteration its-end.3 its-end.4 in
        item-deep g.step.iteration (levels g.step.step) q s.0 st.0 has (ap (at g.step.iteration) (sym its-end.5) ∙ st.1) (subst (FitsKind (gave s.0 q [])) st.2 its-end.6)
        ∙ ap levels its-end.2 ∙ levels-are v.flow wired n s its-place ∙ levels-measured v.flow s.1
        ∙ ap (λ m. strategy_depth (number_of m) (strategy_of s.1)) (sym mismatch-is) ∙ ap (strategy_depth (number_of p.mismatch.now)) (sym strategy-is)

    -- the inputs of its step
    inputs-here : g.step.inputs ≡ map (λ (i : Name × StepInput). (i.0, at_port i.1.depth (delivers i.1.from))) s.1.inputs
    inputs-here =
        let h = stands flows levels v keeps.of_depths wired instance results n s its-place in
        ap (λ (k : InstanceStep). k.step.inputs) (same-step fs (steps-distinct v instance results) g h.step its-end.1 h.there (its-end.2 ∙ sym h.stands.name)) ∙ h.stands.inputs

    module _ (cs : FlowConstants) (constants : cs ≡ flow_constants v.flow) where
      port-here : (k : ℕ) (i : Name × StepInput) → slice_get s.1.inputs k ≡ Some i → IsPortHere flows levels v keeps.of_depths wired keeps.frame.legal instance results depth x (sourced_by a) known-in g cs p s.1 k i
      port-here k i e = record {
        there = passes (λ (j : Name × StepInput). list_all (is_there v.flow) (feed_links j.1.from)) s.1.inputs k i (passes (λ (t : Name × Step). list_all (λ j. list_all (is_there v.flow) (feed_links j.1.from)) t.1.inputs) v.flow.steps n s wired.links its-place) e;
        constant = ap₂ (λ c m. constant_of_port c m k) constants own.number ∙ constant-at v.flow n k s i its-place e;
        wrapping =
            ap₂ (λ b c. b - c)
            (depth-at p.inputs.now k i (ap (λ is. slice_get is k) inputs-are ∙ e))
            (ap (λ ds. option_map_or (λ (d : Name × ℕ). d.1) (slice_get ds k) 0) delivered-is
            ∙ ap (λ o. option_map_or (λ (d : Name × ℕ). d.1) o 0) (get-map (λ (j : Name × StepInput). (j.0, feed_depth v.flow.inputs (flow_depths v.flow) j.1.from)) s.1.inputs k i e)
            ∙ sym (fed-depth flows levels v keeps.of_depths wired instance results i.1.from));
        found =
            ap (named i.0) inputs-here
            ∙ named-mapped (λ (j : StepInput). at_port j.depth (delivers j.from)) i.0 s.1.inputs i.1 (named-there s.1.inputs k i (ascending is_step_input 0 16 s.1.inputs formed-inputs) e);
        leaf = passes (λ (j : Name × StepInput). list_any (same_name j.0) (leaf_names (strategy_of s.1))) s.1.inputs k i (passes (λ (t : Name × Step). list_all (λ j. list_any (same_name j.0) (leaf_names (strategy_of t.1))) t.1.inputs) v.flow.steps n s wired.leaves its-place) e;
      }

      bound : AreBoundAt flows levels v keeps.of_depths wired keeps.frame.legal instance results depth x (sourced_by a) known-in g cs p s.1 (split (number_of (mismatches v.flow s.1)) (strategy_of s.1) q) 0 s.1.inputs
      bound =
          job-binds flows levels v keeps.of_depths wired keeps.frame.legal instance results depth x (sourced_by a) known-in g cs p s.1
          (split (number_of (mismatches v.flow s.1)) (strategy_of s.1) q) (split-names_leaves (number_of (mismatches v.flow s.1)) (strategy_of s.1) q)
          (job-leaves (known_by instance v.events) v.flow s g made its-end.3 its-end.4 q its-end.5 its-end.6) 0 s.1.inputs
          (λ k i e. subst (λ m. IsPortHere flows levels v keeps.of_depths wired keeps.frame.legal instance results depth x (sourced_by a) known-in g cs p s.1 m i) (none k) (port-here k i e))
        where
          none : (m : ℕ) → m ≡ 0 + m
          none m = omega arith

      -- WHAT IS FOUND
      found-values : job_found (sourced_by a) cs p q ≡ Some bound.values
      found-values =
          ap (λ rs. all_found (map (port_found (sourced_by a) cs p rs) (numbered 0 p.ports.now))) (ap₂ (λ m g. split (number_of m) g q) mismatch-is strategy-is)
          ∙ ap (λ ps. all_found (map (port_found (sourced_by a) cs p (split (number_of (mismatches v.flow s.1)) (strategy_of s.1) q)) (numbered 0 ps))) ports-are
          ∙ bound.all

      -- stands at the parts
      stand-here : (vs : List Value) → job_found (sourced_by a) cs p q ≡ Some vs → (h : InstanceStep) → In h fs → h.step.step ≡ s.0 → StandAtParts v.flow s.1 h q vs
      stand-here vs e h i m =
          subst (λ k. StandAtParts v.flow s.1 k q vs) (same-step fs (steps-distinct v instance results) g h its-end.1 i (its-end.2 ∙ sym m))
          (subst (StandAtParts v.flow s.1 g q) (same_Some bound.values vs (sym found-values ∙ e))
          (bound.stand ∙ ap (map {B = Option Value} (λ (d : Name × Ported). at (plain d.1.value) (place_of (split (number_of (mismatches v.flow s.1)) (strategy_of s.1) q) d.0))) (sym inputs-here)))

  -- ---- for the call

  deep : length q ≡ strategy_depth (number_of p.mismatch.now) (strategy_view p.tree.now)
  deep = let r = some-possible v [] keeps.frame.given in deep-here [] r.0 r.1 r.2

  -- the part of each port
  pub parts : (begins : List ℕ) → begins ≡ slice_index_or (map (λ is. is.items) f.tables.starts.items) n begins → Each (IsPartOf p q begins) p.ports.now
  parts begins e =
      let agreed = subst (λ m. DotsAgree (number_of m) (strategy_of s.1)) mismatch-is (subst (DotsAgree (number_of p.mismatch.now)) strategy-is agree) in
      let long = deep ∙ ap₂ (λ m g. strategy_depth (number_of m) g) mismatch-is strategy-is in
      let own : map (λ x. x.1) (step_starts v.flow s) ≡ begins =
      sym (e ∙ ap (λ rows. slice_index_or rows n begins) keeps.tables_are.starts_are
      ∙ get_or_from_slice_get (map (λ (t : Name × Step). map (λ x. x.1) (step_starts v.flow t)) v.flow.steps) n _ begins (get-map (λ (t : Name × Step). map (λ x. x.1) (step_starts v.flow t)) v.flow.steps n s its-place)) in
      subst (Each (IsPartOf p q begins)) (sym ports-are)
      (each-mapped (IsPartOf p q begins) (port_among v.flow (leaf_names (strategy_of s.1))) s.1.inputs
      (λ k i h. subst (λ bs. IsPartOf p q bs (port_among v.flow (leaf_names (strategy_of s.1)) i)) own
      (port-part v.flow s agreed (ascending is_step_input 0 16 s.1.inputs formed-inputs) q long p mismatch-is strategy-is k i h
      (passes (λ (j : Name × StepInput). list_any (same_name j.0) (leaf_names (strategy_of s.1))) s.1.inputs k i (passes (λ (t : Name × Step). list_all (λ j. list_any (same_name j.0) (leaf_names (strategy_of t.1))) t.1.inputs) v.flow.steps n s wired.leaves its-place) h))))

  -- the job of that number
  its-job : (j : Name × Place) → numbered_job v number ≡ Some j → (s.0, q) ≡ j
  its-job j e =
      same_Some (s.0, q) j
      (sym
      (ap (λ l. slice_get l number) keeps.jobs_are
      ∙ get-map (named_job v.flow) (known_jobs f.intakes) number (n, q) there
      ∙ ap (λ t. Some (t, q)) (jobs.its-name flows plan pool f v keeps number n q there faulty said))
      ∙ e)

  module _ (cs : FlowConstants) (constants : cs ≡ constants_view f.tables.constants) where
    constants-are : cs ≡ flow_constants v.flow
    constants-are = constants ∙ keeps.tables_are.constants_are

    pub found : IsTrue (is_some (job_found (sourced_by a) cs p q))
    found = let r = some-possible v [] keeps.frame.given in ap is_some (found-values [] r.0 r.1 r.2 cs constants-are)

    -- so values that are found are the job's
    pub are-inputs : (j : Name × Place) → numbered_job v number ≡ Some j → (vs : List Value) → job_found (sourced_by a) cs p q ≡ Some vs → AreInputs v j vs
    are-inputs j e vs h =
        subst (λ k. AreInputs v k vs) (its-job j e)
        (parts-are_inputs flows levels v ranked-flow n s its-place q vs
        (λ instance results depth x. stand-here instance results depth x cs constants-are vs h))

    -- and no others are
    pub found-inputs : (j : Name × Place) → numbered_job v number ≡ Some j → (vs : List Value) → AreInputs v j vs → job_found (sourced_by a) cs p q ≡ Some vs
    found-inputs j e vs h =
        let own = subst (λ k. AreInputs v k vs) (sym (its-job j e)) h in
        by (job_found (sourced_by a) cs p q) refl found own
      where
        by : (o : Option (List Value)) → job_found (sourced_by a) cs p q ≡ o → is_some o ≡ true → AreInputs v (s.0, q) vs → o ≡ Some vs
        by None g k own = absurd (true≢false (sym k))
        by (Some ws) g k own =
            ap Some (binds-once flows levels v ranked-flow keeps.frame s.0 q (jobs.known flows plan pool f v keeps number n q there faulty said) ws vs (subst (λ i. AreInputs v i ws) (sym (its-job j e)) (are-inputs j e ws g)) own)

-- ---- in the words of the call

-- a plan has ports for each step
pub ports-many : (plan : FlowPlan) → length plan.wiring.ports ≡ length plan.flow.steps
ports-many plan =
    ap (λ (w : Wiring). length w.ports) (wiring-is plan)
    ∙ length-map (flow_view plan.flow).steps (λ (t : Name × Step). ports_of (flow_view plan.flow) t.1)
    ∙ length-map plan.flow.steps seen_step

-- the step of the job is one of the plan
pub step-within : (flows : List (Name × Flow)) (plan : FlowPlan) (pool : Nodes) (f : Frame) (v : View) → Keeps flows plan pool f v → (number n : ℕ) (q : Place) → slice_get (known_jobs f.intakes) number ≡ Some (n, q) → (faulty : Bool) → IsFaultyAt (matcher_at f.intakes n) q faulty → n < length plan.flow.steps
step-within flows plan pool f v keeps number n q there faulty said =
    let t = jobs.step flows plan pool f v keeps number n q there faulty said in
    subst (λ m. n < m) (ap (λ (g : Flow). length g.steps) keeps.flow_is ∙ length-map plan.flow.steps seen_step) (slice_get_within v.flow.steps n t.0 t.1)

pub starts-within : (flows : List (Name × Flow)) (plan : FlowPlan) (pool : Nodes) (f : Frame) (v : View) → Keeps flows plan pool f v → (number n : ℕ) (q : Place) → slice_get (known_jobs f.intakes) number ≡ Some (n, q) → (faulty : Bool) → IsFaultyAt (matcher_at f.intakes n) q faulty → n < length f.tables.starts.items
starts-within flows plan pool f v keeps number n q there faulty said =
    let t = jobs.step flows plan pool f v keeps number n q there faulty said in
    subst (λ m. n < m)
    (sym (length-map v.flow.steps (λ (s : Name × Step). map (λ x. x.1) (step_starts v.flow s))) ∙ sym (ap length keeps.tables_are.starts_are) ∙ length-map f.tables.starts.items (λ (y : Vec ℕ Global). y.items))
    (slice_get_within v.flow.steps n t.0 t.1)

-- the ports and the job that the call hands over
pub record IsCallOf (plan : FlowPlan) (f : Frame) (number n : ℕ) (q : Place) (p : StepPorts) : Type 0 where
  pub there : slice_get (known_jobs f.intakes) number ≡ Some (n, q)
  pub faulty : Bool
  pub said : IsFaultyAt (matcher_at f.intakes n) q faulty
  pub own : ArePortsOf plan n p

pub call-of : (plan : FlowPlan) (f : Frame) (number n : ℕ) (q r : Place) (p : StepPorts) → slice_get (known_jobs f.intakes) number ≡ Some (n, r) → (faulty : Bool) → IsFaultyAt (matcher_at f.intakes n) r faulty → q ≡ r → ArePortsOf plan n p → IsCallOf plan f number n q p
call-of plan f number n q r p there faulty said same own = record {
  there = there ∙ ap (λ x. Some (n, x)) (sym same);
  faulty = faulty;
  said = subst (λ x. IsFaultyAt (matcher_at f.intakes n) x faulty) (sym same) said;
  own = own;
}

module _ (flows : List (Name × Flow)) (plan : FlowPlan) (pool : Nodes) (f : Frame) (v : View) (keeps : Keeps flows plan pool f v) (number n : ℕ) (q : Place) (p : StepPorts) (call : IsCallOf plan f number n q p) where
  module _ (a : Sources) (of : IsSourcesOf pool f a) where
    pub call-inputs : length p.inputs.now ≡ length p.ports.now
    call-inputs = inputs-many flows plan pool f v keeps a of number n q call.there call.faulty call.said p call.own

    pub call-delivered : length p.delivered.now ≡ length p.ports.now
    call-delivered = delivered-many flows plan pool f v keeps a of number n q call.there call.faulty call.said p call.own

    pub call-counted : Each (λ (r : Port). IsCounted r.feed) p.ports.now
    call-counted = counted flows plan pool f v keeps a of number n q call.there call.faulty call.said p call.own

    pub call-parts : (row : Vec ℕ Global) → row ≡ slice_index_or f.tables.starts.items n row → (begins : List ℕ) → begins ≡ row.items → Each (IsPartOf p q begins) p.ports.now
    call-parts row e begins h =
        subst (λ bs. Each (IsPartOf p q bs) p.ports.now) (sym h)
        (parts flows plan pool f v keeps a of number n q call.there call.faulty call.said p call.own row.items
        (ap (λ (y : Vec ℕ Global). y.items) e ∙ sym (index-mapped (λ (y : Vec ℕ Global). y.items) f.tables.starts.items n row)))

    pub call-found : IsTrue (is_some (job_found (sourced_by a) (constants_view f.tables.constants) p q))
    call-found = found flows plan pool f v keeps a of number n q call.there call.faulty call.said p call.own (constants_view f.tables.constants) refl

pub values-where_ok : {A E : Type 0} (plan : FlowPlan) (pool : Nodes) (f : Frame) (number n : ℕ) (q : Place) (p : StepPorts) (call : IsCallOf plan f number n q p) (a : Sources) (of : IsSourcesOf pool f a)
    → (values_in : A → List Value)
    → (r : Result A E) → IfOk r (λ x. job_found (sourced_by a) (constants_view f.tables.constants) p q ≡ Some (values_in x))
    → IfOk r (λ x. (flows : List (Name × Flow)) (v : View) (j : Name × Place) → Keeps flows plan pool f v → numbered_job v number ≡ Some j → AreInputs v j (values_in x))
values-where_ok plan pool f number n q p call a of values_in (Err x) h = tt
values-where_ok plan pool f number n q p call a of values_in (Ok x) h = λ flows v j keeps e.
    are-inputs flows plan pool f v keeps a of number n q call.there call.faulty call.said p call.own (constants_view f.tables.constants) refl j e (values_in x) h

pub inputs-where_ok : {E : Type 0} (plan : FlowPlan) (pool : Nodes) (f : Frame) (number n : ℕ) (q : Place) (p : StepPorts) (call : IsCallOf plan f number n q p) (a : Sources) (of : IsSourcesOf pool f a)
    → (r : Result (List Piece) E) → IfOk r (λ ps. job_found (sourced_by a) (constants_view f.tables.constants) p q ≡ Some (piece_values ps))
    → IfOk r (λ ps. (flows : List (Name × Flow)) (v : View) (j : Name × Place) → Keeps flows plan pool f v → numbered_job v number ≡ Some j → AreInputs v j (piece_values ps))
inputs-where_ok plan pool f number n q p call a of = values-where_ok plan pool f number n q p call a of piece_values

-- ---- whether the job binds values

module _ (plan : FlowPlan) (pool : Nodes) (f : Frame) (number n : ℕ) (q : Place) (p : StepPorts) (call : IsCallOf plan f number n q p) (a : Sources) (of : IsSourcesOf pool f a) (vs : List Value) (answer : Bool)
    (told : IsTrue answer ↔ (job_found (sourced_by a) (constants_view f.tables.constants) p q ≡ Some vs)) where
  pub binds-same : IsTrue answer → (flows : List (Name × Flow)) (v : View) (j : Name × Place) → Keeps flows plan pool f v → numbered_job v number ≡ Some j → AreInputs v j vs
  binds-same holds flows v j keeps e =
      are-inputs flows plan pool f v keeps a of number n q call.there call.faulty call.said p call.own (constants_view f.tables.constants) refl j e vs (told.0 holds)

  pub binds-other : answer ≡ false → (flows : List (Name × Flow)) (v : View) (j : Name × Place) → Keeps flows plan pool f v → numbered_job v number ≡ Some j → (us : List Value) → AreInputs v j us → vs ≡ us → ⊥
  binds-other fails flows v j keeps e us h same =
      true≢false
      (sym (told.1 (found-inputs flows plan pool f v keeps a of number n q call.there call.faulty call.said p call.own (constants_view f.tables.constants) refl j e vs (subst (AreInputs v j) (sym same) h)))
      ∙ fails)
