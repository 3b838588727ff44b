-- What a frame has around an event that its steps are asked to hold: each feed is of what is there.
use Rattle.std.specs.List.{list_all, range_with_len}
use Rattle.std.specs.Option.{option_map_or}
use Rattle.std.specs.Prelude.{◌≡◌, refl, ℕ, zero, suc, ◌+◌, ◌<◌, true, filter, flat_map, List, [], ◌∷◌, length, map, Option, Some, None, replicate, slice_get, slice_index_or}
use Rattle.std.proofs.Common.{arith, sym, ap, subst, ◌∙◌}
use Rattle.std.proofs.lemmas.Bool.{and_parts}
use Rattle.std.proofs.lemmas.List.{length-append, length-map, length-replicate}
use Rattle.std.proofs.lemmas.List.FromFn.{get_or-map-range_with_len, length-map-range_with_len}
use Rattle.std.proofs.lemmas.Option.{none-some, same_Some, slice_get_within}
use Rattle.tv_lemmas.specs.Members.{Each}
use Rattle.tv_value.specs.Values.{Name, holds_fault}
use Rattle.tv_flow.specs.Flows.{Feed, Flow, Link, Step, StepInput, constant, input, link, merge, output}
use Rattle.tv_flow.specs.Views.{flow_view}
use Rattle.tv_strategy.specs.Conditions.{number_of}
use Rattle.tv_strategy.specs.Measures.{leaf_names, strategy_depth}
use Rattle.tv_strategy.proofs.Each.{each-passes, each-weaken}
use Rattle.tv_naming.specs.Naming.{feed_links, is_there}
use Rattle.tv_naming.specs.Numbers.{position}
use Rattle.tv_naming.proofs.ByPosition.{there}
use Rattle.tv_naming.proofs.FormedParts.{steps-ascend}
use Rattle.tv_model.specs.instance.Steps.{strategy_of}
use Rattle.tv_matching.proofs.Lists.{each-map}
use Rattle.tv_cell.specs.PieceValues.{piece_values}
use Rattle.tv_check.specs.declared.plans.FlowPlan.{FlowPlan}
use Rattle.tv_check.specs.Plans as theory
use Rattle.tv_match.specs.declared.matchers.Matcher.{Matcher}
use Rattle.tv_match.specs.Seen.{matching}
use Rattle.tv_telling.specs.declared.ways.Event as code
use Rattle.tv_check.specs.declared.ports.Port.{Port}
use Rattle.tv_check.specs.declared.wiring.Wiring.{Wiring}
use Rattle.tv_check.specs.Feeds.{feed_numbered, link_numbered, outputs_of}
use Rattle.tv_check.specs.Ports.{mismatches, port_among, ports_of}
use Rattle.tv_check.specs.Turned.{all_wires, from_each}
use Rattle.tv_check.specs.Wirings.{after_of, all_ports, wiring}
use Rattle.tv_outputs.specs.Known.{Nodes, known}
use Rattle.tv_outputs.specs.Kept.{Stand}
use Rattle.tv_intake.specs.Intaken.{matcher_at}
use Rattle.tv_idle.specs.Idles.{of_step}
use Rattle.tv_spread.specs.declared.around.Around.{Around}
use Rattle.tv_telling.specs.Along.{is_walked}
use Rattle.tv_spread.specs.Arounds.{AreWalked, AreWires, IsAround, IsFed, IsLinked, IsOfOutput, tree_number}
use Rattle.tv_spread.specs.Spreads.{IsLevelled}
use Rattle.tv_model.specs.instance.Events.{Event}
use Rattle.tv_framing.specs.Views.{View}
use Rattle.tv_framing.specs.engine.WiredFlows.{IsWired}
use Rattle.tv_framing.proofs.engine.Accepted.{accepted-wired}
use Rattle.tv_framing.proofs.engine.Endings.{position-of}
use Rattle.tv_framing.proofs.feeds.Names.{is-named}
use Rattle.tv_framing.proofs.feeds.WholeSteps.{named-there}
use Rattle.tv_framing.specs.matches.Steps.{IsStepAt}
use Rattle.tv_framing.proofs.matches.Steps.{number-is}
use Rattle.tv_frame.specs.declared.frame.Frame.{Frame}
use Rattle.tv_frame.specs.Kept.{HasMatcher, Keeps}
use Rattle.tv_frame.specs.Prepared.{IsComing}
use Rattle.tv_frame.specs.Tables.{at_least_one, first_tree, tree_depths, trees_of}
use Rattle.tv_check.specs.Tables.{step_level}
use Rattle.tv_framing.proofs.faults.Numbers.{step-there}

-- ---- lists

pub none-past : {A B : Type 0} (xs : List A) (ys : List B) (k : ℕ) → length ys ≡ length xs → slice_get xs k ≡ None → slice_get ys k ≡ None
none-past xs [] k e h = refl
none-past [] (y ∷ ys) k e h = absurd (omega (arith, e))
none-past (x ∷ xs) (y ∷ ys) zero e h = absurd (none-some x (sym h))
none-past (x ∷ xs) (y ∷ ys) (suc k) e h = none-past xs ys k (less (length ys) (length xs) e) h
  where
    less : (i j : ℕ) → suc i ≡ suc j → i ≡ j
    less i j g = omega arith

-- ---- steps by names and numbers

pub levels-measured : (f : Flow) (s : Step) → step_level f s ≡ strategy_depth (number_of (mismatches f s)) (strategy_of s)
levels-measured f s = ap (λ (g : Name → ℕ). strategy_depth g (strategy_of s)) (λ i p. sym (number-is f s.inputs p) i)

-- trees stand within
pub first-below : (g : Name × Step → ℕ) (ss : List (Name × Step)) (n : ℕ) (s : Name × Step) (k : ℕ) → slice_get ss n ≡ Some s → k < trees_of s → first_tree ss n + k < length (flat_map (λ (t : Name × Step). replicate (trees_of t) (g t)) ss)
first-below g [] n s k e l = absurd (none-some s e)
first-below g (x ∷ ss) zero s k e l =
    let many = length-append (replicate (trees_of x) (g x)) (flat_map (λ (t : Name × Step). replicate (trees_of t) (g t)) ss) in
    let own = length-replicate (trees_of x) (g x) in
    let same : trees_of x ≡ trees_of s = ap trees_of (same_Some x s e) in
    omega (arith, many, own, same, l)
first-below g (x ∷ ss) (suc n) s k e l =
    let many = length-append (replicate (trees_of x) (g x)) (flat_map (λ (t : Name × Step). replicate (trees_of t) (g t)) ss) in
    let own = length-replicate (trees_of x) (g x) in
    let rest = first-below g ss n s k e l in
    omega (arith, many, own, rest)

pub fewer-trees : (s : Name × Step) (k : ℕ) → k < length s.1.outputs → k < trees_of s
fewer-trees s k l = by (length s.1.outputs) l
  where
    by : (n : ℕ) → k < n → k < at_least_one n
    by zero h = absurd (omega arith)
    by (suc n) h = h

-- ---- a frame

module _ (flows : List (Name × Flow)) (plan : FlowPlan) (pool : Nodes) (f : Frame) (v : View) (keeps : Keeps flows plan pool f v) where
  pub wired-flow : IsWired v.flow
  wired-flow = subst IsWired (sym keeps.flow_is) (accepted-wired (flow_view plan.flow) plan.kept.1)

  pub wiring-kept : plan.wiring ≡ wiring v.flow
  wiring-kept = ap (λ (p : theory.FlowPlan). p.wiring) plan.kept.0 ∙ ap wiring (sym keeps.flow_is)

  pub levelled : (c : ℕ) → IsLevelled (matcher_at f.intakes c) (of_step f.idle.steps c)
  levelled c = by (slice_get v.flow.steps c) refl
    where
      one : (s : Name × Step) → IsStepAt v c s → (o : Option Matcher) → HasMatcher v s o → IsLevelled o (of_step f.idle.steps c)
      one s at None h = absurd h
      one s at (Some m) h =
          let st = is-named s.0 v.flow.steps (named-there v.flow.steps c s at) in
          let same = same_Some (s.0, st.thing) s (sym st.here ∙ ap (slice_get v.flow.steps) (position-of v.flow.steps c s (steps-ascend v.flow wired-flow.formed) at) ∙ at) in
          keeps.idle_are.levels c s at
          ∙ ap (λ o. option_map_or (step_level v.flow) o 0) st.named_so
          ∙ ap (λ (t : Name × Step). step_level v.flow t.1) same
          ∙ levels-measured v.flow s.1
          ∙ ap (λ ms. strategy_depth (number_of ms) (strategy_of s.1)) (sym h.mismatch_is)
          ∙ ap (strategy_depth (number_of (matching m).mismatch)) (sym h.strategy_is)

      by : (o : Option (Name × Step)) → slice_get v.flow.steps c ≡ o → IsLevelled (matcher_at f.intakes c) (of_step f.idle.steps c)
      by None e = subst (λ o. IsLevelled o (of_step f.idle.steps c)) (sym (none-past v.flow.steps f.intakes.matchers.items c keeps.as_many e)) tt
      by (Some s) e = one s e (matcher_at f.intakes c) (keeps.matchers_are c s e)

-- ---- what is around

-- the parts of a frame that are looked at
pub record IsAroundOf (plan : FlowPlan) (pool : Nodes) (f : Frame) (a : Around) : Type 0 where
  pub wired : a.wiring.now ≡ plan.wiring
  pub walked : a.walked.now ≡ f.tables.walked.items
  pub endings : a.endings.now ≡ f.endings
  pub outputs : a.outputs.now ≡ f.outputs
  pub nodes : a.pool.now ≡ pool
  pub firsts : a.firsts.now ≡ f.tables.firsts.items
  pub inputs : a.faulty_inputs.now ≡ f.faulty_inputs.items

module _ (flows : List (Name × Flow)) (plan : FlowPlan) (pool : Nodes) (f : Frame) (v : View) (keeps : Keeps flows plan pool f v) (a : Around) (of : IsAroundOf plan pool f a) where
  pub wiring-of : a.wiring.now ≡ wiring v.flow
  wiring-of = of.wired ∙ wiring-kept flows plan pool f v keeps

  pub ports-many : length a.wiring.now.ports ≡ length v.flow.steps
  ports-many = ap (λ (w : Wiring). length w.ports) wiring-of ∙ length-map v.flow.steps (λ (s : Name × Step). ports_of v.flow s.1)

  wires-turned : AreWires a.wiring.now
  wires-turned = subst AreWires (sym wiring-of) (ap (λ n. from_each (range_with_len 0 n) (all_wires (all_ports v.flow))) (sym (length-map v.flow.steps (λ (s : Name × Step). ports_of v.flow s.1))))

  wires-walked : AreWalked a.walked.now a.wiring.now
  wires-walked =
      ap (map (λ row. row.items)) of.walked
      ∙ keeps.tables_are.walked_are
      ∙ ap (λ (w : Wiring). map (filter is_walked) w.wires) (sym wiring-of)

  pub inputs-many : length a.faulty_inputs.now ≡ length v.flow.inputs
  inputs-many =
      ap length (of.inputs ∙ keeps.inputs_are.marked)
      ∙ length-map (piece_values f.inputs) holds_fault
      ∙ ap length (sym keeps.inputs_are.values)
      ∙ length-map v.inputs (λ x. x.1)
      ∙ sym (length-map v.inputs (λ x. x.0))
      ∙ ap length keeps.inputs_are.names
      ∙ length-map v.flow.inputs (λ x. x.0)

  pub whole-many : length a.endings.now.whole.items ≡ length v.flow.steps
  whole-many =
      ap (λ e. length e.whole.items) of.endings
      ∙ keeps.endings_are.sound.whole_each
      ∙ length-map v.flow.steps (λ (s : Name × Step). after_of v.flow.steps s.1)

  firsts-are : a.firsts.now ≡ map (first_tree v.flow.steps) (range_with_len 0 (length v.flow.steps))
  firsts-are = of.firsts ∙ keeps.tables_are.firsts_are

  firsts-many : length a.firsts.now ≡ length v.flow.steps
  firsts-many = ap length firsts-are ∙ length-map-range_with_len (first_tree v.flow.steps) 0 (length v.flow.steps)

  pub tree-number : (t o : ℕ) → t < length v.flow.steps → tree_number a t o ≡ first_tree v.flow.steps t + o
  tree-number t o l =
      ap (λ k. k + o)
      (ap (λ ns. slice_index_or ns t 0) firsts-are
      ∙ get_or-map-range_with_len (first_tree v.flow.steps) 0 (length v.flow.steps) t t 0 l (omega arith))

  pub trees-known : known a.pool.now a.outputs.now ≡ known pool f.outputs
  trees-known = ap (λ p. known p a.outputs.now) of.nodes ∙ ap (known pool) of.outputs

  trees-many : length (known a.pool.now a.outputs.now) ≡ length (tree_depths v.flow)
  trees-many =
      ap length trees-known
      ∙ length-map f.outputs.trees.items _
      ∙ sym (length-map f.outputs.trees.items _)
      ∙ ap length keeps.deep

  module _ (n : ℕ) (s : Name × Step) (e : Event) (c : code.Event) (coming : IsComing flows v n s e c) where
    output-fed : (t o : Name) → is_there v.flow (output t o) ≡ true → IsOfOutput a n c (position t v.flow.steps) (position o (outputs_of v.flow t))
    output-fed t o h =
        let p = step-there v.flow t o h in
        let st = is-named t v.flow.steps p.0 in
        let below = (there t v.flow.steps p.0).below in
        let number = position o (outputs_of v.flow t) in
        let few : number < length st.thing.outputs =
        subst (λ (r : Option Step). number < length (option_map_or (λ (u : Step). u.outputs) r [])) st.named_so (there o (outputs_of v.flow t) p.1).below in
        record {
          step = subst (λ k. position t v.flow.steps < k) (sym whole-many) below;
          first = subst (λ k. position t v.flow.steps < k) (sym firsts-many) below;
          tree =
              subst (λ k. k < length (known a.pool.now a.outputs.now)) (sym (tree-number (position t v.flow.steps) number below))
              (subst (λ k. first_tree v.flow.steps (position t v.flow.steps) + number < k) (sym trees-many)
              (first-below (λ (u : Name × Step). step_level v.flow u.1) v.flow.steps (position t v.flow.steps) (t, st.thing) number st.here (fewer-trees (t, st.thing) number few)));
          own = λ g.
              let same : (t, st.thing) ≡ s = same_Some (t, st.thing) s (sym st.here ∙ ap (slice_get v.flow.steps) g ∙ coming.at) in
              let mine : number < length s.1.outputs = subst (λ (u : Name × Step). number < length u.1.outputs) same few in
              record {
                counted = subst (λ k. number < k) (sym coming.outputs) mine;
                piece = coming.pieces number mine;
                faultless = coming.faultless number mine;
              };
        }

    link-fed : (l : Link) → is_there v.flow l ≡ true → IsLinked a n c (link_numbered v.flow l)
    link-fed (input x) h = subst (λ k. position x v.flow.inputs < k) (sym inputs-many) (there x v.flow.inputs h).below
    link-fed (output t o) h = output-fed t o h

    feed-fed : (d : Feed) → list_all (is_there v.flow) (feed_links d) ≡ true → IsFed a n c (feed_numbered v.flow d)
    feed-fed (link l) h = link-fed l (and_parts (is_there v.flow l) true h).0
    feed-fed (merge ls) h =
        each-map (IsLinked a n c) (link_numbered v.flow) ls
        (each-weaken (λ l. is_there v.flow l ≡ true) (λ l. IsLinked a n c (link_numbered v.flow l)) link-fed ls (each-passes (is_there v.flow) ls h))
    feed-fed (constant w) h = tt

    step-fed : (t : Name × Step) → list_all (λ (i : Name × StepInput). list_all (is_there v.flow) (feed_links i.1.from)) t.1.inputs ≡ true → Each (λ (p : Port). IsFed a n c p.feed) (ports_of v.flow t.1)
    step-fed t h =
        each-map (λ (p : Port). IsFed a n c p.feed) (port_among v.flow (leaf_names (strategy_of t.1))) t.1.inputs
        (each-weaken (λ (i : Name × StepInput). list_all (is_there v.flow) (feed_links i.1.from) ≡ true) (λ (i : Name × StepInput). IsFed a n c (feed_numbered v.flow i.1.from)) (λ i. feed-fed i.1.from) t.1.inputs
        (each-passes (λ (i : Name × StepInput). list_all (is_there v.flow) (feed_links i.1.from)) t.1.inputs h))

    all-fed : Each (λ (ps : List Port). Each (λ (p : Port). IsFed a n c p.feed) ps) (all_ports v.flow)
    all-fed =
        each-map (λ (ps : List Port). Each (λ (p : Port). IsFed a n c p.feed) ps) (λ (t : Name × Step). ports_of v.flow t.1) v.flow.steps
        (each-weaken (λ (t : Name × Step). list_all (λ (i : Name × StepInput). list_all (is_there v.flow) (feed_links i.1.from)) t.1.inputs ≡ true) (λ (t : Name × Step). Each (λ (p : Port). IsFed a n c p.feed) (ports_of v.flow t.1)) step-fed v.flow.steps
        (each-passes (λ (t : Name × Step). list_all (λ (i : Name × StepInput). list_all (is_there v.flow) (feed_links i.1.from)) t.1.inputs) v.flow.steps (wired-flow flows plan pool f v keeps).links))

    pub is-around : IsAround a n c
    is-around =
        record {
          step = subst (λ k. n < k) (sym ports-many) (slice_get_within v.flow.steps n s coming.at);
          wires = wires-turned;
          walked = wires-walked;
          fed = subst (λ (w : Wiring). Each (λ (ps : List Port). Each (λ (p : Port). IsFed a n c p.feed) ps) w.ports) (sym wiring-of) all-fed;
          region = f.region;
          stand = subst (λ p. Stand p a.outputs.now f.region) (sym of.nodes) (subst (λ o. Stand pool o f.region) (sym of.outputs) keeps.stand);
        }
