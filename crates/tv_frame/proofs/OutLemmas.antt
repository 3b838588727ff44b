-- The flow's outputs with an event that the trees don't show yet, where all steps are whole with it.
use Rattle.std.specs.List.{list_all}
use Rattle.std.specs.Option.{option_map_or}
use Rattle.std.specs.Prelude.{◌≡◌, refl, ℕ, zero, suc, ◌+◌, ◌≤◌, ◌<◌, ◌==◌, ◌&&◌, Bool, true, false, IsTrue, if◌then◌else◌, is_some, length, List, [], ◌∷◌, map, nat_lt, ◌^◌, IfOk, Ok, Err, Result, Option, Some, option_and_then, slice_get, slice_index_or, take, unwrap_or}
use Rattle.std.proofs.Common.{arith, sym, ap, ap₂, subst, ◌∙◌, eqb-true, lt-ltb}
use Rattle.std.proofs.lemmas.Bool.{and_parts}
use Rattle.std.proofs.lemmas.List.{length-map, length-take-le}
use Rattle.std.proofs.lemmas.Option.{get_or_from_slice_get, none-some, same_Some, slice_get_within}
use Rattle.tv_lemmas.proofs.Members.{in-slice}
use Rattle.tv_lemmas.proofs.Lists.{get-map, get-within, get-map_range, index-map}
use Rattle.tv_value.specs.Nested.{list, no_trees}
use Rattle.tv_value.specs.Orders.{named}
use Rattle.tv_value.specs.Values.{Name, Value}
use Rattle.tv_flow.specs.Flows.{Feed, Flow, Step, input, output}
use Rattle.tv_flow.specs.Formed.{is_depth}
use Rattle.tv_flow.specs.Views.{flow_view, step_view}
use Rattle.tv_flow.specs.declared.document.Step.{Step as CodeStep}
use Rattle.tv_strategy.specs.Origins.{plain}
use Rattle.tv_naming.specs.Naming.{has_name, is_there}
use Rattle.tv_naming.specs.Numbers.{position}
use Rattle.tv_naming.proofs.ByPosition.{there}
use Rattle.tv_naming.proofs.FormedParts.{few, step-at, step-outputs, steps-ascend}
use Rattle.tv_model.specs.instance.Delivered.{link_delivers}
use Rattle.tv_model.specs.instance.Ranks.{ranked}
use Rattle.tv_model.specs.instance.Steps.{declared_depths}
use Rattle.tv_check.proofs.Ranked.{all-ranked}
use Rattle.tv_parts.specs.Below.{value_in}
use Rattle.tv_parts.specs.Changes.{CanClose, arrive, close_at}
use Rattle.tv_parts.specs.Partials.{Partial, whole}
use Rattle.tv_parts.proofs.Wholeness.{whole-is}
use Rattle.tv_cell.specs.declared.piece.Piece.{Piece}
use Rattle.tv_cell.specs.PieceValues.{piece_value, piece_values}
use Rattle.tv_cell.specs.Soundness.{AreSound, is_sound}
use Rattle.tv_check.specs.declared.plans.FlowPlan.{FlowPlan}
use Rattle.tv_check.specs.declared.feeds.NumberedFeed.{NumberedFeed}
use Rattle.tv_check.specs.declared.wiring.Wiring.{Wiring}
use Rattle.tv_check.specs.Feeds.{feed_numbered, outputs_of}
use Rattle.tv_outputs.specs.Changes.{no_value}
use Rattle.tv_outputs.specs.Kept as outputs
use Rattle.tv_outputs.specs.Known.{Nodes, known, tree_in}
use Rattle.tv_binding.specs.declared.over.Brought.{Brought}
use Rattle.tv_binding.specs.declared.over.Brought.TheVariants.{Arrived, Closed}
use Rattle.tv_binding.specs.declared.over.Over.{Over as Coming}
use Rattle.tv_binding.specs.declared.sources.Sources.{Sources}
use Rattle.tv_binding.specs.Constants.{FlowConstants, constant_in, constant_of_output, constants_view, flow_constants}
use Rattle.tv_binding.specs.Delivered.{feed_value, no_items}
use Rattle.tv_binding.specs.Found.{Known}
use Rattle.tv_binding.specs.Jobs.{outputs_found}
use Rattle.tv_binding.specs.Over.{AreBrought, CanBring, CanCome, known_over, tree_with}
use Rattle.tv_binding.specs.Sourced.{Stand, known_by, tree_from}
use Rattle.tv_model.specs.Instances.{given_of}
use Rattle.tv_model.specs.instance.ByResults.{InstanceStep, step_of}
use Rattle.tv_model.specs.instance.Events as events
use Rattle.tv_model.specs.instance.Events.{Event, event_place, event_step, fault_set, gave, took}
use Rattle.tv_model.specs.instance.Legality.{AreLegal}
use Rattle.tv_framing.specs.Answers.{AreOutputs}
use Rattle.tv_framing.specs.Arriving.{part_so_far}
use Rattle.tv_framing.specs.Frames.{with_event}
use Rattle.tv_framing.specs.Stated.{IsOfDepths}
use Rattle.tv_framing.specs.Views.{AreGiven, InAll, View, steps_with}
use Rattle.tv_framing.proofs.Arriving.{extends-parts}
use Rattle.tv_framing.proofs.Possible.{some-possible}
use Rattle.tv_framing.specs.engine.TurningTrees.{CanPut}
use Rattle.tv_framing.specs.engine.WiredFlows.{IsWired}
use Rattle.tv_framing.proofs.engine.Endings.{position-of}
use Rattle.tv_framing.specs.feeds.Coming.{put_here}
use Rattle.tv_framing.specs.feeds.Fed.{event_number}
use Rattle.tv_framing.proofs.feeds.Coming.{events-are_in_trees, trees-go_on}
use Rattle.tv_framing.proofs.feeds.Names.{is-named}
use Rattle.tv_framing.specs.matches.Steps.{IsStepAt}
use Rattle.tv_framing.specs.faults.Known.{tree_of}
use Rattle.tv_framing.proofs.faults.Numbers.{step-there}
use Rattle.tv_frame.specs.declared.frame.Frame.{Frame}
use Rattle.tv_frame.specs.declared.outs.Change.{Change}
use Rattle.tv_frame.specs.declared.outs.Change.TheVariants.{Arrive, Close}
use Rattle.tv_frame.specs.declared.outs.Over.{Over}
use Rattle.tv_frame.specs.Kept.{Keeps, declared_at}
use Rattle.tv_frame.specs.Outs.{AllAreWhole, HasAsMany, IsBrought}
use Rattle.tv_frame.specs.Prepared.{IsChangeOf, IsLaidOver, event_value}
use Rattle.tv_frame.specs.Tables.{at_least_one, first_tree, levels_in, tree_depths, trees_of}
use Rattle.tv_check.specs.Tables.{step_level}
use Rattle.tv_frame.proofs.Feeds.{AreLinkValues, input-numbered, input-plain, output-below, output-whole}
use Rattle.tv_frame.proofs.FirstOuts.{feeds-numbered}
use Rattle.tv_frame.proofs.HoldAround.{fewer-trees, first-below, wired-flow, wiring-kept}
use Rattle.tv_frame.proofs.HoldTold.{same-names-has, same-names-position}
use Rattle.tv_frame.proofs.OutputLinks.{has_output_links, output-links}
use Rattle.tv_frame.proofs.OutsFound.{IsAllWhole, constant_or, outputs-whole, whole_values}
use Rattle.tv_frame.proofs.Coming.{as-declared}

-- ---- lists

-- what stands at each number below one stands in at least so many
as-many : {A : Type 0} (n : ℕ) (xs : List A) → ((k : ℕ) → k < n → (x : A) × (slice_get xs k ≡ Some x)) → n ≤ length xs
as-many zero xs h = omega arith
as-many (suc n) xs h = let e = h n (omega arith) in omega (arith, slice_get_within xs n e.0 e.1)

-- the first of some pieces
taken-value : (ps : List Piece) (n k : ℕ) (x : Value) → k < n → slice_get (piece_values ps) k ≡ Some x → slice_index_or (piece_values (take n ps)) k no_value ≡ x
taken-value [] n k x l e = absurd (none-some x e)
taken-value (p ∷ ps) zero k x l e = absurd (omega (arith, l))
taken-value (p ∷ ps) (suc n) zero x l e = same_Some (piece_value p) x e
taken-value (p ∷ ps) (suc n) (suc k) x l e = taken-value ps n k x (omega (arith, l)) e

taken-sound : (ps : List Piece) (n : ℕ) → AreSound ps → AreSound (take n ps)
taken-sound [] zero h = refl
taken-sound [] (suc n) h = refl
taken-sound (p ∷ ps) zero h = refl
taken-sound (p ∷ ps) (suc n) h =
    let b = and_parts (is_sound p) (list_all is_sound ps) h in
    ap (λ c. c && list_all is_sound (take n ps)) b.0 ∙ taken-sound ps n b.1

-- ---- what an event brings

module _ (v : View) (s : Name × Step) where
  -- of a result there is a value for each output
  abbrev IsGiven : Event → Type 0
  IsGiven (gave t q vs) = length vs ≡ length s.1.outputs
  IsGiven (events.closed t q m) = Unit {0}
  IsGiven (fault_set t q d) = Unit {0}
  IsGiven (took t q) = Unit {0}

  -- pieces that arrive are of its values
  abbrev ArrivesAt : Event → Change → ℕ → Type 0
  ArrivesAt e (Arrive ps) k = slice_get (piece_values ps.now) k ≡ Some (event_value v s e k)
  ArrivesAt e (Close m) k = Unit {0}

  arriving : (e : Event) (c : Change) → IsGiven e → IsChangeOf v s e c → (k : ℕ) → k < length s.1.outputs → ArrivesAt e c k
  arriving (gave t q vs) (Arrive ps) g h k l =
      let x = get-within vs k (subst (λ n. k < n) (sym g) l) in
      ap (λ xs. slice_get xs k) (sym h.1) ∙ x.1 ∙ ap Some (sym (ap (λ o. unwrap_or o (list tt no_trees)) x.1))
  arriving (gave t q vs) (Close m) g h k l = absurd h
  arriving (events.closed t q m) (Arrive ps) g h k l = absurd h
  arriving (events.closed t q m) (Close n) g h k l = tt
  arriving (fault_set t q d) (Arrive ps) g h k l = h.1 k l
  arriving (fault_set t q d) (Close m) g h k l = absurd h
  arriving (took t q) (Arrive ps) g h k l = absurd h
  arriving (took t q) (Close m) g h k l = absurd h

  pub has-as_many : (e : Event) (c : Change) → IsGiven e → IsChangeOf v s e c → HasAsMany c (length s.1.outputs)
  has-as_many e (Arrive ps) g h = subst (λ n. length s.1.outputs ≤ n) (length-map ps.now piece_value) (as-many (length s.1.outputs) (piece_values ps.now) (λ k l. (event_value v s e k, arriving e (Arrive ps) g h k l)))
  has-as_many e (Close m) g h = tt

  change-sound : (e : Event) (ps : _) → IsChangeOf v s e (Arrive ps) → AreSound ps.now
  change-sound (gave t q vs) ps h = h.0
  change-sound (events.closed t q m) ps h = absurd h
  change-sound (fault_set t q d) ps h = h.0
  change-sound (took t q) ps h = absurd h

  are-brought : (e : Event) (c : Change) (b : Brought) → IsGiven e → IsChangeOf v s e c → IsBrought c (length s.1.outputs) b → AreBrought b (length s.1.outputs)
  are-brought e (Arrive ps) (Arrived qs) g h k = (
    ap length k ∙ length-take-le (length s.1.outputs) ps.now (has-as_many e (Arrive ps) g h),
    subst AreSound (sym k) (taken-sound ps.now (length s.1.outputs) (change-sound e ps h)),
  )
  are-brought e (Arrive ps) (Closed m) g h k = absurd k
  are-brought e (Close n) (Arrived qs) g h k = absurd k
  are-brought e (Close n) (Closed m) g h k = tt

  -- the tree with it
  tree-brought : (e : Event) (c : Change) (b : Brought) → IsGiven e → IsChangeOf v s e c → IsBrought c (length s.1.outputs) b → (k : ℕ) → k < length s.1.outputs → (r : Partial Value)
      → tree_with b (event_place e) k r ≡ put_here k (levels_in v.flow s.0) (declared_at s k) e r
  tree-brought (gave t q vs) (Arrive ps) (Arrived qs) g h j k l r =
      ap (λ x. arrive q x r) (ap (λ xs. slice_index_or (piece_values xs) k no_value) j ∙ taken-value ps.now (length s.1.outputs) k (event_value v s (gave t q vs) k) l (arriving (gave t q vs) (Arrive ps) g h k l))
  tree-brought (gave t q vs) (Arrive ps) (Closed m) g h j k l r = absurd j
  tree-brought (gave t q vs) (Close n) b g h j k l r = absurd h
  tree-brought (events.closed t q m) (Arrive ps) b g h j k l r = absurd h
  tree-brought (events.closed t q m) (Close n) (Arrived qs) g h j k l r = absurd j
  tree-brought (events.closed t q m) (Close n) (Closed i) g h j k l r = ap (λ x. close_at q x r) (j ∙ sym h)
  tree-brought (fault_set t q d) (Arrive ps) (Arrived qs) g h j k l r =
      ap (λ x. arrive q x r) (ap (λ xs. slice_index_or (piece_values xs) k no_value) j ∙ taken-value ps.now (length s.1.outputs) k (event_value v s (fault_set t q d) k) l (arriving (fault_set t q d) (Arrive ps) g h k l))
  tree-brought (fault_set t q d) (Arrive ps) (Closed m) g h j k l r = absurd j
  tree-brought (fault_set t q d) (Close n) b g h j k l r = absurd h
  tree-brought (took t q) (Arrive ps) b g h j k l r = absurd h
  tree-brought (took t q) (Close n) b g h j k l r = absurd h

  can-bring : (e : Event) (c : Change) (b : Brought) → IsChangeOf v s e c → IsBrought c (length s.1.outputs) b → (r : Partial Value) → CanPut e r → CanBring b (event_place e) r
  can-bring (gave t q vs) (Arrive ps) (Arrived qs) h j r p = p
  can-bring (gave t q vs) (Arrive ps) (Closed m) h j r p = absurd j
  can-bring (gave t q vs) (Close n) b h j r p = absurd h
  can-bring (events.closed t q m) (Arrive ps) b h j r p = absurd h
  can-bring (events.closed t q m) (Close n) (Arrived qs) h j r p = absurd j
  can-bring (events.closed t q m) (Close n) (Closed i) h j r p = subst (λ x. CanClose q x r) (h ∙ sym j) p
  can-bring (fault_set t q d) (Arrive ps) (Arrived qs) h j r p = p
  can-bring (fault_set t q d) (Arrive ps) (Closed m) h j r p = absurd j
  can-bring (fault_set t q d) (Close n) b h j r p = absurd h
  can-bring (took t q) (Arrive ps) b h j r p = absurd h
  can-bring (took t q) (Close n) b h j r p = absurd h

-- a result that comes has a value for each output of its step
module _ (flows : List (Name × Flow)) (plan : FlowPlan) (pool : Nodes) (f : Frame) (v : View) (keeps : Keeps flows plan pool f v) (s : Name × Step) (e : Event) (over : Over) (from : ℕ) (laid : IsLaidOver flows v s e over from) where
  pub is-given : IsGiven v s e
  is-given = by e laid.next.given laid.named
    where
      wires : IsWired v.flow
      wires = wired-flow flows plan pool f v keeps

      by : (g : Event) → AreGiven (ranked v.flow.steps) (g ∷ v.events) → event_step g ≡ s.0 → IsGiven v s g
      by (gave t q vs) h n =
          let i = all-ranked v.flow.steps (steps-ascend v.flow wires.formed) wires.ranked s (over.step, laid.at) in
          as-declared (declared_depths s.1) vs (h.0 s (in-slice (ranked v.flow.steps) i.0 s i.1) (sym n)) ∙ length-map s.1.outputs (λ o. o.1)
      by (events.closed t q m) h n = tt
      by (fault_set t q d) h n = tt
      by (took t q) h n = tt

  pub many-there : (outs : List (Name × ℕ)) → outs ≡ s.1.outputs → HasAsMany over.change (length outs)
  many-there outs same = subst (λ (os : List (Name × ℕ)). HasAsMany over.change (length os)) (sym same) (has-as_many v s e over.change is-given laid.change)

-- ---- what a frame has

-- where its feeds get their values
pub record IsSourcesOf (pool : Nodes) (f : Frame) (a : Sources) : Type 0 where
  pub inputs : a.inputs.now ≡ f.inputs
  pub outputs : a.outputs.now ≡ f.outputs
  pub nodes : a.pool.now ≡ pool
  pub firsts : a.firsts.now ≡ f.tables.firsts.items

-- the event as `tv_binding` has it
pub record IsComingOf (s : Name × Step) (over : Over) (b : Coming) : Type 0 where
  pub step : b.step ≡ over.step
  pub outputs : b.outputs ≡ length s.1.outputs
  pub place : b.place.now ≡ over.place.now
  pub brought : IsBrought over.change (length s.1.outputs) b.brought

module _ (flows : List (Name × Flow)) (plan : FlowPlan) (pool : Nodes) (f : Frame) (v : View) (keeps : Keeps flows plan pool f v) (a : Sources) (of : IsSourcesOf pool f a) where
  abbrev levels : Name → ℕ
  levels = levels_in v.flow

  wired : IsWired v.flow
  wired = wired-flow flows plan pool f v keeps

  pub sources-stand : Stand a
  sources-stand = record {
    region = f.region;
    stand = subst (λ p. outputs.Stand p a.outputs.now f.region) (sym of.nodes) (subst (λ o. outputs.Stand pool o f.region) (sym of.outputs) keeps.stand);
    sound = subst AreSound (sym of.inputs) keeps.inputs_are.sound;
  }

  known-trees : known a.pool.now a.outputs.now ≡ known pool f.outputs
  known-trees = ap (λ p. known p a.outputs.now) of.nodes ∙ ap (known pool) of.outputs

  trees-many : length (known a.pool.now a.outputs.now) ≡ length (tree_depths v.flow)
  trees-many =
      ap length known-trees
      ∙ length-map f.outputs.trees.items _
      ∙ sym (length-map f.outputs.trees.items _)
      ∙ ap length keeps.deep

  pub first-at : (n : ℕ) → n < length v.flow.steps → slice_get a.firsts.now n ≡ Some (first_tree v.flow.steps n)
  first-at n l = ap (λ ns. slice_get ns n) (of.firsts ∙ keeps.tables_are.firsts_are) ∙ get-map_range (first_tree v.flow.steps) (length v.flow.steps) n l

  -- THE TREES that are found are what was told
  pub tree-known : (n : ℕ) (t : Name × Step) → IsStepAt v n t → (k : ℕ) → k < trees_of t → (known_by a).outputs n k ≡ part_so_far t.0 k (levels t.0) (declared_at t k) v.events
  tree-known n t at k l =
      ap (λ o. tree_from (known a.pool.now a.outputs.now) o k) (first-at n (slice_get_within v.flow.steps n t at))
      ∙ ap (λ ts. tree_in ts (first_tree v.flow.steps n + k)) known-trees
      ∙ keeps.trees_are n t at k l

  pub declared-depth : (t : Name × Step) (o : Name) → has_name t.1.outputs o ≡ true → declared_at t (position o t.1.outputs) ≡ unwrap_or (named o t.1.outputs) 0
  declared-depth t o h =
      let out = is-named o t.1.outputs h in
      index-map (λ (p : Name × ℕ). p.1) t.1.outputs (position o t.1.outputs) (o, out.thing) 0 out.here ∙ ap (λ r. unwrap_or r 0) (sym out.named_so)

  -- by names
  pub tree-named : (es : events.Events) (t o : Name) → is_there v.flow (output t o) ≡ true → (r : ℕ → ℕ → Partial Value)
      → ((n : ℕ) (u : Name × Step) → IsStepAt v n u → (k : ℕ) → k < length u.1.outputs → r n k ≡ part_so_far u.0 k (levels u.0) (declared_at u k) es)
      → r (position t v.flow.steps) (position o (outputs_of v.flow t)) ≡ tree_of v.flow levels es t o
  tree-named es t o h r are =
      let p = step-there v.flow t o h in
      let st = is-named t v.flow.steps p.0 in
      let its : outputs_of v.flow t ≡ st.thing.outputs = ap (λ (x : Option Step). option_map_or (λ (u : Step). u.outputs) x []) st.named_so in
      let has : has_name st.thing.outputs o ≡ true = subst (λ (ps : List (Name × ℕ)). has_name ps o ≡ true) its p.1 in
      ap (λ ps. r (position t v.flow.steps) (position o ps)) its
      ∙ are (position t v.flow.steps) (t, st.thing) st.here (position o st.thing.outputs) (there o st.thing.outputs has).below
      ∙ ap (λ d. part_so_far t (position o st.thing.outputs) (levels t) d es) (declared-depth (t, st.thing) o has)
      ∙ ap (λ ps. part_so_far t (position o ps) (levels t) (unwrap_or (named o ps) 0) es) (sym its)

  -- THE FEEDS of outputs
  outputs-are : plan.wiring.outputs ≡ map (λ (o : Name × Feed). feed_numbered v.flow o.1) v.flow.outputs
  outputs-are = ap (λ (w : Wiring). w.outputs) (wiring-kept flows plan pool f v keeps)

  -- ---- with an event

  module _ (s : Name × Step) (e : Event) (over : Over) (from : ℕ) (laid : IsLaidOver flows v s e over from) where
    abbrev w : View
    w = with_event v e []

    number : event_number v e ≡ over.step
    number = ap (λ m. position m v.flow.steps) laid.named ∙ position-of v.flow.steps over.step s (steps-ascend v.flow wired.formed) laid.at

    given-so : IsGiven v s e
    given-so = is-given flows plan pool f v keeps s e over from laid

    module _ (b : Coming) (is : IsComingOf s over b) where
      abbrev k_over : Known
      k_over = known_over (known_by a) b

      same-place : b.place.now ≡ event_place e
      same-place = is.place ∙ laid.place

      pub can-come : CanCome a b
      can-come = record {
        first = first_tree v.flow.steps over.step;
        step = ap (slice_get a.firsts.now) is.step ∙ first-at over.step (slice_get_within v.flow.steps over.step s laid.at);
        there = subst (λ n. first_tree v.flow.steps over.step + n ≤ length (known a.pool.now a.outputs.now)) (sym is.outputs) (subst (λ n. first_tree v.flow.steps over.step + length s.1.outputs ≤ n) (sym trees-many) fits);
        brought = subst (AreBrought b.brought) (sym is.outputs) (are-brought v s e over.change b.brought given-so laid.change is.brought);
        can = λ o l.
            let few : o < length s.1.outputs = subst (λ n. o < n) is.outputs l in
            subst (λ q. CanBring b.brought q ((known_by a).outputs b.step o)) (sym same-place)
            (subst (λ n. CanBring b.brought (event_place e) ((known_by a).outputs n o)) (sym is.step)
            (subst (CanBring b.brought (event_place e)) (sym (tree-known over.step s laid.at o (fewer-trees s o few)))
            (can-bring v s e over.change b.brought laid.change is.brought (part_so_far s.0 o (levels s.0) (declared_at s o) v.events)
            (subst (λ m. CanPut e (part_so_far m o (levels m) (declared_at s o) v.events)) laid.named (events-are_in_trees flows levels v e laid.next wired o (declared_at s o)).put))));
      }
        where
          last : (m : ℕ) → m ≡ length s.1.outputs → first_tree v.flow.steps over.step + m ≤ length (tree_depths v.flow)
          last zero g = let l = first-below (λ (u : Name × Step). step_level v.flow u.1) v.flow.steps over.step s 0 laid.at (some (length s.1.outputs)) in omega (arith, l)
            where
              some : (n : ℕ) → 0 < at_least_one n
              some zero = omega arith
              some (suc n) = omega arith
          last (suc m) g = let l = first-below (λ (u : Name × Step). step_level v.flow u.1) v.flow.steps over.step s m laid.at (fewer-trees s m (subst (λ n. m < n) g (omega arith))) in omega (arith, l)

          fits : first_tree v.flow.steps over.step + length s.1.outputs ≤ length (tree_depths v.flow)
          fits = last (length s.1.outputs) refl

      -- THE TREES with the event
      tree-after : (n : ℕ) (t : Name × Step) → IsStepAt v n t → (k : ℕ) → k < length t.1.outputs → k_over.outputs n k ≡ part_so_far t.0 k (levels t.0) (declared_at t k) (e ∷ v.events)
      tree-after n t at k l = by (n == b.step) refl
        where
          goes : (c : Bool) → (n == b.step) ≡ c → (n == event_number v e) ≡ c
          goes c g = ap (λ m. n == m) (number ∙ sym is.step) ∙ g

          by : (c : Bool) → (n == b.step) ≡ c → (if c && nat_lt k b.outputs then tree_with b.brought b.place.now k ((known_by a).outputs n k) else (known_by a).outputs n k) ≡ part_so_far t.0 k (levels t.0) (declared_at t k) (e ∷ v.events)
          by true g =
              let same : t ≡ s = same_Some t s (sym at ∙ ap (slice_get v.flow.steps) (eqb-true n b.step g ∙ is.step) ∙ laid.at) in
              let mine : k < length s.1.outputs = subst (λ (u : Name × Step). k < length u.1.outputs) same l in
              ap (λ c. if c then tree_with b.brought b.place.now k ((known_by a).outputs n k) else (known_by a).outputs n k) (lt-ltb k b.outputs (subst (λ m. k < m) (sym is.outputs) mine))
              ∙ ap₂ (λ q r. tree_with b.brought q k r) same-place (tree-known n t at k (fewer-trees t k l))
              ∙ tree-brought v s e over.change b.brought given-so laid.change is.brought k mine (part_so_far t.0 k (levels t.0) (declared_at t k) v.events)
              ∙ ap (λ (u : Name × Step). put_here k (levels u.0) (declared_at u k) e (part_so_far t.0 k (levels t.0) (declared_at t k) v.events)) (sym same)
              ∙ sym ((trees-go_on flows levels v e laid.next wired n t at k (declared_at t k)).own (goes true g))
          by false g =
              tree-known n t at k (fewer-trees t k l)
              ∙ sym ((trees-go_on flows levels v e laid.next wired n t at k (declared_at t k)).other (goes false g))

      by_name : (t o : Name) → is_there v.flow (output t o) ≡ true → k_over.outputs (position t v.flow.steps) (position o (outputs_of v.flow t)) ≡ tree_of v.flow levels (e ∷ v.events) t o
      by_name t o h = tree-named (e ∷ v.events) t o h k_over.outputs tree-after

      depths-after : IsOfDepths flows levels w
      depths-after = let d = laid.next.depths in record { flow = d.flow; inputs = d.inputs; levels_are = d.levels_are }

      legal-after : InAll w (λ instance results fs. AreLegal instance fs w.events)
      legal-after instance results depth x = (laid.next.legal instance results depth x, laid.next.frame.legal instance results depth (extends-parts results e v.events x).1)

      inputs-are : k_over.inputs ≡ map (λ (y : Name × Value). y.1) v.inputs
      inputs-are = ap piece_values of.inputs ∙ sym keeps.inputs_are.values

      module _ (all : AllAreWhole w) where
        whole-so : (t o : Name) → is_there v.flow (output t o) ≡ true → whole (tree_of v.flow levels (e ∷ v.events) t o) ≡ true
        whole-so t o h =
            let r = some-possible w [] laid.next.given in
            let st = is-named t v.flow.steps (step-there v.flow t o h).0 in
            output-whole flows levels w depths-after wired legal-after [] r.0 r.1 r.2 t o h
            ∙ all (position t v.flow.steps) (t, st.thing) st.here

        all-whole : IsAllWhole v.flow k_over
        all-whole = record {
          inputs = λ x h.
              let st = is-named x v.inputs (same-names-has x v.inputs v.flow.inputs keeps.inputs_are.names ∙ h) in
              (st.thing, ap (λ vs. slice_get vs (position x v.flow.inputs)) inputs-are ∙ ap (slice_get (map (λ (y : Name × Value). y.1) v.inputs)) (sym (same-names-position x v.inputs v.flow.inputs keeps.inputs_are.names)) ∙ get-map (λ (y : Name × Value). y.1) v.inputs (position x v.inputs) (x, st.thing) st.here);
          outputs = λ t o h. ap whole (by_name t o h) ∙ whole-so t o h;
        }

        abbrev pub expected : List Value
        expected = map (λ (o : Name × Feed). feed_value (whole_values k_over) (feed_numbered v.flow o.1) (constant_or o.1)) v.flow.outputs

        links-there : has_output_links v.flow ≡ true
        links-there = subst (λ g. has_output_links g ≡ true) (sym keeps.flow_is) (output-links (flow_view plan.flow) plan.kept.1)

        -- WHAT IS FOUND
        pub outputs-found : (cs : FlowConstants) → cs ≡ constants_view f.tables.constants → outputs_found k_over cs plan.wiring.outputs ≡ Some expected
        outputs-found cs e =
            ap (outputs_found k_over cs) outputs-are
            ∙ outputs-whole v.flow k_over all-whole cs 0 v.flow.outputs links-there
            (λ i o g. ap (λ k. constant_of_output k (0 + i)) (e ∙ keeps.tables_are.constants_are) ∙ ap (constant_of_output (flow_constants v.flow)) (none i) ∙ ap (option_and_then (λ c. c)) (get-map (λ (u : Name × Feed). constant_in u.1) v.flow.outputs i o g))
          where
            none : (m : ℕ) → 0 + m ≡ m
            none m = omega arith

        -- WHAT IS DELIVERED
        pub outputs-delivered : AreOutputs w expected
        outputs-delivered instance results depth x = feeds-numbered v.flow (given_of v.flow v.inputs) fs (whole_values k_over) are v.flow.outputs links-there
          where
            fs : List InstanceStep
            fs = steps_with w instance results

            are : AreLinkValues v.flow (given_of v.flow v.inputs) fs (whole_values k_over)
            are (input y) h =
                ap (λ vs. slice_index_or vs (position y v.flow.inputs) no_items) inputs-are
                ∙ input-numbered v keeps.inputs_are.names y h
                ∙ sym (input-plain flows levels w depths-after wired legal-after instance results depth x y h)
            are (output t o) h =
                ap value_in (by_name t o h)
                ∙ whole-is (tree_of v.flow levels (e ∷ v.events) t o) (plain (link_delivers step_of (given_of v.flow v.inputs) fs (output t o)).value)
                (output-below flows levels w depths-after wired legal-after instance results depth x t o h) (whole-so t o h)

-- ---- in the words of the call

module _ (flows : List (Name × Flow)) (plan : FlowPlan) (pool : Nodes) (f : Frame) (v : View) (keeps : Keeps flows plan pool f v) (n : ℕ) (s : Name × Step) (at : IsStepAt v n s) where
  -- the outputs of the step in the code's flow
  pub outputs-same : (xs : List (Name × CodeStep)) → xs ≡ plan.flow.steps → (x : Name × CodeStep) → (slice_index_or xs n x).1.outputs ≡ s.1.outputs
  outputs-same xs e x =
      let view : Name × CodeStep → Name × Step = λ t. (t.0, step_view t.1) in
      let found : slice_get (map view xs) n ≡ Some s = ap (λ ys. slice_get (map view ys) n) e ∙ ap (λ (g : Flow). slice_get g.steps n) (sym keeps.flow_is) ∙ at in
      let y = get-within xs n (subst (λ m. n < m) (length-map xs view) (slice_get_within (map view xs) n s found)) in
      let same : y.0 ≡ slice_index_or xs n x = sym (get_or_from_slice_get xs n y.0 x y.1) in
      ap (λ (t : Name × CodeStep). t.1.outputs) (sym same)
      ∙ ap (λ (t : Name × Step). t.1.outputs) (same_Some (view y.0) s (sym (get-map view xs n y.0 y.1) ∙ found))

  -- which are few
  pub outputs-few : length s.1.outputs < 2 ^ 32
  outputs-few = let l = few is_depth 0 16 s.1.outputs (step-outputs s.1 (step-at v.flow (wired-flow flows plan pool f v keeps).formed n s at)) in omega (arith, l)

pub coming-of : (s : Name × Step) (over : Over) (b : Coming) (outs : List (Name × ℕ)) → outs ≡ s.1.outputs → b.step ≡ over.step → b.outputs ≡ length outs → b.place.now ≡ over.place.now → IsBrought over.change (length outs) b.brought → IsComingOf s over b
coming-of s over b outs same step many place brought = record {
  step = step;
  outputs = many ∙ ap length same;
  place = place;
  brought = subst (λ (os : List (Name × ℕ)). IsBrought over.change (length os) b.brought) same brought;
}

pub found-so : (flows : List (Name × Flow)) (plan : FlowPlan) (pool : Nodes) (f : Frame) (v : View) (keeps : Keeps flows plan pool f v) (a : Sources) (of : IsSourcesOf pool f a) (s : Name × Step) (e : Event) (over : Over) (from : ℕ) (laid : IsLaidOver flows v s e over from) (b : Coming) (is : IsComingOf s over b) (all : AllAreWhole (with_event v e []))
    (cs : FlowConstants) (fs : List NumberedFeed) → cs ≡ constants_view f.tables.constants → fs ≡ plan.wiring.outputs → IsTrue (is_some (outputs_found (known_over (known_by a) b) cs fs))
found-so flows plan pool f v keeps a of s e over from laid b is all cs fs k g =
    ap is_some (ap (outputs_found (known_over (known_by a) b) cs) g ∙ outputs-found flows plan pool f v keeps a of s e over from laid b is all cs k)

pub delivered-where_ok : {E : Type 0} (plan : FlowPlan) (pool : Nodes) (f : Frame) (over : Over) (a : Sources) (of : IsSourcesOf pool f a) (b : Coming)
    → ((flows : List (Name × Flow)) (v : View) (s : Name × Step) → Keeps flows plan pool f v → IsStepAt v over.step s → IsComingOf s over b)
    → (cs : FlowConstants) (fs : List NumberedFeed) → cs ≡ constants_view f.tables.constants → fs ≡ plan.wiring.outputs
    → (r : Result (List Piece) E) → IfOk r (λ ps. outputs_found (known_over (known_by a) b) cs fs ≡ Some (piece_values ps))
    → IfOk r (λ ps. (flows : List (Name × Flow)) (v : View) (s : Name × Step) (e : Event) (from : ℕ) → Keeps flows plan pool f v → IsLaidOver flows v s e over from → AllAreWhole (with_event v e []) → AreOutputs (with_event v e []) (piece_values ps))
delivered-where_ok plan pool f over a of b is cs fs k g (Err x) h = tt
delivered-where_ok plan pool f over a of b is cs fs k g (Ok ps) h = λ flows v s e from keeps laid all.
    let coming = is flows v s keeps laid.at in
    subst (AreOutputs (with_event v e []))
    (same_Some (expected flows plan pool f v keeps a of s e over from laid b coming all) (piece_values ps)
    (sym (ap (outputs_found (known_over (known_by a) b) cs) g ∙ outputs-found flows plan pool f v keeps a of s e over from laid b coming all cs k) ∙ h))
    (outputs-delivered flows plan pool f v keeps a of s e over from laid b coming all)
