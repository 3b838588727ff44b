-- What the steps that an event feeds are told with it, by what is around it in a frame: it can be told, and with it a step was told,
-- and truly, what is known after the event.
use Rattle.std.specs.List.{list_all, list_any}
use Rattle.std.specs.Option.{option_map_or}
use Rattle.std.specs.Prelude.{◌≡◌, refl, ℕ, zero, suc, ◌<◌, ◌≤◌, ◌==◌, ◌||◌, ◌⊎◌, Bool, true, false, flat_map, get_or, if◌then◌else◌, is_some, nat_lt, List, [], ◌∷◌, ◌++◌, length, map, IsPermutation, Option, Some, None, slice_index_or, unwrap_or}
use Rattle.std.proofs.Common.{arith, inl, inr, sym, ap, subst, ◌∙◌}
use Rattle.std.proofs.lemmas.Bool.{true≢false, cases_lt}
use Rattle.std.proofs.lemmas.List.Sorted.{IsPermutation-refl}
use Rattle.std.proofs.lemmas.Option.{slice_get_within}
use Rattle.tv_lemmas.specs.Members.{Each, In}
use Rattle.tv_lemmas.proofs.Members.{in_each, of-all}
use Rattle.tv_lemmas.proofs.Lists.{get-map, get-within, index-map}
use Rattle.tv_value.specs.Nested.{list, no_trees}
use Rattle.tv_value.specs.Orders.{named, same_name}
use Rattle.tv_value.specs.Strategies.{Strategy}
use Rattle.tv_value.specs.Values.{Name, Value, holds_fault}
use Rattle.tv_flow.specs.Flows.{Flow, Step, StepInput}
use Rattle.tv_strategy.specs.Measures.{leaf_names}
use Rattle.tv_strategy.proofs.Sources.{each-append}
use Rattle.tv_strategy.proofs.Each.{each-weaken}
use Rattle.tv_naming.specs.Naming.{has_name}
use Rattle.tv_naming.specs.Numbers.{position}
use Rattle.tv_naming.proofs.ByPosition.{there}
use Rattle.tv_value.proofs.NameLemmas.{same_name-is}
use Rattle.tv_naming.proofs.FormedParts.{passes, steps-ascend}
use Rattle.tv_model.specs.instance.Steps.{strategy_of}
use Rattle.tv_matching.specs.Matchers.{CanTellAll, leaf_name}
use Rattle.tv_matching.specs.Told.{told_leaf}
use Rattle.tv_matching.proofs.Lists.{each-map}
use Rattle.tv_matching.proofs.Onces.{each-flat}
use Rattle.tv_parts.specs.Partials.{holds_some}
use Rattle.tv_match.specs.declared.matchers.Matcher.{Matcher}
use Rattle.tv_match.specs.Seen.{matching}
use Rattle.tv_telling.specs.declared.ways.Event as code
use Rattle.tv_telling.specs.declared.ways.Way.{Way}
use Rattle.tv_telling.specs.declared.ways.Whole.{Whole}
use Rattle.tv_telling.specs.Views.{happening, way_tellings, whole_telling}
use Rattle.tv_telling.specs.WayTellings.{place_of_item}
use Rattle.tv_check.specs.declared.ports.Port.{Port}
use Rattle.tv_check.specs.declared.wires.Wire.{Wire}
use Rattle.tv_check.specs.declared.wiring.Wiring.{Wiring}
use Rattle.tv_check.specs.Feeds.{outputs_of}
use Rattle.tv_check.specs.Ports.{leaf_number, port_among, ports_of}
use Rattle.tv_check.specs.Wirings.{wiring}
use Rattle.tv_outputs.specs.Known.{Nodes, known, tree_in}
use Rattle.tv_telling.specs.endings.Feeds.{leaves_whole_with, with_step}
use Rattle.tv_telling.specs.endings.Ends.{is_whole}
use Rattle.tv_check.specs.declared.plans.FlowPlan.{FlowPlan}
use Rattle.tv_intake.specs.Intaken.{matcher_at}
use Rattle.tv_spread.specs.declared.around.Around.{Around}
use Rattle.tv_telling.specs.Along.{ways_into, wires_from}
use Rattle.tv_spread.specs.Arounds.{IsAround, delivers_fault, input_faulty, is_told, output_faulty, ports_at, tellings_by, told_at, tree_number, ways_at, wholes_at, wires_along}
use Rattle.tv_spread.specs.Spreads.{CanBeTold, CanHoldTold}
use Rattle.tv_spread.specs.Wholes.{wholes_with}
use Rattle.tv_spread.proofs.LawLemmas.{wholes-leaves}
use Rattle.tv_spread.proofs.Told.{along-within, untold}
use Rattle.tv_model.specs.Instances.{value_given}
use Rattle.tv_model.specs.instance.Events.{Event, event_step}
use Rattle.tv_framing.specs.Arriving.{part_so_far}
use Rattle.tv_framing.specs.Frames.{with_event}
use Rattle.tv_framing.specs.Views.{View}
use Rattle.tv_framing.specs.engine.AlongWires.{AreWholeWith, ports_of_step, told_along}
use Rattle.tv_framing.specs.engine.EndedSteps.{AreEndingsOf}
use Rattle.tv_framing.specs.engine.WiredFlows.{IsWired}
use Rattle.tv_framing.proofs.engine.Wires.{position-same}
use Rattle.tv_framing.proofs.engine.Told.{bound-to, way-to}
use Rattle.tv_framing.proofs.engine.Endings.{position-of}
use Rattle.tv_framing.specs.keeping.NextEvents.{is_whole_step}
use Rattle.tv_framing.specs.feeds.Fed.{event_number}
use Rattle.tv_framing.proofs.feeds.Names.{is-named}
use Rattle.tv_framing.proofs.feeds.Told.{told-goes_on}
use Rattle.tv_framing.proofs.feeds.WholeSteps.{marks-are_whole_steps, named-there, whole-steps_go_on}
use Rattle.tv_framing.specs.matches.Steps.{IsOfRankedFlow, IsStepAt}
use Rattle.tv_framing.proofs.matches.LawLemmas.{flows-stay, next-can_be_told}
use Rattle.tv_framing.specs.faults.Known.{IsTrueEvent, IsTrueWhole, tree_of}
use Rattle.tv_framing.specs.faults.Numbers.{AreFaultsBy, AreWholeBy}
use Rattle.tv_framing.proofs.faults.LawLemmas.{truth-goes_on}
use Rattle.tv_framing.proofs.faults.Numbers.{trees-are_by_events, whole_ports-are_true}
use Rattle.tv_framing.proofs.faults.Wires.{way-named}
use Rattle.tv_frame.specs.declared.frame.Frame.{Frame}
use Rattle.tv_frame.specs.Kept.{HasMatcher, IsMatcherOf, Keeps, declared_at}
use Rattle.tv_frame.specs.Prepared.{IsComing, IsToldThat}
use Rattle.tv_frame.specs.Tables.{levels_in}
use Rattle.tv_frame.proofs.HoldAround.{IsAroundOf, fewer-trees, is-around, ports-many, tree-number, trees-known, wired-flow, wiring-of}

-- ---- lists of names

-- the names alone
abbrev bare : List Name → List (Name × Unit {0})
bare ns = map (λ n. (n, tt)) ns

bare-position : {A : Type 0} (n : Name) (xs : List (Name × A)) → position n xs ≡ position n (bare (map (λ (x : Name × A). x.0) xs))
bare-position n [] = refl
bare-position n (x ∷ xs) = ap (λ k. if same_name n x.0 then 0 else suc k) (bare-position n xs)

bare-name : {A : Type 0} (n : Name) (xs : List (Name × A)) → has_name xs n ≡ has_name (bare (map (λ (x : Name × A). x.0) xs)) n
bare-name n [] = refl
bare-name {A = A} n (x ∷ xs) = by (same_name n x.0) (bare-name n xs)
  where
    by : (b : Bool) → is_some (named n xs) ≡ is_some (named n (bare (map (λ (y : Name × A). y.0) xs))) → is_some (if b then Some x.1 else named n xs) ≡ is_some (if b then Some tt else named n (bare (map (λ (y : Name × A). y.0) xs)))
    by true h = refl
    by false h = h

pub same-names-position : {A B : Type 0} (n : Name) (xs : List (Name × A)) (ys : List (Name × B)) → map (λ (x : Name × A). x.0) xs ≡ map (λ (y : Name × B). y.0) ys → position n xs ≡ position n ys
same-names-position n xs ys e = bare-position n xs ∙ ap (λ ns. position n (bare ns)) e ∙ sym (bare-position n ys)

pub same-names-has : {A B : Type 0} (n : Name) (xs : List (Name × A)) (ys : List (Name × B)) → map (λ (x : Name × A). x.0) xs ≡ map (λ (y : Name × B). y.0) ys → has_name xs n ≡ has_name ys n
same-names-has n xs ys e = bare-name n xs ∙ ap (λ ns. has_name (bare ns) n) e ∙ sym (bare-name n ys)

-- ---- leaves by numbers

-- a name among the leaves has a number that there is
leaf-below : (n : Name) (ns : List Name) → list_any (same_name n) ns ≡ true → leaf_number n ns < length ns
leaf-below n [] h = absurd (true≢false (sym h))
leaf-below n (m ∷ ns) h = by (same_name n m) h (λ k. leaf-below n ns k)
  where
    by : (b : Bool) → (b || list_any (same_name n) ns) ≡ true → (list_any (same_name n) ns ≡ true → leaf_number n ns < length ns) → (if b then 0 else suc (leaf_number n ns)) < suc (length ns)
    by true h rec = omega arith
    by false h rec = omega (arith, rec h)

in-there : (ns : List Name) (k : ℕ) → k < length ns → In (get_or ns k []) ns
in-there [] k l = absurd (omega arith)
in-there (n ∷ ns) zero l = inl refl
in-there (n ∷ ns) (suc k) l = inr (in-there ns k (omega (arith, l)))

-- what is so of the leaves of ways and of whole ports is so of what is told of them
leaves-told : (P : Name → Type 0) (g : Strategy) (c : code.Event) (ways : List Way) (whole : List Whole) → Each (λ (w : Way). P (leaf_name g w.leaf)) ways → Each (λ (y : Whole). P (leaf_name g y.leaf)) whole → Each (λ t. P (told_leaf t)) (tellings_by c ways whole g)
leaves-told P g c ways whole h k =
    each-append (λ t. P (told_leaf t)) (flat_map (way_tellings g c) ways) (map (whole_telling g) whole)
    (each-flat (λ t. P (told_leaf t)) (way_tellings g c) ways
    (each-weaken (λ (w : Way). P (leaf_name g w.leaf)) (λ (w : Way). Each (λ t. P (told_leaf t)) (way_tellings g c w))
    (λ w p. each-weaken (λ t. told_leaf t ≡ leaf_name g w.leaf) (λ t. P (told_leaf t)) (λ t q. subst P (sym q) p) (way_tellings g c w)
    (way-to (leaf_name g w.leaf) w.levels (place_of_item w.item) c.whole_from (get_or c.faults.now w.output 0) c.place.now (happening c.happened w.output))) ways h))
    (each-map (λ t. P (told_leaf t)) (whole_telling g) whole
    (each-weaken (λ (y : Whole). P (leaf_name g y.leaf)) (λ (y : Whole). P (told_leaf (whole_telling g y))) (λ y p. subst P (sym (bound-to (leaf_name g y.leaf) [] y.faulty)) p) whole k))

-- ---- an event that comes in a frame

module _ (flows : List (Name × Flow)) (plan : FlowPlan) (pool : Nodes) (f : Frame) (v : View) (keeps : Keeps flows plan pool f v) (a : Around) (of : IsAroundOf plan pool f a) (n : ℕ) (s : Name × Step) (e : Event) (c : code.Event) (coming : IsComing flows v n s e c) where
  abbrev levels : Name → ℕ
  levels = levels_in v.flow

  wired : IsWired v.flow
  wired = wired-flow flows plan pool f v keeps

  number : n ≡ event_number v e
  number = sym (ap (λ m. position m v.flow.steps) coming.named ∙ position-of v.flow.steps n s (steps-ascend v.flow wired.formed) coming.at)

  feeding : has_name v.flow.steps (event_step e) ≡ true
  feeding = ap (has_name v.flow.steps) coming.named ∙ named-there v.flow.steps n s coming.at

  true-event : IsTrueEvent levels v e coming.faults c.whole_from c
  true-event = record { seen = coming.seen; whole_from = coming.turns; hold = coming.hold }

  marks : is_whole a.endings.now ≡ is_whole_step levels v
  marks = λ i m. marks-are_whole_steps levels v a.endings.now (subst (AreEndingsOf v.flow levels v.events) (sym of.endings) keeps.endings_are) m i

  -- ---- which values hold a fault then

  inputs-so : (x : Name) → has_name v.flow.inputs x ≡ true → input_faulty a (position x v.flow.inputs) ≡ holds_fault (value_given v.inputs x)
  inputs-so x h =
      let st = is-named x v.inputs (same-names-has x v.inputs v.flow.inputs keeps.inputs_are.names ∙ h) in
      ap (λ bs. slice_index_or bs (position x v.flow.inputs) false) (of.inputs ∙ keeps.inputs_are.marked ∙ ap (map holds_fault) (sym keeps.inputs_are.values))
      ∙ ap (λ k. slice_index_or (map holds_fault (map (λ (y : Name × Value). y.1) v.inputs)) k false) (sym (same-names-position x v.inputs v.flow.inputs keeps.inputs_are.names))
      ∙ index-map holds_fault (map (λ (y : Name × Value). y.1) v.inputs) (position x v.inputs) st.thing false (get-map (λ (y : Name × Value). y.1) v.inputs (position x v.inputs) (x, st.thing) st.here)
      ∙ ap (λ o. holds_fault (unwrap_or o (list tt no_trees))) (sym st.named_so)

  tree-so : (t o : Name) → has_name v.flow.steps t ≡ true → has_name (outputs_of v.flow t) o ≡ true → tree_in (known a.pool.now a.outputs.now) (tree_number a (position t v.flow.steps) (position o (outputs_of v.flow t))) ≡ tree_of v.flow levels v.events t o
  tree-so t o h k =
      let st = is-named t v.flow.steps h in
      let its = ap (λ (r : Option Step). option_map_or (λ (u : Step). u.outputs) r []) st.named_so in
      let out = is-named o (outputs_of v.flow t) k in
      let at = position o (outputs_of v.flow t) in
      let few : at < length st.thing.outputs = subst (λ (ps : List (Name × ℕ)). at < length ps) its (there o (outputs_of v.flow t) k).below in
      let declared : declared_at (t, st.thing) at ≡ out.thing = ap (λ (ps : List (Name × ℕ)). slice_index_or (map (λ (p : Name × ℕ). p.1) ps) at 0) (sym its) ∙ index-map (λ (p : Name × ℕ). p.1) (outputs_of v.flow t) at (o, out.thing) 0 out.here in
      ap (λ ts. tree_in ts (tree_number a (position t v.flow.steps) at)) (trees-known flows plan pool f v keeps a of)
      ∙ ap (tree_in (known pool f.outputs)) (tree-number flows plan pool f v keeps a of (position t v.flow.steps) at (there t v.flow.steps h).below)
      ∙ keeps.trees_are (position t v.flow.steps) (t, st.thing) st.here at (fewer-trees (t, st.thing) at few)
      ∙ ap (λ d. part_so_far t at (levels t) d v.events) (declared ∙ ap (λ r. unwrap_or r 0) (sym out.named_so))

  outputs-so : (t o : Name) → has_name v.flow.steps t ≡ true → has_name (outputs_of v.flow t) o ≡ true → output_faulty a n c (position t v.flow.steps) (position o (outputs_of v.flow t)) ≡ holds_some holds_fault (tree_of v.flow levels (e ∷ v.events) t o)
  outputs-so t o h k =
      ap (λ b. if b then nat_lt 0 (get_or c.faults.now (position o (outputs_of v.flow t)) 0) else holds_some holds_fault (tree_in (known a.pool.now a.outputs.now) (tree_number a (position t v.flow.steps) (position o (outputs_of v.flow t)))))
      (ap (λ m. position t v.flow.steps == m) number ∙ position-same t (event_step e) v.flow.steps h feeding)
      ∙ by (same_name t (event_step e)) refl
    where
      own : (u : Name) → u ≡ event_step e → has_name (outputs_of v.flow u) o ≡ true → nat_lt 0 (get_or c.faults.now (position o (outputs_of v.flow u)) 0) ≡ holds_some holds_fault (tree_of v.flow levels (e ∷ v.events) u o)
      own u g = subst (λ w. has_name (outputs_of v.flow w) o ≡ true → nat_lt 0 (get_or c.faults.now (position o (outputs_of v.flow w)) 0) ≡ holds_some holds_fault (tree_of v.flow levels (e ∷ v.events) w o)) (sym g)
          (λ there_so. ap (nat_lt 0) (coming.seen.faults_are o there_so) ∙ (trees-are_by_events levels v e).own coming.faults c.whole_from c true-event o there_so)

      by : (b : Bool) → same_name t (event_step e) ≡ b → (if b then nat_lt 0 (get_or c.faults.now (position o (outputs_of v.flow t)) 0) else holds_some holds_fault (tree_in (known a.pool.now a.outputs.now) (tree_number a (position t v.flow.steps) (position o (outputs_of v.flow t))))) ≡ holds_some holds_fault (tree_of v.flow levels (e ∷ v.events) t o)
      by true g = own t (same_name-is t (event_step e) g) k
      by false g = ap (holds_some holds_fault) (tree-so t o h k ∙ sym ((trees-are_by_events levels v e).stays t o g))

  faults-so : AreFaultsBy v.flow levels v.inputs (e ∷ v.events) (input_faulty a) (output_faulty a n c)
  faults-so = record { inputs_are = inputs-so; outputs_are = outputs-so }

  -- ---- which ports have their whole values then

  whole-so : (c.whole_from == 0) ≡ true → AreWholeBy v.flow levels (e ∷ v.events) (is_whole a.endings.now) n
  whole-so h m u at g =
      (whole-steps_go_on flows levels v e coming.next wired c.whole_from coming.turns).after m u at
      ∙ ap (λ b. if b then with_step (is_whole_step levels v) (event_number v e) m else is_whole_step levels v m) h
      ∙ ap (λ k. with_step (is_whole_step levels v) k m) (sym number)
      ∙ ap (λ w. with_step w n m) (sym marks)
      ∙ g

  -- ---- one step

  module _ (k : ℕ) (t : Name × Step) (at : IsStepAt v k t) where
    ports-here : ports_at a k ≡ ports_of_step (wiring v.flow) k
    ports-here = ap (λ (w : Wiring). slice_index_or w.ports k []) (wiring-of flows plan pool f v keeps a of)

    whole-true : Each (IsTrueWhole v.flow levels v.inputs (e ∷ v.events) t.1) (wholes_at a n c k)
    whole-true = by (c.whole_from == 0) refl
      where
        by : (b : Bool) → (c.whole_from == 0) ≡ b → Each (IsTrueWhole v.flow levels v.inputs (e ∷ v.events) t.1) (if b then wholes_with (is_whole a.endings.now) n (delivers_fault a n c) (ports_at a k) else [])
        by true h =
            subst (λ ps. Each (IsTrueWhole v.flow levels v.inputs (e ∷ v.events) t.1) (wholes_with (is_whole a.endings.now) n (delivers_fault a n c) ps)) (sym ports-here)
            (whole_ports-are_true v.flow wired k t at levels v.inputs (e ∷ v.events) (is_whole a.endings.now) n (whole-so h) (input_faulty a) (output_faulty a n c) faults-so)
        by false h = tt

    whole-with : AreWholeWith (c.whole_from == 0) (is_whole_step levels v) (event_number v e) (ports_of_step (wiring v.flow) k) (wholes_at a n c k)
    whole-with = wholes-leaves a n c (ports_at a k) ∙ by (c.whole_from == 0)
      where
        by : (b : Bool) → (if b then leaves_whole_with (is_whole a.endings.now) n (ports_at a k) else []) ≡ (if b then leaves_whole_with (is_whole_step levels v) (event_number v e) (ports_of_step (wiring v.flow) k) else [])
        by true =
            ap (λ w. leaves_whole_with w n (ports_at a k)) marks
            ∙ ap (λ m. leaves_whole_with (is_whole_step levels v) m (ports_at a k)) number
            ∙ ap (leaves_whole_with (is_whole_step levels v) (event_number v e)) ports-here
        by false = refl

    along : told_at a n c k (strategy_of t.1) ≡ told_along v.flow k t.1 (event_step e) c ++ map (whole_telling (strategy_of t.1)) (wholes_at a n c k)
    along =
        ap (λ (w : Wiring). flat_map (way_tellings (strategy_of t.1) c) (ways_into k (wires_from w n)) ++ map (whole_telling (strategy_of t.1)) (wholes_at a n c k)) (wiring-of flows plan pool f v keeps a of)
        ∙ ap (λ m. flat_map (way_tellings (strategy_of t.1) c) (ways_into k (wires_from (wiring v.flow) m)) ++ map (whole_telling (strategy_of t.1)) (wholes_at a n c k)) number

    -- with what it is told, a step was told what is known after the event
    pub told-with : (m : Matcher) → IsMatcherOf v t m → IsToldThat v e t ((matching m).told ++ told_at a n c k (strategy_of t.1))
    told-with m is =
        let ts = (matching m).told in
        let ws = wholes_at a n c k in
        let after = ts ++ told_at a n c k (strategy_of t.1) in
        let same = subst (IsPermutation after) (ap (λ l. ts ++ l) along) (IsPermutation-refl after) in
        record {
          told = told-goes_on flows levels v e coming.next wired k t at ts is.told coming.faults c.whole_from c coming.seen coming.turns ws whole-with after same [];
          truly = truth-goes_on flows levels v e coming.next wired k t at ts is.truly coming.faults c.whole_from c true-event ws whole-true after same [];
        }

    -- ---- and it can be told that

    leaves-are : (i : Name × StepInput) → In i t.1.inputs → list_any (same_name i.0) (leaf_names (strategy_of t.1)) ≡ true
    leaves-are i g =
        of-all (λ (j : Name × StepInput). list_any (same_name j.0) (leaf_names (strategy_of t.1))) t.1.inputs
        (passes (λ (u : Name × Step). list_all (λ (j : Name × StepInput). list_any (same_name j.0) (leaf_names (strategy_of u.1))) u.1.inputs) v.flow.steps k t wired.leaves at) i g

    abbrev many : ℕ
    many = length (leaf_names (strategy_of t.1))

    ways-below : Each (λ (w : Way). w.leaf < many) (ways_at a n k)
    ways-below =
        subst (λ (w : Wiring). Each (λ (y : Way). y.leaf < many) (ways_into k (wires_from w n))) (sym (wiring-of flows plan pool f v keeps a of))
        (in_each (λ (y : Way). y.leaf < many) (ways_into k (wires_from (wiring v.flow) n))
        (λ y i. let p = way-named v.flow k t at n (slice_get_within v.flow.steps n s coming.at) y i in
        subst (λ l. l < many) (sym p.2) (leaf-below p.0.0 (leaf_names (strategy_of t.1)) (leaves-are p.0 p.1))))

    wholes-below : Each (λ (y : Whole). y.leaf < many) (wholes_at a n c k)
    wholes-below =
        each-weaken (IsTrueWhole v.flow levels v.inputs (e ∷ v.events) t.1) (λ (y : Whole). y.leaf < many)
        (λ y h. subst (λ l. l < many) (sym h.leaf) (leaf-below h.port.0 (leaf_names (strategy_of t.1)) (leaves-are h.port h.among))) (wholes_at a n c k) whole-true

    told-leaves : Each (λ x. In (told_leaf x) (leaf_names (strategy_of t.1))) (told_at a n c k (strategy_of t.1))
    told-leaves =
        leaves-told (λ m. In m (leaf_names (strategy_of t.1))) (strategy_of t.1) c (ways_at a n k) (wholes_at a n c k)
        (each-weaken (λ (w : Way). w.leaf < many) (λ (w : Way). In (leaf_name (strategy_of t.1) w.leaf) (leaf_names (strategy_of t.1))) (λ w l. in-there (leaf_names (strategy_of t.1)) w.leaf l) (ways_at a n k) ways-below)
        (each-weaken (λ (y : Whole). y.leaf < many) (λ (y : Whole). In (leaf_name (strategy_of t.1) y.leaf) (leaf_names (strategy_of t.1))) (λ y l. in-there (leaf_names (strategy_of t.1)) y.leaf l) (wholes_at a n c k) wholes-below)

    of-flow : IsOfRankedFlow flows levels v
    of-flow = record { depths = keeps.of_depths; formed = wired.formed; ranked = wired.ranked }

    can-tell : (m : Matcher) → IsMatcherOf v t m → CanTellAll (matching m) (told_at a n c k (strategy_of t.1))
    can-tell m is =
        next-can_be_told flows levels (with_event v e []) (flows-stay flows levels v of-flow e []) coming.next.given k t at (matching m).told (told_at a n c k (strategy_of t.1))
        (told-with m is).told told-leaves (matching m) is.mismatch_is (IsPermutation-refl (matching m).told)

    ports-below : Each (λ (p : Port). p.leaf < many) (ports_at a k)
    ports-below =
        subst (Each (λ (p : Port). p.leaf < many)) (sym (ports-here ∙ index-map (λ (u : Name × Step). ports_of v.flow u.1) v.flow.steps k t [] at))
        (each-map (λ (p : Port). p.leaf < many) (port_among v.flow (leaf_names (strategy_of t.1))) t.1.inputs
        (in_each (λ (i : Name × StepInput). leaf_number i.0 (leaf_names (strategy_of t.1)) < many) t.1.inputs
        (λ i g. leaf-below i.0 (leaf_names (strategy_of t.1)) (leaves-are i g))))

    pub can-be_told : (o : Option Matcher) → HasMatcher v t o → CanBeTold (told_at a n c k) (ports_at a k) o
    can-be_told None h = absurd h
    can-be_told (Some m) is = (
      subst (CanTellAll (matching m)) (sym (ap (told_at a n c k) is.strategy_is)) (can-tell m is),
      subst (λ g. Each (λ (p : Port). p.leaf < length (leaf_names g)) (ports_at a k)) (sym is.strategy_is) ports-below,
    )

  -- ---- all steps

  told-is_step : (k : ℕ) → is_told a n c k ≡ true → k < length v.flow.steps
  told-is_step k h =
      on-either (cases_lt k (length a.wiring.now.ports))
    where
      far : length a.wiring.now.ports ≤ k → is_told a n c k ≡ false
      far l =
          untold a n c (is-around flows plan pool f v keeps a of n s e c coming) k
          (each-weaken (λ (w : Wire). w.step < length a.wiring.now.ports) (λ (w : Wire). w.step ≡ k → ⊥) (λ w b g. omega (arith, b, g, l)) (wires_along a n c)
          (along-within a n c (is-around flows plan pool f v keeps a of n s e c coming)))

      on-either : (k < length a.wiring.now.ports) ⊎ (length a.wiring.now.ports ≤ k) → k < length v.flow.steps
      on-either (inl l) = subst (λ m. k < m) (ports-many flows plan pool f v keeps a of) l
      on-either (inr l) = absurd (true≢false (sym h ∙ far l))

  pub can-hold_told : IsAround a n c → CanHoldTold a n c f.intakes
  can-hold_told around k h =
      let t = get-within v.flow.steps k (told-is_step k h) in
      can-be_told k t.0 t.1 (matcher_at f.intakes k) (keeps.matchers_are k t.0 t.1)
