-- What is told with an event, along wires and of whole ports, is told truly.
use Rattle.std.specs.Cmp.Lexicographic.{bytes_decides}
use Rattle.std.specs.List.{list_all, list_any}
use Rattle.std.specs.Prelude.{◌≡◌, refl, ℕ, zero, suc, ◌+◌, Bool, true, false, ◌||◌, if◌then◌else◌, is_some, List, [], ◌∷◌, map, Option, Some, None, option_and_then, slice_get, unwrap_or, find}
use Rattle.std.proofs.Common.{sym, ap, ap₂, subst, ◌∙◌, inl, inr, add-zero}
use Rattle.std.proofs.lemmas.Bool.{and_parts, true≢false}
use Rattle.std.proofs.lemmas.List.Folds.{list_any-append}
use Rattle.std.proofs.lemmas.Option.{none-some, same_Some}
use Rattle.tv_lemmas.specs.Members.{Each, In}
use Rattle.tv_lemmas.proofs.Members.{each_in}
use Rattle.tv_lemmas.proofs.Numbers.{is-zero_plus, plus-suc}
use Rattle.tv_value.specs.Nested.{Place, Trees, all_leaves, at, item_at, leaves, list, no_trees, trees_of}
use Rattle.tv_value.specs.Orders.{named, same_name}
use Rattle.tv_value.specs.Values.{JobName, Name, Scalar, Value, holds_fault, is_fault}
use Rattle.tv_flow.specs.Flows.{Feed, Flow, Link, constant, input, link, merge, output}
use Rattle.tv_strategy.specs.Iterations.{Iteration}
use Rattle.tv_strategy.specs.Levels.{HasLevels}
use Rattle.tv_strategy.specs.Origins.{Origin, Traced, fixed, input_value}
use Rattle.tv_strategy.proofs.Sources.{each-append}
use Rattle.tv_naming.specs.Naming.{feed_links, has_name}
use Rattle.tv_naming.specs.Numbers.{position}
use Rattle.tv_model.specs.instance.Delivered.{Delivered, feed_delivers, link_delivers}
use Rattle.tv_model.specs.Instances.{given_of, value_given}
use Rattle.tv_matching.specs.Told.{TellsFaults}
use Rattle.tv_parts.specs.Partials.{HoldsFaults, Partial, holds_some}
use Rattle.tv_telling.specs.WayTellings.{told_on_way}
use Rattle.tv_check.specs.Feeds.{outputs_of}
use Rattle.tv_model.specs.instance.ByResults.{InstanceStep, Results, result_at, step_of}
use Rattle.tv_model.specs.instance.Counting.{whole_by}
use Rattle.tv_model.specs.instance.Events as events
use Rattle.tv_model.specs.instance.Events.{Event, Extends, event_place, event_step, fault_set, is_telling, took}
use Rattle.tv_model.specs.instance.Fitting.{FitStep, FitsNode}
use Rattle.tv_model.specs.instance.Legality.{IsLegalNext, node_of}
use Rattle.tv_framing.proofs.instances.Legal.{legal-fit, node-here}
use Rattle.tv_framing.proofs.instances.Levels.{steps-have_their_levels}
use Rattle.tv_framing.specs.instances.InHistory.{Finds}
use Rattle.tv_framing.specs.instances.Stated.{HasItsLevels}
use Rattle.tv_framing.specs.Arriving.{part_so_far}
use Rattle.tv_framing.specs.Feeding.{GaveThis}
use Rattle.tv_framing.specs.PortTellings.{newly_by}
use Rattle.tv_framing.specs.Views.{AreOfDepth, View, steps_with}
use Rattle.tv_framing.proofs.Arriving.{extends-parts}
use Rattle.tv_framing.proofs.Frames.{in-finds, steps-distinct}
use Rattle.tv_framing.specs.ways.Stated.{IsFrom, happening_of, link_by_ways, links_by_ways, port_by_ways}
use Rattle.tv_framing.specs.keeping.NextEvents.{IsNextEvent}
use Rattle.tv_framing.proofs.starts.Plain.{plain-input, same-faults}
use Rattle.tv_framing.proofs.starts.Ports.{IsFound, LinkIsFound}
use Rattle.tv_framing.proofs.starts.Steps.{IsPlaced, all_depths, steps-placed}
use Rattle.tv_framing.specs.engine.WiredFlows.{IsWired}
use Rattle.tv_framing.specs.faults.Known.{feed_faulty, link_faulty, link_known, tree_of}
use Rattle.tv_framing.specs.feeds.Fed.{given_at}
use Rattle.tv_framing.proofs.faults.Values.{AreTrue}
use Rattle.tv_framing.proofs.faults.Ways.{tree-holds, way-truly}

-- the value that is given is the one that the results have
given-this : (flow : Flow) (results : Results) (n o : Name) (f : Event) → is_telling f ≡ true → Extends results (f ∷ []) → event_step f ≡ n → GaveThis (given_at flow f o) (result_at results n (position o (outputs_of flow n))) f (event_place f)
given-this flow results n o (events.gave t y vs) h x e =
    ap (λ l. unwrap_or (slice_get l (position o (outputs_of flow t))) (list tt no_trees)) (sym x.0)
    ∙ ap (λ m. result_at results m (position o (outputs_of flow m)) y) e
given-this flow results n o (events.closed t y m) h x e = tt
given-this flow results n o (fault_set t y d) h x e = tt
given-this flow results n o (took t y) h x e = absurd (true≢false (sym h))

-- a node that an event fits is there
node-there : (e : Event) (o : Option Iteration) → FitsNode e o → (u : Iteration) × (o ≡ Some u) × FitsNode e (Some u)
node-there e None h = absurd h
node-there e (Some u) h = (u, refl, h)

found-in : (p : InstanceStep → Bool) (fs : List InstanceStep) (g : InstanceStep) → find p fs ≡ Some g → In g fs × (p g ≡ true)
found-in p [] g h = absurd (none-some g h)
found-in p (f ∷ fs) g h = by (p f) refl h (λ k. found-in p fs g k)
  where
    by : (b : Bool) → p f ≡ b → (if b then Some f else find p fs) ≡ Some g → (find p fs ≡ Some g → In g fs × (p g ≡ true)) → In g (f ∷ fs) × (p g ≡ true)
    by true e k rec = let same = same_Some f g k in (inl (sym same), ap p (sym same) ∙ e)
    by false e k rec = let r = rec k in (inr r.0, r.1)

-- a step that an event fits is found
step-found : (fs : List InstanceStep) (e : Event) → FitsNode e (node_of fs e) → (g : InstanceStep) × In g fs × (g.step.step ≡ event_step e)
step-found fs e h = by (find (λ (f : InstanceStep). same_name (event_step e) f.step.step) fs) refl h
  where
    by : (o : Option InstanceStep) → find (λ (f : InstanceStep). same_name (event_step e) f.step.step) fs ≡ o → FitsNode e (option_and_then (λ (f : InstanceStep). at f.step.iteration (event_place e)) o) → (g : InstanceStep) × In g fs × (g.step.step ≡ event_step e)
    by None w k = absurd k
    by (Some g) w k =
        let r = found-in (λ (f : InstanceStep). same_name (event_step e) f.step.step) fs g w in
        (g, r.0, sym ((bytes_decides (event_step e) g.step.step).0 r.1))

-- the event's step is one of the flow
pub event-feeds : (flows : List (Name × Flow)) (levels : Name → ℕ) (v : View) (e : Event) → IsNextEvent flows levels v e → IsWired v.flow → (instance : JobName) (results : Results) → AreOfDepth v instance results → Extends results (e ∷ v.events) → has_name v.flow.steps (event_step e) ≡ true
event-feeds flows levels v e next wired instance results depth x =
    let g = step-found (steps_with v instance results) e (next.legal instance results depth x).fits in
    let w = each_in (IsPlaced v.flow levels instance results (given_of v.flow v.inputs) flows (all_depths flows levels v next.depths wired) (steps_with v instance results)) (steps_with v instance results) (steps-placed flows levels v next.depths wired instance results depth) g.0 g.1 in
    let name : w.own.name ≡ event_step e = sym (ap (λ (h : InstanceStep). h.step.step) w.own.is) ∙ g.2 in
    ap (λ n. is_some (named n v.flow.steps)) (sym name) ∙ ap is_some w.own.stands

module _ (flows : List (Name × Flow)) (levels : Name → ℕ) (v : View) (e : Event) (next : IsNextEvent flows levels v e) (instance : JobName) (results : Results) (depth : AreOfDepth v instance results) (x : Extends results (e ∷ v.events)) where
  abbrev pub all_steps : List InstanceStep
  all_steps = steps_with v instance results

  legal : IsLegalNext instance all_steps v.events e
  legal = next.legal instance results depth x

  finds : (g : InstanceStep) → In g all_steps → Finds all_steps g
  finds g i = in-finds all_steps (steps-distinct v instance results) g i

  fit : (g : InstanceStep) → In g all_steps → FitStep g (e ∷ v.events)
  fit g i = legal-fit instance all_steps g (finds g i) (e ∷ v.events) (legal, next.frame.legal instance results depth (extends-parts results e v.events x).1)

  leveled : (g : InstanceStep) → In g all_steps → HasLevels g.step.iteration (levels g.step.step)
  leveled g i = (each_in (HasItsLevels levels) all_steps (steps-have_their_levels flows v.flow next.depths.flow v.inputs next.depths.inputs instance results depth levels next.depths.levels_are) g i).levels_told

  module _ (before : List InstanceStep) (stay : (g : InstanceStep) → In g before → In g all_steps) where
    abbrev Found : Name → Name → Delivered → Type 0
    Found t o d = IsFound v.flow levels instance results v.inputs t o before d

    abbrev IsLink : Link → Delivered → Type 0
    IsLink l d = LinkIsFound v.flow levels instance results v.inputs before l d

    its-levels : (t o : Name) (d : Delivered) (h : Found t o d) → HasLevels h.step.step.iteration h.out.2
    its-levels t o d h = subst (HasLevels h.step.step.iteration) (ap levels h.name ∙ sym h.leveled) (leveled h.step (stay h.step h.among))

    -- its tree
    its-tree : (t o : Name) (d : Delivered) (h : Found t o d) → tree_of v.flow levels (e ∷ v.events) t o ≡ part_so_far h.step.step.step h.out.0 h.out.2 h.out.1 (e ∷ v.events)
    its-tree t o d h =
        ap (λ s. part_so_far s (position o (outputs_of v.flow t)) (levels t) (unwrap_or (named o (outputs_of v.flow t)) 0) (e ∷ v.events)) (sym h.name)
        ∙ ap (λ k. part_so_far h.step.step.step k (levels t) (unwrap_or (named o (outputs_of v.flow t)) 0) (e ∷ v.events)) (sym h.number)
        ∙ ap₂ (λ l c. part_so_far h.step.step.step h.out.0 l c (e ∷ v.events)) (sym h.leveled) (sym h.declared)

    -- ---- along wires

    module _ (faults : Name → ℕ) (from : ℕ) (whole_from : IsFrom (newly_by v.events e (event_step e) (levels (event_step e))) (event_place e) from)
        (hold : (o : Name) → has_name (outputs_of v.flow (event_step e)) o ≡ true → HoldsFaults (event_place e) (tree_of v.flow levels (e ∷ v.events) (event_step e) o) (faults o))
        (values : Name → Traced) (p : Name) where
      own-truly : (t o : Name) (d : Delivered) → Found t o d → t ≡ event_step e → (k : ℕ) (q : Place) → at (values p) q ≡ Some d.value → AreTrue values p (told_on_way p k q from (faults o) (event_place e) (happening_of e (given_at v.flow e o)))
      own-truly t o d h w k q a =
          let g = h.step in
          let i = stay g h.among in
          let name : g.step.step ≡ event_step e = h.name ∙ w in
          let node = node-there e (at g.step.iteration (event_place e)) (subst (FitsNode e) (node-here instance all_steps g (finds g i) e ((bytes_decides g.step.step (event_step e)).1 name)) legal.fits) in
          let has : has_name (outputs_of v.flow (event_step e)) o ≡ true = subst (λ n. has_name (outputs_of v.flow n) o ≡ true) w h.has in
          let counted : IsFrom (newly_by v.events e g.step.step h.out.2) (event_place e) from =
          subst (λ n. IsFrom (newly_by v.events e n h.out.2) (event_place e) from) (sym name)
          (subst (λ l. IsFrom (newly_by v.events e (event_step e) l) (event_place e) from) (ap levels (sym w) ∙ sym h.leveled) whole_from) in
          let tree_holds : HoldsFaults (event_place e) (part_so_far g.step.step h.out.0 h.out.2 h.out.1 (e ∷ v.events)) (faults o) =
          subst (λ (r : Partial Value). HoldsFaults (event_place e) r (faults o)) (ap (λ n. tree_of v.flow levels (e ∷ v.events) n o) (sym w) ∙ its-tree t o d h) (hold o has) in
          let gives : GaveThis (given_at v.flow e o) (result_at results g.step.step h.out.0) e (event_place e) =
          subst (λ m. GaveThis (given_at v.flow e o) (result_at results g.step.step m) e (event_place e)) (ap (λ n. position o (outputs_of v.flow n)) h.name ∙ sym h.number)
          (given-this v.flow results g.step.step o e next.tells (extends-parts results e v.events x).0 (sym name)) in
          way-truly instance results g d h.out (its-levels t o d h) e v.events x (fit g i) (sym name) node.0 node.1 node.2 from (faults o) counted tree_holds values p (given_at v.flow e o) gives k q a

      link-truly : (l : Link) (d : Delivered) → IsLink l d → (k : ℕ) (q : Place) → at (values p) q ≡ Some d.value → AreTrue values p (link_by_ways e (given_at v.flow e) faults p from k q l)
      link-truly (input y) d h k q a = tt
      link-truly (output t o) d h k q a = by (same_name t (event_step e)) refl
        where
          by : (b : Bool) → same_name t (event_step e) ≡ b → AreTrue values p (if b then told_on_way p k q from (faults o) (event_place e) (happening_of e (given_at v.flow e o)) else [])
          by true w = own-truly t o d h ((bytes_decides t (event_step e)).0 w) k q a
          by false w = tt

      -- each at its number
      abbrev pub AreLinks : List Link → Type 0
      AreLinks ls = Each (λ l. IsLink l (link_delivers step_of (given_of v.flow v.inputs) before l)) ls

      abbrev delivered_trees : List Link → Trees Origin Scalar
      delivered_trees ls = trees_of (map (λ (y : Delivered). y.value) (map (link_delivers step_of (given_of v.flow v.inputs) before) ls))

      links-truly : (k i : ℕ) (ls : List Link) → AreLinks ls → ((j : ℕ) (u : Traced) → item_at (delivered_trees ls) j ≡ Some u → at (values p) ((i + j) ∷ []) ≡ Some u) → AreTrue values p (links_by_ways e (given_at v.flow e) faults p from k i ls)
      links-truly k i [] h a = tt
      links-truly k i (l ∷ ls) h a =
          let d = link_delivers step_of (given_of v.flow v.inputs) before l in
          each-append (TellsFaults values) (link_by_ways e (given_at v.flow e) faults p from k (i ∷ []) l) (links_by_ways e (given_at v.flow e) faults p from k (suc i) ls)
          (link-truly l d h.0 k (i ∷ []) (subst (λ n. at (values p) (n ∷ []) ≡ Some d.value) (add-zero i) (a 0 d.value refl)))
          (links-truly k (suc i) ls h.1 (λ j u g. subst (λ n. at (values p) (n ∷ []) ≡ Some u) (plus-suc i j) (a (suc j) u g)))

      -- of a port that walks some levels of its feed, and so isn't wrapped
      pub port-truly : (k : ℕ) (f : Feed) → AreLinks (feed_links f) → (faulty : Bool) → (values_are : (m : ℕ) → k ≡ suc m → values p ≡ (feed_delivers step_of (given_of v.flow v.inputs) before f).value) → AreTrue values p (port_by_ways e (given_at v.flow e) faults p from false faulty k f)
      port-truly zero f h faulty w = tt
      port-truly (suc k) (link l) h faulty w = link-truly l (link_delivers step_of (given_of v.flow v.inputs) before l) h.0 (suc k) [] (ap Some (w k refl))
      port-truly (suc k) (merge []) h faulty w = tt
      port-truly (suc k) (merge (l ∷ ls)) h faulty w = links-truly k 0 (l ∷ ls) h (λ j u g. subst (λ n. at (values p) (n ∷ []) ≡ Some u) (is-zero_plus j) (inside j u g))
        where
          inside : (j : ℕ) (u : Traced) → item_at (delivered_trees (l ∷ ls)) j ≡ Some u → at (values p) (j ∷ []) ≡ Some u
          inside j u g = ap (λ y. at y (j ∷ [])) (w k refl) ∙ ap (λ o. option_and_then (λ y. at y []) o) g
      port-truly (suc k) (constant c) h faulty w = tt

    -- ---- of whole ports

    abbrev no_note : Origin → Unit {0}
    no_note o = tt

    -- a link whose step is whole
    link-holds : (l : Link) (d : Delivered) → IsLink l d → link_known levels (e ∷ v.events) l ≡ true → holds_fault d.value ≡ link_faulty v.flow levels v.inputs (e ∷ v.events) l
    link-holds (input y) d h k = ap holds_fault h ∙ sym (same-faults no_note (input_value y [] (value_given v.inputs y))) ∙ ap holds_fault (plain-input y [] (value_given v.inputs y))
    link-holds (output t o) d h k =
        let g = h.step in
        let known : whole_by (e ∷ v.events) g.step.step h.out.2 [] ≡ true = ap₂ (λ n l. whole_by (e ∷ v.events) n l []) h.name h.leveled ∙ k in
        sym (ap (holds_some holds_fault) (its-tree t o d h)
        ∙ tree-holds instance results g d h.out (its-levels t o d h) (e ∷ v.events) x (fit g (stay g h.among)) [] g.step.iteration refl known
        ∙ ap holds_fault (sym h.out.3))

    links-hold : (ls : List Link) → Each (λ l. IsLink l (link_delivers step_of (given_of v.flow v.inputs) before l)) ls → list_all (link_known levels (e ∷ v.events)) ls ≡ true → list_any is_fault (all_leaves (trees_of (map (λ (y : Delivered). y.value) (map (link_delivers step_of (given_of v.flow v.inputs) before) ls)))) ≡ list_any (link_faulty v.flow levels v.inputs (e ∷ v.events)) ls
    links-hold [] h k = refl
    links-hold (l ∷ ls) h k =
        let d = link_delivers step_of (given_of v.flow v.inputs) before l in
        let b = and_parts (link_known levels (e ∷ v.events) l) (list_all (link_known levels (e ∷ v.events)) ls) k in
        list_any-append is_fault (leaves d.value) (all_leaves (trees_of (map (λ (y : Delivered). y.value) (map (link_delivers step_of (given_of v.flow v.inputs) before) ls))))
        ∙ ap₂ (λ a c. a || c) (link-holds l d h.0 b.0) (links-hold ls h.1 b.1)

    pub feed-holds : (f : Feed) → Each (λ l. IsLink l (link_delivers step_of (given_of v.flow v.inputs) before l)) (feed_links f) → list_all (link_known levels (e ∷ v.events)) (feed_links f) ≡ true → holds_fault (feed_delivers step_of (given_of v.flow v.inputs) before f).value ≡ feed_faulty v.flow levels v.inputs (e ∷ v.events) f
    feed-holds (link l) h k = link-holds l (link_delivers step_of (given_of v.flow v.inputs) before l) h.0 ((and_parts (link_known levels (e ∷ v.events) l) true k).0)
    feed-holds (merge []) h k = refl
    feed-holds (merge (l ∷ ls)) h k = links-hold (l ∷ ls) h k
    feed-holds (constant c) h k = same-faults (λ o. fixed) c
