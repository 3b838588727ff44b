-- What a link delivers is an input of the flow, or an output of a step of the instance: of the event's, or of another.
use Rattle.std.specs.Option.{option_map_or}
use Rattle.std.specs.Prelude.{◌≡◌, refl, ℕ, suc, ◌+◌, ◌-◌, ◌≤◌, Bool, true, false, is_some, find, List, [], ◌∷◌, ◌++◌, Option, Some, None, unwrap_or}
use Rattle.std.proofs.Common.{arith, sym, ap, subst, ◌∙◌, inl, inr}
use Rattle.std.proofs.lemmas.Bool.{true≢false}
use Rattle.tv_lemmas.specs.Members.{Each, In}
use Rattle.tv_value.specs.Nested.{Place, Trees, at, leaf, list, no_trees, tree}
use Rattle.tv_value.specs.Orders.{named, same_name}
use Rattle.tv_value.specs.Values.{JobName, Name, Scalar, Value}
use Rattle.tv_flow.specs.Flows.{Flow, Link, Step, input, output}
use Rattle.tv_strategy.specs.Origins.{Origin, Traced, from_input, input_value, input_values}
use Rattle.tv_strategy.specs.Sources.{AtAllNodes, AtNodes}
use Rattle.tv_strategy.proofs.Each.{each-all}
use Rattle.tv_naming.specs.Naming.{has_name, is_there}
use Rattle.tv_naming.specs.Numbers.{position}
use Rattle.tv_value.proofs.NameLemmas.{same_name-is}
use Rattle.tv_model.specs.instance.Delivered.{Delivered, link_delivers, nothing_delivered}
use Rattle.tv_model.specs.instance.Ranks.{ranked}
use Rattle.tv_check.specs.Feeds.{outputs_of}
use Rattle.tv_model.specs.instance.ByResults.{InstanceStep, Results, result_at, step_of}
use Rattle.tv_model.specs.instance.Events.{Event, Extends, event_place, event_step, known_by}
use Rattle.tv_model.specs.Instances.{given_of, value_given}
use Rattle.tv_model.proofs.Fed.{each-of_map, named_or}
use Rattle.tv_framing.specs.Arriving.{levels_below}
use Rattle.tv_framing.specs.Feeding.{IsLinkFed}
use Rattle.tv_framing.specs.Gaining.{IsOutputOf}
use Rattle.tv_framing.specs.PortTellings.{newly_by}
use Rattle.tv_framing.specs.Views.{AreOfDepth, View}
use Rattle.tv_framing.specs.engine.TurningTrees.{HasRightLength}
use Rattle.tv_framing.specs.engine.WiredFlows.{IsWired}
use Rattle.tv_framing.proofs.engine.Trees.{events-put}
use Rattle.tv_framing.specs.keeping.NextEvents.{IsNextEvent}
use Rattle.tv_framing.specs.feeds.Fed.{given_at, newly}
use Rattle.tv_framing.proofs.feeds.Names.{is-named}
use Rattle.tv_framing.proofs.feeds.Next.{first, fit, fs, legal, leveled}
use Rattle.tv_framing.proofs.feeds.Outputs.{depth-left, gave-this, output-named, output_on}
use Rattle.tv_framing.proofs.feeds.Standing.{in-ranked, stands}

-- ---- what is so of every node of an input and of what is known from the start

module _ (P : Origin → Type 0) (of_input : (x : Name) (q : Place) → P (from_input x q)) where
  mutual
    input-has : (x : Name) (q : Place) (v : Value) → AtNodes P (input_value x q v)
    input-has x q (leaf n a) = of_input x q
    input-has x q (list n ts) = (of_input x q, inputs-have x q 0 ts)

    inputs-have : (x : Name) (q : Place) (i : ℕ) (vs : Trees (Unit {0}) Scalar) → AtAllNodes P (input_values x q i vs)
    inputs-have x q i no_trees = tt
    inputs-have x q i (tree v vs) = (input-has x (q ++ i ∷ []) v, inputs-have x q (suc i) vs)

  pub given-have : (flow : Flow) (vs : List (Name × Value)) → Each (λ d. AtNodes P d.1.value) (given_of flow vs)
  given-have flow vs =
      each-of_map (λ x. Unit {0}) (λ d. AtNodes P d.1.value) (λ (x : Name × ℕ). (x.0, record { depth = x.1; value = input_value x.0 [] (value_given vs x.0) })) (λ x _. input-has x.0 [] (value_given vs x.0)) flow.inputs (each-all (λ x. Unit {0}) (λ x. tt) flow.inputs)

-- ---- links

module _ (flows : List (Name × Flow)) (levels : Name → ℕ) (v : View) (e : Event) (next : IsNextEvent flows levels v e) (wired : IsWired v.flow)
    (instance : JobName) (results : Results) (depth : AreOfDepth v instance results) (told : Extends results (e ∷ v.events)) where
  abbrev gs : List InstanceStep
  gs = fs flows levels v e next wired instance results depth told

  abbrev pub given : List (Name × Delivered)
  given = given_of v.flow v.inputs

  abbrev pub delivers : Link → Delivered
  delivers l = link_delivers step_of given gs l

  -- t is a step of the flow that has the output o
  pub record IsLinked (t o : Name) : Type 0 where
    pub flow_step : Step
    pub listed : In (t, flow_step) (ranked v.flow.steps)
    pub outputs : outputs_of v.flow t ≡ flow_step.outputs
    pub step : InstanceStep
    pub there : In step gs
    pub name : step.step.step ≡ t
    pub declared : ℕ
    pub named_so : named o flow_step.outputs ≡ Some declared
    pub delivered : delivers (output t o) ≡ output_on instance t (result_at results t) (levels t) step.step.iteration (position o flow_step.outputs) declared

  linked : (t o : Name) → is_there v.flow (output t o) ≡ true → IsLinked t o
  linked t o h =
      let has : has_name v.flow.steps t ≡ true = by (named t v.flow.steps) h in
      let st = is-named t v.flow.steps has in
      let out : has_name st.thing.outputs o ≡ true = ap (λ x. option_map_or (λ (s : Step). has_name s.outputs o) x false) (sym st.named_so) ∙ h in
      let s = stands flows levels v next.depths wired instance results (position t v.flow.steps) (t, st.thing) st.here in
      let r = output-named instance t (result_at results t) (levels t) s.step.step.iteration 0 st.thing.outputs o out in
      let same : 0 + position o st.thing.outputs ≡ position o st.thing.outputs = none-plus (position o st.thing.outputs) in
      record {
        flow_step = st.thing;
        listed = in-ranked flows levels v next.depths wired instance results (position t v.flow.steps) (t, st.thing) st.here;
        outputs = ap (λ x. option_map_or (λ (s : Step). s.outputs) x []) st.named_so;
        step = s.step;
        there = s.there;
        name = s.stands.name;
        declared = r.declared;
        named_so = r.named_so;
        delivered =
            ap (λ x. option_map_or (λ (g : InstanceStep). unwrap_or (named o g.step.outputs) nothing_delivered) x nothing_delivered)
            (ap (λ n. find (λ (g : InstanceStep). same_name n g.step.step) gs) (sym s.stands.name) ∙ first flows levels v e next wired instance results depth told s.step s.there)
            ∙ ap (λ os. unwrap_or (named o os) nothing_delivered) s.stands.outputs
            ∙ ap (λ x. unwrap_or x nothing_delivered) (r.delivered ∙ ap (λ k. Some (output_on instance t (result_at results t) (levels t) s.step.step.iteration k r.declared)) same);
      }
    where
      by : (x : Option Step) → option_map_or (λ (s : Step). has_name s.outputs o) x false ≡ true → is_some x ≡ true
      by None k = absurd (true≢false (sym k))
      by (Some s) k = refl

      none-plus : (m : ℕ) → 0 + m ≡ m
      none-plus m = omega arith

  -- what is known from the start stays so
  abbrev pub Stays : Origin → Type 0
  Stays o = known_by instance (e ∷ v.events) o ≡ known_by instance v.events o

  input-stays : (x : Name) → AtNodes Stays (delivers (input x)).value
  input-stays x = named_or (λ d. AtNodes Stays d.value) x given nothing_delivered (given-have Stays (λ y q. refl) v.flow v.inputs) (refl, tt)

  -- the event stands below as many lists as its step has levels
  right-length : (g : InstanceStep) → In g gs → same_name g.step.step (event_step e) ≡ true → HasRightLength (levels g.step.step) e
  right-length g i own =
      (events-put instance gs g (levels g.step.step) v.events e
      (record {
        first = first flows levels v e next wired instance results depth told g i;
        fit = (fit flows levels v e next wired instance results depth told g i).1;
        leveled = leveled flows levels v e next wired instance results depth told g i;
        own = own;
        legal = legal flows levels v e next wired instance results depth told;
        tells = next.tells;
      }) 0 0).1

  module _ (values : Name → Traced) (p : Name) where
    abbrev pub Fed : ℕ → Place → Traced → Link → Type 0
    Fed k q w l = IsLinkFed instance results gs e v.events values p (newly levels v e) (given_at v.flow e) k q w l

    pub link-fed : (l : Link) → is_there v.flow l ≡ true → (k : ℕ) (q : Place) (w : Traced) → w ≡ (delivers l).value → k ≤ (delivers l).depth → at (values p) q ≡ Some w → Fed k q w l
    link-fed (input x) h k q w same le here = subst (AtNodes Stays) (sym same) (input-stays x)
    link-fed (output t o) h k q w same le here = by (linked t o h) (same_name t (event_step e)) refl
      where
        is-output : (d : IsLinked t o) → IsOutputOf instance results d.step (delivers (output t o))
        is-output d = (
          position o d.flow_step.outputs,
          d.declared,
          levels t,
          ap (λ (x : Delivered). x.value) d.delivered
              ∙ ap (λ n. (output_on instance n (result_at results n) (levels t) d.step.step.iteration (position o d.flow_step.outputs) d.declared).value) (sym d.name),
        )

        by : IsLinked t o → (b : Bool) → same_name t (event_step e) ≡ b → Fed k q w (output t o)
        by d false g = inl (record {
          elsewhere = g;
          step = d.step;
          name = d.name;
          delivered = delivers (output t o);
          output = is-output d;
          value = same;
        })
        by d true g =
            let own : t ≡ event_step e = same_name-is t (event_step e) g in
            let at_event : same_name d.step.step.step (event_step e) ≡ true = ap (λ n. same_name n (event_step e)) d.name ∙ g in
            inr (record {
              here = g;
              step = d.step;
              name = d.name;
              self = first flows levels v e next wired instance results depth told d.step d.there;
              fit = (fit flows levels v e next wired instance results depth told d.step d.there).1;
              levels = levels d.step.step.step;
              leveled = leveled flows levels v e next wired instance results depth told d.step d.there;
              counted = ap (λ n. newly_by v.events e n (levels n)) (sym (d.name ∙ own));
              delivered = delivers (output t o);
              output = is-output d;
              value = same;
              stands = here;
              declared = d.declared - levels_below k (event_place e);
              gave = gave-this v.flow t d.flow_step o d.outputs results v.events e told next.tells own d.step.step.step d.name;
              depth = depth-left v.flow t d.flow_step o d.outputs (ranked v.flow.steps) d.listed v.events e next.given own d.declared d.named_so (levels t)
                  (subst (λ n. HasRightLength (levels n) e) d.name (right-length d.step d.there at_event)) k (subst (λ (x : Delivered). k ≤ x.depth) d.delivered le);
            })
