-- What the feeds of a step deliver in an instance: inputs of the flow, and outputs of steps before.
use Rattle.std.specs.List.{list_all}
use Rattle.std.specs.Option.{option_map_or}
use Rattle.std.specs.Prelude.{◌≡◌, refl, ℕ, suc, ◌+◌, Bool, true, false, ◌||◌, List, [], ◌∷◌, ◌++◌, find, flat_map, if◌then◌else◌, is_some, map, Option, Some, unwrap_or}
use Rattle.std.proofs.Common.{arith, sym, ap, subst, ◌∙◌, inl, inr}
use Rattle.std.proofs.lemmas.Bool.{and_parts, true≢false}
use Rattle.std.proofs.lemmas.List.Folds.{list_all-append}
use Rattle.tv_lemmas.specs.Members.{Each, In}
use Rattle.tv_lemmas.proofs.Members.{each_in}
use Rattle.tv_value.specs.Nested.{Place}
use Rattle.tv_value.specs.Orders.{named, same_name}
use Rattle.tv_value.specs.Values.{JobName, Name, Value}
use Rattle.tv_flow.specs.Flows.{Feed, Flow, Link, Step, StepInput, constant, input, link, merge, output}
use Rattle.tv_strategy.specs.Iterations.{Iteration}
use Rattle.tv_strategy.specs.Origins.{input_value}
use Rattle.tv_strategy.specs.Outputs.{output_below}
use Rattle.tv_naming.specs.Naming.{feed_links, has_name, is_there}
use Rattle.tv_naming.specs.Numbers.{position}
use Rattle.tv_value.proofs.NameLemmas.{same_name-is}
use Rattle.tv_model.specs.instance.CheckedDepths.{StepDepths}
use Rattle.tv_model.specs.instance.Delivered.{Delivered, feed_delivers, link_delivers, nothing_delivered}
use Rattle.tv_model.specs.instance.Ranks.{feed_steps, is_among, link_step}
use Rattle.tv_model.specs.instance.Steps.{spot}
use Rattle.tv_model.specs.Instances.{given_of, value_given}
use Rattle.tv_check.specs.Feeds.{outputs_of}
use Rattle.tv_model.specs.instance.ByResults.{InstanceStep, Results, iteration_on, levels_on, outputs_by, result_at, step_of}
use Rattle.tv_framing.specs.Gaining.{IsOutputOf}
use Rattle.tv_framing.proofs.starts.Steps.{IsMade, IsPlaced, names_in}

-- ---- steps that are there

found-among : (t : Name) (fs : List InstanceStep) → is_among (names_in fs) t ≡ true → (g : InstanceStep) × In g fs × (find (λ (f : InstanceStep). same_name t f.step.step) fs ≡ Some g) × (g.step.step ≡ t)
found-among t [] h = absurd (true≢false (sym h))
found-among t (f ∷ fs) h = by (same_name t f.step.step) refl h (λ k. found-among t fs k)
  where
    by : (b : Bool) → same_name t f.step.step ≡ b → (b || is_among (names_in fs) t) ≡ true → (is_among (names_in fs) t ≡ true → (g : InstanceStep) × In g fs × (find (λ (f : InstanceStep). same_name t f.step.step) fs ≡ Some g) × (g.step.step ≡ t)) → (g : InstanceStep) × In g (f ∷ fs) × (find (λ (f : InstanceStep). same_name t f.step.step) (f ∷ fs) ≡ Some g) × (g.step.step ≡ t)
    by true e k rec = (f, inl refl, ap (λ b. if b then Some f else find (λ (f : InstanceStep). same_name t f.step.step) fs) e, sym (same_name-is t f.step.step e))
    by false e k rec =
        let r = rec k in
        (r.0, inr r.1, ap (λ b. if b then Some f else find (λ (f : InstanceStep). same_name t f.step.step) fs) e ∙ r.2, r.3)

-- of steps that all are among these, those of one feed and of one link
each-step : (p : Name → Bool) (is : List (Name × StepInput)) → list_all p (flat_map (λ i. feed_steps i.1.from) is) ≡ true → (i : Name × StepInput) → In i is → list_all p (feed_steps i.1.from) ≡ true
each-step p [] h i g = absurd g
each-step p (j ∷ is) h i g =
    let b = and_parts (list_all p (feed_steps j.1.from)) (list_all p (flat_map (λ i. feed_steps i.1.from) is)) (sym (list_all-append p (feed_steps j.1.from) (flat_map (λ i. feed_steps i.1.from) is)) ∙ h) in
    by g b (λ k. each-step p is b.1 i k)
  where
    by : In i (j ∷ is) → (list_all p (feed_steps j.1.from) ≡ true) × (list_all p (flat_map (λ i. feed_steps i.1.from) is) ≡ true) → (In i is → list_all p (feed_steps i.1.from) ≡ true) → list_all p (feed_steps i.1.from) ≡ true
    by (inl e) b rec = subst (λ (k : Name × StepInput). list_all p (feed_steps k.1.from) ≡ true) (sym e) b.0
    by (inr k) b rec = rec k

left-true : (p : Name → Bool) (xs ys : List Name) → list_all p (xs ++ ys) ≡ true → list_all p xs ≡ true
left-true p xs ys h = (and_parts (list_all p xs) (list_all p ys) (sym (list_all-append p xs ys) ∙ h)).0

-- ---- outputs of a step

record IsNamedOutput (instance : JobName) (n o : Name) (gives : ℕ → Place → Value) (levels : ℕ) (it : Iteration) (k : ℕ) (ps : List (Name × ℕ)) : Type 0 where
  delivered : Delivered
  found : named o (outputs_by instance n gives levels it k ps) ≡ Some delivered
  value : delivered.value ≡ output_below (spot instance n) (gives (k + position o ps)) (unwrap_or (named o ps) 0) [] levels it

named-output : (instance : JobName) (n o : Name) (gives : ℕ → Place → Value) (levels : ℕ) (it : Iteration) (k : ℕ) (ps : List (Name × ℕ)) → has_name ps o ≡ true → IsNamedOutput instance n o gives levels it k ps
named-output instance n o gives levels it k [] h = absurd (true≢false (sym h))
named-output instance n o gives levels it k (p ∷ ps) h = by (same_name o p.0) refl h (λ g. named-output instance n o gives levels it (suc k) ps g)
  where
    here : (a : ℕ) → a ≡ a + 0
    here a = omega arith

    later : (a b : ℕ) → suc a + b ≡ a + suc b
    later a b = omega arith

    out : ℕ → ℕ → Delivered
    out m c = record { depth = levels + c; value = output_below (spot instance n) (gives m) c [] levels it }

    by : (b : Bool) → same_name o p.0 ≡ b → is_some (if b then Some p.1 else named o ps) ≡ true → (has_name ps o ≡ true → IsNamedOutput instance n o gives levels it (suc k) ps) → IsNamedOutput instance n o gives levels it k (p ∷ ps)
    by true e g rec =
        record {
          delivered = record { depth = levels + p.1; value = output_below (spot instance n) (gives k) p.1 [] levels it };
          found = ap (λ b. if b then Some (record { depth = levels + p.1; value = output_below (spot instance n) (gives k) p.1 [] levels it }) else named o (outputs_by instance n gives levels it (suc k) ps)) e;
          value =
              ap (λ m. output_below (spot instance n) (gives m) p.1 [] levels it) (here k)
              ∙ ap (λ b. output_below (spot instance n) (gives (k + (if b then 0 else suc (position o ps)))) (unwrap_or (if b then Some p.1 else named o ps) 0) [] levels it) (sym e);
        }
    by false e g rec =
        let r = rec g in
        record {
          delivered = r.delivered;
          found = ap (λ b. if b then Some (record { depth = levels + p.1; value = output_below (spot instance n) (gives k) p.1 [] levels it }) else named o (outputs_by instance n gives levels it (suc k) ps)) e ∙ r.found;
          value =
              r.value
              ∙ ap (λ m. output_below (spot instance n) (gives m) (unwrap_or (named o ps) 0) [] levels it) (later k (position o ps))
              ∙ ap (λ b. output_below (spot instance n) (gives (k + (if b then 0 else suc (position o ps)))) (unwrap_or (if b then Some p.1 else named o ps) 0) [] levels it) (sym e);
        }

-- ---- inputs of the flow

input-found : (vs : List (Name × Value)) (x : Name) (xs : List (Name × ℕ)) → has_name xs x ≡ true → (unwrap_or (named x (map (λ (y : Name × ℕ). (y.0, record { depth = y.1; value = input_value y.0 [] (value_given vs y.0) })) xs)) nothing_delivered).value ≡ input_value x [] (value_given vs x)
input-found vs x [] h = absurd (true≢false (sym h))
input-found vs x (y ∷ xs) h = by (same_name x y.0) refl h (λ k. input-found vs x xs k)
  where
    rest : Option Delivered
    rest = named x (map (λ (y : Name × ℕ). (y.0, record { depth = y.1; value = input_value y.0 [] (value_given vs y.0) })) xs)

    by : (b : Bool) → same_name x y.0 ≡ b → is_some (if b then Some y.1 else named x xs) ≡ true → (has_name xs x ≡ true → (unwrap_or (named x (map (λ (y : Name × ℕ). (y.0, record { depth = y.1; value = input_value y.0 [] (value_given vs y.0) })) xs)) nothing_delivered).value ≡ input_value x [] (value_given vs x)) → (unwrap_or (if same_name x y.0 then Some (record { depth = y.1; value = input_value y.0 [] (value_given vs y.0) }) else named x (map (λ (y : Name × ℕ). (y.0, record { depth = y.1; value = input_value y.0 [] (value_given vs y.0) })) xs)) nothing_delivered).value ≡ input_value x [] (value_given vs x)
    by true e k rec =
        ap (λ b. (unwrap_or (if b then Some (record { depth = y.1; value = input_value y.0 [] (value_given vs y.0) }) else named x (map (λ (y : Name × ℕ). (y.0, record { depth = y.1; value = input_value y.0 [] (value_given vs y.0) })) xs)) nothing_delivered).value) e
        ∙ ap (λ n. input_value n [] (value_given vs n)) (sym (same_name-is x y.0 e))
    by false e k rec =
        ap (λ b. (unwrap_or (if b then Some (record { depth = y.1; value = input_value y.0 [] (value_given vs y.0) }) else named x (map (λ (y : Name × ℕ). (y.0, record { depth = y.1; value = input_value y.0 [] (value_given vs y.0) })) xs)) nothing_delivered).value) e
        ∙ rec k

-- ---- what a link delivers

module _ (flow : Flow) (levels : Name → ℕ) (instance : JobName) (results : Results) (inputs : List (Name × Value)) where
  abbrev given : List (Name × Delivered)
  given = given_of flow inputs

  -- an output of that name of a step before
  pub record IsFound (t o : Name) (before : List InstanceStep) (d : Delivered) : Type 0 where
    pub step : InstanceStep
    pub among : In step before
    pub found : find (λ (f : InstanceStep). same_name t f.step.step) before ≡ Some step
    pub name : step.step.step ≡ t
    pub has : has_name (outputs_of flow t) o ≡ true
    pub made : IsMade flow levels instance results given step
    pub out : IsOutputOf instance results step d
    pub number : out.0 ≡ position o (outputs_of flow t)
    pub declared : out.1 ≡ unwrap_or (named o (outputs_of flow t)) 0
    pub leveled : out.2 ≡ levels t

  -- v is what the link delivers
  abbrev pub LinkIsFound : List InstanceStep → Link → Delivered → Type 0
  LinkIsFound before (input x) d = d.value ≡ input_value x [] (value_given inputs x)
  LinkIsFound before (output t o) d = IsFound t o before d

  module _ (before : List InstanceStep) (made : Each (IsMade flow levels instance results given) before) where
    of-step : (t o : Name) (g : InstanceStep) → In g before → find (λ (f : InstanceStep). same_name t f.step.step) before ≡ Some g → g.step.step ≡ t → is_there flow (output t o) ≡ true → IsFound t o before (link_delivers step_of given before (output t o))
    of-step t o g i e name there =
        let m = each_in (IsMade flow levels instance results given) before made g i in
        let gives = result_at results m.name in
        let it = iteration_on (feed_delivers step_of given m.before) m.step in
        let lv = levels_on (feed_delivers step_of given m.before) m.step in
        let own : m.name ≡ t = sym (ap (λ (f : InstanceStep). f.step.step) m.is) ∙ name in
        let stands : named t flow.steps ≡ Some m.step = subst (λ n. named n flow.steps ≡ Some m.step) own m.stands in
        let outputs : outputs_of flow t ≡ m.step.outputs = ap (λ x. option_map_or (λ (s : Step). s.outputs) x []) stands in
        let has : has_name m.step.outputs o ≡ true = sym (ap (λ x. option_map_or (λ (s : Step). has_name s.outputs o) x false) stands) ∙ there in
        let n = named-output instance m.name o gives lv it 0 m.step.outputs has in
        let same : link_delivers step_of given before (output t o) ≡ n.delivered =
        ap (λ x. option_map_or (λ f. unwrap_or (named o (step_of f).outputs) nothing_delivered) x nothing_delivered) e
        ∙ ap (λ f. unwrap_or (named o (step_of f).outputs) nothing_delivered) m.is
        ∙ ap (λ x. unwrap_or x nothing_delivered) n.found in
        let value : (link_delivers step_of given before (output t o)).value ≡ output_below (spot instance g.step.step) (result_at results g.step.step (position o m.step.outputs)) (unwrap_or (named o m.step.outputs) 0) [] lv g.step.iteration =
        ap (λ (d : Delivered). d.value) same
        ∙ n.value
        ∙ ap (λ k. output_below (spot instance m.name) (gives k) (unwrap_or (named o m.step.outputs) 0) [] lv it) (from-zero (position o m.step.outputs))
        ∙ sym (ap (λ (f : InstanceStep). output_below (spot instance f.step.step) (result_at results f.step.step (position o m.step.outputs)) (unwrap_or (named o m.step.outputs) 0) [] lv f.step.iteration) m.is) in
        record {
          step = g;
          among = i;
          found = e;
          name = name;
          has = subst (λ ps. has_name ps o ≡ true) (sym outputs) has;
          made = m;
          out = (position o m.step.outputs, unwrap_or (named o m.step.outputs) 0, lv, value);
          number = ap (position o) (sym outputs);
          declared = ap (λ ps. unwrap_or (named o ps) 0) (sym outputs);
          leveled = m.leveled ∙ ap levels own;
        }
      where
        from-zero : (a : ℕ) → 0 + a ≡ a
        from-zero a = omega arith

    pub link-found : (l : Link) → is_there flow l ≡ true → list_all (is_among (names_in before)) (link_step l) ≡ true → LinkIsFound before l (link_delivers step_of given before l)
    link-found (input x) there h = input-found inputs x flow.inputs there
    link-found (output t o) there h =
        let g = found-among t before ((and_parts (is_among (names_in before) t) true h).0) in
        of-step t o g.0 g.1 g.2 g.3 there

    abbrev pub LinksAreFound : List Link → Type 0
    LinksAreFound ls = Each (λ l. LinkIsFound before l (link_delivers step_of given before l)) ls

    links-found : (ls : List Link) → list_all (is_there flow) ls ≡ true → list_all (is_among (names_in before)) (flat_map link_step ls) ≡ true → LinksAreFound ls
    links-found [] there h = tt
    links-found (l ∷ ls) there h =
        let a = and_parts (is_there flow l) (list_all (is_there flow) ls) there in
        let b = and_parts (list_all (is_among (names_in before)) (link_step l)) (list_all (is_among (names_in before)) (flat_map link_step ls)) (sym (list_all-append (is_among (names_in before)) (link_step l) (flat_map link_step ls)) ∙ h) in
        (link-found l a.0 b.0, links-found ls a.1 b.1)

    -- of all links of a feed
    pub feed-found : (f : Feed) → list_all (is_there flow) (feed_links f) ≡ true → list_all (is_among (names_in before)) (feed_steps f) ≡ true → LinksAreFound (feed_links f)
    feed-found (link l) there h = (link-found l ((and_parts (is_there flow l) true there).0) h, tt)
    feed-found (merge ls) there h = links-found ls there h
    feed-found (constant v) there h = tt

  -- of each input port of a step
  pub ports-found : (flows : List (Name × Flow)) (all : List StepDepths) (whole : List InstanceStep) (f : InstanceStep) → (w : IsPlaced flow levels instance results given flows all whole f) → (i : Name × StepInput) → In i w.own.step.inputs → list_all (is_there flow) (feed_links i.1.from) ≡ true → LinksAreFound w.own.before w.made (feed_links i.1.from)
  ports-found flows all whole f w i g there =
      feed-found w.own.before w.made i.1.from there
      (each-step (is_among (names_in w.own.before)) w.own.step.inputs (left-true (is_among (names_in w.own.before)) (flat_map (λ j. feed_steps j.1.from) w.own.step.inputs) w.own.step.after w.earlier) i g)
