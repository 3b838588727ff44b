-- The steps of an instance are those of its flow, each with ports that have the levels of the flow's depths.
use Rattle.std.specs.List.{list_all, list_any}
use Rattle.std.specs.Option.{option_map_or}
use Rattle.std.specs.Prelude.{◌≡◌, refl, ℕ, suc, ◌+◌, ◌-◌, Bool, true, false, flat_map, if◌then◌else◌, is_some, List, [], ◌∷◌, ◌++◌, map, Option, Some, unwrap_or, IsPermutation}
use Rattle.std.proofs.Common.{sym, ap, ap₂, subst, ◌∙◌, append-nil, inl, inr}
use Rattle.std.proofs.lemmas.Bool.{and_parts, true≢false}
use Rattle.std.proofs.lemmas.List.Sorted.{IsPermutation-refl, IsPermutation-sym, IsPermutation-trans, IsPermutation-middle}
use Rattle.tv_lemmas.specs.Members.{Each, In}
use Rattle.tv_lemmas.proofs.Members.{each_in, in-map, of-map}
use Rattle.tv_value.specs.Nested.{leaf, nodes, Place}
use Rattle.tv_value.specs.Orders.{named, same_name}
use Rattle.tv_value.specs.Values.{JobName, Name, Value, text}
use Rattle.tv_flow.specs.Flows.{Feed, Flow, Step, StepInput}
use Rattle.tv_strategy.specs.Conditions.{number_of}
use Rattle.tv_strategy.specs.Iterations.{Iteration, iteration, job, walk}
use Rattle.tv_strategy.specs.Levels.{HasLevels}
use Rattle.tv_strategy.specs.Measures.{DotsAgree, leaf_names, strategy_depth}
use Rattle.tv_strategy.specs.Origins.{Origin, Traced, fixed}
use Rattle.tv_strategy.proofs.AtDepth.{walk-levels}
use Rattle.tv_naming.proofs.Forms.{steps-named}
use Rattle.tv_model.specs.instance.CheckedDepths.{StepDepths, feed_depth, flow_depths, port_depth, step_depths, steps_depths}
use Rattle.tv_model.specs.instance.Delivered.{Delivered, Ported, feed_delivers, at_port}
use Rattle.tv_model.specs.instance.Ranks.{ranked}
use Rattle.tv_model.specs.instance.Steps.{endings_of, port_iteration, port_mismatch, strategy_of}
use Rattle.tv_model.proofs.Ranks.{IsOrdered, ranked-ordered}
use Rattle.tv_check.specs.Ports.{levels_of, mismatches}
use Rattle.tv_matching.proofs.Members.{in-permutes}
use Rattle.tv_model.specs.Agreeing.{FindThemselves, InputsAgree, StepAgrees, StepsAgree}
use Rattle.tv_model.specs.Instances.{given_of}
use Rattle.tv_model.specs.Made.{Made, feed_value, step_in}
use Rattle.tv_model.specs.RightDepths.{AreRight}
use Rattle.tv_model.proofs.Delivers as delivers
use Rattle.tv_model.proofs.Delivers.{depths_of, feed-right, forget, given-depths, given-right, ported-depth}
use Rattle.tv_model.proofs.Depths.{Takes, taken_by}
use Rattle.tv_framing.proofs.matches.Settled.{Feeds, ports-settled}
use Rattle.tv_model.proofs.Feeds.{none-feed}
use Rattle.tv_model.specs.instance.ByResults.{InstanceStep, Results, jobs_at_node, outputs_by, ports_on, result_at, step_by, step_of, steps_by}
use Rattle.tv_model.specs.instance.OwnDepths.{AllJobsGive}
use Rattle.tv_framing.proofs.instances.InDepth.{as_made, forgotten, step-right, steps-all, right-all}
use Rattle.tv_framing.proofs.instances.Results.{feed-map, itself}
use Rattle.tv_framing.specs.Views.{AreOfDepth, View, steps_with}
use Rattle.tv_framing.specs.matches.Steps.{IsOfRankedFlow}
use Rattle.tv_framing.proofs.matches.Ranks.{AreApart, one-named, ranked-permutes, steps-apart}

-- ---- what a step of the flow is in an instance

pub record IsMadeOf (flow : Flow) (s : Name × Step) (f : InstanceStep) : Type 0 where
  pub name : f.step.step ≡ s.0
  pub iterates : f.step.iteration ≡ iteration (port_iteration f.step.inputs) (strategy_of s.1)
  pub levels : (p : Name) → HasLevels (port_iteration f.step.inputs p) (port_mismatch f.step.inputs p)
  pub dots : DotsAgree (port_mismatch f.step.inputs) (strategy_of s.1)
  pub numbers : (p : Name) → number_of (mismatches flow s.1) p ≡ port_mismatch f.step.inputs p
  pub leaves : (p : Name) → In p (leaf_names (strategy_of s.1)) → (a : Ported) × (named p f.step.inputs ≡ Some a)
  -- each input as its port takes it; the inputs are the first of their names, and leaves of the strategy
  pub ports : StepInput → Ported
  pub inputs : f.step.inputs ≡ taken_by ports s.1.inputs
  pub once : FindThemselves s.1.inputs s.1.inputs
  pub bound : list_all (λ i. list_any (same_name i.0) (leaf_names (strategy_of s.1))) s.1.inputs ≡ true
  -- what its jobs wait for beside their sources
  pub before : List Origin
  pub jobs : f.jobs ≡ flat_map (jobs_at_node s.0 s.1 before) (nodes f.step.iteration)

-- the value of a port, and the walk of it, where it is there
abbrev pub value_in : Option Ported → Traced
value_in o = option_map_or (λ (d : Ported). d.value) o (leaf fixed (text []))

abbrev pub walk_in : Name → Option Ported → Iteration
walk_in p o = option_map_or (λ (d : Ported). walk p d.mismatch d.value) o (leaf [] (job []))

-- the steps of an instance beside those of its flow
pub record ArePaired (flow : Flow) (fs : List InstanceStep) (ss : List (Name × Step)) : Type 0 where
  pub pairs : List ((Name × Step) × InstanceStep)
  pub steps : map (λ (x : (Name × Step) × InstanceStep). x.1) pairs ≡ fs
  pub names : IsPermutation (map (λ (x : (Name × Step) × InstanceStep). x.0) pairs) ss
  pub made : Each (λ (x : (Name × Step) × InstanceStep). IsMadeOf flow x.0 x.1) pairs

-- ---- ports

module _ (f : StepInput → Ported) where
  port-leveled : (is : List (Name × StepInput)) → Each (Takes f) is → (p : Name) → HasLevels (port_iteration (taken_by f is) p) (port_mismatch (taken_by f is) p)
  port-leveled [] h p = refl
  port-leveled (i ∷ is) h p = by (same_name p i.0) (port-leveled is h.1 p)
    where
      by : (b : Bool) → HasLevels (port_iteration (taken_by f is) p) (port_mismatch (taken_by f is) p) → HasLevels (option_map_or (λ (d : Ported). walk p d.mismatch d.value) (if b then Some (f i.1) else named p (taken_by f is)) (leaf [] (job []))) (option_map_or (λ (d : Ported). d.mismatch) (if b then Some (f i.1) else named p (taken_by f is)) 0)
      by true k = walk-levels p (f i.1).value (f i.1).mismatch i.1.depth ((f i.1).mismatch + i.1.depth) refl h.0
      by false k = k

  port-named : (p : Name) (is : List (Name × StepInput)) → is_some (named p is) ≡ true → (a : Ported) × (named p (taken_by f is) ≡ Some a)
  port-named p [] h = absurd (true≢false (sym h))
  port-named p (i ∷ is) h = by (same_name p i.0) h (port-named p is)
    where
      by : (b : Bool) → is_some (if b then Some i.1 else named p is) ≡ true → (is_some (named p is) ≡ true → (a : Ported) × (named p (taken_by f is) ≡ Some a)) → (a : Ported) × ((if b then Some (f i.1) else named p (taken_by f is)) ≡ Some a)
      by true k rec = (f i.1, refl)
      by false k rec = rec k

all-in : (test : Name → Bool) (ns : List Name) → list_all test ns ≡ true → (p : Name) → In p ns → test p ≡ true
all-in test [] h p i = absurd i
all-in test (n ∷ ns) h p (inl e) = ap test e ∙ (and_parts (test n) (list_all test ns) h).0
all-in test (n ∷ ns) h p (inr i) = all-in test ns ((and_parts (test n) (list_all test ns) h).1) p i

-- the number of a port by the depths of the flow
pub number-is : (flow : Flow) (is : List (Name × StepInput)) (p : Name) → unwrap_or (named p (map (λ (i : Name × StepInput). (i.0, levels_of flow i.1)) is)) 0 ≡ option_map_or (λ (i : StepInput). feed_depth flow.inputs (flow_depths flow) i.from - i.depth) (named p is) 0
number-is flow [] p = refl
number-is flow (i ∷ is) p = by (same_name p i.0) (number-is flow is p)
  where
    by : (b : Bool) → unwrap_or (named p (map (λ (j : Name × StepInput). (j.0, levels_of flow j.1)) is)) 0 ≡ option_map_or (λ (j : StepInput). feed_depth flow.inputs (flow_depths flow) j.from - j.depth) (named p is) 0 → unwrap_or (if b then Some (levels_of flow i.1) else named p (map (λ (j : Name × StepInput). (j.0, levels_of flow j.1)) is)) 0 ≡ option_map_or (λ (j : StepInput). feed_depth flow.inputs (flow_depths flow) j.from - j.depth) (if b then Some i.1 else named p is) 0
    by true h = refl
    by false h = h

-- ---- one step after those of less rank

measured-outputs : (instance : JobName) (n : Name) (made : ℕ → Place → Value) (levels : ℕ) (it : Iteration) (k : ℕ) (ps : List (Name × ℕ)) → depths_of (outputs_by instance n made levels it k ps) ≡ map (λ (p : Name × ℕ). (p.0, levels + p.1)) ps
measured-outputs instance n made levels it k [] = refl
measured-outputs instance n made levels it k (p ∷ ps) = ap (λ l. (p.0, levels + p.1) ∷ l) (measured-outputs instance n made levels it (suc k) ps)

module _ (flows : List (Name × Flow)) (flow : Flow) (instance : JobName) (results : Results) (given : List (Name × Delivered)) (right : AreRight given) (inputs_are : depths_of given ≡ flow.inputs) where
  module _ (fs : List InstanceStep) (fs_right : Each (λ (f : InstanceStep). AreRight f.step.outputs) fs) where
    abbrev ms : List Made
    ms = map as_made fs

    abbrev taken : Feed → Delivered
    taken = feed_delivers step_of given fs

    fed : feed_value given ms ≡ taken
    fed = λ i d. (feed-map step_in given ms d ∙ ap (λ l. feed_delivers itself given l d) (steps-all fs) ∙ sym (feed-map step_of given fs d)) i

    takes-each : (is : List (Name × StepInput)) → InputsAgree (depths_of given) (map forget ms) is → Each (Takes (λ (i : StepInput). at_port i.depth (feed_value given ms i.from))) is
    takes-each [] h = tt
    takes-each (i ∷ is) h = (ported-depth i.1.depth (feed_value given ms i.1.from) (feed-right given right ms (right-all fs fs_right) i.1.from h.0), takes-each is h.1)

    module _ (n : Name) (s : Step) (agree : StepAgrees flows (depths_of given) (map forget ms) s) where
      abbrev new : InstanceStep
      new = step_by instance results given fs (n, s)

      measured : port_mismatch (ports_on taken s.inputs) ≡ port_depth (depths_of given) (map forget ms) s
      measured = ap (λ g. port_mismatch (ports_on g s.inputs)) (sym fed) ∙ delivers.mismatches given ms s

      new-forgotten : forgotten new ≡ step_depths (depths_of given) (map forget ms) (n, s)
      new-forgotten =
          ap (λ l. record { step = n; outputs = l })
          (measured-outputs instance n (result_at results n) (strategy_depth (port_mismatch (ports_on taken s.inputs)) (strategy_of s)) (iteration (port_iteration (ports_on taken s.inputs)) (strategy_of s)) 0 s.outputs
          ∙ ap (λ g. map (λ (p : Name × ℕ). (p.0, strategy_depth g (strategy_of s) + p.1)) s.outputs) measured)

      new-takes : Each (Takes (λ (i : StepInput). at_port i.depth (taken i.from))) s.inputs
      new-takes = subst (λ g. Each (Takes (λ (i : StepInput). at_port i.depth (g i.from))) s.inputs) fed (takes-each s.inputs agree.feeds)

      new-made : (ss : List (Name × Step)) → Feeds s ((n, s) ∷ ss) → steps_depths (depths_of given) (map forget ms) ((n, s) ∷ ss) ≡ steps_depths (depths_of given) [] (ranked flow.steps) → IsMadeOf flow (n, s) new
      new-made ss feeds all = record {
        name = refl;
        iterates = refl;
        levels = port-leveled (λ (i : StepInput). at_port i.depth (taken i.from)) s.inputs new-takes;
        dots = subst (λ g. DotsAgree g (strategy_of s)) (sym measured) agree.dots;
        numbers = λ p.
            number-is flow s.inputs p
            ∙ ap (λ (x : List (Name × ℕ)). port_depth x (steps_depths x [] (ranked flow.steps)) s p) (sym inputs_are)
            ∙ ap (λ so_far. port_depth (depths_of given) so_far s p) (sym all)
            ∙ ap (λ (g : Name → ℕ). g p) (ports-settled (depths_of given) s (map forget ms) ((n, s) ∷ ss) feeds)
            ∙ ap (λ (g : Name → ℕ). g p) (sym measured);
        leaves = λ p i. port-named (λ (j : StepInput). at_port j.depth (taken j.from)) p s.inputs (all-in (λ q. is_some (named q s.inputs)) (leaf_names (strategy_of s)) agree.ports p i);
        ports = λ i. at_port i.depth (taken i.from);
        inputs = refl;
        once = agree.once;
        bound = agree.bound;
        before = endings_of step_of fs s.after;
        jobs = refl;
      }

  all-paired : (fs : List InstanceStep) → Each (λ (f : InstanceStep). AreRight f.step.outputs) fs → (so_far : List StepDepths) → map forget (map as_made fs) ≡ so_far → (done : List Name) (ss : List (Name × Step)) → IsOrdered done ss → StepsAgree flows (depths_of given) so_far ss → AllJobsGive instance results given fs ss → steps_depths (depths_of given) so_far ss ≡ steps_depths (depths_of given) [] (ranked flow.steps) → (ps : List ((Name × Step) × InstanceStep)) → map (λ (x : (Name × Step) × InstanceStep). x.1) ps ≡ fs → Each (λ (x : (Name × Step) × InstanceStep). IsMadeOf flow x.0 x.1) ps → ArePaired flow (steps_by instance results given fs ss) (ss ++ map (λ (x : (Name × Step) × InstanceStep). x.0) ps)
  all-paired fs fs_right so_far e done [] o a h all ps k w = record { pairs = ps; steps = k; names = IsPermutation-refl _; made = w }
  all-paired fs fs_right so_far e done ((n, s) ∷ ss) o a h all ps k w =
      let agree = subst (λ x. StepAgrees flows (depths_of given) x s) (sym e) a.0 in
      let new : InstanceStep = step_by instance results given fs (n, s) in
      let r = all-paired (new ∷ fs) (step-right flows instance results given right fs fs_right n s agree h.0, fs_right)
      (step_depths (depths_of given) so_far (n, s) ∷ so_far)
      (ap₂ (λ x y. x ∷ y) (new-forgotten fs fs_right n s agree ∙ ap (λ x. step_depths (depths_of given) x (n, s)) e) e)
      (n ∷ done) ss o.1.1 a.1 h.1 all
      (((n, s), new) ∷ ps) (ap (λ l. new ∷ l) k)
      (new-made fs fs_right n s agree ss (none-feed done (n, s) ss o) (ap (λ x. steps_depths (depths_of given) x ((n, s) ∷ ss)) e ∙ all), w)
      in
      record {
        pairs = r.pairs;
        steps = r.steps;
        names = IsPermutation-trans _ _ _ r.names (IsPermutation-middle ss (n, s) (map (λ (x : (Name × Step) × InstanceStep). x.0) ps));
        made = r.made;
      }

-- ---- in all instances

module _ (flows : List (Name × Flow)) (levels : Name → ℕ) (v : View) (w : IsOfRankedFlow flows levels v) where
  pub rising : AreApart v.flow.steps
  rising = steps-apart v.flow.steps (steps-named v.flow w.formed).rise

  pub steps-paired : (instance : JobName) (results : Results) → AreOfDepth v instance results → ArePaired v.flow (steps_with v instance results) v.flow.steps
  steps-paired instance results depth =
      let given = given_of v.flow v.inputs in
      let r = all-paired flows v.flow instance results given (given-right v.inputs v.flow.inputs w.depths.inputs) (given-depths v.inputs v.flow.inputs) [] tt [] refl [] (ranked v.flow.steps) (ranked-ordered v.flow.steps)
      (subst (λ x. StepsAgree flows x [] (ranked v.flow.steps)) (sym (given-depths v.inputs v.flow.inputs)) w.depths.flow.steps)
      depth refl [] refl tt in
      record {
        pairs = r.pairs;
        steps = r.steps;
        names = IsPermutation-trans _ _ _ (subst (IsPermutation (map (λ (x : (Name × Step) × InstanceStep). x.0) r.pairs)) (append-nil (ranked v.flow.steps)) r.names) (ranked-permutes v.flow.steps (steps-named v.flow w.formed).rise w.ranked);
        made = r.made;
      }

-- each step of the instance is one of the flow's
pub made-of : (flow : Flow) (fs : List InstanceStep) (ss : List (Name × Step)) → ArePaired flow fs ss → (f : InstanceStep) → In f fs → (s : Name × Step) × In s ss × IsMadeOf flow s f
made-of flow fs ss w f i =
    let r = of-map (λ (x : (Name × Step) × InstanceStep). x.1) f w.pairs (subst (In f) (sym w.steps) i) in (
      r.0.0,
      in-permutes r.0.0 ss (map (λ (x : (Name × Step) × InstanceStep). x.0) w.pairs) (IsPermutation-sym _ _ w.names) (in-map (λ (x : (Name × Step) × InstanceStep). x.0) r.0 w.pairs r.1),
      subst (IsMadeOf flow r.0.0) (sym r.2) (each_in (λ (x : (Name × Step) × InstanceStep). IsMadeOf flow x.0 x.1) w.pairs w.made r.0 r.1),
    )

-- and each of the flow's is there
pub there-is : (flow : Flow) (fs : List InstanceStep) (ss : List (Name × Step)) → ArePaired flow fs ss → (s : Name × Step) → In s ss → (f : InstanceStep) × In f fs × IsMadeOf flow s f
there-is flow fs ss w s i =
    let r = of-map (λ (x : (Name × Step) × InstanceStep). x.0) s w.pairs (in-permutes s (map (λ (x : (Name × Step) × InstanceStep). x.0) w.pairs) ss w.names i) in (
      r.0.1,
      subst (In r.0.1) w.steps (in-map (λ (x : (Name × Step) × InstanceStep). x.1) r.0 w.pairs r.1),
      subst (λ t. IsMadeOf flow t r.0.1) (sym r.2) (each_in (λ (x : (Name × Step) × InstanceStep). IsMadeOf flow x.0 x.1) w.pairs w.made r.0 r.1),
    )

-- the one of that name
pub made-step : (flow : Flow) (fs : List InstanceStep) (ss : List (Name × Step)) → AreApart ss → ArePaired flow fs ss → (s : Name × Step) → In s ss → (f : InstanceStep) → In f fs → f.step.step ≡ s.0 → IsMadeOf flow s f
made-step flow fs ss apart w s i f j e =
    let r = made-of flow fs ss w f j in
    subst (λ t. IsMadeOf flow t f) (one-named ss apart r.0 s r.1 i (sym r.2.name ∙ e)) r.2
