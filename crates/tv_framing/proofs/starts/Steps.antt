-- The steps of an instance: each is a step of the flow, made after those that feed it, and the depths that it is fed with are those of
-- the whole flow.
use Rattle.std.specs.List.{list_all}
use Rattle.std.specs.Prelude.{◌≡◌, refl, ℕ, ◌+◌, true, List, [], ◌∷◌, length, map, Some, slice_get}
use Rattle.std.proofs.Common.{sym, ap, subst, ◌∙◌, inr}
use Rattle.std.proofs.lemmas.Option.{get_or_from_slice_get, slice_get_within}
use Rattle.tv_lemmas.specs.Members.{Each, In}
use Rattle.tv_value.specs.Orders.{named}
use Rattle.tv_value.specs.Values.{JobName, Name}
use Rattle.tv_flow.specs.Flows.{Feed, Flow, Step, StepInput}
use Rattle.tv_strategy.specs.Measures.{strategy_depth}
use Rattle.tv_gate.specs.Outcomes.{Giving, bad}
use Rattle.tv_naming.proofs.ByPosition.{named-at}
use Rattle.tv_naming.proofs.FormedParts.{steps-ascend}
use Rattle.tv_naming.proofs.Lists.{each-at}
use Rattle.tv_model.specs.instance.CheckedDepths.{StepDepths, feed_depth, flow_depths, port_depth, step_depths, steps_depths}
use Rattle.tv_model.specs.instance.Delivered.{Delivered, feed_delivers}
use Rattle.tv_model.specs.instance.Ranks.{earlier_steps, is_among, ranked}
use Rattle.tv_model.specs.instance.Steps.{port_mismatch, strategy_of}
use Rattle.tv_model.proofs.Ranks.{IsOrdered, ranked-ordered}
use Rattle.tv_model.specs.Agreeing.{StepAgrees, StepsAgree}
use Rattle.tv_model.specs.Instances.{given_of}
use Rattle.tv_model.specs.Made.{feed_value, step_in}
use Rattle.tv_model.specs.RightDepths.{AreRight}
use Rattle.tv_model.proofs.Delivers.{depths_of, feed-depth, forget, given-depths, given-right, mismatches}
use Rattle.tv_model.proofs.Whole.{rank-each}
use Rattle.tv_model.proofs.Feeds.{none-feed, step-settled}
use Rattle.tv_model.specs.instance.ByResults.{InstanceStep, Results, iteration_on, levels_on, ports_on, result_at, step_by, step_of, steps_by}
use Rattle.tv_model.specs.instance.OwnDepths.{AllJobsGive, AreLevels}
use Rattle.tv_framing.proofs.instances.InDepth.{as_made, step-right, steps-all}
use Rattle.tv_framing.proofs.instances.Results.{feed-map, itself}
use Rattle.tv_framing.proofs.instances.Outputs.{outputs-depths}
use Rattle.tv_framing.specs.Stated.{IsOfDepths}
use Rattle.tv_framing.specs.Views.{AreOfDepth, View, steps_with}
use Rattle.tv_framing.specs.engine.WiredFlows.{IsWired}

abbrev pub names_in : List InstanceStep → List Name
names_in [] = []
names_in (f ∷ fs) = f.step.step ∷ names_in fs

-- the depths alone of the steps so far
abbrev pub depths_in : List InstanceStep → List StepDepths
depths_in fs = map forget (map as_made fs)

module _ (given : List (Name × Delivered)) (fs : List InstanceStep) where
  -- a feed delivers the same from the steps as a meaning makes them
  pub same-feeds : (d : Feed) → feed_value given (map as_made fs) d ≡ feed_delivers step_of given fs d
  same-feeds d = feed-map step_in given (map as_made fs) d ∙ ap (λ l. feed_delivers itself given l d) (steps-all fs) ∙ sym (feed-map step_of given fs d)

  -- the levels that a step iterates are those of its depths
  levels-told : (s : Step) → levels_on (feed_delivers step_of given fs) s ≡ strategy_depth (port_depth (depths_of given) (depths_in fs) s) (strategy_of s)
  levels-told s =
      ap (λ (g : Feed → Delivered). strategy_depth (port_mismatch (ports_on g s.inputs)) (strategy_of s)) (λ i d. sym (same-feeds d) i)
      ∙ ap (λ f. strategy_depth f (strategy_of s)) (mismatches given (map as_made fs) s)

  pub forgotten-next : (instance : JobName) (results : Results) (n : Name) (s : Step) → forget (as_made (step_by instance results given fs (n, s))) ≡ step_depths (depths_of given) (depths_in fs) (n, s)
  forgotten-next instance results n s =
      ap (λ l. record { step = n; outputs = l }) (outputs-depths instance n (result_at results n) (levels_on (feed_delivers step_of given fs) s) (iteration_on (feed_delivers step_of given fs) s) 0 s.outputs
      ∙ ap (λ d. map (λ p. (p.0, d + p.1)) s.outputs) (levels-told s))

-- a step that is there stays with those after it
pub steps-stay : (instance : JobName) (results : Results) (given : List (Name × Delivered)) (fs : List InstanceStep) (ss : List (Name × Step)) (f : InstanceStep) → In f fs → In f (steps_by instance results given fs ss)
steps-stay instance results given fs [] f i = i
steps-stay instance results given fs ((n, s) ∷ ss) f i = steps-stay instance results given (step_by instance results given fs (n, s) ∷ fs) ss f (inr i)

module _ (flow : Flow) (levels : Name → ℕ) (instance : JobName) (results : Results) (given : List (Name × Delivered)) where
  -- a step of the flow, as the instance has it, with the levels that are told
  pub record IsMade (g : InstanceStep) : Type 0 where
    pub before : List InstanceStep
    pub name : Name
    pub step : Step
    pub is : g ≡ step_by instance results given before (name, step)
    pub stands : named name flow.steps ≡ Some step
    pub leveled : levels_on (feed_delivers step_of given before) step ≡ levels name

  -- and all that is known of how it came: `all` are the depths of all steps, and `whole` are all steps
  pub record IsPlaced (flows : List (Name × Flow)) (all : List StepDepths) (whole : List InstanceStep) (f : InstanceStep) : Type 0 where
    pub own : IsMade f
    pub made : Each IsMade own.before
    pub stay : (g : InstanceStep) → In g own.before → In g whole
    pub right : Each (λ (g : InstanceStep). AreRight g.step.outputs) own.before
    pub agree : StepAgrees flows (depths_of given) (depths_in own.before) own.step
    pub settled : Each (λ (i : Name × StepInput). feed_depth (depths_of given) all i.1.from ≡ feed_depth (depths_of given) (depths_in own.before) i.1.from) own.step.inputs
    pub earlier : list_all (is_among (names_in own.before)) (earlier_steps own.step) ≡ true

  module _ (flows : List (Name × Flow)) (given_right : AreRight given) (all : List StepDepths) (whole : List InstanceStep) where
    all-placed : (fs : List InstanceStep) → Each (IsPlaced flows all whole) fs → Each IsMade fs → Each (λ (g : InstanceStep). AreRight g.step.outputs) fs → (ss : List (Name × Step)) → IsOrdered (names_in fs) ss → StepsAgree flows (depths_of given) (depths_in fs) ss → AreLevels levels (depths_of given) (depths_in fs) ss → AllJobsGive instance results given fs ss → Each (λ s. named s.0 flow.steps ≡ Some s.1) ss → steps_depths (depths_of given) (depths_in fs) ss ≡ all → steps_by instance results given fs ss ≡ whole → Each (IsPlaced flows all whole) (steps_by instance results given fs ss)
    all-placed fs p m r [] o a l j w e t = p
    all-placed fs p m r ((n, s) ∷ ss) o a l j w e t =
        let f = step_by instance results given fs (n, s) in
        let next = forgotten-next given fs instance results n s in
        let own : IsMade f = record { before = fs; name = n; step = s; is = refl; stands = w.0; leveled = levels-told given fs s ∙ sym l.0 } in
        let placed : IsPlaced flows all whole f =
        record {
          own = own;
          made = m;
          stay = λ g i. subst (In g) t (steps-stay instance results given fs ((n, s) ∷ ss) g i);
          right = r;
          agree = a.0;
          settled = subst (λ x. Each (λ (i : Name × StepInput). feed_depth (depths_of given) x i.1.from ≡ feed_depth (depths_of given) (depths_in fs) i.1.from) s.inputs) e (step-settled (depths_of given) s (depths_in fs) ((n, s) ∷ ss) (none-feed (names_in fs) (n, s) ss o));
          earlier = o.0;
        } in
        all-placed (f ∷ fs) (placed, p) (own, m) (step-right flows instance results given given_right fs r n s a.0 j.0, r) ss o.1.1
        (subst (λ x. StepsAgree flows (depths_of given) (x ∷ depths_in fs) ss) (sym next) a.1)
        (subst (λ x. AreLevels levels (depths_of given) (x ∷ depths_in fs) ss) (sym next) l.1) j.1 w.1
        (ap (λ x. steps_depths (depths_of given) (x ∷ depths_in fs) ss) next ∙ e) t

-- ---- the steps of a flow stand under their names

each-stands : (f : Flow) → IsWired f → Each (λ s. named s.0 f.steps ≡ Some s.1) f.steps
each-stands f wired =
    each-at (λ s. named s.0 f.steps ≡ Some s.1) f.steps (λ k d lt. named-at f.steps k d (steps-ascend f wired.formed) lt)

any_giving : Giving
any_giving n vs k = bad []

ranked-stand : (f : Flow) → IsWired f → Each (λ s. named s.0 f.steps ≡ Some s.1) (ranked f.steps)
ranked-stand f wired = rank-each any_giving (λ n. Unit {0}) (λ s. named s.0 f.steps ≡ Some s.1) (length f.steps) [] f.steps (each-stands f wired)

pub stands-at : (f : Flow) → IsWired f → (n : ℕ) (s : Name × Step) → slice_get f.steps n ≡ Some s → named s.0 f.steps ≡ Some s.1
stands-at f wired n s e =
    subst (λ (t : Name × Step). named t.0 f.steps ≡ Some t.1) (get_or_from_slice_get f.steps n s s e) (named-at f.steps n s (steps-ascend f wired.formed) (slice_get_within f.steps n s e))

-- ---- of every instance of a view

module _ (flows : List (Name × Flow)) (levels : Name → ℕ) (v : View) (depths : IsOfDepths flows levels v) (wired : IsWired v.flow) where
  abbrev pub given : List (Name × Delivered)
  given = given_of v.flow v.inputs

  abbrev pub all_depths : List StepDepths
  all_depths = steps_depths (depths_of given) [] (ranked v.flow.steps)

  inputs-are : v.flow.inputs ≡ depths_of given
  inputs-are = sym (given-depths v.inputs v.flow.inputs)

  pub steps-placed : (instance : JobName) (results : Results) → AreOfDepth v instance results → Each (IsPlaced v.flow levels instance results given flows all_depths (steps_with v instance results)) (steps_with v instance results)
  steps-placed instance results depth =
      all-placed v.flow levels instance results given flows (given-right v.inputs v.flow.inputs depths.inputs) all_depths (steps_with v instance results) [] tt tt tt (ranked v.flow.steps) (ranked-ordered v.flow.steps)
      (subst (λ x. StepsAgree flows x [] (ranked v.flow.steps)) inputs-are depths.flow.steps)
      (subst (λ x. AreLevels levels x [] (ranked v.flow.steps)) inputs-are depths.levels_are)
      depth (ranked-stand v.flow wired) refl refl

  -- the depth that a feed of the step delivers is that of the plan
  pub planned-depth : (before : List InstanceStep) (d : Feed) → feed_depth (depths_of given) all_depths d ≡ feed_depth (depths_of given) (depths_in before) d → feed_depth v.flow.inputs (flow_depths v.flow) d ≡ (feed_delivers step_of given before d).depth
  planned-depth before d e =
      ap (λ x. feed_depth x (steps_depths x [] (ranked v.flow.steps)) d) inputs-are
      ∙ e
      ∙ sym (feed-depth given (map as_made before) d)
      ∙ ap (λ (x : Delivered). x.depth) (same-feeds given before d)
