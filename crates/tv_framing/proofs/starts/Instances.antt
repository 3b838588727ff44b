-- A step of a flow in an instance: what its ports are fed with.
use Rattle.std.specs.List.{list_all}
use Rattle.std.specs.Prelude.{◌≡◌, refl, ℕ, zero, suc, ◌-◌, true, List, [], ◌∷◌, map, Some, slice_get}
use Rattle.std.proofs.Common.{sym, ap, subst, ◌∙◌, inl, inr}
use Rattle.std.proofs.lemmas.Option.{none-some, same_Some}
use Rattle.tv_lemmas.specs.Members.{Each, In}
use Rattle.tv_lemmas.proofs.Members.{each_in, of-all}
use Rattle.tv_value.specs.Orders.{named}
use Rattle.tv_value.specs.Values.{JobName, Name, Value}
use Rattle.tv_flow.specs.Flows.{Flow, Step, StepInput}
use Rattle.tv_flow.specs.Formed.{is_ascending, is_step_input}
use Rattle.tv_naming.specs.Naming.{feed_links, is_there}
use Rattle.tv_naming.proofs.ByPosition.{names_of}
use Rattle.tv_naming.proofs.FormedParts.{ascending, passes, step-at, step-inputs, steps-ascend}
use Rattle.tv_naming.proofs.Lists.{pair-same}
use Rattle.tv_model.specs.instance.CheckedDepths.{StepDepths, feed_depth}
use Rattle.tv_model.specs.instance.Ranks.{ranked}
use Rattle.tv_check.proofs.Ranked.{all-ranked}
use Rattle.tv_model.specs.instance.Delivered.{Delivered, feed_delivers}
use Rattle.tv_model.specs.Agreeing.{FeedAgrees, InputsAgree, StepAgrees}
use Rattle.tv_model.specs.Instances.{given_of}
use Rattle.tv_model.specs.Made.{Made}
use Rattle.tv_model.specs.RightDepths.{AreRight, IsRight}
use Rattle.tv_model.proofs.Delivers.{depths_of, feed-right, given-right}
use Rattle.tv_matching.proofs.Lists.{each-map}
use Rattle.tv_check.specs.Ports.{levels_of}
use Rattle.tv_model.specs.instance.ByResults.{InstanceStep, Results, ports_on, step_by, step_of, steps_by}
use Rattle.tv_framing.proofs.instances.InDepth.{as_made}
use Rattle.tv_framing.specs.Stated.{IsOfDepths}
use Rattle.tv_framing.specs.Views.{AreOfDepth, View, steps_with}
use Rattle.tv_framing.specs.engine.WiredFlows.{IsWired}
use Rattle.tv_framing.proofs.starts.Ports.{LinksAreFound, ports-found}
use Rattle.tv_framing.proofs.starts.Steps.{IsMade, IsPlaced, all_depths, depths_in, planned-depth, same-feeds, stands-at, steps-placed, steps-stay}

module _ (flow : Flow) (levels : Name → ℕ) (instance : JobName) (results : Results) (inputs : List (Name × Value)) where
  abbrev pub given : List (Name × Delivered)
  given = given_of flow inputs

  -- what an input port is fed with, from the steps before
  pub record IsPort (before : List InstanceStep) (made : Each (IsMade flow levels instance results given) before) (i : Name × StepInput) : Type 0 where
    pub found : LinksAreFound flow levels instance results inputs before made (feed_links i.1.from)
    pub right : IsRight (feed_delivers step_of given before i.1.from)
    pub planned : levels_of flow i.1 ≡ (feed_delivers step_of given before i.1.from).depth - i.1.depth

  -- f is step s of the flow; `whole` are all steps
  pub record IsStepOf (flows : List (Name × Flow)) (whole : List InstanceStep) (f : InstanceStep) (s : Name × Step) : Type 0 where
    pub before : List InstanceStep
    pub is : f ≡ step_by instance results given before s
    pub made : Each (IsMade flow levels instance results given) before
    pub stay : (g : InstanceStep) → In g before → In g whole
    pub agree : StepAgrees flows (depths_of given) (depths_in before) s.1
    pub ports : (i : Name × StepInput) → In i s.1.inputs → IsPort before made i

  -- its ports are these
  pub ports-are : (flows : List (Name × Flow)) (whole : List InstanceStep) (f : InstanceStep) (s : Name × Step) (w : IsStepOf flows whole f s) → f.step.inputs ≡ ports_on (feed_delivers step_of given w.before) s.1.inputs
  ports-are flows whole f s w = ap (λ (g : InstanceStep). g.step.inputs) w.is

feed-agrees : (given : List (Name × ℕ)) (so_far : List StepDepths) (is : List (Name × StepInput)) → InputsAgree given so_far is → (i : Name × StepInput) → In i is → FeedAgrees given so_far i.1.from
feed-agrees given so_far [] h i g = absurd g
feed-agrees given so_far (j ∷ is) h i (inl e) = subst (λ (k : Name × StepInput). FeedAgrees given so_far k.1.from) (sym e) h.0
feed-agrees given so_far (j ∷ is) h i (inr g) = feed-agrees given so_far is h.1 i g

module _ (flows : List (Name × Flow)) (levels : Name → ℕ) (v : View) (depths : IsOfDepths flows levels v) (wired : IsWired v.flow) (n : ℕ) (s : Name × Step) (there : slice_get v.flow.steps n ≡ Some s) where
  -- names of inputs are in order
  pub inputs-rise : is_ascending (names_of s.1.inputs) ≡ true
  inputs-rise = ascending is_step_input 0 16 s.1.inputs (step-inputs s.1 (step-at v.flow wired.formed n s there))

  links-there : list_all (λ (i : Name × StepInput). list_all (is_there v.flow) (feed_links i.1.from)) s.1.inputs ≡ true
  links-there = passes (λ (t : Name × Step). list_all (λ (i : Name × StepInput). list_all (is_there v.flow) (feed_links i.1.from)) t.1.inputs) v.flow.steps n s wired.links there

  module _ (instance : JobName) (results : Results) (depth : AreOfDepth v instance results) where
    abbrev own_given : List (Name × Delivered)
    own_given = given_of v.flow v.inputs

    abbrev Placed : InstanceStep → Type 0
    Placed f = IsPlaced v.flow levels instance results own_given flows (all_depths flows levels v depths wired) (steps_with v instance results) f

    port-is : (f : InstanceStep) (w : Placed f) → list_all (λ (i : Name × StepInput). list_all (is_there v.flow) (feed_links i.1.from)) w.own.step.inputs ≡ true → (i : Name × StepInput) → In i w.own.step.inputs → IsPort v.flow levels instance results v.inputs w.own.before w.made i
    port-is f w links i g =
        record {
          found = ports-found v.flow levels instance results v.inputs flows (all_depths flows levels v depths wired) (steps_with v instance results) f w i g (of-all (λ (j : Name × StepInput). list_all (is_there v.flow) (feed_links j.1.from)) w.own.step.inputs links i g);
          right =
              subst IsRight (same-feeds own_given w.own.before i.1.from)
              (feed-right own_given (given-right v.inputs v.flow.inputs depths.inputs) (map as_made w.own.before) (each-map (λ (m : Made). AreRight m.step.outputs) as_made w.own.before w.right) i.1.from (feed-agrees _ _ w.own.step.inputs w.agree.feeds i g));
          planned = ap (λ m. m - i.1.depth) (planned-depth flows levels v depths wired w.own.before i.1.from (each_in (λ (j : Name × StepInput). feed_depth (depths_of own_given) (all_depths flows levels v depths wired) j.1.from ≡ feed_depth (depths_of own_given) (depths_in w.own.before) j.1.from) w.own.step.inputs w.settled i g));
        }

    pub step-of : (f : InstanceStep) → In f (steps_with v instance results) → f.step.step ≡ s.0 → IsStepOf v.flow levels instance results v.inputs flows (steps_with v instance results) f s
    step-of f i e =
        let w : Placed f = each_in Placed (steps_with v instance results) (steps-placed flows levels v depths wired instance results depth) f i in
        let name : w.own.name ≡ s.0 = sym (ap (λ (g : InstanceStep). g.step.step) w.own.is) ∙ e in
        let step : w.own.step ≡ s.1 = same_Some w.own.step s.1 (sym w.own.stands ∙ ap (λ m. named m v.flow.steps) name ∙ stands-at v.flow wired n s there) in
        let links = subst (λ (t : Step). list_all (λ (i : Name × StepInput). list_all (is_there v.flow) (feed_links i.1.from)) t.inputs ≡ true) (sym step) links-there in
        subst (IsStepOf v.flow levels instance results v.inputs flows (steps_with v instance results) f) (pair-same (w.own.name, w.own.step) s name step)
        (record { before = w.own.before; is = w.own.is; made = w.made; stay = w.stay; agree = w.agree; ports = port-is f w links })

-- ---- each step of the flow is there

step-among : (instance : JobName) (results : Results) (given : List (Name × Delivered)) (fs : List InstanceStep) (ss : List (Name × Step)) (j : ℕ) (s : Name × Step) → slice_get ss j ≡ Some s → (f : InstanceStep) × In f (steps_by instance results given fs ss) × (f.step.step ≡ s.0)
step-among instance results given fs [] j s e = absurd (none-some s e)
step-among instance results given fs ((n, t) ∷ ss) zero s e =
    let f = step_by instance results given fs (n, t) in
    (f, steps-stay instance results given (f ∷ fs) ss f (inl refl), ap (λ (x : Name × Step). x.0) (same_Some (n, t) s e))
step-among instance results given fs ((n, t) ∷ ss) (suc j) s e = step-among instance results given (step_by instance results given fs (n, t) ∷ fs) ss j s e

pub step-there : (v : View) → IsWired v.flow → (n : ℕ) (s : Name × Step) → slice_get v.flow.steps n ≡ Some s → (instance : JobName) (results : Results) → (f : InstanceStep) × In f (steps_with v instance results) × (f.step.step ≡ s.0)
step-there v wired n s e instance results =
    let r = all-ranked v.flow.steps (steps-ascend v.flow wired.formed) wired.ranked s (n, e) in
    step-among instance results (given_of v.flow v.inputs) [] (ranked v.flow.steps) r.0 s r.1
