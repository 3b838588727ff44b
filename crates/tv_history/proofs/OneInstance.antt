-- An instance of a flow on inputs of its depths: each of its steps is as planned, and so are the flow's outputs.
use Rattle.std.specs.Prelude.{◌≡◌, refl, ℕ, zero, suc, List, [], ◌∷◌, map, length, Some}
use Rattle.std.specs.Option.{option_map_or}
use Rattle.std.proofs.Common.{sym, ap, subst, ◌∙◌}
use Rattle.std.proofs.lemmas.Simd.{map-map}
use Rattle.tv_lemmas.specs.Members.{Each}
use Rattle.tv_value.specs.Orders.{named}
use Rattle.tv_value.specs.Values.{HasDepth, JobName, Name, Value}
use Rattle.tv_flow.specs.Flows.{Feed, Flow, Step}
use Rattle.tv_strategy.specs.Origins.{Traced}
use Rattle.tv_strategy.proofs.Each.{each-weaken}
use Rattle.tv_gate.specs.Outcomes.{Giving}
use Rattle.tv_model.specs.instance.CheckedDepths.{StepDepths, feed_depth, flow_depths, measured_outputs, output_depths, steps_depths}
use Rattle.tv_model.specs.instance.Delivered.{Delivered}
use Rattle.tv_model.specs.instance.Ranks.{ranked}
use Rattle.tv_model.proofs.Ranks.{IsOrdered, ranked-ordered}
use Rattle.tv_model.specs.Agreeing.{ActivitiesNest, FeedsAgree, FlowAgrees, InputsHave, NestsWithin, StepsAgree, StepsNest}
use Rattle.tv_model.specs.Instances.{given_of}
use Rattle.tv_model.specs.RightDepths.{AreRight, HaveTheseDepths}
use Rattle.tv_model.specs.Instances.{step_made, steps_made}
use Rattle.tv_model.specs.Made.{Made, Meaning, feed_value}
use Rattle.tv_model.specs.Meanings.{flow_meaning, instance_meaning, no_meaning}
use Rattle.tv_model.proofs.Whole.{rank-each}
use Rattle.tv_model.proofs.Results.{Delivers, some_or}
use Rattle.tv_model.proofs.Delivers.{depths_of, feed-depth, feed-right, forget, forget-step, given-depths, given-right}
use Rattle.tv_history.specs.agreement.PlannedDepths.{NamedHave, OutputsGive}
use Rattle.tv_history.proofs.OneStep.{AnyMeaning, MadeIs, made-is}
use Rattle.tv_model.proofs.Feeds.{none-feed}

-- ---- what is delivered

pub gives-right : (levels : ℕ) (os : List (Name × ℕ)) (ds : List (Name × Delivered)) → OutputsGive levels os ds → AreRight ds
gives-right levels [] [] h = tt
gives-right levels [] (d ∷ ds) h = absurd h
gives-right levels (o ∷ os) [] h = absurd h
gives-right levels (o ∷ os) (d ∷ ds) h = (h.2, gives-right levels os ds h.3)

without-names : (ks : List (Name × ℕ)) (vs : List (Name × Traced)) → NamedHave ks vs → HaveTheseDepths (map (λ k. k.1) ks) (map (λ v. v.1) vs)
without-names [] [] h = tt
without-names [] (v ∷ vs) h = absurd h
without-names (k ∷ ks) [] h = absurd h
without-names (k ∷ ks) (v ∷ vs) h = (h.1, without-names ks vs h.2)

-- what feeds deliver at a flow's outputs
abbrev outputs_of : List (Name × Delivered) → List Made → List (Name × Feed) → List (Name × Traced)
outputs_of given ms os = map (λ (o : Name × Feed). (o.0, (feed_value given ms o.1).value)) os

abbrev depths_at : List (Name × ℕ) → List StepDepths → List (Name × Feed) → List (Name × ℕ)
depths_at given all os = map (λ (o : Name × Feed). (o.0, feed_depth given all o.1)) os

outputs-have : (given : List (Name × Delivered)) (ms : List Made) → AreRight given → Each (λ m. AreRight m.step.outputs) ms → (os : List (Name × Feed)) → FeedsAgree (depths_of given) (map forget ms) os → NamedHave (depths_at (depths_of given) (map forget ms) os) (outputs_of given ms os)
outputs-have given ms g r [] h = tt
outputs-have given ms g r (o ∷ os) h = (refl, subst (λ d. HasDepth (feed_value given ms o.1).value d) (feed-depth given ms o.1) (feed-right given g ms r o.1 h.0), outputs-have given ms g r os h.1)

module _ (gives : Giving) (flows : List (Name × Flow)) (inside : Name → JobName → List (Name × Value) → Meaning) (k : ℕ) (inside_is : Delivers flows AnyMeaning inside k) (I : JobName) where
  forget-steps : (given : List (Name × Delivered)) (ms : List Made) (ss : List (Name × Step)) → map forget (steps_made gives inside I given ms ss) ≡ steps_depths (depths_of given) (map forget ms) ss
  forget-steps given ms [] = refl
  forget-steps given ms (s ∷ ss) = forget-steps given (step_made gives inside I given ms s ∷ ms) ss ∙ ap (λ x. steps_depths (depths_of given) (x ∷ map forget ms) ss) (forget-step gives inside I given ms s)

  -- what the step opens nests, and it is the first of its name
  abbrev IsReady : List (Name × Step) → Name × Step → Type 0
  IsReady steps s = ActivitiesNest (NestsWithin flows k) s.1.activities × (named s.0 steps ≡ Some s.1)

  made-right : (steps : List (Name × Step)) (given : List (Name × ℕ)) (all : List StepDepths) (ms : List Made) → Each (MadeIs gives flows inside k inside_is I steps given all) ms → Each (λ m. AreRight m.step.outputs) ms
  made-right steps given all ms h = each-weaken (MadeIs gives flows inside k inside_is I steps given all) (λ m. AreRight m.step.outputs) (λ m w. gives-right _ w.step.outputs m.step.outputs w.outputs) ms h

  module _ (steps : List (Name × Step)) (given : List (Name × Delivered)) (given_right : AreRight given) where
    abbrev Is : List StepDepths → Made → Type 0
    Is all m = MadeIs gives flows inside k inside_is I steps (depths_of given) all m

    steps-are : (all : List StepDepths) (ms : List Made) → Each (Is all) ms → (done : List Name) (ss : List (Name × Step)) → IsOrdered done ss → StepsAgree flows (depths_of given) (map forget ms) ss → Each (IsReady steps) ss → steps_depths (depths_of given) (map forget ms) ss ≡ all → Each (Is all) (steps_made gives inside I given ms ss)
    steps-are all ms h done [] o a r e = h
    steps-are all ms h done ((n, s) ∷ ss) o a r e =
        let next = sym (forget-step gives inside I given ms (n, s)) in
        steps-are all (step_made gives inside I given ms (n, s) ∷ ms)
        (subst (λ x. Is x (step_made gives inside I given ms (n, s))) e (made-is gives flows inside k inside_is I given given_right ms (made-right steps (depths_of given) all ms h) n s a.0 r.0.0 steps r.0.1 ((n, s) ∷ ss) (none-feed done (n, s) ss o)), h)
        (n ∷ done) ss o.1.1 (subst (λ x. StepsAgree flows (depths_of given) (x ∷ map forget ms) ss) next a.1) r.1
        (ap (λ x. steps_depths (depths_of given) (x ∷ map forget ms) ss) (sym next) ∙ e)

  ready-all : (steps ss : List (Name × Step)) → StepsNest (NestsWithin flows k) ss → Each (λ s. named s.0 steps ≡ Some s.1) ss → Each (IsReady steps) ss
  ready-all steps [] h e = tt
  ready-all steps (s ∷ ss) h e = ((h.0, e.0), ready-all steps ss h.1 e.1)

  abbrev pub made_in : Flow → List (Name × Value) → List Made
  made_in flow vs = steps_made gives inside I (given_of flow vs) [] (ranked flow.steps)

  module _ (flow : Flow) (agree : FlowAgrees flows flow) (firsts : Each (λ s. named s.0 flow.steps ≡ Some s.1) flow.steps) (nest : StepsNest (NestsWithin flows k) flow.steps) (vs : List (Name × Value)) (have : InputsHave flow.inputs vs) where
    abbrev Are : List (Name × ℕ) → Type 0
    Are given = Each (MadeIs gives flows inside k inside_is I flow.steps given (steps_depths given [] (ranked flow.steps))) (made_in flow vs)

    given_are : depths_of (given_of flow vs) ≡ flow.inputs
    given_are = given-depths vs flow.inputs

    all-made : Are (depths_of (given_of flow vs))
    all-made =
        steps-are flow.steps (given_of flow vs) (given-right vs flow.inputs have) (steps_depths (depths_of (given_of flow vs)) [] (ranked flow.steps)) [] tt [] (ranked flow.steps) (ranked-ordered flow.steps)
        (subst (λ x. StepsAgree flows x [] (ranked flow.steps)) (sym given_are) agree.steps)
        (rank-each gives (λ n. Unit {0}) (IsReady flow.steps) (length flow.steps) [] flow.steps (ready-all flow.steps flow.steps nest firsts)) refl

    -- each step by the depths of the flow alone
    pub instance-made : Are flow.inputs
    instance-made = subst Are given_are all-made

    abbrev Deliver : List (Name × ℕ) → List StepDepths → Type 0
    Deliver given all = FeedsAgree given all flow.outputs → NamedHave (depths_at given all flow.outputs) (outputs_of (given_of flow vs) (made_in flow vs) flow.outputs)

    pub instance-outputs : NamedHave (measured_outputs flow) (instance_meaning gives inside I flow vs).outputs
    instance-outputs =
        subst (λ x. Deliver x (steps_depths x [] (ranked flow.steps))) given_are
        (subst (Deliver (depths_of (given_of flow vs))) (forget-steps (given_of flow vs) [] (ranked flow.steps))
        (outputs-have (given_of flow vs) (made_in flow vs) (given-right vs flow.inputs have) (made-right flow.steps (depths_of (given_of flow vs)) (steps_depths (depths_of (given_of flow vs)) [] (ranked flow.steps)) (made_in flow vs) all-made) flow.outputs))
        agree.outputs

    pub instance-delivers : HaveTheseDepths (output_depths flow) (map (λ o. o.1) (instance_meaning gives inside I flow vs).outputs)
    instance-delivers =
        subst (λ ds. HaveTheseDepths ds (map (λ o. o.1) (instance_meaning gives inside I flow vs).outputs)) (map-map (λ (k : Name × ℕ). k.1) (λ (o : Name × Feed). (o.0, feed_depth flow.inputs (flow_depths flow) o.1)) flow.outputs)
        (without-names (measured_outputs flow) (instance_meaning gives inside I flow vs).outputs instance-outputs)

-- ---- at every number of levels

-- a flow that agrees, each step of which is the first of its name
abbrev pub IsSound : List (Name × Flow) → Flow → Type 0
IsSound flows flow = FlowAgrees flows flow × Each (λ s. named s.0 flow.steps ≡ Some s.1) flow.steps

abbrev pub AllSound : List (Name × Flow) → Type 0
AllSound flows = (f : Name) (flow : Flow) → named f flows ≡ Some flow → IsSound flows flow

-- the steps of the flow that nests are those of the flow that was found
pub steps-nest : (flows : List (Name × Flow)) (k : ℕ) (f : Name) (flow : Flow) → named f flows ≡ Some flow → NestsWithin flows (suc k) f → StepsNest (NestsWithin flows k) flow.steps
steps-nest flows k f flow e n = subst (λ (w : Flow). StepsNest (NestsWithin flows k) w.steps) (ap (some_or flow) (sym n.1 ∙ e)) n.2

pub flow-delivers : (gives : Giving) (flows : List (Name × Flow)) → AllSound flows → (k : ℕ) → Delivers flows AnyMeaning (flow_meaning gives flows k) k
flow-delivers gives flows sound zero f flow e n I vs h = absurd n
flow-delivers gives flows sound (suc k) f flow e n I vs h =
    let s = sound f flow e in (
      tt,
      subst (λ o. HaveTheseDepths (output_depths flow) (map (λ x. x.1) (option_map_or (λ w. instance_meaning gives (flow_meaning gives flows k) I w vs) o no_meaning).outputs)) (sym e)
          (instance-delivers gives flows (flow_meaning gives flows k) k (flow-delivers gives flows sound k) I flow s.0 s.1 (steps-nest flows k f flow e n) vs h),
    )
