-- The jobs of an instance of a flow of an accepted document give values of the declared depths.
use Rattle.std.specs.Prelude.{◌≡◌, refl, ◌&&◌, ℕ, true, List, [], ◌∷◌, Some, None, length, map, if◌then◌else◌}
use Rattle.std.specs.Cmp.Lexicographic.{bytes_decides}
use Rattle.std.proofs.Common.{sym, ap, subst}
use Rattle.std.proofs.lemmas.Bool.{and_parts}
use Rattle.tv_lemmas.specs.Members.{Each}
use Rattle.tv_value.specs.Orders.{named}
use Rattle.tv_value.specs.Values.{JobName, Name, Value}
use Rattle.tv_gate.specs.Outcomes.{Giving}
use Rattle.tv_flow.specs.Flows.{Document, Flow, Step}
use Rattle.tv_flow.specs.Formed.{is_flow, is_formed}
use Rattle.tv_flow.specs.Forms.{is_name}
use Rattle.tv_naming.proofs.FormedParts.{all-pass, document-flows, steps-ascend}
use Rattle.tv_model.specs.instance.Delivered.{Delivered}
use Rattle.tv_model.specs.instance.Ranks.{ranked}
use Rattle.tv_check.specs.Plans.{IsAccepted}
use Rattle.tv_check.proofs.Inside.{each-by}
use Rattle.tv_check.proofs.CycleLemmas.{IsThere, each-there}
use Rattle.tv_model.specs.Agreeing.{ActivitiesNest, FlowAgrees, InputsHave, NestsWithin, StepAgrees, StepsAgree, StepsNest}
use Rattle.tv_model.specs.Instances.{given_of, step_made}
use Rattle.tv_model.specs.Made.{Made, Meaning}
use Rattle.tv_model.specs.Meanings.{flow_meaning}
use Rattle.tv_model.specs.RightDepths.{AreRight}
use Rattle.tv_model.proofs.Delivers.{depths_of, forget, forget-step, given-depths, given-right}
use Rattle.tv_model.proofs.Results.{Delivers}
use Rattle.tv_model.proofs.Whole.{rank-each}
use Rattle.tv_history.proofs.AcceptedDocuments.{accepted-agrees}
use Rattle.tv_history.proofs.Lists.{named-each}
use Rattle.tv_strategy.proofs.Each.{each-passes as all-each}
use Rattle.tv_history.proofs.OneInstance.{AllSound, flow-delivers, gives-right}
use Rattle.tv_history.proofs.OneStep.{AnyMeaning, made-is, results}
use Rattle.tv_framing.specs.instances.OwnResults.{AllMadeGive}
use Rattle.tv_history.proofs.OrderLemmas.{nests-each}

-- ---- the flows of a document

pub formed-flow : (d : Document) → is_formed d ≡ true → (n : Name) (flow : Flow) → named n d.flows ≡ Some flow
    → is_flow flow ≡ true
formed-flow d formed n flow e = named-each (λ f. is_flow f.1 ≡ true) n d.flows flow forms e
  where
    forms : Each (λ (f : Name × Flow). is_flow f.1 ≡ true) d.flows
    forms =
        each-by _ (λ (f : Name × Flow). is_flow f.1 ≡ true) d.flows (λ f b. (and_parts (is_name f.0) (is_flow f.1) b).1)
        (all-each (λ f. is_name f.0 && is_flow f.1) d.flows (all-pass is_flow 1 256 d.flows (document-flows d formed)))

-- each step is the one of its name
abbrev pub AreNamed : List (Name × Step) → Type 0
AreNamed steps = Each (λ (s : Name × Step). named s.0 steps ≡ Some s.1) steps

pub formed-named : (flow : Flow) → is_flow flow ≡ true → AreNamed flow.steps
formed-named flow formed =
    each-by (IsThere flow.steps) (λ s. named s.0 flow.steps ≡ Some s.1) flow.steps (λ s t. t.1) (each-there flow.steps (steps-ascend flow formed))

pub accepted-sound : (d : Document) → is_formed d ≡ true → IsAccepted d → AllSound d.flows
accepted-sound d formed accepted f flow e = ((accepted-agrees d formed accepted).flows f flow e, formed-named flow (formed-flow d formed f flow e))

-- ---- one step after another

own-name : (n : Name) (s : Step) → named n ((n, s) ∷ []) ≡ Some s
own-name n s = ap (λ b. if b then Some s else None) ((bytes_decides n n).1 refl)

module _ (gives : Giving) (flows : List (Name × Flow)) (inside : Name → JobName → List (Name × Value) → Meaning) (k : ℕ)
    (inside_is : Delivers flows AnyMeaning inside k) (I : JobName) (given : List (Name × Delivered)) (given_right : AreRight given) where
  abbrev next : List Made → Name → Step → Made
  next ms n s = step_made gives inside I given ms (n, s)

  abbrev RightSteps : List Made → Type 0
  RightSteps ms = Each (λ (m : Made). AreRight m.step.outputs) ms

  next-right : (ms : List Made) → RightSteps ms → (n : Name) (s : Step)
      → StepAgrees flows (depths_of given) (map forget ms) s → ActivitiesNest (NestsWithin flows k) s.activities
      → AreRight (next ms n s).step.outputs
  next-right ms right n s agree nest =
      let w = made-is gives flows inside k inside_is I given given_right ms right n s agree nest ((n, s) ∷ []) (own-name n s) [] tt in
      gives-right _ w.step.outputs (next ms n s).step.outputs w.outputs

  steps-give : (ms : List Made) → RightSteps ms → (ss : List (Name × Step))
      → StepsAgree flows (depths_of given) (map forget ms) ss
      → Each (λ s. ActivitiesNest (NestsWithin flows k) s.1.activities) ss → AllMadeGive gives inside I given ms ss
  steps-give ms right [] agree nest = tt
  steps-give ms right ((n, s) ∷ ss) agree nest = (
    results gives flows inside k inside_is I given given_right ms right n s agree.0 nest.0,
    steps-give (next ms n s ∷ ms) (next-right ms right n s agree.0 nest.0, right) ss
        (subst (λ x. StepsAgree flows (depths_of given) (x ∷ map forget ms) ss) (sym (forget-step gives inside I given ms (n, s))) agree.1) nest.1,
  )

-- the steps of the flow nest within k levels, and this is its instance on inputs of their depths
pub jobs-give : (gives : Giving) (d : Document) → is_formed d ≡ true → IsAccepted d → (k : ℕ) (flow : Flow)
    → StepsNest (NestsWithin d.flows k) flow.steps → FlowAgrees d.flows flow
    → (I : JobName) (vs : List (Name × Value)) → InputsHave flow.inputs vs
    → AllMadeGive gives (flow_meaning gives d.flows k) I (given_of flow vs) [] (ranked flow.steps)
jobs-give gives d formed accepted k flow nests agree I vs have =
    steps-give gives d.flows (flow_meaning gives d.flows k) k (flow-delivers gives d.flows (accepted-sound d formed accepted) k) I (given_of flow vs) (given-right vs flow.inputs have) [] tt (ranked flow.steps)
    (subst (λ x. StepsAgree d.flows x [] (ranked flow.steps)) (sym (given-depths vs flow.inputs)) agree.steps)
    (rank-each gives (λ n. Unit {0}) (λ (s : Name × Step). ActivitiesNest (NestsWithin d.flows k) s.1.activities) (length flow.steps) [] flow.steps (nests-each (NestsWithin d.flows k) flow.steps nests))
