-- When what a meaning has at its ports has the depths that the check's plan states.
use Rattle.std.specs.Prelude.{List, Some, [], map, ℕ, ◌+◌, ◌∷◌, ◌≡◌}
use Rattle.tv_lemmas.specs.Members.{Each}
use Rattle.tv_value.specs.Orders.{named}
use Rattle.tv_value.specs.Values.{HasDepth, Name}
use Rattle.tv_flow.specs.Flows.{Document, Flow, StepInput}
use Rattle.tv_strategy.specs.Origins.{Traced}
use Rattle.tv_model.specs.instance.Delivered.{Delivered, Ported, StepMeaning, at_port}
use Rattle.tv_model.specs.instance.Steps.{declared_depths}
use Rattle.tv_check.specs.Plans.{flow_plan, step_plan}
use Rattle.tv_model.specs.RightDepths.{HaveTheseDepths}
use Rattle.tv_model.specs.Jobs.{Job}
use Rattle.tv_model.specs.Made.{Meaning}
use Rattle.tv_history.specs.agreement.InstanceFlows.{StandsIn}
use Rattle.tv_model.specs.Opening.{first_nested}

-- a port of this declared depth takes a value of this delivered depth
pub record Takes (declared delivered : ℕ) (p : Ported) : Type 0 where
  pub value : Traced
  pub deep : HasDepth value delivered
  pub port_is : p ≡ at_port declared (record { depth = delivered; value = value })

-- the ports of a step, each by the delivered depth that the plan states for it
abbrev pub PortsTake : List (Name × ℕ) → List (Name × StepInput) → List (Name × Ported) → Type 0
PortsTake [] [] [] = Unit {0}
PortsTake (k ∷ ks) (i ∷ is) (p ∷ ps) =
    (k.0 ≡ i.0)
    × (p.0 ≡ i.0)
    × Takes i.1.depth k.1 p.1
    × PortsTake ks is ps
PortsTake ks is ps = ⊥

-- each output of a step whose strategy has so many levels: a value of its delivered depth
abbrev pub OutputsGive : ℕ → List (Name × ℕ) → List (Name × Delivered) → Type 0
OutputsGive levels [] [] = Unit {0}
OutputsGive levels (o ∷ os) (d ∷ ds) =
    (d.0 ≡ o.0)
    × (d.1.depth ≡ levels + o.1)
    × HasDepth d.1.value d.1.depth
    × OutputsGive levels os ds
OutputsGive levels os ds = ⊥

-- values by name, each of its depth
abbrev pub NamedHave : List (Name × ℕ) → List (Name × Traced) → Type 0
NamedHave [] [] = Unit {0}
NamedHave (k ∷ ks) (v ∷ vs) = (v.0 ≡ k.0) × HasDepth v.1 k.1 × NamedHave ks vs
NamedHave ks vs = ⊥

-- a step of an instance, by the plan of the step of its name in the instance's own flow
pub record StepIsPlanned (d : Document) (m : Meaning) (s : StepMeaning) : Type 0 where
  pub own : StandsIn d m s.instance s.step
  pub inputs : PortsTake (step_plan own.flow (s.step, own.step)).delivered own.step.inputs s.inputs
  pub outputs : OutputsGive (step_plan own.flow (s.step, own.step)).depth own.step.outputs s.outputs

-- a job binds and gives values of the depths that its own step declares, and opens the first flow that this can
pub record JobIsPlanned (d : Document) (m : Meaning) (j : Job) : Type 0 where
  pub own : StandsIn d m j.instance j.step
  pub inputs : HaveTheseDepths (map (λ i. i.1.depth) own.step.inputs) j.inputs
  pub result : HaveTheseDepths (declared_depths own.step) j.result
  pub opens : (g : Name) → j.opens ≡ Some g → first_nested own.step.activities ≡ Some g

-- all steps and jobs, those of nested flows included, and the outputs of the main flow
pub record IsAsPlanned (d : Document) (m : Meaning) : Type 0 where
  pub steps : Each (StepIsPlanned d m) m.steps
  pub jobs : Each (JobIsPlanned d m) m.jobs
  pub outputs : (flow : Flow) → named d.main d.flows ≡ Some flow
      → NamedHave (flow_plan flow).outputs m.outputs
