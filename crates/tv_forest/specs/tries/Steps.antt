-- A job of a meaning by its own step: the step's plan, and the job's asks by their numbers.
use Rattle.std.specs.List.{list_any}
use Rattle.std.specs.Prelude.{None, Some, [], codes, map, slice_get, true, ℕ, ◌≡◌, ◌≤◌}
use Rattle.tv_lemmas.specs.Members.{In}
use Rattle.tv_value.specs.Activities.{service}
use Rattle.tv_value.specs.Values.{holds_fault}
use Rattle.tv_gate.specs.Outcomes.{Giving}
use Rattle.tv_flow.specs.Flows.{Document, Step}
use Rattle.tv_strategy.specs.Origins.{plain}
use Rattle.tv_dispatch.specs.Jobs.{Ask, error_results, fault_makers}
use Rattle.tv_dispatch.specs.Plans.{kind_of}
use Rattle.tv_dispatch.specs.declared.plan.Kind.TheVariants.{Service}
use Rattle.tv_dispatch.specs.declared.plan.Plan.{Plan}
use Rattle.tv_model.specs.instance.Steps.{declared_depths}
use Rattle.tv_model.specs.Jobs.{Job}
use Rattle.tv_model.specs.Meanings.{meaning}
use Rattle.tv_history.specs.order.Parts.{OwnPart}

-- a job of the meaning, with the step that it is of
pub record IsOwnStep (gives : Giving) (d : Document) (j : Job) (s : Step) : Type 0 where
  pub listed : In j (meaning gives d).jobs
  pub part : OwnPart gives d.flows (meaning gives d) j s

-- the plan has the step's retries, and the kinds of its activities
pub record IsPlanOf (p : Plan) (s : Step) : Type 0 where
  pub retries : p.retries ≡ s.retries
  pub activities : p.activities ≡ map kind_of s.activities

-- the ask is attempt t at activity a of the step, on the job's inputs
pub record IsAskOf (s : Step) (j : Job) (a t : ℕ) (k : Ask) : Type 0 where
  pub activity : k.activity ≡ a
  pub attempt : k.attempt ≡ t
  pub is_service : slice_get s.activities a ≡ Some (service k.service)
  pub inputs : k.inputs ≡ map plain j.inputs
  pub outputs : k.outputs ≡ declared_depths s

-- its activity is a service of the plan, and its attempt one that the plan has
pub record IsOfPlan (p : Plan) (k : Ask) : Type 0 where
  pub is_service : slice_get p.activities k.activity ≡ Some Service
  pub attempts : k.attempt ≤ p.retries

-- the job has an error in its inputs: it asks nothing, opens nothing, and gives an error at each
-- output
pub record IsBouncedJob (s : Step) (j : Job) : Type 0 where
  pub faulty : list_any (λ v. holds_fault v) j.inputs ≡ true
  pub asks : j.asks ≡ []
  pub opens : j.opens ≡ None
  pub result :
      j.result
      ≡ error_results j.name (codes "bounced") (fault_makers (map plain j.inputs))
      (declared_depths s)
