-- The laws of instances inside a meaning: each is that of a flow on inputs.
use Rattle.std.specs.Prelude.{Some, [], ℕ, ◌≡◌}
use Rattle.tv_value.specs.Orders.{named}
use Rattle.tv_value.specs.Values.{Name}
use Rattle.tv_gate.specs.Outcomes.{Giving}
use Rattle.tv_flow.specs.Flows.{Document, Flow, Step}
use Rattle.tv_model.specs.Agreeing.{NestsWithin}
use Rattle.tv_model.specs.Instances.{zip_names}
use Rattle.tv_model.specs.Jobs.{Job}
use Rattle.tv_model.specs.Meanings.{meaning, nesting_limit}
use Rattle.tv_model.specs.Opening.{first_nested}
use Rattle.tv_history.specs.order.Moments.{IsJob}
use Rattle.tv_history.specs.order.Parts.{IsInstance, OwnPart}

-- the main instance is that of the main flow on the document's inputs
abbrev pub MainIsInstance : Type 0
MainIsInstance =
    (gives : Giving) (d : Document) (flow : Flow)
    → named d.main d.flows ≡ Some flow
    → IsInstance gives d.flows (meaning gives d) [] 7 flow d.inputs

-- the instance that a job opens: that of the first flow that its step nests, on the job's inputs; its step is the one of
-- its name in the flow of its own instance
pub record OpenedPart (gives : Giving) (d : Document) (j : Job) (g : Name) : Type 0 where
  pub step : Step
  pub own : OwnPart gives d.flows (meaning gives d) j step
  pub nested_first : first_nested step.activities ≡ Some g
  pub levels : ℕ
  pub flow : Flow
  pub is_flow : named g d.flows ≡ Some flow
  pub part : IsInstance gives d.flows (meaning gives d) j.name levels flow
      (zip_names step.inputs j.inputs)

abbrev pub PartsAreInstances : Type 0
PartsAreInstances =
    (gives : Giving) (d : Document)
    → NestsWithin d.flows nesting_limit d.main
    → (j : Job)
    → IsJob gives d j
    → (g : Name)
    → j.opens ≡ Some g
    → OpenedPart gives d j g
