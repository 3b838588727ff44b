-- The flow that a job opens, as a frame of it starts.
use Rattle.std.specs.Prelude.{◌≡◌, Some, [], map}
use Rattle.tv_value.specs.Orders.{named}
use Rattle.tv_value.specs.Values.{Name}
use Rattle.tv_flow.specs.Flows.{Document, Flow}
use Rattle.tv_strategy.specs.Origins.{plain}
use Rattle.tv_model.specs.Agreeing.{FlowAgrees}
use Rattle.tv_model.specs.Jobs.{Job}
use Rattle.tv_model.specs.RightDepths.{HaveTheseDepths}
use Rattle.tv_framing.specs.Views.{View}
use Rattle.tv_forest.specs.views.InRun.{IsOfJob}

-- a view of it, told nothing
pub record IsOpenedBy (d : Document) (j : Job) (v : View) : Type 0 where
  pub of_job : IsOfJob d j v
  pub untold : v.events ≡ []

-- the flow agrees in its depths, and what the job binds has the depths of the flow's inputs
pub record CanBeOpened (d : Document) (j : Job) (g : Name) : Type 0 where
  pub flow : Flow
  pub is_flow : named g d.flows ≡ Some flow
  pub agrees : FlowAgrees d.flows flow
  pub right : HaveTheseDepths (map (λ x. x.1) flow.inputs) (map plain j.inputs)
