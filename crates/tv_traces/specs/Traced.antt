-- When levels are those of the run of a document, and when traces are.
use Rattle.std.specs.Prelude.{Bool, true, List, length}
use Rattle.tv_value.specs.Values.{JobName}
use Rattle.tv_flow.specs.Flows.{Document, Flow}
use Rattle.tv_gate.specs.Outcomes.{Giving}
use Rattle.tv_lineage.specs.Kept.{records_of}
use Rattle.tv_lineage.specs.Members.{HaveSame}
use Rattle.tv_strategy.specs.Origins.{Origin}
use Rattle.tv_model.specs.Meanings.{meaning}
use Rattle.tv_model.specs.records.Recorded.{main_records}
use Rattle.tv_frame.specs.Levels.{AreLevels, Level}
use Rattle.tv_frame.specs.MainSteps.{main_steps}
use Rattle.tv_traces.specs.Seen.{AreKnownBy, Spot}
use Rattle.tv_traces.specs.Settled.{records_of_settled}
use Rattle.tv_traces.specs.Staged.{steps_until}
use Rattle.tv_forest.specs.runs.Stated.{IsMainFlow}
use Rattle.tv_traces.specs.Standing.{AreShapesOf}
use Rattle.tv_traces.specs.Views.{shapes_view}
use Rattle.tv_traces.specs.declared.traces.Traces.{Traces}

-- the document is accepted, this is its main flow, and these are the levels of its main instance
pub record IsTraced (gives : Giving) (d : Document) (flow : Flow)
    (levels : List Level) : Type 0 where
  pub flow_is : IsMainFlow d flow
  pub levels_are : AreLevels flow (main_steps (meaning gives d)) levels

-- these are its levels and settled jobs so far: the nodes are known that `known` tells
pub record IsTracedSoFar (known : Origin → Bool) (settled : JobName → Bool) (gives : Giving)
    (d : Document) (flow : Flow) (levels : List Level) (jobs : List Spot) : Type 0 where
  pub flow_is : IsMainFlow d flow
  pub known_are : AreKnownBy known settled flow (main_steps (meaning gives d)) levels jobs

-- what is kept of what is known of its main instance: the records of its settled jobs, and the shapes of its steps' iterations
pub record AreTracesBy (known : Origin → Bool) (settled : JobName → Bool) (gives : Giving)
    (d : Document) (flow : Flow) (t : Traces) : Type 0 where
  pub flow_is : IsMainFlow d flow
  pub records : HaveSame (records_of t.records) (records_of_settled settled (meaning gives d))
  pub shapes : AreShapesOf known flow (steps_until gives d flow (length flow.steps))
      (shapes_view t.shapes.items)

-- of all of it, where all jobs are settled
pub record AreTraces (gives : Giving) (d : Document) (flow : Flow) (t : Traces) : Type 0 where
  pub flow_is : IsMainFlow d flow
  pub records : HaveSame (records_of t.records) (main_records (meaning gives d))
  pub shapes : AreShapesOf (λ o. true) flow (steps_until gives d flow (length flow.steps))
      (shapes_view t.shapes.items)
