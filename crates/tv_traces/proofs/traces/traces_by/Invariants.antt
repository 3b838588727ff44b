use Rattle.std.proofs.Common.{◌≡◌, length}
use Rattle.std.specs.Prelude.{Bool}
use Rattle.tv_value.specs.Values.{JobName}
use Rattle.tv_gate.specs.Outcomes.{Giving}
use Rattle.tv_flow.specs.Flows.{Document}
use Rattle.tv_flow.specs.Views.{flow_view}
use Rattle.tv_strategy.specs.Origins.{Origin}
use Rattle.tv_model.specs.Meanings.{meaning}
use Rattle.tv_frame.specs.MainSteps.{main_steps}
use Rattle.tv_traces.specs.Grouped.{AllAreGrouped}
use Rattle.tv_traces.specs.Seen.{AreSeen}
use Rattle.tv_traces.specs.Staged.{IsStage}
use Rattle.tv_forest.specs.runs.Stated.{IsMainFlow}
use Rattle.tv_traces.specs.Sights.{done_in, what_in}
use Rattle.tv_traces.specs.Views.{shapes_view}
use Rattle.tv_traces.proofs.traces.traces_by.Given as goal

abbrev pub invariant-loop-rank : goal.invariant-loop-rank
invariant-loop-rank l = record {
  many : length l.shapes.items ≡ length l.plan.steps;
  grouped : AllAreGrouped (flow_view l.plan.flow) l.records.groups (shapes_view l.shapes.items);
  stage :
      (known : Origin → Bool) (settled : JobName → Bool) (gives : Giving) (d : Document) → IsMainFlow d (flow_view l.plan.flow)
      → AreSeen known settled (flow_view l.plan.flow) (main_steps (meaning gives d)) (what_in l.sight) (done_in l.sight)
      → IsStage gives d (flow_view l.plan.flow) known settled l.rank l.records (shapes_view l.shapes.items);
}
