use Rattle.tv_flow.specs.Flows.{Document}
use Rattle.tv_check.specs.declared.plans.FlowPlan.{FlowPlan}
use Rattle.tv_outputs.specs.Known.{Nodes}
use Rattle.tv_frame.specs.FramingViews.{View}
use Rattle.tv_instances.specs.Quiet.{AreQuiet}
use Rattle.tv_instances.specs.Standing.{IsOpen}
use Rattle.tv_instances.proofs.open.Open.first_going.Given as goal

abbrev pub invariant-loop-position : goal.invariant-loop-position
invariant-loop-position l =
    (d : Document) (plan : FlowPlan) (pool : Nodes) (v : View) → IsOpen d plan pool l.self v
    → AreQuiet v l.self.seats.seats l.self.turns.positions.items l.position
