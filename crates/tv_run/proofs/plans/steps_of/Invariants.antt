use Rattle.tv_flow.specs.Flows.{Document}
use Rattle.tv_run.specs.Looks.{AreFlowsOf}
use Rattle.tv_run.proofs.Looking.{AreStepsSoFar}
use Rattle.tv_run.proofs.plans.steps_of.Given as goal

abbrev pub invariant-loop-step : goal.invariant-loop-step
invariant-loop-step l =
    (d : Document) → AreFlowsOf d l.flows → AreStepsSoFar d l.steps l.looks.items l.step-index
