use Rattle.tv_check.specs.RunViews.{run_view}
use Rattle.tv_run.proofs.Looking.{AreFlowsSoFar}
use Rattle.tv_run.proofs.plans.looks_of.Given as goal

abbrev pub invariant-loop-number : goal.invariant-loop-number
invariant-loop-number l = AreFlowsSoFar (run_view l.run) l.looks.items l.number
