use Rattle.tv_instances.proofs.Faulty.{NoneFaultyYet}
use Rattle.tv_instances.proofs.open.Open.first_to_bounce.Given as goal

abbrev pub invariant-loop-step : goal.invariant-loop-step
invariant-loop-step l = NoneFaultyYet l.plan l.pool l.self l.step-items l.step-index
