use Rattle.std.specs.Prelude.{◌≡◌, map, take}
use Rattle.tv_check.specs.declared.plans.StepPlan.{StepPlan}
use Rattle.tv_frame.proofs.tables.levels_of.Given as goal

abbrev pub invariant-loop-step : goal.invariant-loop-step
invariant-loop-step l = l.levels.items ≡ map (λ (q : StepPlan). q.depth) (take l.step-index l.steps)
