use Rattle.std.proofs.Common.{◌≡◌, map, take}
use Rattle.tv_naming.specs.Numbers.{position}
use Rattle.tv_check.proofs.wiring.after_by_steps.Given as goal

abbrev pub invariant-loop-step : goal.invariant-loop-step
invariant-loop-step l = l.after.items ≡ map (λ s. map (λ n. position n l.steps) s.1.after) (take l.step-index l.step-items)
