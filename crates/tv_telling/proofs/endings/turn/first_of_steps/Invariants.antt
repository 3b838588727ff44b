use Rattle.std.proofs.Common.{◌≡◌, drop}
use Rattle.tv_telling.specs.endings.Turns.{first_of_steps, may_settle}
use Rattle.tv_telling.proofs.endings.turn.first_of_steps.Given as goal

abbrev pub invariant-loop-step : goal.invariant-loop-step
invariant-loop-step l =
    first_of_steps (may_settle l.wiring l.endings) l.idle.steps l.steps
    ≡ first_of_steps (may_settle l.wiring l.endings) l.idle.steps (drop l.step-index l.steps)
