use Rattle.std.proofs.Common.{◌≡◌, drop}
use Rattle.tv_telling.specs.endings.Turns.{first_of_steps_after, may_settle}
use Rattle.tv_telling.proofs.endings.turn.first_of_steps_after.Given as goal

abbrev pub invariant-loop-at : goal.invariant-loop-at
invariant-loop-at l =
    first_of_steps_after (may_settle l.wiring l.endings) l.idle.steps l.step l.place l.order
    ≡ first_of_steps_after (may_settle l.wiring l.endings) l.idle.steps l.step l.place (drop l.at l.order)
