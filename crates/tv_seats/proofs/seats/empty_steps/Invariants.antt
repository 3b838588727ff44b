use Rattle.tv_seats.proofs.Starting.{HasEmptyFront}
use Rattle.tv_seats.proofs.seats.empty_steps.Given as goal

abbrev pub invariant-loop-number : goal.invariant-loop-number
invariant-loop-number l = HasEmptyFront l.number l.widest l.levels l.steps.items
