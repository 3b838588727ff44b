use Rattle.tv_check.proofs.Places.{IsFilled}
use Rattle.tv_check.proofs.cycles.places.Given as goal

abbrev pub invariant-loop-place : goal.invariant-loop-place
invariant-loop-place l = IsFilled l.list l.count l.place l.places.items
