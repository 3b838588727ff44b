use Rattle.std.proofs.Common.{length}
use Rattle.tv_spread.proofs.Holding.{Telling}
use Rattle.tv_spread.proofs.spread.Spread.tell_all.Given as goal

abbrev pub invariant-loop-first : goal.invariant-loop-first
invariant-loop-first l = Telling l.around l.step l.event l.fn.intakes l.intakes l.self.touched.items l.rest

abbrev pub decreases-loop-first : goal.decreases-loop-first
decreases-loop-first l = length l.rest
