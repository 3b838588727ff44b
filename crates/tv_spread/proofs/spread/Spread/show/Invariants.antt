use Rattle.std.proofs.Common.{drop, take}
use Rattle.tv_spread.proofs.Showing.{Showing}
use Rattle.tv_spread.proofs.spread.Spread.show.Given as goal

abbrev pub invariant-loop-step : goal.invariant-loop-step
invariant-loop-step l = Showing l.initial.intakes l.intakes l.initial.idle l.idle (take l.step-index l.self.touched.items) (drop l.step-index l.self.touched.items)
