use Rattle.std.proofs.Common.{◌≡◌, ◌++◌, take}
use Rattle.tv_telling.specs.endings.Ends.{is_whole}
use Rattle.tv_spread.specs.Arounds.{delivers_fault}
use Rattle.tv_spread.specs.Wholes.{wholes_with}
use Rattle.tv_spread.proofs.around.push_wholes.Given as goal

abbrev pub invariant-loop-port : goal.invariant-loop-port
invariant-loop-port l = l.whole.items ≡ l.initial.whole.items ++ wholes_with (is_whole l.around.endings.now) l.step (delivers_fault l.around l.step l.event) (take l.port-index l.ports)
