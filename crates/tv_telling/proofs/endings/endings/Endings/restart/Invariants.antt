use Rattle.std.proofs.Common.{◌≡◌, length, map, take}
use Rattle.tv_telling.proofs.endings.endings.Endings.restart.Given as goal

abbrev pub invariant-loop-numbers : goal.invariant-loop-numbers
invariant-loop-numbers l = l.self.left.items ≡ map length (take l.numbers-index l.after)
