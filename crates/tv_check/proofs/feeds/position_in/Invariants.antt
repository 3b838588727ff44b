use Rattle.std.proofs.Common.{◌≡◌, ◌+◌, drop}
use Rattle.tv_naming.specs.Numbers.{position}
use Rattle.tv_check.proofs.feeds.position_in.Given as goal

abbrev pub invariant-loop-number : goal.invariant-loop-number
invariant-loop-number g l = position l.name l.entries ≡ l.number + position l.name (drop l.number l.entries)
