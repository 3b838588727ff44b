use Rattle.std.proofs.Common.{◌≡◌, drop}
use Rattle.tv_value.specs.Orders.{named}
use Rattle.tv_value.proofs.sequence.Sequence+tuple2+Name+T.named.Given as goal

abbrev pub invariant-loop-item : goal.invariant-loop-item
invariant-loop-item g l = named l.name l.self ≡ named l.name (drop l.item-index l.item-items)
