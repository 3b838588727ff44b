use Rattle.std.proofs.Common.{◌≡◌, take}
use Rattle.std.specs.Prelude.{filter}
use Rattle.tv_telling.specs.Along.{is_walked}
use Rattle.tv_spread.proofs.wires.walked_among.Given as goal

abbrev pub invariant-loop-wire : goal.invariant-loop-wire
invariant-loop-wire l = l.row.items ≡ filter is_walked (take l.wire-index l.wires)
