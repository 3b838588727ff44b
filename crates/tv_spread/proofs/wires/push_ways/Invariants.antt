use Rattle.std.proofs.Common.{◌≡◌, ◌++◌, map, take}
use Rattle.std.specs.Prelude.{filter}
use Rattle.tv_telling.specs.Along.{is_walked, way_of}
use Rattle.tv_spread.proofs.wires.push_ways.Given as goal

abbrev pub invariant-loop-wire : goal.invariant-loop-wire
invariant-loop-wire l = l.ways.items ≡ l.initial.ways.items ++ map way_of (filter is_walked (take l.wire-index l.wires))
