use Rattle.std.proofs.Common.{◌≡◌, map, take}
use Rattle.std.specs.Prelude.{filter}
use Rattle.tv_telling.specs.Along.{is_walked}
use Rattle.tv_spread.proofs.wires.walked_wires.Given as goal

abbrev pub invariant-loop-step : goal.invariant-loop-step
invariant-loop-step l = map (λ row. row.items) l.rows.items ≡ map (filter is_walked) (take l.step l.wiring.wires)
