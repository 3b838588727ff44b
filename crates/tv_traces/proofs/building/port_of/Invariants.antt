use Rattle.std.proofs.Common.{◌≡◌, None, take}
use Rattle.std.specs.Prelude.{find, ◌==◌}
use Rattle.tv_check.specs.declared.ports.Port.{Port}
use Rattle.tv_traces.proofs.building.port_of.Given as goal

abbrev pub invariant-loop-port : goal.invariant-loop-port
invariant-loop-port l = find (λ (p : Port). p.leaf == l.leaf) (take l.port-index l.ports) ≡ None
