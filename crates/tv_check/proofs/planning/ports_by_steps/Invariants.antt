use Rattle.std.proofs.Common.{◌≡◌, map, take}
use Rattle.tv_flow.specs.Views.{flow_view}
use Rattle.tv_check.specs.Ports.{ports_of}
use Rattle.tv_check.proofs.planning.ports_by_steps.Given as goal

abbrev pub invariant-loop-number : goal.invariant-loop-number
invariant-loop-number l = l.ports.items ≡ map (λ s. ports_of (flow_view l.flow) s.1) (take l.number (flow_view l.flow).steps)
