use Rattle.std.proofs.Common.{◌≡◌, map, take}
use Rattle.tv_flow.specs.Views.{flow_view, step_input_view}
use Rattle.tv_check.specs.Ports.{port_among}
use Rattle.tv_check.proofs.ports.ports_among.Given as goal

abbrev pub invariant-loop-number : goal.invariant-loop-number
invariant-loop-number l = l.ports.items ≡ map (λ x. port_among (flow_view l.flow) (map (λ n. n.now) l.leaves) (x.0, step_input_view x.1)) (take l.number l.inputs)
