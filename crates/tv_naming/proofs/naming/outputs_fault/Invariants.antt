use Rattle.std.proofs.Common.{◌≡◌, map}
use Rattle.std.specs.List.{flat_map}
use Rattle.tv_flow.specs.Views.{flow_view, feed_view}
use Rattle.tv_naming.specs.Naming.{output_complaints}
use Rattle.tv_naming.specs.Faulty.{first_of}
use Rattle.tv_naming.proofs.Firsts.{from}
use Rattle.tv_naming.proofs.naming.outputs_fault.Given as goal

abbrev pub invariant-loop-port : goal.invariant-loop-port
invariant-loop-port l = first_of (flat_map (output_complaints l.name (flow_view l.flow)) (map (λ e. (e.0, feed_view e.1)) l.flow.outputs)) ≡ from (output_complaints l.name (flow_view l.flow)) (λ e. (e.0, feed_view e.1)) l.port-index l.port-items
