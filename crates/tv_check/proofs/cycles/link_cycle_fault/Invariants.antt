use Rattle.std.proofs.Common.{◌≡◌, drop}
use Rattle.std.specs.Prelude.{flat_map}
use Rattle.tv_flow.specs.Views.{flow_view}
use Rattle.tv_check.specs.Cycles.{flow_link_cycles}
use Rattle.tv_naming.specs.Faulty.{first_of}
use Rattle.tv_check.proofs.cycles.link_cycle_fault.Given as goal

abbrev pub invariant-loop-flow : goal.invariant-loop-flow
invariant-loop-flow l = first_of (flat_map (λ f. flow_link_cycles f.0 (flow_view f.1)) l.flow-items) ≡ first_of (flat_map (λ f. flow_link_cycles f.0 (flow_view f.1)) (drop l.flow-index l.flow-items))
