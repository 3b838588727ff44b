use Rattle.std.proofs.Common.{◌≡◌}
use Rattle.std.specs.List.{flat_map}
use Rattle.tv_flow.specs.Views.{flow_view}
use Rattle.tv_naming.specs.Naming.{after_complaints, numbered}
use Rattle.tv_naming.specs.Faulty.{first_of}
use Rattle.tv_naming.proofs.Firsts.{from_numbered}
use Rattle.tv_naming.proofs.naming.after_fault.Given as goal

abbrev pub invariant-loop-position : goal.invariant-loop-position
invariant-loop-position l = first_of (flat_map (after_complaints l.name (flow_view l.flow) l.step_name) (numbered 0 l.after)) ≡ from_numbered (after_complaints l.name (flow_view l.flow) l.step_name) (λ n. n) l.position l.earlier-items
