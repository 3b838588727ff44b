use Rattle.std.specs.Prelude.{◌≡◌, flat_map, replicate, take}
use Rattle.tv_flow.specs.Views.{flow_view}
use Rattle.tv_frame.specs.Tables.{trees_of}
use Rattle.tv_check.specs.Tables.{step_level}
use Rattle.tv_frame.proofs.tables.tree_depths.Given as goal

abbrev pub invariant-loop-number : goal.invariant-loop-number
invariant-loop-number l =
    l.depths.items ≡ flat_map (λ s. replicate (trees_of s) (step_level (flow_view l.plan.flow) s.1)) (take l.number (flow_view l.plan.flow).steps)
