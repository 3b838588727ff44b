use Rattle.std.specs.List.{range_with_len}
use Rattle.std.specs.Prelude.{◌≡◌, map}
use Rattle.tv_flow.specs.Views.{flow_view}
use Rattle.tv_frame.specs.Tables.{first_tree}
use Rattle.tv_frame.proofs.tables.first_trees.Given as goal

abbrev pub invariant-loop-step : goal.invariant-loop-step
invariant-loop-step l =
    (l.firsts.items ≡ map (first_tree (flow_view l.plan.flow).steps) (range_with_len 0 l.step)) × (l.next ≡ first_tree (flow_view l.plan.flow).steps l.step)
