use Rattle.std.proofs.Common.{◌≡◌, map, take, None, not}
use Rattle.std.specs.Prelude.{◌==◌}
use Rattle.std.specs.List.{find}
use Rattle.tv_flow.specs.Views.{flow_view, link_view}
use Rattle.tv_model.specs.instance.CheckedDepths.{link_depth}
use Rattle.tv_check.specs.Tables.{known_steps}
use Rattle.tv_check.proofs.delivered.same_depths.Given as goal

-- the links so far deliver the first depth
abbrev pub invariant-loop-link : goal.invariant-loop-link
invariant-loop-link l =
    find (λ e. not (e == l.first)) (take l.link-index (map (link_depth (flow_view l.flow).inputs (known_steps (flow_view l.flow).steps l.levels)) (map link_view l.links))) ≡ None
