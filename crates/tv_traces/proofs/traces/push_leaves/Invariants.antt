use Rattle.std.proofs.Common.{◌≡◌, ◌++◌, map, take}
use Rattle.tv_flow.specs.Views.{flow_view}
use Rattle.tv_lineage.specs.Views.{leaf_view}
use Rattle.tv_traces.specs.Feeds.{feed_marks}
use Rattle.tv_traces.specs.Views.{shapes_view}
use Rattle.tv_traces.proofs.traces.push_leaves.Given as goal

abbrev pub invariant-loop-place : goal.invariant-loop-place
invariant-loop-place l = map leaf_view l.leaves.items ≡ map leaf_view l.fn.leaves.items ++ map (λ q. record { port = l.port; place = q; used = feed_marks (flow_view l.shown.flow.now) (shapes_view l.shown.shapes.now) l.feed q }) (take l.place-index l.places)
