use Rattle.std.proofs.Common.{◌≡◌, [], drop, take}
use Rattle.tv_traces.specs.Shapes.{reached}
use Rattle.tv_traces.specs.Views.{node_view}
use Rattle.tv_traces.proofs.feeds.way_to.Given as goal

abbrev pub invariant-loop-taken : goal.invariant-loop-taken
invariant-loop-taken l = reached [] (node_view l.node) l.place ≡ reached (take l.taken l.place) (node_view l.here) (drop l.taken l.place)
