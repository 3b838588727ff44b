use Rattle.std.proofs.Common.{◌≡◌, true, ltb, take, length}
use Rattle.std.specs.List.{list_all}
use Rattle.tv_naming.proofs.graphs.graph.is_graph.Given as goal

abbrev pub invariant-loop-list : goal.invariant-loop-list
invariant-loop-list l = list_all (λ vs. list_all (λ u. ltb u (length l.before)) vs.items) (take l.list-index l.before) ≡ true
