use Rattle.std.proofs.Common.{◌≡◌, ◌∷◌, false, length, get_or, arith}
use Rattle.tv_naming.proofs.Gathers.{latest-next, popped-next, popped-all, popped-below, popped-visited, found-within, found-all}
use Rattle.tv_naming.proofs.graphs.cyclic.cyclic.Goals as goal

pub visit-requires-clause-vertex : goal.visit-requires-clause-vertex
visit-requires-clause-vertex c =
    popped-below c.args.graph.now c.in_ok-left.left.items c.loop-vertex.left.items c.pop.new.self.items c.loop-vertex.invariant.rest.0 c.in-Some.vertex c.in_ok-left.ensures c.loop-vertex.invariant.rest.1 c.in-Some.ensures.items

pub visit-requires-clause-latest : goal.visit-requires-clause-latest
visit-requires-clause-latest c =
    latest-next c.args.graph.now c.in_ok-left.left.items c.pop.new.self.items c.loop-vertex.invariant.rest.0 (λ u. get_or c.loop-vertex.visited.items u false) c.in-Some.vertex c.len.ensures.graph c.in_ok-left.ensures
    (popped-next c.in_ok-left.left.items c.loop-vertex.left.items c.pop.new.self.items c.loop-vertex.invariant.rest.0 c.in-Some.vertex c.loop-vertex.invariant.rest.1 c.in-Some.ensures.items) c.loop-vertex.invariant.rest.2

pub loop-vertex-preserved : goal.loop-vertex-preserved
loop-vertex-preserved c = record {
  count = c.in_ok-visit.ensures.count;
  visited = c.in_ok-visit.ensures.visited;
  rest = (
    c.in-Some.vertex ∷ c.loop-vertex.invariant.rest.0,
    popped-next c.in_ok-left.left.items c.loop-vertex.left.items c.pop.new.self.items c.loop-vertex.invariant.rest.0 c.in-Some.vertex c.loop-vertex.invariant.rest.1 c.in-Some.ensures.items,
    popped-visited c.loop-vertex.invariant.rest.0 c.in-Some.vertex (λ u. get_or c.loop-vertex.visited.items u false) (λ u. get_or c.visit.new.visited.items u false) c.loop-vertex.invariant.rest.2 c.in_ok-visit.ensures.kept c.in_ok-visit.ensures.itself,
  );
}

pub returns-clause-within : goal.returns-clause-within
returns-clause-within c =
    found-within c.args.graph.now c.len.ensures.graph (λ u. get_or c.loop-vertex.visited.items u false) c.loop-vertex.found.items c.loop-vertex.invariant.visited

pub returns-clause-are : goal.returns-clause-are
returns-clause-are c u below =
    let is_empty : length c.loop-vertex.left.items ≡ 0 = omega (arith, c.in_default.ensures.cases.0, c.loop-vertex.left.ok.0) in
    found-all c.args.graph.now c.len.ensures.graph (λ u. get_or c.loop-vertex.visited.items u false) c.loop-vertex.found.items c.loop-vertex.invariant.visited u
    (c.loop-vertex.invariant.rest.2 u (popped-all c.args.graph.now c.in_ok-left.left.items c.loop-vertex.left.items c.loop-vertex.invariant.rest.0 c.in_ok-left.ensures c.loop-vertex.invariant.rest.1 is_empty u below))
