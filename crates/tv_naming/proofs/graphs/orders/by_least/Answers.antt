use Rattle.std.proofs.Common.{◌∙◌, ◌∷◌, ◌++◌, ap, sym, length, arith}
use Rattle.tv_naming.specs.graphs.Graphs.{taken_by_least}
use Rattle.tv_naming.specs.graphs.Untaken.{is_taken}
use Rattle.tv_naming.proofs.Taking.{by_least-end, by_least-more, is_given-more}
use Rattle.tv_naming.proofs.graphs.orders.by_least.Goals as goal

pub returns-in_default : goal.returns-in_default
returns-in_default c =
    let rest = c.loop.invariant.rest in
    by_least-end c.args.graph.now rest.1 (is_taken c.loop.untaken) rest.3 c.loop.order.items rest.0 c.in_ok-vertex.field-0 rest.4 c.in_ok-vertex.ensures.value c.in_default.is

pub loop-preserved : goal.loop-preserved
loop-preserved c =
    let rest = c.loop.invariant.rest in
    let more = by_least-more c.args.graph.now rest.1 (is_taken c.loop.untaken) rest.3 c.loop.order.items c.loop.counter (length c.args.graph.now) c.in-Some.vertex c.in_ok-vertex.field-0 rest.0 rest.2 (omega (arith, c.len-end.ensures.count)) rest.4 c.in_ok-vertex.ensures.value c.in-Some.is in
    record {
      places = c.in_ok-vertex.ensures.places;
      table = c.in_ok-vertex.ensures.table;
      rest = (more.0, c.in-Some.vertex ∷ rest.1, more.1, λ u. c.in_ok-vertex.ensures.taken u ∙ is_given-more _ _ u _ _ c.in-Some.is (rest.3 u), more.2 ∙ ap (λ xs. xs ++ taken_by_least c.args.graph.now more.0 (c.in-Some.vertex ∷ rest.1)) (sym c.in_ok-push.ensures.items));
    }
