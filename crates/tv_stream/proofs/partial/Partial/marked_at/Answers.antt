use Rattle.std.proofs.Common.{sym, ap, ◌∙◌}
use Rattle.tv_parts.specs.Partials.{known_at, holds_some}
use Rattle.tv_pool.specs.Pool.{region_of, lies_at}
use Rattle.tv_stream.specs.Trees.{memory_of, tree_of}
use Rattle.tv_stream.specs.Stands.{is_marked}
use Rattle.tv_stream.proofs.Looks.{marked-at}
use Rattle.tv_stream.proofs.Ways.{node-of}
use Rattle.tv_stream.proofs.partial.Partial.marked_at.Goals as goal

pub body-requires : goal.body-requires
body-requires g c =
    let a = c.in-Some.ensures in
    (region_of c.args.self.now.root, node-of c.args.pool.now (region_of c.args.self.now.root) a.spots (lies_at c.in-Some.node) a.height a.inside)

pub returns-in-Some : goal.returns-in-Some
returns-in-Some g c =
    let a = c.in-Some.ensures in
    let b = c.body.ensures (region_of c.args.self.now.root) (node-of c.args.pool.now (region_of c.args.self.now.root) a.spots (lies_at c.in-Some.node) a.height a.inside) in
    sym (marked-at (memory_of c.args.pool.now c.args.self.now) (lies_at c.in-Some.node) _ c.body.result.now a b) ∙ ap (λ l. holds_some is_marked (known_at l (tree_of c.args.pool.now c.args.self.now))) c.as_slice.ensures

pub returns-in-None : goal.returns-in-None
returns-in-None g c = sym (ap (λ l. holds_some is_marked (known_at l (tree_of c.args.pool.now c.args.self.now))) (sym c.as_slice.ensures) ∙ ap (holds_some is_marked) c.in-None.ensures)
