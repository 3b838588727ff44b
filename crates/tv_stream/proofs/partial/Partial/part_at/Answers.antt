use Rattle.std.proofs.Common.{sym, ap, ◌∙◌}
use Rattle.tv_parts.specs.Partials.{known_at}
use Rattle.tv_pool.specs.Pool.{region_of, lies_at}
use Rattle.tv_stream.specs.Trees.{memory_of, tree_of}
use Rattle.tv_stream.specs.Answers.{item_of}
use Rattle.tv_stream.proofs.Looks.{item-at, no-item-at}
use Rattle.tv_stream.proofs.Ways.{node-of}
use Rattle.tv_stream.proofs.partial.Partial.part_at.Goals as goal

pub returns-in-Item : goal.returns-in-Item
returns-in-Item g c =
    let a = c.in_ok-node.ensures in
    let b = c.body.ensures (region_of c.args.self.now.root) (node-of c.args.pool.now (region_of c.args.self.now.root) a.spots (lies_at c.in_ok-node.node) a.height a.inside) in
    ap (λ l. item_of (known_at l (tree_of c.args.pool.now c.args.self.now))) (sym c.as_slice.ensures) ∙ item-at (memory_of c.args.pool.now c.args.self.now) (lies_at c.in_ok-node.node) (known_at c.as_slice.result.now (tree_of c.args.pool.now c.args.self.now)) c.body.result.now c.in-Item.item a b c.in-Item.is

pub returns-in_default : goal.returns-in_default
returns-in_default g c =
    let a = c.in_ok-node.ensures in
    let b = c.body.ensures (region_of c.args.self.now.root) (node-of c.args.pool.now (region_of c.args.self.now.root) a.spots (lies_at c.in_ok-node.node) a.height a.inside) in
    ap (λ l. item_of (known_at l (tree_of c.args.pool.now c.args.self.now))) (sym c.as_slice.ensures) ∙ no-item-at (memory_of c.args.pool.now c.args.self.now) (lies_at c.in_ok-node.node) (known_at c.as_slice.result.now (tree_of c.args.pool.now c.args.self.now)) c.body.result.now a b c.in_default.not-Item
