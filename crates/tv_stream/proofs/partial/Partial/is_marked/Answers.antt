use Rattle.std.proofs.Common.{◌∙◌, sym}
use Rattle.tv_pool.specs.Pool.{region_of, lies_at}
use Rattle.tv_stream.specs.Trees.{memory_of, tree_of}
use Rattle.tv_stream.proofs.Looks.{root-at, marked-at}
use Rattle.tv_stream.proofs.Ways.{node-of}
use Rattle.tv_stream.proofs.partial.Partial.is_marked.Goals as goal

pub body-requires : goal.body-requires
body-requires g c =
    let n = c.requires.stands in
    let a = root-at c.args.pool.now c.args.self.now n.0 c.link.result.slot c.link.ensures n.1 in
    (region_of c.args.self.now.root, node-of c.args.pool.now (region_of c.args.self.now.root) a.spots c.link.result.slot a.height a.inside)

pub returns : goal.returns
returns g c =
    let n = c.requires.stands in
    let a = root-at c.args.pool.now c.args.self.now n.0 c.link.result.slot c.link.ensures n.1 in
    let b = c.body.ensures (region_of c.args.self.now.root) (node-of c.args.pool.now (region_of c.args.self.now.root) a.spots c.link.result.slot a.height a.inside) in
    sym (marked-at (memory_of c.args.pool.now c.args.self.now) (lies_at c.link.result) (tree_of c.args.pool.now c.args.self.now) c.body.result.now a b)
