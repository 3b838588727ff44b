use Rattle.std.proofs.Common.{sym, ◌∙◌}
use Rattle.tv_pool.specs.Pool.{item_in, lies_at}
use Rattle.tv_stream.proofs.Looks.{kind-at}
use Rattle.tv_stream.proofs.Ways.{node-of}
use Rattle.tv_stream.proofs.look.Look.kind.Goals as goal

pub body-requires : goal.body-requires
body-requires t c =
    let r = c.requires in
    let a = r.1.1 in
    (r.1.0, node-of c.args.self.now.pool.now r.1.0 a.spots (lies_at c.args.self.now.node) a.height a.inside)

pub returns : goal.returns
returns t c r shows =
    let pool = c.args.self.now.pool.now in
    let s = lies_at c.args.self.now.node in
    let a = shows.1 in
    c.kind.ensures ∙ sym (kind-at (item_in pool shows.0) s r c.body.result.now a (c.body.ensures shows.0 (node-of pool shows.0 a.spots s a.height a.inside)))
