use Rattle.std.proofs.Common.{[]}
use Rattle.tv_pool.specs.Pool.{item_in, lies_at}
use Rattle.tv_stream.proofs.Looks.{walk-none, walk-part}
use Rattle.tv_stream.proofs.Ways.{node-of}
use Rattle.tv_stream.proofs.look.Look.part.Goals as goal

pub seek-requires : goal.seek-requires
seek-requires t c =
    let r = c.requires in
    let a = r.1.1 in
    (r.1.0, node-of c.args.self.now.pool.now r.1.0 a.spots (lies_at c.args.self.now.node) a.height a.inside)

pub returns-in-Found : goal.returns-in-Found
returns-in-Found t c r shows =
    let pool = c.args.self.now.pool.now in
    let s = lies_at c.args.self.now.node in
    let a = shows.1 in
    (shows.0, walk-part (item_in pool shows.0) s c.args.index (lies_at c.in-Found.node) [] r a (c.in-Found.ensures shows.0 (node-of pool shows.0 a.spots s a.height a.inside)))

pub returns-in-Free : goal.returns-in-Free
returns-in-Free t c r shows =
    let pool = c.args.self.now.pool.now in
    let s = lies_at c.args.self.now.node in
    let a = shows.1 in
    walk-none (item_in pool shows.0) s c.args.index r a (c.in-Free.ensures shows.0 (node-of pool shows.0 a.spots s a.height a.inside)).0
