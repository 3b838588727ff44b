use Rattle.tv_pool.specs.Pool.{region_of}
use Rattle.tv_stream.proofs.Looks.{root-at}
use Rattle.tv_stream.proofs.partial.Partial.look.Goals as goal

pub returns : goal.returns
returns t c =
    let n = c.requires.stands in
    (region_of c.args.self.now.root, root-at c.args.pool.now c.args.self.now n.0 c.link.result.slot c.link.ensures n.1)
