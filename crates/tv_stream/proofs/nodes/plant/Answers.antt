use Rattle.std.proofs.Common.{arith}
use Rattle.tv_stream.proofs.NodeCalls.{put-plants}
use Rattle.tv_stream.proofs.Counts.{count-put}
use Rattle.tv_stream.proofs.nodes.plant.Goals as goal

pub returns-in-Ok-clause-ok : goal.returns-in-Ok-clause-ok
returns-in-Ok-clause-ok g c =
    let a = c.alone.ensures in
    put-plants c.args.pool.now c.put.new.self c.args.region.now c.in-Ok.node c.alone.result c.requires c.in-Ok.ensures.ok c.in-Ok.ensures.fresh 0 c.args.body (record { number = a.index; links = a.links; nowhere_by = a.alone; body = a.body }) (omega arith) c.in-Ok.ensures.lies

pub returns-in-Ok-clause-count : goal.returns-in-Ok-clause-count
returns-in-Ok-clause-count g c = count-put c.args.pool.now c.put.new.self c.args.region.now c.alone.result c.in-Ok.node c.requires c.in-Ok.ensures.ok
