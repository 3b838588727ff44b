use Rattle.std.proofs.Common.{◌<◌, ◌∙◌, arith}
use Rattle.tv_pool.specs.Pool.{item_in, number_of}
use Rattle.tv_stream.proofs.Bodies.{keeps-linked}
use Rattle.tv_stream.proofs.Counts.{count-put, count-linked}
use Rattle.tv_stream.proofs.NodeCalls.{part-free, still-linked, put-hangs, keeps-put, keeps-both}
use Rattle.tv_stream.proofs.nodes.hang.Goals as goal

pub at_mut-requires : goal.at_mut-requires
at_mut-requires g c =
    let n = c.requires.gap.1 in
    let gap = c.requires.gap.2 in
    let l = still-linked c.args.pool.now c.put.new.self c.args.region.now c.in-Ok.node c.alone.result c.requires.live c.in-Ok.ensures.ok c.in-Ok.ensures.fresh n.spots n.nodes c.requires.gap.0 n.spot c.args.gap.index c.args.gap.at.slot c.args.gap.by gap.fits n.known gap.ends in
    record { number = number_of c.args.region.now; item = l.0; lies = l.1 }

pub bounds-at_mut-gap : goal.bounds-at_mut-gap
bounds-at_mut-gap g c =
    let n = c.requires.gap.1 in
    let gap = c.requires.gap.2 in
    (part-free (item_in c.args.pool.now (number_of c.args.region.now)) n.spots n.nodes c.requires.gap.0 n.spot c.args.gap.index c.args.gap.at.slot c.args.gap.by gap.fits n.known gap.ends).way.bound

pub offset_bounds-at_mut-gap : goal.offset_bounds-at_mut-gap
offset_bounds-at_mut-gap g c =
    let n = c.requires.gap.1 in
    let gap = c.requires.gap.2 in
    let b : c.args.gap.by < 5 = (part-free (item_in c.args.pool.now (number_of c.args.region.now)) n.spots n.nodes c.requires.gap.0 n.spot c.args.gap.index c.args.gap.at.slot c.args.gap.by gap.fits n.known gap.ends).way.bound in
    omega arith

pub returns-clause-hangs : goal.returns-clause-hangs
returns-clause-hangs g c s spots p gap nodes known =
    let a = c.alone.ensures in
    put-hangs c.args.pool.now c.put.new.self c.args.region.now c.in-Ok.node c.alone.result c.requires.live c.in-Ok.ensures.ok c.in-Ok.ensures.fresh c.args.gap.at c.link-link.result c.args.gap.by c.args.gap.index c.args.body (record { number = a.index; links = a.links; nowhere_by = a.alone; body = a.body }) gap.fits c.in-Ok.ensures.lies c.link-link.ensures c.at_mut.result.now (λ item. c.at_mut.ensures.value _ item) spots nodes s p known gap.ends

pub returns-clause-count : goal.returns-clause-count
returns-clause-count g c =
    count-linked c.put.new.self c.args.gap.at (record { index = c.at_mut.result.now.index; links = _; body = c.at_mut.result.now.body }) (number_of c.args.region.now)
    ∙ count-put c.args.pool.now c.put.new.self c.args.region.now c.alone.result c.in-Ok.node c.requires.live c.in-Ok.ensures.ok

pub returns-clause-kept : goal.returns-clause-kept
returns-clause-kept g c =
    let n = c.requires.gap.1 in
    let gap = c.requires.gap.2 in
    let l = still-linked c.args.pool.now c.put.new.self c.args.region.now c.in-Ok.node c.alone.result c.requires.live c.in-Ok.ensures.ok c.in-Ok.ensures.fresh n.spots n.nodes c.requires.gap.0 n.spot c.args.gap.index c.args.gap.at.slot c.args.gap.by gap.fits n.known gap.ends in
    keeps-both c.args.pool.now c.put.new.self _ (number_of c.args.region.now) (keeps-put c.args.pool.now c.put.new.self c.args.region.now c.in-Ok.node c.alone.result c.requires.live c.in-Ok.ensures.ok c.in-Ok.ensures.fresh c.in-Ok.ensures.kept.live) (keeps-linked c.put.new.self c.args.gap.at _ l.0 (number_of c.args.region.now) l.1 c.at_mut.ensures.alone)
