use Rattle.tv_stream.proofs.Bodies.{sets, keeps-linked}
use Rattle.tv_stream.proofs.Counts.{count-linked}
use Rattle.tv_stream.proofs.nodes.set_body.Goals as goal

pub at_mut-requires : goal.at_mut-requires
at_mut-requires g c =
    let n = c.requires.1 in
    let e = n.nodes.entries c.args.node.slot n.spot n.known in
    record { number = c.requires.0; item = e.entry; lies = e.lies }

pub returns-clause-sets : goal.returns-clause-sets
returns-clause-sets g c number n =
    let e = n.nodes.entries c.args.node.slot n.spot n.known in
    sets c.args.pool.now number c.args.node e.entry e.lies c.at_mut.result.now (c.at_mut.ensures.value number e.entry e.lies) c.args.body

pub returns-clause-count : goal.returns-clause-count
returns-clause-count g c number = count-linked c.args.pool.now c.args.node (record { index = c.at_mut.result.now.index; links = c.at_mut.result.now.links; body = c.args.body }) number

pub returns-clause-kept : goal.returns-clause-kept
returns-clause-kept g c number n =
    let e = n.nodes.entries c.args.node.slot n.spot n.known in
    keeps-linked c.args.pool.now c.args.node _ e.entry number e.lies c.at_mut.ensures.alone
