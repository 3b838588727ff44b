use Rattle.tv_stream.proofs.nodes.body.Goals as goal

pub at-requires : goal.at-requires
at-requires g c =
    let n = c.requires.1 in
    let e = n.nodes.entries c.args.node.slot n.spot n.known in
    record { number = c.requires.0; item = e.entry; lies = e.lies }
