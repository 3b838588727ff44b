use Rattle.tv_stream.specs.Trees.{tree_of}
use Rattle.tv_outputs.proofs.Refusals.{arrives}
use Rattle.tv_outputs.proofs.one.arrive_in.Goals as goal

pub unreachable-requires : goal.unreachable-requires
unreachable-requires c = arrives c.args.pool.now.spare c.args.tree.now.depth c.args.place.now c.args.piece (tree_of c.args.pool.now c.args.tree.now) _ c.requires.short c.requires.can c.requires.room c.in-Err.ensures.refused
