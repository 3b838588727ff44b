use Rattle.tv_stream.specs.Trees.{tree_of}
use Rattle.tv_outputs.proofs.Refusals.{closes}
use Rattle.tv_outputs.proofs.one.close_in.Goals as goal

pub unreachable-requires : goal.unreachable-requires
unreachable-requires c = closes c.args.pool.now.spare c.args.tree.now.depth c.args.place.now c.args.length (tree_of c.args.pool.now c.args.tree.now) _ c.requires.short c.requires.can c.requires.room c.in-Err.ensures.refused
