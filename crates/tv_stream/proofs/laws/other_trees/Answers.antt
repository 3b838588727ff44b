use Rattle.tv_stream.proofs.Others.{stays-grown, stays-started, stays-elsewhere, stays-released}
use Rattle.tv_stream.proofs.laws.other_trees.Goals as goal

pub returns : goal.returns
returns g c = record { grown = stays-grown; started = stays-started; elsewhere = stays-elsewhere; released = stays-released }
