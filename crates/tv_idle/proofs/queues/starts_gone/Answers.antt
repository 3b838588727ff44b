use Rattle.std.proofs.Common.{length}
use Rattle.tv_idle.proofs.Listing.{first-below}
use Rattle.tv_idle.proofs.queues.starts_gone.Goals as goal

pub bounds-gone-number : goal.bounds-gone-number
bounds-gone-number c = first-below (length c.args.gone.now) c.in-Some.number c.args.queue.now.jobs c.requires c.in-Some.ensures
