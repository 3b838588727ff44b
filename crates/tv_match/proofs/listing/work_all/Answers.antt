use Rattle.tv_match.specs.Filed.{filed}
use Rattle.tv_match.proofs.Ahead.{failed-listed}
use Rattle.tv_match.proofs.listing.work_all.Goals as goal

pub returns-in_err-work_told-clause-listed : goal.returns-in_err-work_told-clause-listed
returns-in_err-work_told-clause-listed c =
    failed-listed (filed c.args.root.now) c.args.log.now c.args.out.now c.args.tolds.now c.loop-told.told-index (filed c.loop-told.root) c.loop-told.log c.loop-told.out c.loop-told.invariant (filed c.work_told.new.root) c.work_told.new.log c.work_told.new.out c.work_told.ensures.listed
