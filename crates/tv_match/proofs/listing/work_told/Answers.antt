use Rattle.std.proofs.Common.{◌+◌, length, arith}
use Rattle.tv_match.proofs.Fronts.{more-late}
use Rattle.tv_match.proofs.listing.work_told.Goals as goal

pub returns-after-fault-clause-front : goal.returns-after-fault-clause-front
returns-after-fault-clause-front c k h = more-late k (length c.args.log.now + 1) c.args.out.now c.work.new.out (omega (arith, h)) c.work.ensures.more

pub returns-in-Close-clause-front : goal.returns-in-Close-clause-front
returns-in-Close-clause-front c k h = more-late k (length c.args.log.now + 1) c.args.out.now c.work-in-Close.new.out (omega (arith, h)) c.work-in-Close.ensures.more

pub returns-in-Faulty-clause-front : goal.returns-in-Faulty-clause-front
returns-in-Faulty-clause-front c k h = more-late k (length c.args.log.now + 1) c.args.out.now c.work-in-Faulty.new.out (omega (arith, h)) c.work-in-Faulty.ensures.more
