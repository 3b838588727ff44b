use Rattle.tv_match.specs.Filed.{filed}
use Rattle.tv_match.proofs.Ahead.{Ahead}
use Rattle.tv_match.proofs.listing.work_all.Given as goal

abbrev pub invariant-loop-told : goal.invariant-loop-told
invariant-loop-told l = Ahead (filed l.initial.root) l.initial.log l.initial.out l.tolds l.told-index (filed l.root) l.log l.out
