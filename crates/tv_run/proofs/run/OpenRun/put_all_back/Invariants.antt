use Rattle.tv_run.proofs.AllBack.{AreBackBelow}
use Rattle.tv_run.proofs.run.OpenRun.put_all_back.Given as goal

abbrev pub invariant-loop-at : goal.invariant-loop-at
invariant-loop-at l = AreBackBelow l.initial.self l.self l.at
