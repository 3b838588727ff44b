use Rattle.tv_run.proofs.Numbering.{AreNumbering}
use Rattle.tv_run.proofs.run.OpenRun.number_new.Given as goal

abbrev pub invariant-loop-number : goal.invariant-loop-number
invariant-loop-number l = AreNumbering l.initial.self l.self l.instance l.number
