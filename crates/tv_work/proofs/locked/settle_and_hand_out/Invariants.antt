use Rattle.std.proofs.Common.{◌-◌}
use Rattle.tv_history.specs.Going.{most_entries}
use Rattle.tv_history.specs.Runs.{IsLegalRun, meant}
use Rattle.tv_work.specs.Locking.{OnlySettles}
use Rattle.tv_work.specs.Working.{progress}
use Rattle.tv_work.proofs.locked.settle_and_hand_out.Given as goal

abbrev pub invariant-settling : goal.invariant-settling
invariant-settling g l = OnlySettles l.fn.board l.board × IsLegalRun g.V.Services.gives l.board

abbrev pub decreases-settling : goal.decreases-settling
decreases-settling g l = most_entries (meant g.V.Services.gives l.board) - progress l.board
