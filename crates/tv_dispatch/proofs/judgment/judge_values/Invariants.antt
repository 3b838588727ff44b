use Rattle.std.proofs.Common.{◌≡◌}
use Rattle.tv_dispatch.proofs.Complaints.{complaint_from}
use Rattle.tv_dispatch.proofs.judgment.judge_values.Given as goal

abbrev pub invariant-loop-index : goal.invariant-loop-index
invariant-loop-index l = complaint_from 0 l.outputs l.values ≡ complaint_from l.index l.outputs l.values
