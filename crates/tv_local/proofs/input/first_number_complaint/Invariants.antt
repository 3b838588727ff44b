use Rattle.std.proofs.Common.{◌≡◌}
use Rattle.tv_local.specs.Reading.{number_complaint}
use Rattle.tv_local.proofs.Complaints.{complaint_from}
use Rattle.tv_local.proofs.input.first_number_complaint.Given as goal

abbrev pub invariant-loop-index : goal.invariant-loop-index
invariant-loop-index l = complaint_from (number_complaint l.name) 0 l.wants l.inputs ≡ complaint_from (number_complaint l.name) l.index l.wants l.inputs
