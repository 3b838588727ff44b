use Rattle.std.proofs.Common.{◌≡◌, filter_map, nat_eq, take}
use Rattle.tv_report.specs.AskCounts.{accepted_number}
use Rattle.tv_report.specs.TraceLines.{tallied}
use Rattle.tv_report.proofs.traces.counts_of.Given as goal

abbrev pub invariant-loop-entry : goal.invariant-loop-entry
invariant-loop-entry l = l.counts.entries ≡ tallied nat_eq (filter_map accepted_number (take l.entry-index l.entries))
