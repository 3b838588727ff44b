use Rattle.std.proofs.Common.{◌++◌, flat_map, string_bytes, ◌≡◌}
use Rattle.tv_report.specs.AskCounts.{numbered_line}
use Rattle.tv_report.proofs.traces.push_lines.Given as goal

abbrev pub invariant-loop-job : goal.invariant-loop-job
invariant-loop-job g l =
    string_bytes l.text ++ flat_map (numbered_line l.board.names) l.job-iterator ≡ string_bytes l.initial.text ++ flat_map (numbered_line l.board.names) l.counts.entries
