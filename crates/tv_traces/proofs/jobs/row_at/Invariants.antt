use Rattle.std.proofs.Common.{◌≡◌}
use Rattle.tv_traces.specs.Rows.{row}
use Rattle.tv_traces.specs.Sights.{what_in}
use Rattle.tv_traces.proofs.jobs.row_at.Given as goal

abbrev pub invariant-loop-level : goal.invariant-loop-level
invariant-loop-level l = l.places.items ≡ row (what_in l.walk.sight.now l.walk.step) l.level
