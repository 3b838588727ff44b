use Rattle.std.specs.Prelude.{◌≡◌, ◌++◌, replicate}
use Rattle.tv_frame.proofs.tables.push_times.Given as goal

abbrev pub invariant-loop : goal.invariant-loop
invariant-loop l = l.depths.items ≡ l.initial.depths.items ++ replicate l.counter l.depth
