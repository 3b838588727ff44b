use Rattle.std.proofs.Common.{◌≡◌, ◌++◌, take, string_bytes}
use Rattle.std.specs.Prelude.{flat_map}
use Rattle.tv_report.specs.PlanLines.{planned_end}
use Rattle.tv_report.proofs.depths.push_ends.Given as goal

abbrev pub invariant-loop-output : goal.invariant-loop-output
invariant-loop-output l = string_bytes l.text ≡ string_bytes l.initial.text ++ flat_map (planned_end l.flow) (take l.output-index l.outputs)
