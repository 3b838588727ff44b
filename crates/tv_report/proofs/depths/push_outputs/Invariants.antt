use Rattle.std.proofs.Common.{◌≡◌, ◌++◌, take, string_bytes}
use Rattle.std.specs.Prelude.{flat_map}
use Rattle.tv_report.specs.PlanLines.{planned_output}
use Rattle.tv_report.proofs.depths.push_outputs.Given as goal

abbrev pub invariant-loop-output : goal.invariant-loop-output
invariant-loop-output l = string_bytes l.text ≡ string_bytes l.initial.text ++ flat_map (planned_output l.flow l.step l.levels) (take l.output-index l.outputs)
