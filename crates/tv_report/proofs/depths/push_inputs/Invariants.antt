use Rattle.std.proofs.Common.{◌≡◌, ◌++◌, take, string_bytes}
use Rattle.std.specs.Prelude.{flat_map}
use Rattle.std.specs.List.{zip}
use Rattle.tv_flow.specs.Views.{each, step_input_view}
use Rattle.tv_report.specs.PlanLines.{planned_input}
use Rattle.tv_report.proofs.depths.push_inputs.Given as goal

abbrev pub invariant-loop-index : goal.invariant-loop-index
invariant-loop-index l = string_bytes l.text ≡ string_bytes l.initial.text ++ flat_map (planned_input l.flow l.step) (take l.index (zip (each step_input_view l.inputs) l.delivered))
