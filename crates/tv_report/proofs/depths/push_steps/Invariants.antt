use Rattle.std.proofs.Common.{◌≡◌, ◌++◌, map, take, string_bytes}
use Rattle.std.specs.Prelude.{flat_map}
use Rattle.std.specs.List.{zip}
use Rattle.tv_flow.specs.Views.{each, step_view}
use Rattle.tv_check.specs.PlanViews.{step_plan_view}
use Rattle.tv_report.specs.PlanLines.{planned_step}
use Rattle.tv_report.proofs.depths.push_steps.Given as goal

abbrev pub invariant-loop-index : goal.invariant-loop-index
invariant-loop-index l = string_bytes l.text ≡ string_bytes l.initial.text ++ flat_map (planned_step l.flow) (take l.index (zip (each step_view l.steps) (map step_plan_view l.plans)))
