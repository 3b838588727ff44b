-- The lines of `check` as they are written: from the plans of flows.
use Rattle.std.specs.Prelude.{ℕ, ◌+◌, ◌++◌, codes, flat_map}
use Rattle.std.specs.List.{zip}
use Rattle.tv_value.specs.Values.{Text, Name}
use Rattle.tv_flow.specs.Flows.{StepInput, Step}
use Rattle.tv_check.specs.Plans.{StepPlan, FlowPlan}
use Rattle.tv_report.specs.DepthLines.{port_line, end_line}

-- an input of a step beside the depth that it is delivered
abbrev pub planned_input : Name → Name → (Name × StepInput) × (Name × ℕ) → Text
planned_input f s (i, d) = port_line (codes "in") f s i.0 i.1.depth d.1

abbrev pub planned_output : Name → Name → ℕ → Name × ℕ → Text
planned_output f s levels o = port_line (codes "out") f s o.0 o.1 (o.1 + levels)

-- a step beside its plan
abbrev pub planned_step : Name → (Name × Step) × StepPlan → Text
planned_step f (s, p) = flat_map (planned_input f s.0) (zip s.1.inputs p.delivered)
    ++ flat_map (planned_output f s.0 p.depth) s.1.outputs

abbrev pub planned_end : Name → Name × ℕ → Text
planned_end f o = end_line f o.0 o.1

-- a flow by its name and its plan
abbrev pub planned_flow : Name → FlowPlan → Text
planned_flow f p = flat_map (planned_step f) (zip p.flow.steps p.steps)
    ++ flat_map (planned_end f) p.outputs
