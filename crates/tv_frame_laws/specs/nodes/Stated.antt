-- The region of a frame has a node for each output of each job that has a result, and no more than the values of its steps.
use Rattle.std.specs.List.{All, sum_by}
use Rattle.std.specs.Option.{option_map_or}
use Rattle.std.specs.Prelude.{◌≡◌, ℕ, ◌≤◌, true, List, length, slice_get}
use Rattle.tv_value.specs.Nested.{Place}
use Rattle.tv_value.specs.Values.{Name}
use Rattle.tv_flow.specs.Flows.{Flow, Step}
use Rattle.tv_check.specs.declared.plans.FlowPlan.{FlowPlan}
use Rattle.tv_outputs.specs.Known.{Nodes}
use Rattle.tv_outputs.specs.Stated.{AreDifferent, node_count}
use Rattle.tv_model.specs.instance.Events.{has_result}
use Rattle.tv_frame.specs.Histories.{step_room}
use Rattle.tv_frame.specs.FramingViews.{InAll, View}
use Rattle.tv_frame.specs.matches.Steps.{IsStepAt}
use Rattle.tv_frame.specs.declared.frame.Frame.{Frame}
use Rattle.tv_frame.specs.Kept.{Keeps}

-- how many outputs the step of a number has
abbrev pub output_count : Flow → ℕ → ℕ
output_count f n = option_map_or (λ s. length s.1.outputs) (slice_get f.steps n) 0

-- a job, as the number of its step and its place, has a result
pub record HasResult (v : View) (j : ℕ × Place) : Type 0 where
  pub step : Name × Step
  pub there : IsStepAt v j.0 step
  pub given : has_result v.events step.0 j.1 ≡ true

-- these are different jobs, and each has a result
pub record HaveResults (v : View) (jobs : List (ℕ × Place)) : Type 0 where
  pub different : AreDifferent jobs
  pub each : All (HasResult v) jobs

-- there are at least as many nodes as such jobs have outputs
abbrev pub OutputsHaveNodes : Type 0
OutputsHaveNodes =
    (flows : List (Name × Flow)) (plan : FlowPlan) (pool : Nodes) (f : Frame) (v : View)
    → Keeps flows plan pool f v
    → (jobs : List (ℕ × Place)) → HaveResults v jobs
    → sum_by (λ j. output_count v.flow j.0) jobs ≤ node_count pool f.region

-- and at least as many as there are such jobs, also where their steps have no outputs
abbrev pub JobsHaveNodes : Type 0
JobsHaveNodes =
    (flows : List (Name × Flow)) (plan : FlowPlan) (pool : Nodes) (f : Frame) (v : View)
    → Keeps flows plan pool f v
    → (jobs : List (ℕ × Place)) → HaveResults v jobs
    → length jobs ≤ node_count pool f.region

-- and no more than the values at its steps' outputs and their iterations have, in each instance that
-- has what was told
abbrev pub NodesFitSteps : Type 0
NodesFitSteps =
    (flows : List (Name × Flow)) (plan : FlowPlan) (pool : Nodes) (f : Frame) (v : View)
    → Keeps flows plan pool f v
    → InAll v (λ instance results fs. node_count pool f.region ≤ sum_by (λ g. step_room g.step) fs)
