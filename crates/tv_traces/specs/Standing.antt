-- Which shapes are those of the steps of an instance that were made so far.
use Rattle.std.specs.Prelude.{◌≡◌, ℕ, Bool, List, [], find, Option, Some, None, slice_get, slice_index_or}
use Rattle.tv_value.specs.Nested.{Place}
use Rattle.tv_value.specs.Orders.{same_name}
use Rattle.tv_value.specs.Values.{Name, Value}
use Rattle.tv_flow.specs.Flows.{Flow, Step}
use Rattle.tv_strategy.specs.Origins.{Origin}
use Rattle.tv_naming.specs.Numbers.{position}
use Rattle.tv_model.specs.instance.ByResults.{InstanceStep, outputs_by}
use Rattle.tv_traces.specs.Feeds.{job_at}
use Rattle.tv_traces.specs.Shapes.{Shape, ShowsKnown, no_shape}

-- the main instance's step of that name in the flow: its outputs are those of its iteration
pub record IsStepOf (flow : Flow) (g : InstanceStep) : Type 0 where
  pub step : Step
  pub here : slice_get flow.steps (position g.step.step flow.steps) ≡ Some (g.step.step, step)
  pub gives : ℕ → Place → Value
  pub levels : ℕ
  pub outputs : g.step.outputs
      ≡ outputs_by [] g.step.step gives levels g.step.iteration 0 step.outputs

-- the shape of what is known of a step that was made and has outputs, and none of one that was not
abbrev pub ShapeOf : (Origin → Bool) → Option InstanceStep → Shape → Type 0
ShapeOf known None u = u ≡ no_shape
ShapeOf known (Some g) u =
    (g.step.outputs ≡ [] → ⊥) → ShowsKnown (job_at g.step.step) known [] u g.step.iteration

-- these are the shapes of the steps that were made, by number
abbrev pub AreShapesOf : (Origin → Bool) → Flow → List InstanceStep → List Shape → Type 0
AreShapesOf known flow fs us =
    (t : Name) → ShapeOf known (find (λ (g : InstanceStep). same_name t g.step.step) fs)
    (slice_index_or us (position t flow.steps) no_shape)
