-- Results of the declared depths, and the levels of each step's iteration, which the depths of the flow tell.
use Rattle.std.specs.Prelude.{◌≡◌, ℕ, suc, List, [], ◌∷◌}
use Rattle.tv_value.specs.Values.{HasDepth, Name, JobName}
use Rattle.tv_flow.specs.Flows.{Step}
use Rattle.tv_strategy.specs.Measures.{strategy_depth}
use Rattle.tv_strategy.specs.Sources.{JobsStand}
use Rattle.tv_model.specs.instance.CheckedDepths.{StepDepths, port_depth, step_depths}
use Rattle.tv_model.specs.instance.Delivered.{Delivered}
use Rattle.tv_model.specs.instance.Steps.{strategy_of}
use Rattle.tv_model.specs.instance.ByResults.{InstanceStep, Results, result_at, step_by}

-- each job of a step gives values of the depths that are declared, output by output from the k-th on
abbrev pub JobsGive : Results → InstanceStep → ℕ → List (Name × ℕ) → Type 0
JobsGive results f k [] = Unit {0}
JobsGive results f k (p ∷ ps) =
    JobsStand (λ q. HasDepth (result_at results f.step.step k q) p.1) [] f.step.iteration
    × JobsGive results f (suc k) ps

-- and so do the jobs of all steps that come after these
abbrev pub AllJobsGive : JobName → Results → List (Name × Delivered) → List InstanceStep
    → List (Name × Step) → Type 0
AllJobsGive instance results given fs [] = Unit {0}
AllJobsGive instance results given fs (s ∷ ss) =
    let f = step_by instance results given fs s in
    JobsGive results f 0 s.1.outputs × AllJobsGive instance results given (f ∷ fs) ss

-- these are the levels of the steps' iterations, by the depths of the flow's inputs and of the steps so far
abbrev pub AreLevels : (Name → ℕ) → List (Name × ℕ) → List StepDepths → List (Name × Step) → Type 0
AreLevels levels given so_far [] = Unit {0}
AreLevels levels given so_far (s ∷ ss) =
    (levels s.0 ≡ strategy_depth (port_depth given so_far s.1) (strategy_of s.1))
    × AreLevels levels given (step_depths given so_far s ∷ so_far) ss
