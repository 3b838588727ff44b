-- The delivered depths of an instance are those of the check, step by step.
use Rattle.std.specs.Prelude.{◌≡◌, refl, ◌+◌, ◌∷◌, List, [], map}
use Rattle.std.proofs.Common.{sym, ap, ◌∙◌}
use Rattle.tv_value.specs.Values.{JobName, Name}
use Rattle.tv_flow.specs.Flows.{Feed, Step}
use Rattle.tv_strategy.specs.Measures.{strategy_depth}
use Rattle.tv_model.specs.instance.CheckedDepths.{StepDepths, feed_depth, port_depth, step_depths, steps_depths}
use Rattle.tv_model.specs.instance.Delivered.{Delivered, feed_delivers}
use Rattle.tv_model.specs.instance.Steps.{strategy_of}
use Rattle.tv_model.proofs.Delivers.{depths_of, feed-depth, forget, mismatches}
use Rattle.tv_model.specs.instance.ByResults.{InstanceStep, Results, levels_on, result_at, step_by, step_of, steps_by}
use Rattle.tv_framing.proofs.instances.InDepth.{as_made}
use Rattle.tv_framing.proofs.instances.Outputs.{outputs-depths}
use Rattle.tv_framing.proofs.starts.Steps.{same-feeds}

-- the depths of the steps that were made
abbrev pub so_far : List InstanceStep → List StepDepths
so_far fs = map forget (map as_made fs)

module _ (given : List (Name × Delivered)) (fs : List InstanceStep) where
  pub delivered-depth : (d : Feed) → (feed_delivers step_of given fs d).depth ≡ feed_depth (depths_of given) (so_far fs) d
  delivered-depth d = ap (λ (x : Delivered). x.depth) (sym (same-feeds given fs d)) ∙ feed-depth given (map as_made fs) d

  pub step-levels : (s : Step) → levels_on (feed_delivers step_of given fs) s ≡ strategy_depth (port_depth (depths_of given) (so_far fs) s) (strategy_of s)
  step-levels s =
      sym (ap (λ g. levels_on g s) (λ i d. same-feeds given fs d i))
      ∙ ap (λ f. strategy_depth f (strategy_of s)) (mismatches given (map as_made fs) s)

-- one step more
pub more-so_far : (instance : JobName) (results : Results) (given : List (Name × Delivered)) (fs : List InstanceStep) (n : Name) (s : Step) → so_far (step_by instance results given fs (n, s) ∷ fs) ≡ step_depths (depths_of given) (so_far fs) (n, s) ∷ so_far fs
more-so_far instance results given fs n s =
    let levels = levels_on (feed_delivers step_of given fs) s in
    ap (λ l. record { step = n; outputs = l } ∷ so_far fs)
    (outputs-depths instance n (result_at results n) levels (step_by instance results given fs (n, s)).step.iteration 0 s.outputs
    ∙ ap (λ d. map (λ p. (p.0, d + p.1)) s.outputs) (step-levels given fs s))

-- all steps
pub all-so_far : (instance : JobName) (results : Results) (given : List (Name × Delivered)) (fs : List InstanceStep) (ss : List (Name × Step)) → so_far (steps_by instance results given fs ss) ≡ steps_depths (depths_of given) (so_far fs) ss
all-so_far instance results given fs [] = refl
all-so_far instance results given fs ((n, s) ∷ ss) =
    all-so_far instance results given (step_by instance results given fs (n, s) ∷ fs) ss
    ∙ ap (λ x. steps_depths (depths_of given) x ss) (more-so_far instance results given fs n s)
