-- A step has ended where its iteration is whole and the steps that it runs after have ended.
use Rattle.std.specs.List.{list_all}
use Rattle.std.specs.Prelude.{◌≡◌, refl, List, [], ◌∷◌, ◌++◌, Bool, true, false, ◌&&◌, map, if◌then◌else◌}
use Rattle.std.proofs.Common.{ap, ap₂, ◌∙◌}
use Rattle.std.proofs.lemmas.List.Folds.{list_all-append}
use Rattle.tv_value.specs.Nested.{leaf, list, Place, nodes}
use Rattle.tv_value.specs.Values.{JobName, Name}
use Rattle.tv_flow.specs.Flows.{Step}
use Rattle.tv_strategy.specs.Iterations.{Iteration, job, passed}
use Rattle.tv_strategy.specs.Origins.{Origin}
use Rattle.tv_model.specs.instance.Delivered.{Delivered}
use Rattle.tv_model.specs.instance.Ranks.{is_among}
use Rattle.tv_model.specs.instance.Steps.{spot, node_origin, endings_of}
use Rattle.tv_model.specs.instance.ByResults.{InstanceStep, Results, step_by, step_of}
use Rattle.tv_model.specs.instance.Endings.{has_ended, have_ended}
use Rattle.tv_model.specs.instance.Wholeness.{is_whole, origin_at}
use Rattle.tv_model.proofs.Wholeness.{origin_of, ending-whole}

module _ (known : Origin → Bool) where
  pub endings-known : (fs : List InstanceStep) (ns : List Name) → list_all known (endings_of step_of fs ns) ≡ have_ended known fs ns
  endings-known [] ns = refl
  endings-known (f ∷ fs) ns =
      list_all-append known (if is_among ns f.step.step then f.step.ending else []) (endings_of step_of fs ns) ∙ ap₂ (λ a b. a && b) (one (is_among ns f.step.step)) (endings-known fs ns)
    where
      one : (b : Bool) → list_all known (if b then f.step.ending else []) ≡ (if b then has_ended known f else true)
      one true = refl
      one false = refl

  node-same : (instance : JobName) (n : Name) (xs : List (Place × Iteration)) → map (node_origin instance n) xs ≡ map (origin_of (spot instance n) known) xs
  node-same instance n [] = refl
  node-same instance n (x ∷ xs) = ap₂ (λ a b. a ∷ b) (one x) (node-same instance n xs)
    where
      one : (x : Place × Iteration) → node_origin instance n x ≡ origin_at (spot instance n) x.0 x.1
      one (q, leaf r (job b)) = refl
      one (q, leaf r (passed m e)) = refl
      one (q, list r ts) = refl

  pub ended-by : (instance : JobName) (results : Results) (given : List (Name × Delivered)) (fs : List InstanceStep) (s : Name × Step) → has_ended known (step_by instance results given fs s) ≡ (is_whole (spot instance s.0) known [] (step_by instance results given fs s).step.iteration && have_ended known fs s.1.after)
  ended-by instance results given fs (n, s) =
      let it = (step_by instance results given fs (n, s)).step.iteration in
      list_all-append known (map (node_origin instance n) (nodes it)) (endings_of step_of fs s.after) ∙ ap₂ (λ a b. a && b) (ap (list_all known) (node-same instance n (nodes it)) ∙ ending-whole (spot instance n) known it []) (endings-known fs s.after)

  -- what a job waits for is known where its sources are, and the steps that it runs after have ended
  pub waits-by : (sources : List Origin) (fs : List InstanceStep) (ns : List Name) → list_all known (sources ++ endings_of step_of fs ns) ≡ (list_all known sources && have_ended known fs ns)
  waits-by sources fs ns = list_all-append known sources (endings_of step_of fs ns) ∙ ap (λ b. list_all known sources && b) (endings-known fs ns)
