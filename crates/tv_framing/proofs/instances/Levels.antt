-- The steps of an instance have the levels and depths that its flow tells.
use Rattle.std.specs.Prelude.{ℕ, List, [], ◌∷◌}
use Rattle.std.proofs.Common.{sym, subst}
use Rattle.tv_lemmas.specs.Members.{Each}
use Rattle.tv_value.specs.Values.{JobName, Name}
use Rattle.tv_flow.specs.Flows.{Flow, Step}
use Rattle.tv_strategy.specs.Levels.{HasLevels}
use Rattle.tv_model.specs.instance.CheckedDepths.{StepDepths, step_depths}
use Rattle.tv_model.specs.instance.Delivered.{Delivered}
use Rattle.tv_model.specs.instance.Ranks.{ranked}
use Rattle.tv_model.specs.Instances.{given_of}
use Rattle.tv_model.specs.RightDepths.{AreRight}
use Rattle.tv_model.proofs.Delivers.{depths_of, given-depths, given-right}
use Rattle.tv_model.specs.instance.ByResults.{InstanceStep, Results, step_by, steps_by}
use Rattle.tv_model.specs.instance.OwnDepths.{AreLevels}
use Rattle.tv_framing.specs.instances.Stated.{HasItsLevels, StepsHaveTheirLevels}
use Rattle.tv_framing.proofs.instances.InDepth.{HaveLevels, flow-levels}

module _ (flows : List (Name × Flow)) (instance : JobName) (results : Results) (given : List (Name × Delivered)) (right : AreRight given) (levels : Name → ℕ) where
  abbrev IsLeveled : InstanceStep → Type 0
  IsLeveled f = HasLevels f.step.iteration (levels f.step.step)

  each-leveled : (fs : List InstanceStep) → Each IsLeveled fs → (so_far : List StepDepths) (ss : List (Name × Step)) → AreLevels levels (depths_of given) so_far ss → HaveLevels flows instance results given right fs so_far ss → Each IsLeveled (steps_by instance results given fs ss)
  each-leveled fs h so_far [] a w = h
  each-leveled fs h so_far ((n, s) ∷ ss) a w =
      each-leveled (step_by instance results given fs (n, s) ∷ fs) (subst (λ d. HasLevels (step_by instance results given fs (n, s)).step.iteration d) (sym a.0) w.0, h) (step_depths (depths_of given) so_far (n, s) ∷ so_far) ss a.1 w.1

  each-right : (fs : List InstanceStep) (so_far : List StepDepths) (ss : List (Name × Step)) → HaveLevels flows instance results given right fs so_far ss → Each (λ (f : InstanceStep). AreRight f.step.outputs) (steps_by instance results given fs ss)
  each-right fs so_far [] w = w
  each-right fs so_far ((n, s) ∷ ss) w = each-right (step_by instance results given fs (n, s) ∷ fs) (step_depths (depths_of given) so_far (n, s) ∷ so_far) ss w.1

  both-each : (fs : List InstanceStep) → Each IsLeveled fs → Each (λ (f : InstanceStep). AreRight f.step.outputs) fs → Each (HasItsLevels levels) fs
  both-each [] h k = tt
  both-each (f ∷ fs) h k = (record { levels_told = h.0; outputs = k.0 }, both-each fs h.1 k.1)

pub steps-have_their_levels : StepsHaveTheirLevels
steps-have_their_levels flows flow agree vs have instance results depth levels are =
    let given = given_of flow vs in
    let right = given-right vs flow.inputs have in
    let told = flow-levels flows flow agree vs have instance results depth in
    let steps = steps_by instance results given [] (ranked flow.steps) in
    both-each flows instance results given right levels steps
    (each-leveled flows instance results given right levels [] tt [] (ranked flow.steps) (subst (λ d. AreLevels levels d [] (ranked flow.steps)) (sym (given-depths vs flow.inputs)) are) told)
    (each-right flows instance results given right levels [] [] (ranked flow.steps) told)
