-- Which steps have ended, by events alone.
use Rattle.std.specs.Prelude.{◌≡◌, refl, ℕ, List, [], ◌∷◌, true, ◌&&◌, if◌then◌else◌}
use Rattle.std.proofs.Common.{ap₂, ◌∙◌}
use Rattle.tv_lemmas.specs.Members.{Each}
use Rattle.tv_value.specs.Values.{JobName, Name}
use Rattle.tv_flow.specs.Flows.{Step}
use Rattle.tv_model.specs.instance.Delivered.{Delivered}
use Rattle.tv_model.specs.instance.Ranks.{is_among}
use Rattle.tv_model.specs.instance.ByResults.{Results, last_first, step_by, steps_by, steps_from_last}
use Rattle.tv_model.specs.instance.Counting.{have_ended_by}
use Rattle.tv_model.specs.instance.Endings.{have_ended}
use Rattle.tv_model.specs.instance.Events.{Events, known_by}
use Rattle.tv_framing.proofs.instances.Counting.{step-whole_by}
use Rattle.tv_model.proofs.Endings.{ended-by}
use Rattle.tv_framing.specs.instances.Stated.{IsCounted}

module _ (instance : JobName) (results : Results) (given : List (Name × Delivered)) where
  -- by rank or against it, they are the same steps
  pub steps-from_last : (ss ts : List (Name × Step)) → steps_by instance results given (steps_from_last instance results given ts) ss ≡ steps_from_last instance results given (last_first ss ts)
  steps-from_last [] ts = refl
  steps-from_last (s ∷ ss) ts = steps-from_last ss (s ∷ ts)

  module _ (es : Events) (levels : Name → ℕ) where
    pub ended-by_events : (ss : List (Name × Step)) (ns : List Name) → Each (IsCounted es levels) (steps_from_last instance results given ss) → have_ended (known_by instance es) (steps_from_last instance results given ss) ns ≡ have_ended_by es levels ss ns
    ended-by_events [] ns h = refl
    ended-by_events ((n, s) ∷ ss) ns h =
        ap₂ (λ a b. (if is_among ns n then a else true) && b)
        (ended-by (known_by instance es) instance results given (steps_from_last instance results given ss) (n, s) ∙ ap₂ (λ a b. a && b) (step-whole_by (step_by instance results given (steps_from_last instance results given ss) (n, s)) instance es h.0.fit (levels n) h.0.counted) (ended-by_events ss s.after h.1))
        (ended-by_events ss ns h.1)
