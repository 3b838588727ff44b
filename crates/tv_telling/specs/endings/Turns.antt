-- The first idle job of an instance, of the steps whose jobs may settle, taken in turn. Steps are told by their numbers.
use Rattle.std.specs.Prelude.{ℕ, ◌==◌, Bool, List, [], ◌∷◌, Option, Some, None, if◌then◌else◌}
use Rattle.std.specs.Option.{option_or}
use Rattle.tv_check.specs.declared.wiring.Wiring.{Wiring}
use Rattle.tv_telling.specs.declared.endings.endings.Endings.{Endings}
use Rattle.tv_telling.specs.endings.Ends.{after_of, have_ended}
use Rattle.tv_idle.specs.Idles.{StepIdle, first_after, first_of, of_step}

-- the steps that it runs after have ended
abbrev pub may_settle : Wiring → Endings → ℕ → Bool
may_settle w e k = have_ended e (after_of w.after k)

module _ (may : ℕ → Bool) (ss : List StepIdle) where
  abbrev pub first_of_step : ℕ → Option ℕ
  first_of_step k = if may k then first_of (of_step ss k).good (of_step ss k).faulty else None

  -- of these steps in turn
  abbrev pub first_of_steps : List ℕ → Option ℕ
  first_of_steps [] = None
  first_of_steps (k ∷ ks) = option_or (first_of_step k) (first_of_steps ks)

  -- of one step, after a place
  abbrev pub first_of_step_after : List ℕ → ℕ → Option ℕ
  first_of_step_after q k = if may k then first_after q (of_step ss k) else None

  -- of the first step with that number after a place, and then of the steps that follow
  abbrev pub first_of_steps_after : ℕ → List ℕ → List ℕ → Option ℕ
  first_of_steps_after s q [] = None
  first_of_steps_after s q (k ∷ ks) =
      if k == s then option_or (first_of_step_after q k) (first_of_steps ks)
      else first_of_steps_after s q ks

  -- of all, or of those after a place of a step
  abbrev pub first_in_turn : List ℕ → Option (ℕ × List ℕ) → Option ℕ
  first_in_turn order None = first_of_steps order
  first_in_turn order (Some a) = first_of_steps_after a.0 a.1 order
