-- The idle jobs of an instance as they are kept, and as a frame's events have them.
use Rattle.std.specs.Prelude.{◌≡◌, ◌⊎◌, ℕ, true, false, List, Some, slice_get}
use Rattle.tv_lemmas.specs.Members.{In}
use Rattle.tv_value.specs.Nested.{Place}
use Rattle.tv_value.specs.Values.{Name}
use Rattle.tv_flow.specs.Flows.{Step}
use Rattle.tv_naming.specs.Naming.{has_name}
use Rattle.tv_naming.specs.Numbers.{position}
use Rattle.tv_idle.specs.Idles.{StepIdle, of_step}
use Rattle.tv_idle.specs.Kept.{are_in_order}
use Rattle.tv_model.specs.instance.Events.{has_result, is_taken}
use Rattle.tv_framing.specs.Answers.{numbered}
use Rattle.tv_framing.specs.Views.{View}

-- a job is idle at the step of that number: its own number with its place
abbrev pub IsIdle : List StepIdle → ℕ → ℕ × List ℕ → Type 0
IsIdle ss k j = In j (of_step ss k).good ⊎ In j (of_step ss k).faulty

-- at each step they stand in order of place
pub record AreInOrder (ss : List StepIdle) : Type 0 where
  pub good : (k : ℕ) → are_in_order (of_step ss k).good ≡ true
  pub faulty : (k : ℕ) → are_in_order (of_step ss k).faulty ≡ true

-- the idle jobs are the known ones that neither run nor have a result, each at its step
pub record AreIdleOf (v : View) (ss : List StepIdle) : Type 0 where
  pub order : AreInOrder ss
  -- each known job is one of a step of the flow
  pub steps : (n : ℕ) (x : Name × Place) → numbered v n ≡ Some x → has_name v.flow.steps x.0 ≡ true
  pub all :
      (n : ℕ) (x : Name × Place) → numbered v n ≡ Some x
      → is_taken v.events x.0 x.1 ≡ false → has_result v.events x.0 x.1 ≡ false
      → IsIdle ss (position x.0 v.flow.steps) (n, x.1)
  pub known :
      (k : ℕ) (s : Name × Step) (j : ℕ × List ℕ) → slice_get v.flow.steps k ≡ Some s → IsIdle ss k j
      → numbered v j.0 ≡ Some (s.0, j.1)
  pub free :
      (k : ℕ) (s : Name × Step) (j : ℕ × List ℕ) → slice_get v.flow.steps k ≡ Some s → IsIdle ss k j
      → (is_taken v.events s.0 j.1 ≡ false) × (has_result v.events s.0 j.1 ≡ false)
