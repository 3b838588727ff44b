-- The flow's outputs once an event has happened with which all steps are whole.
use Rattle.std.specs.Prelude.{◌≡◌, ◌≤◌, ℕ, true, [], length, take}
use Rattle.tv_value.specs.Values.{Name}
use Rattle.tv_flow.specs.Flows.{Step}
use Rattle.tv_binding.specs.declared.over.Brought.{Brought}
use Rattle.tv_binding.specs.declared.over.Brought.TheVariants.{Arrived, Closed}
use Rattle.tv_model.specs.instance.Counting.{whole_by}
use Rattle.tv_framing.specs.Views.{View}
use Rattle.tv_framing.specs.matches.Steps.{IsStepAt}
use Rattle.tv_frame.specs.declared.outs.Change.{Change}
use Rattle.tv_frame.specs.declared.outs.Change.TheVariants.{Arrive, Close}
use Rattle.tv_frame.specs.Tables.{levels_in}

-- all steps are whole, by what was told
abbrev pub AllAreWhole : View → Type 0
AllAreWhole w = (n : ℕ) (s : Name × Step) → IsStepAt w n s
    → whole_by w.events s.0 (levels_in w.flow s.0) [] ≡ true

-- where pieces arrive there are so many
abbrev pub HasAsMany : Change → ℕ → Type 0
HasAsMany (Arrive ps) n = n ≤ length ps.now
HasAsMany (Close m) n = Unit {0}

-- the first so many pieces, or the length of the list
abbrev pub IsBrought : Change → ℕ → Brought → Type 0
IsBrought (Arrive ps) n (Arrived qs) = qs.now ≡ take n ps.now
IsBrought (Arrive ps) n (Closed m) = ⊥
IsBrought (Close m) n (Arrived qs) = ⊥
IsBrought (Close m) n (Closed k) = k ≡ m
