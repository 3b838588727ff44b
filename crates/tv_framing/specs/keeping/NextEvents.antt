-- An event that may come next in a frame, whatever isn't told of its instance.
use Rattle.std.specs.Prelude.{◌≡◌, ℕ, Bool, false, true, List, ◌∷◌, [], slice_get}
use Rattle.std.specs.Option.{option_map_or}
use Rattle.tv_value.specs.Values.{Name}
use Rattle.tv_flow.specs.Flows.{Flow}
use Rattle.tv_model.specs.instance.Ranks.{ranked}
use Rattle.tv_model.specs.instance.Counting.{whole_by}
use Rattle.tv_model.specs.instance.Events.{Event, is_telling}
use Rattle.tv_model.specs.instance.Legality.{IsLegalNext}
use Rattle.tv_framing.specs.Frames.{IsFrame, with_event}
use Rattle.tv_framing.specs.Stated.{IsOfDepths}
use Rattle.tv_framing.specs.Views.{AreGiven, InAll, View}

-- a frame of a flow whose depths agree is told a result, the length of a list or a passed fault that is legal in all instances that
-- have what was told
pub record IsNextEvent (flows : List (Name × Flow)) (levels : Name → ℕ) (v : View)
    (e : Event) : Type 0 where
  pub frame : IsFrame v
  pub depths : IsOfDepths flows levels v
  pub tells : is_telling e ≡ true
  pub given : AreGiven (ranked v.flow.steps) (e ∷ v.events)
  pub legal : InAll (with_event v e []) (λ instance results fs. IsLegalNext instance fs v.events e)

-- whether the step of that number is whole, by what was told
abbrev pub is_whole_step : (Name → ℕ) → View → ℕ → Bool
is_whole_step levels v n = option_map_or (λ s. whole_by v.events s.0 (levels s.0) [])
    (slice_get v.flow.steps n) false
