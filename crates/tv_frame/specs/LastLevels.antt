-- The list or passed fault that waits last, as it is kept.
use Rattle.std.specs.Prelude.{◌≡◌, ℕ}
use Rattle.tv_value.specs.Nested.{at}
use Rattle.tv_value.specs.Values.{Name}
use Rattle.tv_flow.specs.Flows.{Step}
use Rattle.tv_match.specs.declared.kinds.Kind as kinds
use Rattle.tv_model.specs.instance.Events.{Event, event_place, known_by}
use Rattle.tv_framing.specs.Views.{InAll, View}
use Rattle.tv_framing.specs.matches.Stated.{OfStep}
use Rattle.tv_frame.specs.Levels.{FitsThere, IsFromKnown, Level, What, came, closed}

-- what a matcher says of it
abbrev pub IsWhat : kinds.Kind → What → Type 0
IsWhat (kinds.Kind.Job b) w = ⊥
IsWhat (kinds.Kind.Closed n) w = w ≡ closed n
IsWhat (kinds.Kind.Passed l) w = w ≡ came l

abbrev pub IsListOrFault : kinds.Kind → Type 0
IsListOrFault (kinds.Kind.Job b) = ⊥
IsListOrFault (kinds.Kind.Closed n) = Unit {0}
IsListOrFault (kinds.Kind.Passed l) = Unit {0}

-- it stands where the event settles something of step n, which is s, and is right in all instances; a fault came from a known one
pub record IsLevelOf (v : View) (n : ℕ) (s : Name × Step) (e : Event) (l : Level) : Type 0 where
  pub of_step : l.step ≡ n
  pub place : l.place ≡ event_place e
  pub fits :
      InAll v (λ instance results fs. OfStep s.0 fs (λ f.
      FitsThere s.1 f.step l.place l.what (at f.step.iteration l.place)))
  pub known :
      InAll v (λ instance results fs. OfStep s.0 fs (λ f.
      IsFromKnown (known_by instance v.events) s.1 f.step l.place l.what))
