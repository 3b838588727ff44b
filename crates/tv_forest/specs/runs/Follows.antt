-- A frame's view, one event later.
use Rattle.std.specs.Prelude.{◌≡◌, ◌∷◌}
use Rattle.tv_model.specs.instance.Events.{Event}
use Rattle.tv_framing.specs.Views.{View}

-- w is v with one more event; which jobs it knows by then isn't said
pub record Follows (v w : View) (e : Event) : Type 0 where
  pub flow : w.flow ≡ v.flow
  pub inputs : w.inputs ≡ v.inputs
  pub events : w.events ≡ e ∷ v.events
