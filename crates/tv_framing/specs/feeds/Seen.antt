-- The code has an event by its place and by what happened there, with a piece for each value.
use Rattle.std.specs.Prelude.{◌≡◌, get_or, map}
use Rattle.tv_flow.specs.Flows.{Flow}
use Rattle.tv_naming.specs.Numbers.{position}
use Rattle.tv_cell.specs.PieceValues.{piece_value}
use Rattle.tv_telling.specs.declared.ways.Event as code
use Rattle.tv_telling.specs.declared.ways.Happened.{Happened}
use Rattle.tv_telling.specs.declared.ways.Happened.TheVariants.{Gave, Closed, Passed}
use Rattle.tv_check.specs.Feeds.{outputs_of}
use Rattle.tv_model.specs.instance.Events as events
use Rattle.tv_model.specs.instance.Events.{Event, event_place, event_step, fault_set, gave, took}
use Rattle.tv_framing.specs.engine.AlongWires.{IsSeenAs}
use Rattle.tv_framing.specs.feeds.Fed.{given_at}

-- that is what the event tells
abbrev pub Happens : Event → Happened → Type 0
Happens (gave s q vs) (Gave ps) = map piece_value ps.now ≡ vs
Happens (gave s q vs) (Closed m) = ⊥
Happens (gave s q vs) Passed = ⊥
Happens (events.closed s q n) (Gave ps) = ⊥
Happens (events.closed s q n) (Closed m) = m ≡ n
Happens (events.closed s q n) Passed = ⊥
Happens (fault_set s q d) (Gave ps) = ⊥
Happens (fault_set s q d) (Closed m) = ⊥
Happens (fault_set s q d) Passed = Unit {0}
Happens (took s q) h = ⊥

pub record IsCodeOf (e : Event) (c : code.Event) : Type 0 where
  pub place : c.place.now ≡ event_place e
  pub happened : Happens e c.happened

-- then it is seen as `engine` wants it, with what the job gave at the outputs of its step
abbrev pub EventsAreSeen : Type 0
EventsAreSeen =
    (f : Flow) (e : Event) (c : code.Event) → IsCodeOf e c
    → IsSeenAs f (given_at f e)
    (λ o. get_or c.faults.now (position o (outputs_of f (event_step e))) 0) c.whole_from e c
