-- The lists and passed faults of a step that wait to be settled, and what is left of them with an
-- event.
use Rattle.std.specs.Prelude.{◌≡◌, Bool, true, false, not, filter, List, ◌∷◌, IsPermutation}
use Rattle.tv_value.specs.Nested.{Place}
use Rattle.tv_value.specs.Orders.{same_name}
use Rattle.tv_value.specs.Values.{Name}
use Rattle.tv_matching.specs.Matchers.{Outcome, fault_at, job_at, list_at}
use Rattle.tv_match.specs.Stated.{outcome_place}
use Rattle.tv_model.specs.instance.Events as events
use Rattle.tv_model.specs.instance.Events.{Event, Events, fault_set, gave, has_level, took}

-- nothing was told of this list or passed fault
abbrev pub is_waiting : Events → Name → Outcome → Bool
is_waiting es s (job_at q) = false
is_waiting es s (list_at q n) = not (has_level es s q)
is_waiting es s (fault_at q l) = not (has_level es s q)

abbrev pub waiting_of : Events → Name → List Outcome → List Outcome
waiting_of es s os = filter (is_waiting es s) os

-- ---- with an event

-- after is before without the one thing that stands there
pub record IsLessOne (before after : List Outcome) (q : Place) : Type 0 where
  pub gone : Outcome
  pub stands : outcome_place gone ≡ q
  pub rest : IsPermutation before (gone ∷ after)

-- so it is where the thing is of this step
abbrev pub IsLeftBy : Bool → List Outcome → List Outcome → Place → Type 0
IsLeftBy true before after q = IsLessOne before after q
IsLeftBy false before after q = IsPermutation before after

-- where the event settles a list or fault of step s, that one is gone; else nothing is
abbrev pub IsLeft : Event → Name → List Outcome → List Outcome → Type 0
IsLeft (gave t q vs) s before after = IsPermutation before after
IsLeft (events.closed t q n) s before after = IsLeftBy (same_name s t) before after q
IsLeft (fault_set t q e) s before after = IsLeftBy (same_name s t) before after q
IsLeft (took t q) s before after = IsPermutation before after
