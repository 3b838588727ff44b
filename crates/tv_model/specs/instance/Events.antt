-- What an open instance is told, and which of its nodes are known then.
use Rattle.std.specs.List.{list_any}
use Rattle.std.specs.Prelude.{ℕ, Bool, true, false, ◌&&◌, ◌≡◌, List, [], ◌∷◌, Option, Some, None, if◌then◌else◌}
use Rattle.tv_value.specs.Nested.{Place}
use Rattle.tv_value.specs.Orders.{same_job, same_name}
use Rattle.tv_value.specs.Values.{ErrorDoc, JobName, Name, Value}
use Rattle.tv_strategy.specs.Origins.{Known, Origin, at_start, by_job, by_level}
use Rattle.tv_model.specs.instance.Steps.{spot}
use Rattle.tv_model.specs.instance.ByResults.{Results}

-- of what stands at a place of a step's iteration
pub data Event : Type 0 where
  -- the job there gave these values, one for each output
  gave : Name → Place → List Value → Event
  -- the list there has so many items
  closed : Name → Place → ℕ → Event
  -- the fault passed there is this one
  fault_set : Name → Place → ErrorDoc → Event
  -- the job there runs
  took : Name → Place → Event

abbrev pub event_step : Event → Name
event_step (gave s q vs) = s
event_step (closed s q n) = s
event_step (fault_set s q e) = s
event_step (took s q) = s

abbrev pub event_place : Event → Place
event_place (gave s q vs) = q
event_place (closed s q n) = q
event_place (fault_set s q e) = q
event_place (took s q) = q

-- it makes something known: a job that is taken doesn't
abbrev pub is_telling : Event → Bool
is_telling (gave s q vs) = true
is_telling (closed s q n) = true
is_telling (fault_set s q e) = true
is_telling (took s q) = false

-- the newest first
abbrev pub Events : Type 0
Events = List Event

abbrev pub is_spot : Name → Place → Name → Place → Bool
is_spot s q t r = same_name s t && same_name q r

abbrev pub gives_at : Name → Place → Event → Bool
gives_at s q (gave t r vs) = is_spot s q t r
gives_at s q _ = false

abbrev pub takes_at : Name → Place → Event → Bool
takes_at s q (took t r) = is_spot s q t r
takes_at s q _ = false

abbrev pub faults_at : Name → Place → Event → Bool
faults_at s q (fault_set t r e) = is_spot s q t r
faults_at s q _ = false

abbrev pub levels_at : Name → Place → Event → Bool
levels_at s q (closed t r n) = is_spot s q t r
levels_at s q (fault_set t r e) = is_spot s q t r
levels_at s q _ = false

-- whether something was told of what stands there
abbrev pub has_result : Events → Name → Place → Bool
has_result es s q = list_any (gives_at s q) es

abbrev pub is_taken : Events → Name → Place → Bool
is_taken es s q = list_any (takes_at s q) es

abbrev pub has_fault : Events → Name → Place → Bool
has_fault es s q = list_any (faults_at s q) es

abbrev pub has_level : Events → Name → Place → Bool
has_level es s q = list_any (levels_at s q) es

-- the length with which the list there was closed
abbrev pub closed_with : Events → Name → Place → Option ℕ
closed_with [] s q = None
closed_with (closed t r n ∷ es) s q = if is_spot s q t r then Some n else closed_with es s q
closed_with (_ ∷ es) s q = closed_with es s q

module _ (instance : JobName) where
  -- the event makes known what waits for this
  abbrev pub is_of : Event → Known → Bool
  is_of (gave s q vs) (by_job n) = same_job n (spot instance s q)
  is_of (closed s q k) (by_level n) = same_job n (spot instance s q)
  is_of (fault_set s q e) (by_level n) = same_job n (spot instance s q)
  is_of _ _ = false

  abbrev pub is_known_by : Events → Known → Bool
  is_known_by es at_start = true
  is_known_by es (by_job n) = list_any (λ e. is_of e (by_job n)) es
  is_known_by es (by_level n) = list_any (λ e. is_of e (by_level n)) es

  abbrev pub known_by : Events → Origin → Bool
  known_by es o = is_known_by es o.known

-- these are results in which each job gives what was told of it
abbrev pub Extends : Results → Events → Type 0
Extends results [] = Unit {0}
Extends results (gave s q vs ∷ es) = (results s q ≡ vs) × Extends results es
Extends results (_ ∷ es) = Extends results es
