-- Laws of what ports are told: as the code tells it, and as the theory of frames does.
use Rattle.std.specs.Prelude.{◌≡◌, ℕ, zero, suc, ◌≤◌, Bool, true, nat_le, if◌then◌else◌, List, [], ◌∷◌, ◌++◌, length, take}
use Rattle.tv_value.specs.Nested.{Place}
use Rattle.tv_value.specs.Orders.{same_name}
use Rattle.tv_value.specs.Values.{JobName, Name, Value}
use Rattle.tv_flow.specs.Flows.{Feed, Link, constant, input, link, merge, output}
use Rattle.tv_strategy.specs.Levels.{HasLevels}
use Rattle.tv_matching.specs.Items.{if_so}
use Rattle.tv_matching.specs.Told.{Told, tellings}
use Rattle.tv_model.specs.instance.ByResults.{InstanceStep}
use Rattle.tv_model.specs.instance.Events as events
use Rattle.tv_model.specs.instance.Events.{Event, Events, event_place, event_step, fault_set, is_telling, took}
use Rattle.tv_model.specs.instance.Fitting.{FitStep}
use Rattle.tv_model.specs.instance.Legality.{IsLegalNext}
use Rattle.tv_framing.specs.instances.InHistory.{Finds}
use Rattle.tv_framing.specs.PortTellings as framing
use Rattle.tv_framing.specs.PortTellings.{newly_by, port_told, way_told}
use Rattle.tv_telling.specs.ValueTellings.{bound_told, value_told}
use Rattle.tv_telling.specs.WayTellings.{Happening, closed, gave, passed, told_on_way}

-- the prefixes of a place of which a test is true are those from this length on
abbrev pub IsFrom : (Place → Bool) → Place → ℕ → Type 0
IsFrom test r from = (n : ℕ) → n ≤ length r → test (take n r) ≡ nat_le from n

-- what an event tells, as an output has it at which the event's job gave w
abbrev pub happening_of : Event → Value → Happening
happening_of (events.gave s q vs) w = gave w
happening_of (events.closed s q n) w = closed n
happening_of (fault_set s q e) w = passed
happening_of (took s q) w = passed

-- ---- the same is told

-- of a value that is known
abbrev pub ValuesAreToldAlike : Type 0
ValuesAreToldAlike =
    (p : Name) (k : ℕ) (q : Place) (v : Value)
    → tellings (framing.value_told p k q v) ≡ tellings (value_told p k q v)

-- with an event, of an output of its step
abbrev pub WaysAreToldAlike : Type 0
WaysAreToldAlike =
    (newly : Place → Bool) (p : Name) (k from faults : ℕ) (q : Place) (e : Event) (w : Value)
    → is_telling e ≡ true → IsFrom newly (event_place e) from
    → tellings (way_told newly p k q [] (event_place e) e w)
    ≡ tellings (told_on_way p k q from faults (event_place e) (happening_of e w))

-- with an event, of a port that walks k levels of its feed, or whose feed is all known now: along each link that comes from the event's
-- step, each at its number where several are merged. `given_at` is what the event's job gave at an output, and `faults` at how many
-- prefixes of the event's place the output holds a fault
module _ (e : Event) (given_at : Name → Value) (faults : Name → ℕ) (p : Name) (from : ℕ) where
  abbrev pub link_by_ways : ℕ → Place → Link → List Told
  link_by_ways k q (input x) = []
  link_by_ways k q (output s o) =
      if same_name s (event_step e)
      then told_on_way p k q from (faults o) (event_place e) (happening_of e (given_at o))
      else []

  abbrev pub links_by_ways : ℕ → ℕ → List Link → List Told
  links_by_ways k i [] = []
  links_by_ways k i (l ∷ ls) = link_by_ways k (i ∷ []) l ++ links_by_ways k (suc i) ls

  abbrev pub port_by_ways : Bool → Bool → ℕ → Feed → List Told
  port_by_ways whole_now faulty zero f = if_so whole_now (bound_told p [] faulty)
  port_by_ways whole_now faulty (suc k) (link l) = link_by_ways (suc k) [] l
  port_by_ways whole_now faulty (suc k) (merge ls) = links_by_ways k 0 ls
  port_by_ways whole_now faulty (suc k) (constant v) = []

abbrev pub PortsAreToldByWays : Type 0
PortsAreToldByWays =
    (newly : Place → Bool) (e : Event) (given_at : Name → Value) (faults : Name → ℕ) (p : Name)
    (from : ℕ)
    → is_telling e ≡ true → IsFrom newly (event_place e) from
    → (whole_now faulty : Bool) (k : ℕ) (f : Feed)
    → tellings (port_told newly e given_at p whole_now k f)
    ≡ tellings (port_by_ways e given_at faults p from whole_now faulty k f)

-- ---- what becomes whole

-- with a legal event, by events alone: the prefixes of its place from some length on
abbrev pub OneLengthTurnsWhole : Type 0
OneLengthTurnsWhole =
    (instance : JobName) (fs : List InstanceStep) (f : InstanceStep) → Finds fs f
    → (es : Events) (e : Event) → IsLegalNext instance fs es e → is_telling e ≡ true
    → same_name f.step.step (event_step e) ≡ true → FitStep f es
    → (levels : ℕ) → HasLevels f.step.iteration levels
    → (from : ℕ) × IsFrom (newly_by es e f.step.step levels) (event_place e) from
