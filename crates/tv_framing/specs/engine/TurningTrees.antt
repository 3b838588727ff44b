-- What an event of a step makes of the partial trees of its outputs, and what of them turns whole.
use Rattle.std.specs.Prelude.{◌≡◌, ℕ, suc, ◌<◌, true, ◌∷◌, List, Some, length, unwrap_or}
use Rattle.tv_value.specs.Nested.{Place, at}
use Rattle.tv_value.specs.Orders.{same_name}
use Rattle.tv_value.specs.Values.{JobName}
use Rattle.tv_strategy.specs.Iterations.{Iteration}
use Rattle.tv_strategy.specs.Levels.{HasLevels}
use Rattle.tv_parts.specs.Changes.{CanArrive, CanClose}
use Rattle.tv_parts.specs.Partials.{Partial, known_at, whole}
use Rattle.tv_stream.specs.Trees.{least_whole}
use Rattle.tv_model.specs.instance.ByResults.{InstanceStep}
use Rattle.tv_model.specs.instance.Counting.{whole_by}
use Rattle.tv_model.specs.instance.Events as events
use Rattle.tv_model.specs.instance.Events.{Event, Events, event_place, event_step, fault_set, gave, is_telling, took}
use Rattle.tv_model.specs.instance.Fitting.{FitStep}
use Rattle.tv_model.specs.instance.Legality.{IsLegalNext}
use Rattle.tv_framing.specs.instances.InHistory.{Finds}
use Rattle.tv_framing.specs.Arriving.{levels_below, part_so_far}
use Rattle.tv_framing.specs.PortTellings.{newly_by}
use Rattle.tv_framing.specs.ways.Stated.{IsFrom}

-- ---- whole by counting

-- where something stands in a step's iteration, its outputs' trees are whole as counting events says
abbrev pub TreesAreWholeByCounting : Type 0
TreesAreWholeByCounting =
    (f : InstanceStep) (levels : ℕ) → HasLevels f.step.iteration levels → (es : Events)
    → FitStep f es
    → (k declared : ℕ) (x : Place) (u : Iteration) → at f.step.iteration x ≡ Some u
    → whole (known_at x (part_so_far f.step.step k levels declared es))
    ≡ whole_by es f.step.step (levels_below levels x) x

-- ---- one event more

-- a legal event of step f that tells something, after these; they fit the step, whose iteration has so many levels
pub record IsNextOf (instance : JobName) (fs : List InstanceStep) (f : InstanceStep) (levels : ℕ)
    (es : Events) (e : Event)
    : Type 0 where
  pub first : Finds fs f
  pub fit : FitStep f es
  pub leveled : HasLevels f.step.iteration levels
  pub own : same_name f.step.step (event_step e) ≡ true
  pub legal : IsLegalNext instance fs es e
  pub tells : is_telling e ≡ true

-- the least length of a prefix of the place at which all is known; more than the place has where there is none
abbrev pub whole_from : {A : Type 0} → Place → Partial A → ℕ
whole_from q p = unwrap_or (least_whole q p) (suc (length q))

-- the tree of any output tells which prefixes of the event's place turn whole: those from that length on
abbrev pub TreesTurnWhole : Type 0
TreesTurnWhole =
    (instance : JobName) (fs : List InstanceStep) (f : InstanceStep) (levels : ℕ) (es : Events)
    (e : Event)
    → IsNextOf instance fs f levels es e → (k declared : ℕ)
    → IsFrom (newly_by es e f.step.step levels) (event_place e)
    (whole_from (event_place e) (part_so_far f.step.step k levels declared (e ∷ es)))

-- what the event brings can be put into the tree
abbrev pub CanPut : {A : Type 0} → Event → Partial A → Type 0
CanPut (gave s q vs) p = CanArrive q p
CanPut (events.closed s q n) p = CanClose q n p
CanPut (fault_set s q e) p = CanArrive q p
CanPut (took s q) p = Unit {0}

-- jobs stand below as many lists as the iteration has levels, lists and passed faults below fewer
abbrev pub HasRightLength : ℕ → Event → Type 0
HasRightLength levels (gave s q vs) = length q ≡ levels
HasRightLength levels (events.closed s q n) = length q < levels
HasRightLength levels (fault_set s q e) = length q < levels
HasRightLength levels (took s q) = length q ≡ levels

abbrev pub EventsCanBePut : Type 0
EventsCanBePut =
    (instance : JobName) (fs : List InstanceStep) (f : InstanceStep) (levels : ℕ) (es : Events)
    (e : Event)
    → IsNextOf instance fs f levels es e → (k declared : ℕ)
    → CanPut e (part_so_far f.step.step k levels declared es) × HasRightLength levels e
