-- What holds of every frame, and what one more event makes of it.
use Rattle.std.specs.Prelude.{◌≡◌, ℕ, Bool, List, [], ◌∷◌, ◌++◌, flat_map, length, IsPermutation}
use Rattle.tv_value.specs.Nested.{Place}
use Rattle.tv_value.specs.Values.{Name}
use Rattle.tv_strategy.specs.Origins.{Origin}
use Rattle.tv_model.specs.instance.Ranks.{ranked}
use Rattle.tv_matching.specs.Items.{Bound, Item, Kind, Stopped, closes, ends, known_items, passes}
use Rattle.tv_model.specs.instance.ByResults.{InstanceStep}
use Rattle.tv_model.specs.instance.Events as events
use Rattle.tv_model.specs.instance.Events.{Event, fault_set, gave, known_by, took}
use Rattle.tv_model.specs.instance.Legality.{AreLegal}
use Rattle.tv_framing.specs.Gaining.{gained_items}
use Rattle.tv_framing.specs.Views.{AreGiven, InAll, View}

-- ---- known jobs

-- a job, where the item is one
abbrev pub job_places : Name → Item Bound Stopped → List (Name × Place)
job_places s x = by_kind x.kind
  where
    by_kind : Kind Bound Stopped → List (Name × Place)
    by_kind (ends b) = (s, x.place) ∷ []
    by_kind (closes n) = []
    by_kind (passes f) = []

-- the jobs whose sources are known
abbrev pub known_jobs : (Origin → Bool) → List InstanceStep → List (Name × Place)
known_jobs known fs =
    flat_map (λ (f : InstanceStep). flat_map (job_places f.step.step)
    (known_items known f.step.iteration)) fs

-- those that become known
abbrev pub new_jobs : (Origin → Bool) → (Origin → Bool) → List InstanceStep → List (Name × Place)
new_jobs known after fs =
    flat_map (λ (f : InstanceStep). flat_map (job_places f.step.step)
    (gained_items known after f.step.iteration)) fs

-- ---- the invariant that callers see

-- what it was told is sound and legal, and its jobs are those that are known, whatever isn't told
pub record IsFrame (v : View) : Type 0 where
  pub given : AreGiven (ranked v.flow.steps) v.events
  pub legal : InAll v (λ instance results fs. AreLegal instance fs v.events)
  pub known : InAll v (λ instance results fs. IsPermutation v.jobs
      (known_jobs (known_by instance v.events) fs))

-- with one more event, and the jobs that become known with it behind those before
abbrev pub with_event : View → Event → List (Name × Place) → View
with_event v e new = record v { events = e ∷ v.events; jobs = v.jobs ++ new }

-- these are the jobs that become known with the event, whatever isn't told
abbrev pub AreNewWith : View → Event → List (Name × Place) → Type 0
AreNewWith v e new =
    InAll (with_event v e new) (λ instance results fs.
    IsPermutation new (new_jobs (known_by instance v.events) (known_by instance (e ∷ v.events)) fs))

-- w is the frame v after one more event, with so many more jobs
pub record Comes (v w : View) (e : Event) (more : ℕ) : Type 0 where
  pub flow : w.flow ≡ v.flow
  pub inputs : w.inputs ≡ v.inputs
  pub events : w.events ≡ e ∷ v.events
  pub jobs : (new : List (Name × Place)) × (w.jobs ≡ v.jobs ++ new) × (length new ≡ more)

-- ---- an event of the kind of an item of an iteration

abbrev pub FitsKind : Event → Kind Bound Stopped → Type 0
FitsKind (gave s q vs) (ends b) = Unit {0}
FitsKind (gave s q vs) (closes m) = ⊥
FitsKind (gave s q vs) (passes f) = ⊥
FitsKind (events.closed s q n) (ends b) = ⊥
FitsKind (events.closed s q n) (closes m) = m ≡ n
FitsKind (events.closed s q n) (passes f) = ⊥
FitsKind (fault_set s q e) (ends b) = ⊥
FitsKind (fault_set s q e) (closes m) = ⊥
FitsKind (fault_set s q e) (passes f) = f.1 ≡ e
FitsKind (took s q) (ends b) = Unit {0}
FitsKind (took s q) (closes m) = ⊥
FitsKind (took s q) (passes f) = ⊥
