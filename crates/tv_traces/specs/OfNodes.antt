-- What is worked out of a node of a step's iteration, and of all inside it: its shape, and the records of the jobs there.
use Rattle.std.specs.Prelude.{◌≡◌, ◌<◌, ◌≤◌, ◌++◌, ◌∷◌, ℕ, suc, Bool, true, List, [], length, Option, Some}
use Rattle.tv_lemmas.specs.Members.{In}
use Rattle.tv_value.specs.Nested.{Place, at, count, leaf, list, no_trees, tree, trees_of}
use Rattle.tv_value.specs.Values.{JobName, Name}
use Rattle.tv_flow.specs.Flows.{Flow, Step}
use Rattle.tv_lineage.specs.Kept.{Kept, Part, records_of}
use Rattle.tv_lineage.specs.Lineages.{Record}
use Rattle.tv_strategy.specs.Iterations.{Binding, Iteration, Iterations, job}
use Rattle.tv_strategy.specs.Levels.{AllHaveLevels, HasLevels}
use Rattle.tv_strategy.specs.Origins.{Origin}
use Rattle.tv_check.specs.declared.ports.Port.{Port}
use Rattle.tv_frame.specs.Levels.{What}
use Rattle.tv_traces.specs.Feeds.{job_at}
use Rattle.tv_traces.specs.Grouped.{Grows, IsGrouped, ItemsAreGrouped, StandFor}
use Rattle.tv_traces.specs.Shapes.{Shape, ShowsKnown, shapes_used}
use Rattle.tv_traces.specs.Noted.{HaveRecords, IsNoted}
use Rattle.tv_traces.specs.Walking.{IsToldOf}

-- a job stands there
abbrev pub IsJobAt : Iteration → Place → Type 0
IsJobAt it q = (r : List Origin) × (b : Binding) × (at it q ≡ Some (leaf r (job b)))

-- a step of this name, fed by shapes through ports, of whose lists, faults and settled jobs this is told
pub record Telling : Type 0 where
  pub flow : Flow
  pub shapes : List Shape
  pub ports : List Port
  pub begins : List ℕ
  pub what : Place → Option What
  pub settled : Place → Bool
  pub name : Name

-- the shapes of the first items of a list at q, from the i-th on
abbrev pub ShowFirst : (Place → JobName) → (Origin → Bool) → Place → ℕ → List Shape → Iterations
    → Type 0
ShowFirst name known q i [] ts = Unit {0}
ShowFirst name known q i (u ∷ us) no_trees = ⊥
ShowFirst name known q i (u ∷ us) (tree n ns) =
    ShowsKnown name known (q ++ i ∷ []) u n × ShowFirst name known q (suc i) us ns

module _ (t : Telling) where
  -- the step s with this iteration, of which so much is known, is the one
  pub record Tells (known : Origin → Bool) (s : Name × Step) (it : Iteration) : Type 0 where
    pub name : t.name ≡ s.0
    pub told : IsToldOf known t.settled t.flow t.shapes t.ports t.begins t.what s it

  -- the job at q was noted, where it is settled
  pub record IsJobNoted (q : Place) (old new : Kept) : Type 0 where
    pub grows : Grows old.groups new.groups
    pub told :
        (known : Origin → Bool) (s : Name × Step) (it : Iteration) → Tells known s it
        → (r : List Origin) (b : Binding) → at it q ≡ Some (leaf r (job b))
        → IsNoted t.settled s it (records_of old) (records_of new)
        × (t.settled q ≡ true → (x : Record) × In x (records_of new) × (x.job ≡ job_at s.0 q))

  -- so were the jobs at these places
  pub record AreNoted (qs : List Place) (old new : Kept) : Type 0 where
    pub grows : Grows old.groups new.groups
    pub told :
        (known : Origin → Bool) (s : Name × Step) (it : Iteration) → Tells known s it
        → ((q : Place) → In q qs → IsJobAt it q)
        → IsNoted t.settled s it (records_of old) (records_of new)
        × ((q : Place) → In q qs → t.settled q ≡ true
        → (x : Record) × In x (records_of new) × (x.job ≡ job_at s.0 q))

  -- the node at q above so many levels has this shape, and the settled jobs there were noted
  pub record IsBuilt (levels : ℕ) (q : Place) (old new : Kept) (u : Shape) : Type 0 where
    pub grows : Grows old.groups new.groups
    pub grouped : IsGrouped (job_at t.name) new.groups q u
    pub told :
        (known : Origin → Bool) (s : Name × Step) (it : Iteration) → Tells known s it
        → (n : Iteration) → at it q ≡ Some n → HasLevels n levels
        → ShowsKnown (job_at s.0) known q u n
        × IsNoted t.settled s it (records_of old) (records_of new)
        × HaveRecords t.settled s.0 q n (records_of new)

  -- so it is of the first items of the list at q, with the parts that stand for them
  pub record AreBuilt (levels : ℕ) (q : Place) (old new : Kept) (us : List Shape)
      (ps : List Part) : Type 0 where
    pub grows : Grows old.groups new.groups
    pub grouped : ItemsAreGrouped (job_at t.name) new.groups q 0 (trees_of us)
    pub parts : StandFor new.groups ps (shapes_used (job_at t.name) q 0 (trees_of us))
    pub told :
        (known : Origin → Bool) (s : Name × Step) (it : Iteration) → Tells known s it
        → (r : List Origin) (ns : Iterations) → at it q ≡ Some (list r ns)
        → AllHaveLevels ns levels → length us ≤ count ns
        → ShowFirst (job_at s.0) known q 0 us ns
        × IsNoted t.settled s it (records_of old) (records_of new)
        × ((i : ℕ) (p : Place) (src : List Origin) (b : Binding) → i < length us
        → at (list r ns) (i ∷ p) ≡ Some (leaf src (job b))
        → t.settled (q ++ (i ∷ p)) ≡ true → (x : Record) × In x (records_of new)
        × (x.job ≡ job_at s.0 (q ++ (i ∷ p))))

  -- step s, whose iteration has so many levels, was gone through: its settled jobs were noted, and if it has outputs, it has this shape
  pub record IsWalked (s : Name × Step) (levels : ℕ) (old new : Kept) (u : Shape) : Type 0 where
    pub grows : Grows old.groups new.groups
    pub grouped : IsGrouped (job_at t.name) new.groups [] u
    pub told :
        (known : Origin → Bool) (it : Iteration) → Tells known s it → HasLevels it levels
        → ((s.1.outputs ≡ [] → ⊥) → ShowsKnown (job_at s.0) known [] u it)
        × IsNoted t.settled s it (records_of old) (records_of new)
        × HaveRecords t.settled s.0 [] it (records_of new)
