-- The events of an instance as its part of a history, whose entries tell of all instances by the names of jobs, lists and faults.
use Rattle.std.specs.List.{list_any}
use Rattle.std.specs.Prelude.{◌≡◌, ◌++◌, ◌∷◌, List, Some, false, true, filter, find, map}
use Rattle.tv_lemmas.specs.Members.{Each, In}
use Rattle.tv_value.specs.Nested.{Place}
use Rattle.tv_value.specs.Orders.{same_job, same_name}
use Rattle.tv_value.specs.Values.{JobName, Name}
use Rattle.tv_strategy.specs.Origins.{Origin}
use Rattle.tv_strategy.specs.Sources.{SourcesHave}
use Rattle.tv_model.specs.instance.Delivered.{StepMeaning}
use Rattle.tv_model.specs.instance.Steps.{endings_of, spot}
use Rattle.tv_model.specs.instance.ByResults.{InstanceStep, step_of}
use Rattle.tv_model.specs.instance.Endings.{IsOwn}
use Rattle.tv_model.specs.instance.Events.{Events, has_level, has_result, is_spot, is_taken}
use Rattle.tv_model.specs.Jobs.{Job}
use Rattle.tv_model.specs.Levels.{Level}
use Rattle.tv_model.specs.Made.{Meaning}
use Rattle.tv_history.specs.Entries.{Entry, History, is_accepted, is_begun_entry, is_bounced_entry, is_ended_entry, is_level_entry}
use Rattle.tv_history.specs.Histories.{has_entry, is_settled, is_settled_name}

-- of the nodes of this instance, the events say what the history says
pub record IsPartOf (m : Meaning) (past : History) (instance : JobName) (es : Events) : Type 0 where
  pub results : (s : Name) (q : Place)
      → is_settled_name m past (spot instance s q) ≡ has_result es s q
  pub levels : (s : Name) (q : Place) → has_entry past (spot instance s q) ≡ has_level es s q
  pub taken : (s : Name) (q : Place)
      → list_any (is_begun_entry (spot instance s q)) past ≡ is_taken es s q

-- ---- entries that tell nothing of an instance

-- an entry with which the job of that name isn't settled, since it is of another job or of another kind
pub record SettlesNot (e : Entry) (n : JobName) : Type 0 where
  pub accepted : is_accepted n e ≡ false
  pub bounced : is_bounced_entry n e ≡ false
  pub ended : is_ended_entry n e ≡ false

-- whether the job of that name is settled stays the same with an entry
abbrev pub StaysSettled : Meaning → History → Entry → JobName → Type 0
StaysSettled m past e n = is_settled_name m (e ∷ past) n ≡ is_settled_name m past n

-- it closes no list and passes no fault of the instance, and none of its jobs begins
pub record IsOfNoLevel (e : Entry) (instance : JobName) : Type 0 where
  pub levels : (s : Name) (q : Place) → is_level_entry (spot instance s q) e ≡ false
  pub begins : (s : Name) (q : Place) → is_begun_entry (spot instance s q) e ≡ false

-- and none is settled with it
pub record TellsNothing (m : Meaning) (past : History) (e : Entry)
    (instance : JobName) : Type 0 where
  pub jobs : (s : Name) (q : Place) → StaysSettled m past e (spot instance s q)
  pub rest : IsOfNoLevel e instance

-- with this entry the job at place q of step s is settled, and it tells nothing else of the instance
pub record Settles (m : Meaning) (past : History) (e : Entry) (instance : JobName) (s : Name)
    (q : Place)
    : Type 0 where
  pub now : is_settled_name m (e ∷ past) (spot instance s q) ≡ true
  pub others : (t : Name) (r : Place) → is_spot t r s q ≡ false
      → StaysSettled m past e (spot instance t r)
  pub rest : IsOfNoLevel e instance

-- ---- jobs, lists and faults of a meaning, as one of its instances has them

-- every node is the instance's own, or known from the start
abbrev pub AllOwn : JobName → List Origin → Type 0
AllOwn instance os = Each (λ o. IsOwn instance o.known) os

-- the job at place q of step s, with these sources, that runs after these steps
pub record IsJobAt (past : History) (instance : JobName) (es : Events) (fs : List InstanceStep)
    (j : Job) (s : Name) (q : Place) (sources : List Origin) (after : List Name) : Type 0 where
  pub name : j.name ≡ spot instance s q
  pub within : j.instance ≡ instance
  pub settled : is_settled past j ≡ has_result es s q
  pub waits : j.waits ≡ sources ++ endings_of step_of fs after
  pub own : AllOwn instance j.waits

-- the list or passed fault at place q of step s
pub record IsLevelAt (instance : JobName) (l : Level) (s : Name) (q : Place) : Type 0 where
  pub name : l.name ≡ spot instance s q
  pub within : l.instance ≡ instance
  pub own : AllOwn instance l.sources

-- these are the steps of the instance
pub record AreStepsOf (m : Meaning) (instance : JobName) (fs : List InstanceStep) : Type 0 where
  pub steps : filter (λ (s : StepMeaning). same_job instance s.instance) m.steps ≡ map step_of fs
  pub own : Each (λ (f : InstanceStep). AllOwn instance f.step.ending) fs

-- ---- one step of an instance in the meaning

-- the step is the first of its name
abbrev pub Finds : List InstanceStep → InstanceStep → Type 0
Finds fs f = find (λ (g : InstanceStep). same_name f.step.step g.step.step) fs ≡ Some f

-- the meaning has it as a step of this instance, whose sources are the instance's own
pub record IsStepHere (m : Meaning) (instance : JobName) (fs : List InstanceStep)
    (f : InstanceStep) : Type 0 where
  pub first : Finds fs f
  pub listed : In f.step m.steps
  pub here : f.step.instance ≡ instance
  pub own : SourcesHave (λ o. IsOwn instance o.known) f.step.iteration
