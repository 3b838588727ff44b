-- A frame of an open instance as contracts see it: its flow and inputs, what it was told, and its known jobs by number. What isn't
-- told is unknown to it, so what it says is so for all results that have what was told.
use Rattle.std.specs.Prelude.{◌≡◌, false, List, [], ◌∷◌}
use Rattle.tv_lemmas.specs.Members.{In}
use Rattle.tv_value.specs.Nested.{Place}
use Rattle.tv_value.specs.Values.{JobName, Name, Value}
use Rattle.tv_flow.specs.Flows.{Flow, Step}
use Rattle.tv_model.specs.instance.Ranks.{ranked}
use Rattle.tv_model.specs.instance.Steps.{declared_depths}
use Rattle.tv_model.specs.instance.ByResults.{InstanceStep, Results, steps_by}
use Rattle.tv_model.specs.instance.Events as events
use Rattle.tv_model.specs.instance.Events.{Events, Extends, fault_set, gave, has_result, took}
use Rattle.tv_model.specs.instance.OwnDepths.{AllJobsGive}
use Rattle.tv_model.specs.Instances.{given_of}
use Rattle.tv_model.specs.RightDepths.{HaveTheseDepths}

pub record View : Type 0 where
  pub flow : Flow
  pub inputs : List (Name × Value)
  -- the newest first
  pub events : Events
  -- the known jobs, by number
  pub jobs : List (Name × Place)

-- the steps of the instance, were these its results
abbrev pub steps_with : View → JobName → Results → List InstanceStep
steps_with v instance results = steps_by instance results (given_of v.flow v.inputs) []
    (ranked v.flow.steps)

-- results of the declared depths
abbrev pub AreOfDepth : View → JobName → Results → Type 0
AreOfDepth v instance results = AllJobsGive instance results (given_of v.flow v.inputs) []
    (ranked v.flow.steps)

-- P holds of every instance of the flow on these inputs, whatever its name is, with all results of the declared depths that have what
-- was told
abbrev pub InAll : View → (JobName → Results → List InstanceStep → Type 0) → Type 0
InAll v P =
    (instance : JobName) (results : Results) → AreOfDepth v instance results
    → Extends results v.events
    → P instance results (steps_with v instance results)

-- each job gave once, and values of the depths that its step declares
abbrev pub AreGiven : List (Name × Step) → Events → Type 0
AreGiven steps [] = Unit {0}
AreGiven steps (gave s q vs ∷ es) =
    ((t : Name × Step) → In t steps → t.0 ≡ s → HaveTheseDepths (declared_depths t.1) vs)
    × (has_result es s q ≡ false)
    × AreGiven steps es
AreGiven steps (events.closed s q n ∷ es) = AreGiven steps es
AreGiven steps (fault_set s q e ∷ es) = AreGiven steps es
AreGiven steps (took s q ∷ es) = AreGiven steps es
