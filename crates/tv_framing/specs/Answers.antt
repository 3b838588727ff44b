-- What the calls of a frame tell, each by a word of its own: legal settlements, inputs, outputs, ready jobs, endings.
use Rattle.std.specs.Prelude.{◌≡◌, ℕ, Bool, true, false, List, [], find, map, Option, Some, None, slice_get}
use Rattle.tv_lemmas.specs.Members.{Each}
use Rattle.tv_value.specs.Nested.{Place}
use Rattle.tv_value.specs.Orders.{same_name}
use Rattle.tv_value.specs.Values.{Name, Value}
use Rattle.tv_flow.specs.Flows.{Step}
use Rattle.tv_strategy.specs.Origins.{plain}
use Rattle.tv_model.specs.instance.Delivered.{feed_delivers}
use Rattle.tv_model.specs.instance.Ranks.{ranked}
use Rattle.tv_model.specs.instance.ByResults.{InstanceStep, PlacedJob, last_first, step_of}
use Rattle.tv_model.specs.instance.Counting.{have_ended_by}
use Rattle.tv_model.specs.instance.Events as events
use Rattle.tv_model.specs.instance.Events.{Event, fault_set, gave, has_result, is_taken, took}
use Rattle.tv_model.specs.instance.Legality.{IsLegalNext}
use Rattle.tv_model.specs.Instances.{given_of}
use Rattle.tv_framing.specs.Views.{InAll, View}

-- the job with that number
abbrev pub numbered : View → ℕ → Option (Name × Place)
numbered v n = slice_get v.jobs n

-- what a step runs after
abbrev pub after_of : View → Name → List Name
after_of v s = by_step (find (λ t. same_name s t.0) v.flow.steps)
  where
    by_step : Option (Name × Step) → List Name
    by_step None = []
    by_step (Some t) = t.1.after

-- ---- lists and faults

-- the event closes a list or passes a fault
abbrev pub is_settlement : Event → Bool
is_settlement (gave s q vs) = false
is_settlement (events.closed s q n) = true
is_settlement (fault_set s q e) = true
is_settlement (took s q) = false

abbrev pub CanSettle : View → Event → Type 0
CanSettle v e = (is_settlement e ≡ true)
    × InAll v (λ instance results fs. IsLegalNext instance fs v.events e)

abbrev pub NothingSettles : View → Type 0
NothingSettles v =
    (e : Event) → is_settlement e ≡ true
    → InAll v (λ instance results fs. IsLegalNext instance fs v.events e → ⊥)

-- ---- values

-- where k is job j, it binds these values
abbrev pub AreInputsOf : Name × Place → List Value → PlacedJob → Type 0
AreInputsOf j vs k = k.step ≡ j.0 → k.place ≡ j.1 → vs ≡ map plain k.inputs

-- the values that a known job binds
abbrev pub AreInputs : View → Name × Place → List Value → Type 0
AreInputs v j vs =
    InAll v (λ instance results fs. Each (λ (f : InstanceStep). Each (AreInputsOf j vs) f.jobs) fs)

-- the values of the flow's outputs
abbrev pub AreOutputs : View → List Value → Type 0
AreOutputs v vs =
    InAll v (λ instance results fs.
    vs ≡ map (λ o. plain (feed_delivers step_of (given_of v.flow v.inputs) fs o.1).value)
    v.flow.outputs)

-- ---- ready jobs and endings, with the levels of the plan

-- a known job is ready where it neither runs nor has a result, and the steps that it runs after have ended
pub record IsReadyJob (levels : Name → ℕ) (v : View) (j : Name × Place) : Type 0 where
  pub idle : is_taken v.events j.0 j.1 ≡ false
  pub without_result : has_result v.events j.0 j.1 ≡ false
  pub after : have_ended_by v.events levels (last_first (ranked v.flow.steps) []) (after_of v j.0)
      ≡ true

-- whether every step has ended, by the events alone
abbrev pub has_ended_now : (Name → ℕ) → View → Bool
has_ended_now levels v =
    have_ended_by v.events levels (last_first (ranked v.flow.steps) [])
    (map (λ s. s.0) (ranked v.flow.steps))
