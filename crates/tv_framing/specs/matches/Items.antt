-- What an outcome of a matcher tells of an item of the step's iteration, what stands at the parts
-- of its place, and which fault a passed one is.
use Rattle.std.specs.Prelude.{◌≡◌, ℕ, Bool, List, map, Option, Some}
use Rattle.tv_lemmas.specs.Members.{In}
use Rattle.tv_value.specs.Nested.{Place, at}
use Rattle.tv_value.specs.Orders.{named}
use Rattle.tv_value.specs.Values.{ErrorDoc, Name, Value, fault_value}
use Rattle.tv_flow.specs.Flows.{Flow, Step}
use Rattle.tv_strategy.specs.Conditions.{number_of, place_of}
use Rattle.tv_strategy.specs.Origins.{Mark, Origin, plain}
use Rattle.tv_strategy.specs.Splits.{split}
use Rattle.tv_model.specs.instance.Delivered.{Ported}
use Rattle.tv_model.specs.instance.Steps.{strategy_of}
use Rattle.tv_check.specs.Ports.{mismatches}
use Rattle.tv_matching.specs.Items.{Item, Kind, closes, ends, item, known_items, passes}
use Rattle.tv_matching.specs.Matchers.{Outcome, fault_at, job_at, leaf_name, list_at}
use Rattle.tv_model.specs.instance.ByResults.{InstanceStep}

-- ---- items and outcomes

-- an outcome without the leaf of a fault
abbrev pub unnamed : Outcome → Outcome
unnamed (job_at q) = job_at q
unnamed (list_at q n) = list_at q n
unnamed (fault_at q l) = fault_at q 0

-- an item by its place and kind, without its bindings and without the fault
abbrev pub standing_kind : {X F : Type 0} → Place → Kind X F → Outcome
standing_kind q (ends b) = job_at q
standing_kind q (closes n) = list_at q n
standing_kind q (passes f) = fault_at q 0

abbrev pub standing : {X F : Type 0} → Item X F → Outcome
standing x = standing_kind x.place x.kind

-- ---- the values of ports

-- the part of a place of the step's iteration that belongs to a port
abbrev pub part_of_port : Flow → Step → Place → Name → Place
part_of_port flow s q p = place_of (split (number_of (mismatches flow s)) (strategy_of s) q) p

-- these values stand at the parts of the place, port by port
abbrev pub StandAtParts : Flow → Step → InstanceStep → Place → List Value → Type 0
StandAtParts flow s f q vs =
    map {B = Option Value} (λ v. Some v) vs
    ≡ map {B = Option Value} (λ d. at (plain d.1.value) (part_of_port flow s q d.0)) f.step.inputs

-- ---- passed faults

-- the part of a place of the step's iteration that belongs to the leaf of that number
abbrev pub part_at : Flow → Step → Place → ℕ → Place
part_at flow s q l = part_of_port flow s q (leaf_name (strategy_of s) l)

-- this fault stands there in the value of the leaf's port
pub record IsFaultOf (flow : Flow) (s : Step) (f : InstanceStep) (q : Place) (l : ℕ) (e : ErrorDoc)
    : Type 0 where
  pub port : Ported
  pub input : named (leaf_name (strategy_of s) l) f.step.inputs ≡ Some port
  pub there : at (plain port.value) (part_at flow s q l) ≡ Some (fault_value e)

-- a known fault is passed there, and it is the one at the leaf's part of the place
pub record PassesFaultOf (flow : Flow) (s : Step) (known : Origin → Bool) (f : InstanceStep)
    (q : Place) (l : ℕ) : Type 0 where
  pub document : ErrorDoc
  pub mark : Option Mark
  pub item : In (item q (passes (mark, document))) (known_items known f.step.iteration)
  pub fault : IsFaultOf flow s f q l document
