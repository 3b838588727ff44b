-- When a document agrees in its depths: a check of depths alone, step by step by rank.
use Rattle.std.specs.List.{list_all, list_any}
use Rattle.std.specs.Prelude.{List, Some, [], is_some, map, suc, true, unwrap_or, zero, ℕ, ◌-◌, ◌∷◌, ◌≡◌}
use Rattle.tv_value.specs.Activities.{Activity, nested, service}
use Rattle.tv_value.specs.Nested.{list, no_trees}
use Rattle.tv_value.specs.Orders.{named, same_name}
use Rattle.tv_value.specs.Strategies.{port}
use Rattle.tv_value.specs.Values.{HasDepth, Name, Value}
use Rattle.tv_flow.specs.Flows.{Document, Feed, Flow, Step, StepInput, constant, link, merge}
use Rattle.tv_strategy.specs.Measures.{DotsAgree, leaf_names}
use Rattle.tv_model.specs.instance.Ranks.{ranked}
use Rattle.tv_model.specs.instance.Steps.{declared_depths, strategy_of}
use Rattle.tv_model.specs.Meanings.{nesting_limit}
pub use Rattle.tv_model.specs.instance.CheckedDepths.{StepDepths, link_depth, merged_depth, constant_depth, feed_depth, port_depth, step_depths, steps_depths, flow_depths, output_depths}

abbrev pub AllAre : ℕ → List ℕ → Type 0
AllAre d [] = Unit {0}
AllAre d (e ∷ es) = (e ≡ d) × AllAre d es

-- the links of a merge deliver one depth
abbrev pub OneDepth : List ℕ → Type 0
OneDepth [] = Unit {0}
OneDepth (d ∷ ds) = AllAre d ds

-- a constant has the depth that it delivers
abbrev pub FeedAgrees : List (Name × ℕ) → List StepDepths → Feed → Type 0
FeedAgrees given so_far (link l) = Unit {0}
FeedAgrees given so_far (merge ls) = OneDepth (map (link_depth given so_far) ls)
FeedAgrees given so_far (constant v) = HasDepth v (constant_depth v)

abbrev pub FeedsAgree : List (Name × ℕ) → List StepDepths → List (Name × Feed) → Type 0
FeedsAgree given so_far [] = Unit {0}
FeedsAgree given so_far (f ∷ fs) = FeedAgrees given so_far f.1 × FeedsAgree given so_far fs

abbrev pub InputsAgree : List (Name × ℕ) → List StepDepths → List (Name × StepInput) → Type 0
InputsAgree given so_far [] = Unit {0}
InputsAgree given so_far (i ∷ is) = FeedAgrees given so_far i.1.from × InputsAgree given so_far is

-- each port is the first of its name
abbrev pub FindThemselves : List (Name × StepInput) → List (Name × StepInput) → Type 0
FindThemselves all [] = Unit {0}
FindThemselves all (i ∷ is) = (named i.0 all ≡ Some i.1) × FindThemselves all is

-- an opened flow takes the step's inputs, and delivers what the step declares
pub record NestedAgrees (flows : List (Name × Flow)) (s : Step) (f : Name) : Type 0 where
  pub flow : Flow
  pub is_flow : named f flows ≡ Some flow
  pub inputs : flow.inputs ≡ map (λ i. (i.0, i.1.depth)) s.inputs
  pub outputs : output_depths flow ≡ declared_depths s

abbrev pub ActivityAgrees : List (Name × Flow) → Step → Activity → Type 0
ActivityAgrees flows s (service n) = Unit {0}
ActivityAgrees flows s (nested f) = NestedAgrees flows s f

abbrev pub ActivitiesAgree : List (Name × Flow) → Step → List Activity → Type 0
ActivitiesAgree flows s [] = Unit {0}
ActivitiesAgree flows s (a ∷ as') = ActivityAgrees flows s a × ActivitiesAgree flows s as'

pub record StepAgrees (flows : List (Name × Flow)) (given : List (Name × ℕ))
    (so_far : List StepDepths) (s : Step)
    : Type 0 where
  pub feeds : InputsAgree given so_far s.inputs
  pub dots : DotsAgree (port_depth given so_far s) (strategy_of s)
  pub once : FindThemselves s.inputs s.inputs
  -- the strategy's ports are the step's inputs
  pub bound : list_all (λ i. list_any (same_name i.0) (leaf_names (strategy_of s))) s.inputs ≡ true
  pub ports : list_all (λ p. is_some (named p s.inputs)) (leaf_names (strategy_of s)) ≡ true
  pub activities : ActivitiesAgree flows s s.activities

abbrev pub StepsAgree : List (Name × Flow) → List (Name × ℕ) → List StepDepths → List (Name × Step)
    → Type 0
StepsAgree flows given so_far [] = Unit {0}
StepsAgree flows given so_far (s ∷ ss) =
    StepAgrees flows given so_far s.1
    × StepsAgree flows given (step_depths given so_far s ∷ so_far) ss

pub record FlowAgrees (flows : List (Name × Flow)) (flow : Flow) : Type 0 where
  pub steps : StepsAgree flows flow.inputs [] (ranked flow.steps)
  pub outputs : FeedsAgree flow.inputs (flow_depths flow) flow.outputs

-- ---- nesting

abbrev pub ActivitiesNest : (Name → Type 0) → List Activity → Type 0
ActivitiesNest P [] = Unit {0}
ActivitiesNest P (service n ∷ as') = ActivitiesNest P as'
ActivitiesNest P (nested f ∷ as') = P f × ActivitiesNest P as'

abbrev pub StepsNest : (Name → Type 0) → List (Name × Step) → Type 0
StepsNest P [] = Unit {0}
StepsNest P (s ∷ ss) = ActivitiesNest P s.1.activities × StepsNest P ss

-- the flow is there, and nests at most so many levels
abbrev pub NestsWithin : List (Name × Flow) → ℕ → Name → Type 0
NestsWithin flows zero f = ⊥
NestsWithin flows (suc k) f =
    (flow : Flow) × (named f flows ≡ Some flow) × StepsNest (NestsWithin flows k) flow.steps

abbrev pub InputsHave : List (Name × ℕ) → List (Name × Value) → Type 0
InputsHave [] vs = Unit {0}
InputsHave (x ∷ xs) vs = HasDepth (unwrap_or (named x.0 vs) (list tt no_trees)) x.1
    × InputsHave xs vs

pub record Agrees (d : Document) : Type 0 where
  pub flows : (f : Name) (flow : Flow) → named f d.flows ≡ Some flow → FlowAgrees d.flows flow
  pub nests : NestsWithin d.flows nesting_limit d.main
  pub inputs : (flow : Flow) → named d.main d.flows ≡ Some flow → InputsHave flow.inputs d.inputs
