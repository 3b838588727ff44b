-- The flows of a document that were measured so far.
use Rattle.std.specs.Prelude.{◌≡◌, ◌<◌, ◌⊎◌, ◌==◌, ◌||◌, not, filter, flat_map, Vec, ℕ, List, [], ◌∷◌, map, length, Bool, true, false, nat_lt, Option, Some, None, is_some, slice_get, unwrap_or}
use Rattle.std.specs.Global.{Global}
use Rattle.std.specs.List.{list_all}
use Rattle.std.specs.Option.{option_map_or}
use Rattle.tv_value.specs.Values.{Name}
use Rattle.tv_value.specs.Orders.{named}
use Rattle.tv_value.specs.Activities.{Activity, service, nested}
use Rattle.tv_flow.specs.Flows.{Step, Flow, Document}
use Rattle.tv_flow.specs.Formed.{is_flow}
use Rattle.tv_model.specs.instance.Ranks.{ranked}
use Rattle.tv_naming.specs.Faulty.{CheckComplaint}
use Rattle.tv_naming.specs.Naming.{has_name}
use Rattle.tv_check.specs.Cycles.{nesting}
use Rattle.tv_check.specs.Depthwise.{fits_flow, flow_complaints}
use Rattle.tv_naming.specs.Numbers.{number_in}
use Rattle.tv_check.specs.Tables.{IsMeasured, AreAt, has_fitting}
use Rattle.tv_check.specs.declared.measured.Measured.{Measured}

abbrev pub IsWorked : Flow → Option Measured → Type 0
IsWorked f None = Unit {0}
IsWorked f (Some w) = IsMeasured f w.levels.items w.outputs

-- an entry for each flow, right where there is something
abbrev pub AreWorked : List (Name × Flow) → List (Option Measured) → Type 0
AreWorked [] [] = Unit {0}
AreWorked [] (w ∷ ws) = ⊥
AreWorked (f ∷ fs) [] = ⊥
AreWorked (f ∷ fs) (w ∷ ws) = IsWorked f.1 w × AreWorked fs ws

-- whether the flow of a number is measured
abbrev pub is_measured : List (Option Measured) → ℕ → Bool
is_measured ws k = is_some (unwrap_or (slice_get ws k) None)

-- whether the flow that an activity opens is measured, if the document has it
abbrev pub opens_measured : Document → List (Option Measured) → Activity → Bool
opens_measured d ws (service s) = true
opens_measured d ws (nested g) = option_map_or (is_measured ws) (number_in d.flows g) true

-- whether a flow takes and gives what the step does, where the activity opens one
abbrev pub fits_activity : Document → Step → Activity → Bool
fits_activity d s (service n) = true
fits_activity d s (nested g) = option_map_or (fits_flow s) (named g d.flows) false

-- whether all flows that a step opens are measured
abbrev pub step_opens : Document → List (Option Measured) → Step → Bool
step_opens d ws s = list_all (opens_measured d ws) s.activities

-- a flow whose strategies fit, that opens only flows that are measured
pub record IsReady (d : Document) (ws : List (Option Measured)) (f : Flow) : Type 0 where
  pub formed : is_flow f ≡ true
  pub fitting : list_all (λ s. has_fitting s.1) f.steps ≡ true
  pub opening : list_all (λ s. step_opens d ws s.1) f.steps ≡ true

-- how deep a flow of a document nests
abbrev pub flow_nesting : Document → Name → ℕ
flow_nesting d f = nesting d (length d.flows) f

-- whether the flow that an activity opens nests less deep, if the document has it
abbrev pub opens_lower : Document → ℕ → Activity → Bool
opens_lower d n (service s) = true
opens_lower d n (nested g) = not (has_name d.flows g) || nat_lt (flow_nesting d g) n

-- for each flow the numbers of its steps, by rank
abbrev pub AreOrders : List (Name × Flow) → List (Vec ℕ Global) → Type 0
AreOrders [] [] = Unit {0}
AreOrders [] (o ∷ os) = ⊥
AreOrders (f ∷ fs) [] = ⊥
AreOrders (f ∷ fs) (o ∷ os) = AreAt f.1.steps o.items (ranked f.1.steps) × AreOrders fs os

-- what is known of a document whose names and nesting were checked: orders of steps, nestings, fitting strategies, and that a
-- flow nests deeper than those that it opens
pub record IsPrepared (d : Document) (orders : List (Vec ℕ Global))
    (nestings : List ℕ) : Type 0 where
  pub orders_are : AreOrders d.flows orders
  pub nestings_are : nestings ≡ map (λ f. flow_nesting d f.0) d.flows
  pub fitting : list_all (λ f. list_all (λ s. has_fitting s.1) f.1.steps) d.flows ≡ true
  pub lower : list_all (λ f. list_all (λ s. list_all (opens_lower d (flow_nesting d f.0))
      s.1.activities) f.1.steps) d.flows ≡ true

-- the flows of lesser nesting are measured, and of this nesting so many of the first flows
pub record IsProgress (d : Document) (ws : List (Option Measured)) (n j : ℕ) : Type 0 where
  pub worked : AreWorked d.flows ws
  pub done : (i : ℕ) (f : Name × Flow) → slice_get d.flows i ≡ Some f → (flow_nesting d f.0 < n)
      ⊎ ((flow_nesting d f.0 ≡ n) × (i < j)) → is_measured ws i ≡ true

-- what is said of the flows of a nesting
abbrev pub nesting_told : Document → ℕ → List CheckComplaint
nesting_told d n = flat_map (flow_complaints d) (filter (λ f. flow_nesting d f.0 == n) d.flows)
