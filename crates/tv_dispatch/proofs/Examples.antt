-- The definitions on worked rows.
use Rattle.std.specs.Prelude.{◌≡◌, ℕ, List, [], ◌∷◌, map, refl, if◌then◌else◌, Ok, Err, codes}
use Rattle.std.specs.Fmt.{digits}
use Rattle.tv_value.specs.Nested.{no_trees}
use Rattle.tv_value.specs.Values.{Value, text_value, list_value, fault_value}
use Rattle.tv_value.specs.Orders.{same_name}
use Rattle.tv_gate.specs.Outcomes.{good, bad, Giving}
use Rattle.tv_value.specs.Activities.{service, nested}
use Rattle.tv_dispatch.specs.Jobs.{judged, tries, Taken, take_tries, right, opens, wrong}
use Rattle.tv_dispatch.specs.Plans.{number}

abbrev faulty : Value
faulty = fault_value (record { at = []; depth = 0; why = codes "bounced"; from = [] })

-- a text that should be two values
too_few : judged (0 ∷ 0 ∷ []) (good (text_value (codes "A") ∷ [])) ≡ Err (codes "outcome has 1 values")
unfolding digits
too_few = refl

lacking : judged (1 ∷ []) (good (text_value (codes "A") ∷ [])) ≡ Err (codes "outcome value 1 lacks depth 1")
unfolding digits
lacking = refl

-- an error is told before a depth that is lacking
holding : judged (1 ∷ []) (good (faulty ∷ [])) ≡ Err (codes "outcome value 1 holds an error")
unfolding digits
holding = refl

-- the first complaint
first : judged (0 ∷ 1 ∷ 0 ∷ []) (good (text_value [] ∷ text_value [] ∷ faulty ∷ [])) ≡ Err (codes "outcome value 2 lacks depth 1")
unfolding digits
first = refl

-- the empty list has every depth from 1
empty : judged (1 ∷ 3 ∷ []) (good (list_value no_trees ∷ list_value no_trees ∷ [])) ≡ Ok (list_value no_trees ∷ list_value no_trees ∷ [])
empty = refl

-- one service refuses always, the other gives its inputs
abbrev giving : Giving
giving s vs n = if same_name s (codes "fail_if") then bad (codes "told to fail") else good vs

abbrev inputs : List Value
inputs = text_value (codes "true") ∷ []

abbrev numbers : Taken → List (ℕ × ℕ)
numbers t = map number t.asks

-- failing over after one retry
failover : numbers (take_tries giving [] (tries inputs (0 ∷ []) 1 0 (service (codes "fail_if") ∷ service (codes "echo") ∷ []))) ≡ (0, 0) ∷ (0, 1) ∷ (1, 0) ∷ []
failover = refl

failover_right : (take_tries giving [] (tries inputs (0 ∷ []) 1 0 (service (codes "fail_if") ∷ service (codes "echo") ∷ []))).fate ≡ right inputs
failover_right = refl

-- no try is left, and the reason is that of the last
none_left : (take_tries giving [] (tries inputs (1 ∷ []) 0 0 (service (codes "fail_if") ∷ service (codes "echo") ∷ []))).fate ≡ wrong (codes "outcome value 1 lacks depth 1")
unfolding digits
none_left = refl

-- a flow ends the tries
flow_last : (take_tries giving [] (tries inputs (0 ∷ []) 0 0 (service (codes "fail_if") ∷ nested (codes "g") ∷ service (codes "echo") ∷ []))).fate ≡ opens (codes "g")
flow_last = refl
