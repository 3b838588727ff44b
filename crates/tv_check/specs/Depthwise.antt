-- Depths that don't fit: of the links of a merge, of the children of a dot or prefix node, of nested ports, of a loop, and those past the limit.
use Rattle.std.specs.Prelude.{ℕ, ◌+◌, List, [], ◌∷◌, ◌++◌, map, length, Bool, not, ◌&&◌, ◌==◌, nat_lt, if◌then◌else◌, Option, Some, None, false, true, find, filter, flat_map}
use Rattle.std.specs.Option.{option_map_or}
use Rattle.tv_value.specs.Values.{Name}
use Rattle.tv_value.specs.Orders.{same_name, named}
use Rattle.tv_value.specs.Activities.{Activity, service, nested}
use Rattle.tv_flow.specs.Flows.{Feed, link, merge, constant, StepInput, Step, Flow, Document}
use Rattle.tv_strategy.specs.Measures.{strategy_depth, Difference, first_difference}
use Rattle.tv_model.specs.instance.Ranks.{ranked}
use Rattle.tv_model.specs.instance.Steps.{strategy_of}
use Rattle.tv_model.specs.instance.CheckedDepths.{StepDepths, link_depth, feed_depth, port_depth, step_depths, flow_depths, measured_outputs}
use Rattle.tv_naming.specs.Faulty.{merge_depths, dot_depths, prefix_depths, loop_depths, nested_ports, too_deep, Where, at_step, at_input, at_output, at_activity, at_loop, at_flow_output, CheckComplaint, plainly, with_numbers}
use Rattle.tv_naming.specs.Naming.{complain_if, numbered}
use Rattle.tv_check.specs.Cycles.{nesting}

-- no declared or delivered depth is greater
abbrev pub depth_most : ℕ
depth_most = 32

abbrev pub past_limit : Where → ℕ → List CheckComplaint
past_limit w depth = complain_if (nat_lt depth_most depth) (with_numbers too_deep w depth
    depth_most)

-- the first link of a merge that delivers another depth than its first link
abbrev pub merge_difference : Where → List ℕ → List CheckComplaint
merge_difference w [] = []
merge_difference w (d ∷ ds) = option_map_or (λ e. with_numbers merge_depths w d e ∷ [])
    (find (λ e. not (e == d)) ds) []

abbrev pub feed_depths : List (Name × ℕ) → List StepDepths → Where → Feed → List CheckComplaint
feed_depths given so_far w (link l) = []
feed_depths given so_far w (merge ls) = merge_difference w (map (link_depth given so_far) ls)
feed_depths given so_far w (constant v) = []

-- what feeds a port or a flow output
abbrev pub fed_complaints : List (Name × ℕ) → List StepDepths → Where → Feed → List CheckComplaint
fed_complaints given so_far w f = feed_depths given so_far w f
    ++ past_limit w (feed_depth given so_far f)

-- the same names with the same numbers, in the same order
abbrev pub same_ports : List (Name × ℕ) → List (Name × ℕ) → Bool
same_ports [] [] = true
same_ports [] (q ∷ qs) = false
same_ports (p ∷ ps) [] = false
same_ports (p ∷ ps) (q ∷ qs) = same_name p.0 q.0 && p.1 == q.1 && same_ports ps qs

-- a flow takes what the step takes, and gives what the step gives
abbrev pub fits_flow : Step → Flow → Bool
fits_flow s f = same_ports (map (λ i. (i.0, i.1.depth)) s.inputs) f.inputs
    && same_ports s.outputs (measured_outputs f)

abbrev pub nested_complaints : Document → Name → Name → Step → ℕ × Activity → List CheckComplaint
nested_complaints d f n s (k, service a) = []
nested_complaints d f n s (k, nested g) = complain_if
    (not (option_map_or (fits_flow s) (named g d.flows) false))
    (plainly nested_ports (at_activity f n k))

abbrev pub node_complaints : Where → Option Difference → List CheckComplaint
node_complaints w None = []
node_complaints w (Some e) = with_numbers (if e.prefixed then prefix_depths else dot_depths) w e.first e.second ∷ []

-- an input that is an output too, with another depth
abbrev pub round_complaints : Where → List (Name × ℕ) → Name × StepInput → List CheckComplaint
round_complaints w outputs i = option_map_or (λ e. complain_if (not (i.1.depth == e))
    (with_numbers loop_depths w i.1.depth e)) (named i.0 outputs) []

-- in a step with a loop, whose outputs are the next round's inputs
abbrev pub loop_complaints : Where → Step → List CheckComplaint
loop_complaints w s = option_map_or (λ r. flat_map (round_complaints w s.outputs) s.inputs) s.repeat
    []

-- a step, from the depths of the flow's inputs and of the steps so far
abbrev pub step_complaints : Document → Name → List (Name × ℕ) → List StepDepths → Name × Step
    → List CheckComplaint
step_complaints d f given so_far (n, s) =
    let mismatch = port_depth given so_far s in
    let levels = strategy_depth mismatch (strategy_of s) in
    flat_map (λ i. fed_complaints given so_far (at_input f n i.0) i.1.from) s.inputs
    ++ node_complaints (at_step f n) (first_difference mismatch (strategy_of s))
    ++ flat_map (λ o. past_limit (at_output f n o.0) (o.1 + levels)) s.outputs
    ++ flat_map (nested_complaints d f n s) (numbered 0 s.activities)
    ++ loop_complaints (at_loop f n) s

-- the steps by rank
abbrev pub steps_complaints : Document → Name → List (Name × ℕ) → List StepDepths
    → List (Name × Step) → List CheckComplaint
steps_complaints d f given so_far [] = []
steps_complaints d f given so_far (s ∷ ss) = step_complaints d f given so_far s
    ++ steps_complaints d f given (step_depths given so_far s ∷ so_far) ss

abbrev pub flow_complaints : Document → Name × Flow → List CheckComplaint
flow_complaints d (f, flow) =
    steps_complaints d f flow.inputs [] (ranked flow.steps)
    ++ flat_map (λ o. fed_complaints flow.inputs (flow_depths flow) (at_flow_output f o.0) o.1)
    flow.outputs

-- the flows of these nestings, each in order of names
abbrev pub by_nesting : Document → List ℕ → List (Name × Flow)
by_nesting d ns = flat_map (λ n. filter (λ f. nesting d (length d.flows) f.0 == n) d.flows) ns

-- the flows by nesting, least first, and then in order of names
abbrev pub depth_complaints : Document → List CheckComplaint
depth_complaints d = flat_map (flow_complaints d) (by_nesting d (1 ∷ 2 ∷ 3 ∷ 4 ∷ 5 ∷ 6 ∷ 7 ∷ 8
    ∷ []))
