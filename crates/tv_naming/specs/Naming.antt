-- Names that name nothing: of flows, ports, steps and services; and strategies whose leaves aren't the step's ports.
use Rattle.std.specs.Prelude.{ℕ, suc, List, [], ◌∷◌, ◌++◌, map, Bool, true, false, not, ◌&&◌, ◌==◌, is_some, flat_map, count_by, length}
use Rattle.std.specs.List.{list_all, list_any}
use Rattle.std.specs.Option.{option_map_or}
use Rattle.tv_value.specs.Values.{Name}
use Rattle.tv_value.specs.Orders.{same_name, named}
use Rattle.tv_value.specs.Strategies.{Strategy}
use Rattle.tv_value.specs.Activities.{Activity, Repeat, service, nested}
use Rattle.tv_flow.specs.Flows.{Link, input, output, Feed, link, merge, constant, StepInput, Step, Flow, Document}
use Rattle.tv_strategy.specs.Measures.{leaf_names}
use Rattle.tv_naming.specs.Faulty.{no_such_port, no_such_service, no_such_flow, strategy_ports, loop_nested, Where, at_main, at_step, at_input, at_activity, at_after, at_loop, at_flow_output, CheckComplaint, plainly}

-- whether a list has a thing of this name
abbrev pub has_name : {A : Type 0} → List (Name × A) → Name → Bool
has_name xs n = is_some (named n xs)

abbrev pub feed_links : Feed → List Link
feed_links (link l) = l ∷ []
feed_links (merge ls) = ls
feed_links (constant v) = []

-- the flow has that input, or that step with that output
abbrev pub is_there : Flow → Link → Bool
is_there f (input x) = has_name f.inputs x
is_there f (output s p) = option_map_or (λ t. has_name t.outputs p) (named s f.steps) false

abbrev pub complain_if : Bool → CheckComplaint → List CheckComplaint
complain_if true c = c ∷ []
complain_if false c = []

-- each link of a feed, in order
abbrev pub link_complaints : Flow → Where → Feed → List CheckComplaint
link_complaints f w feed = flat_map (λ l. complain_if (not (is_there f l)) (plainly no_such_port w))
    (feed_links feed)

-- each of these names stands among the others once, and there are no others
abbrev pub are_the_same : List Name → List Name → Bool
are_the_same ns ms = (length ns == length ms) && list_all (λ n. count_by (same_name n) ms == 1) ns
    && list_all (λ m. count_by (same_name m) ns == 1) ms

abbrev pub fits_ports : Step → Strategy → Bool
fits_ports s t = are_the_same (map (λ i. i.0) s.inputs) (leaf_names t)

-- the things of a list with their positions
abbrev pub numbered : {A : Type 0} → ℕ → List A → List (ℕ × A)
numbered k [] = []
numbered k (x ∷ xs) = (k, x) ∷ numbered (suc k) xs

abbrev pub input_complaints : Name → Flow → Name → Name × StepInput → List CheckComplaint
input_complaints f flow n i = link_complaints flow (at_input f n i.0) i.1.from

abbrev pub strategy_complaints : Name → Name × Step → List CheckComplaint
strategy_complaints f (n, s) = option_map_or (λ t. complain_if (not (fits_ports s t))
    (plainly strategy_ports (at_step f n))) s.strategy []

abbrev pub after_complaints : Name → Flow → Name → ℕ × Name → List CheckComplaint
after_complaints f flow n (k, a) = complain_if (not (has_name flow.steps a))
    (plainly no_such_port (at_after f n k))

abbrev pub output_complaints : Name → Flow → Name × Feed → List CheckComplaint
output_complaints f flow o = link_complaints flow (at_flow_output f o.0) o.1

abbrev pub is_nested : Activity → Bool
is_nested (service n) = false
is_nested (nested n) = true

module _ (knows : Name → Bool) (d : Document) where
  abbrev pub activity_complaints : Name → Name → ℕ × Activity → List CheckComplaint
  activity_complaints f n (k, service a) = complain_if (not (knows a))
      (plainly no_such_service (at_activity f n k))
  activity_complaints f n (k, nested g) = complain_if (not (has_name d.flows g))
      (plainly no_such_flow (at_activity f n k))

  -- a condition service that isn't known; a nested flow beside a loop
  abbrev pub repeat_complaints : Where → List Activity → Repeat → List CheckComplaint
  repeat_complaints w as' r = complain_if (not (knows r.service)) (plainly no_such_service w)
      ++ complain_if (list_any is_nested as') (plainly loop_nested w)

  abbrev pub loop_complaints : Name → Name × Step → List CheckComplaint
  loop_complaints f (n, s) =
      option_map_or (repeat_complaints (at_loop f n) s.activities) s.repeat []

  -- a step: the links of its inputs, its strategy, its activities, its loop, and the steps that it runs after
  abbrev pub step_naming : Name → Flow → Name × Step → List CheckComplaint
  step_naming f flow (n, s) =
      flat_map (input_complaints f flow n) s.inputs
      ++ strategy_complaints f (n, s)
      ++ flat_map (activity_complaints f n) (numbered 0 s.activities)
      ++ loop_complaints f (n, s)
      ++ flat_map (after_complaints f flow n) (numbered 0 s.after)

  abbrev pub flow_naming : Name × Flow → List CheckComplaint
  flow_naming (f, flow) = flat_map (step_naming f flow) flow.steps
      ++ flat_map (output_complaints f flow) flow.outputs

  -- the main flow, and then the flows in order
  abbrev pub naming_complaints : List CheckComplaint
  naming_complaints = complain_if (not (has_name d.flows d.main)) (plainly no_such_flow at_main)
      ++ flat_map flow_naming d.flows
