-- Documents with what the check says of them, each of which computes.
use Rattle.std.specs.Prelude.{◌≡◌, ℕ, List, [], ◌∷◌, codes, Bool, Option, Some, None}
use Rattle.tv_value.specs.Nested.{tree, no_trees}
use Rattle.tv_value.specs.Values.{Name, Value, text_value, list_value}
use Rattle.tv_value.specs.Strategies.{Strategy, port, dot, prefix, strategy, no_strategies}
use Rattle.tv_value.specs.Activities.{Activity, Repeat, service, nested}
use Rattle.tv_flow.specs.Flows.{input, output, Feed, link, merge, StepInput, Step, Flow, Document}
use Rattle.tv_model.specs.instance.Ranks.{is_among}
use Rattle.tv_naming.specs.Faulty.{no_such_port, no_such_service, no_such_flow, flow_cycle, link_cycle, strategy_ports, dot_depths, merge_depths, nested_ports, too_deep, input_missing, input_unknown, input_depth, loop_nested, loop_depths, prefix_depths, at_main, at_flow, at_step, at_input, at_output, at_activity, at_after, at_loop, at_flow_output, at_given, plainly, with_numbers}
use Rattle.tv_check.specs.Passes.{checked}

abbrev pub is_known_service : Name → Bool
is_known_service n = is_among (codes "concat" ∷ codes "echo" ∷ codes "lower" ∷ codes "upper" ∷ []) n

abbrev pub from_x : Feed
from_x = link (input (codes "x"))

abbrev pub from_y : Feed
from_y = link (input (codes "y"))

-- the output o of a step
abbrev pub of_step : Name → Feed
of_step s = link (output s (codes "o"))

abbrev pub fed : ℕ → Feed → StepInput
fed depth feed = record { depth = depth; from = feed }

-- a step with the one output o
abbrev pub step_of : List (Name × StepInput) → ℕ → Activity → Step
step_of inputs depth activity =
    record {
      inputs = inputs;
      outputs = (codes "o", depth) ∷ [];
      strategy = None;
      activities = activity ∷ [];
      retries = 0;
      jobs = 1;
      after = [];
      repeat = None;
    }

-- a document of one flow m, whose output is that of the step named last
abbrev pub one_flow : List (Name × ℕ) → List (Name × Step) → Name → List (Name × Value) → Document
one_flow inputs steps last values =
    record {
      format = 1;
      main = codes "m";
      flows = (
        codes "m",
        record {
          inputs = inputs;
          steps = steps;
          outputs = (codes "out", of_step last) ∷ [];
        },
      ) ∷ [];
      inputs = values;
    }

abbrev pub a_text : Value
a_text = text_value (codes "a")

abbrev pub a_list : Value
a_list = list_value (tree a_text no_trees)

abbrev pub upper_of_x : Step
upper_of_x = step_of ((codes "a", fed 0 from_x) ∷ []) 0 (service (codes "upper"))

abbrev pub concat_of : Option Strategy → Step
concat_of s =
    record (step_of ((codes "a", fed 0 from_x) ∷ (codes "b", fed 0 from_y) ∷ []) 0
    (service (codes "concat"))) { strategy = s }

abbrev pub dot_of_a_b : Strategy
dot_of_a_b = dot (strategy (port (codes "a")) (strategy (port (codes "b")) no_strategies))

-- a cross of two lists is accepted
abbrev pub AcceptsCross : Type 0
AcceptsCross =
    checked is_known_service
    (one_flow ((codes "x", 1) ∷ (codes "y", 1) ∷ []) ((codes "c", concat_of None) ∷ []) (codes "c")
    ((codes "x", a_list) ∷ (codes "y", a_list) ∷ [])) ≡ None

-- the children of a dot have depths 1 and 0
abbrev pub TellsDotDepths : Type 0
TellsDotDepths =
    checked is_known_service
    (one_flow ((codes "x", 1) ∷ (codes "y", 0) ∷ [])
    ((codes "c", concat_of (Some dot_of_a_b)) ∷ []) (codes "c")
    ((codes "x", a_list) ∷ (codes "y", a_text) ∷ []))
    ≡ Some (with_numbers dot_depths (at_step (codes "m") (codes "c")) 1 0)

-- the left of a prefix node iterates two levels, its right one
abbrev pub TellsPrefixDepths : Type 0
TellsPrefixDepths =
    checked is_known_service
    (one_flow ((codes "x", 2) ∷ (codes "y", 1) ∷ [])
    ((codes "c", concat_of (Some (prefix (port (codes "a")) (port (codes "b"))))) ∷ []) (codes "c")
    ((codes "x", list_value (tree a_list no_trees)) ∷ (codes "y", a_list) ∷ []))
    ≡ Some (with_numbers prefix_depths (at_step (codes "m") (codes "c")) 2 1)

abbrev pub until_done : Name → Option Repeat
until_done s = Some (record { service = s; until = codes "done"; most = 10 })

-- an input of depth 0 whose output for the next round has depth 1
abbrev pub TellsLoopDepths : Type 0
TellsLoopDepths =
    checked is_known_service
    (one_flow ((codes "x", 0) ∷ [])
    ((
      codes "l",
      record (step_of ((codes "o", fed 0 from_x) ∷ []) 1 (service (codes "upper"))) {
        repeat = until_done (codes "echo");
      },
    ) ∷ [])
    (codes "l") ((codes "x", a_text) ∷ []))
    ≡ Some (with_numbers loop_depths (at_loop (codes "m") (codes "l")) 0 1)

-- a condition that isn't known comes before a nested flow beside the loop
abbrev pub TellsCondition : Type 0
TellsCondition =
    checked is_known_service
    (one_flow ((codes "x", 0) ∷ [])
    ((
      codes "l",
      record (step_of ((codes "a", fed 0 from_x) ∷ []) 0 (nested (codes "m"))) {
        repeat = until_done (codes "none");
      },
    ) ∷ [])
    (codes "l") ((codes "x", a_text) ∷ []))
    ≡ Some (plainly no_such_service (at_loop (codes "m") (codes "l")))

-- a nested flow beside a loop comes before a step to run after that isn't there, and before the cycle of flows
abbrev pub TellsLoopNested : Type 0
TellsLoopNested =
    checked is_known_service
    (one_flow ((codes "x", 0) ∷ [])
    ((
      codes "l",
      record (step_of ((codes "a", fed 0 from_x) ∷ []) 0 (nested (codes "m"))) {
        after = codes "z" ∷ [];
        repeat = until_done (codes "echo");
      },
    ) ∷ [])
    (codes "l") ((codes "x", a_text) ∷ []))
    ≡ Some (plainly loop_nested (at_loop (codes "m") (codes "l")))

-- the links of a merge deliver depths 0 and 1
abbrev pub TellsMergeDepths : Type 0
TellsMergeDepths =
    checked is_known_service
    (one_flow ((codes "x", 0) ∷ (codes "y", 1) ∷ [])
    ((
      codes "e",
      step_of
          ((codes "a", fed 1 (merge (input (codes "x") ∷ input (codes "y") ∷ []))) ∷ []) 1
          (service (codes "echo")),
    ) ∷ []) (codes "e")
    ((codes "x", a_text) ∷ (codes "y", a_list) ∷ []))
    ≡ Some (with_numbers merge_depths (at_input (codes "m") (codes "e") (codes "a")) 0 1)

-- a merge of two inputs of depth 32 delivers depth 33
abbrev pub TellsDeepMerge : Type 0
TellsDeepMerge =
    checked is_known_service
    (one_flow ((codes "x", 32) ∷ (codes "y", 32) ∷ [])
    ((
      codes "e",
      step_of
          ((codes "a", fed 0 (merge (input (codes "x") ∷ input (codes "y") ∷ []))) ∷ []) 0
          (service (codes "echo")),
    ) ∷ []) (codes "e") [])
    ≡ Some (with_numbers too_deep (at_input (codes "m") (codes "e") (codes "a")) 33 32)

-- two steps feed each other: the first in order of names
abbrev pub TellsLinkCycle : Type 0
TellsLinkCycle =
    checked is_known_service
    (one_flow ((codes "x", 0) ∷ [])
    ((
      codes "p",
      step_of ((codes "a", fed 0 (of_step (codes "q"))) ∷ []) 0
          (service (codes "upper")),
    )
    ∷ (
      codes "q",
      step_of ((codes "a", fed 0 (of_step (codes "p"))) ∷ []) 0
          (service (codes "lower")),
    ) ∷ []) (codes "q") ((codes "x", a_text) ∷ []))
    ≡ Some (plainly link_cycle (at_step (codes "m") (codes "p")))

-- a step feeds itself
abbrev pub TellsSelfLink : Type 0
TellsSelfLink =
    checked is_known_service
    (one_flow ((codes "x", 0) ∷ [])
    ((
      codes "p",
      step_of ((codes "a", fed 0 (of_step (codes "p"))) ∷ []) 0
          (service (codes "upper")),
    ) ∷ []) (codes "p") ((codes "x", a_text) ∷ []))
    ≡ Some (plainly link_cycle (at_step (codes "m") (codes "p")))

-- a list is given for a text
abbrev pub TellsInputDepth : Type 0
TellsInputDepth =
    checked is_known_service
    (one_flow ((codes "x", 0) ∷ []) ((codes "u", upper_of_x) ∷ []) (codes "u")
    ((codes "x", a_list) ∷ []))
    ≡ Some (with_numbers input_depth (at_given (codes "x")) 0 1)

-- a missing value comes before one that no input asks for
abbrev pub TellsMissingFirst : Type 0
TellsMissingFirst =
    checked is_known_service
    (one_flow ((codes "x", 0) ∷ []) ((codes "u", upper_of_x) ∷ []) (codes "u")
    ((codes "w", a_text) ∷ []))
    ≡ Some (plainly input_missing (at_given (codes "x")))

abbrev pub TellsUnknownInput : Type 0
TellsUnknownInput =
    checked is_known_service
    (one_flow ((codes "x", 0) ∷ []) ((codes "u", upper_of_x) ∷ []) (codes "u")
    ((codes "w", a_text) ∷ (codes "x", a_text) ∷ []))
    ≡ Some (plainly input_unknown (at_given (codes "w")))

-- names come before links: the unknown service, and not the step that feeds itself
abbrev pub TellsNamesFirst : Type 0
TellsNamesFirst =
    checked is_known_service
    (one_flow ((codes "x", 0) ∷ [])
    ((
      codes "p",
      step_of ((codes "a", fed 0 (of_step (codes "p"))) ∷ []) 0
          (service (codes "none")),
    ) ∷ []) (codes "p") ((codes "x", a_text) ∷ []))
    ≡ Some (plainly no_such_service (at_activity (codes "m") (codes "p") 0))

-- a link that names no step comes before a strategy that lacks a port
abbrev pub TellsLinksFirst : Type 0
TellsLinksFirst =
    checked is_known_service
    (one_flow ((codes "x", 0) ∷ [])
    ((
      codes "c",
      record (step_of ((codes "a", fed 0 (of_step (codes "z"))) ∷ (codes "b", fed 0 from_x)
          ∷ []) 0 (service (codes "concat"))) { strategy = Some (port (codes "a")) },
    ) ∷ [])
    (codes "c") ((codes "x", a_text) ∷ []))
    ≡ Some (plainly no_such_port (at_input (codes "m") (codes "c") (codes "a")))

abbrev pub TellsStrategyPorts : Type 0
TellsStrategyPorts =
    checked is_known_service
    (one_flow ((codes "x", 0) ∷ (codes "y", 0) ∷ [])
    ((codes "c", concat_of (Some (port (codes "a")))) ∷ []) (codes "c")
    ((codes "x", a_text) ∷ (codes "y", a_text) ∷ []))
    ≡ Some (plainly strategy_ports (at_step (codes "m") (codes "c")))

abbrev pub TellsAfter : Type 0
TellsAfter =
    checked is_known_service
    (one_flow ((codes "x", 0) ∷ [])
    ((codes "u", record upper_of_x { after = codes "u" ∷ codes "v" ∷ [] }) ∷ []) (codes "u")
    ((codes "x", a_text) ∷ []))
    ≡ Some (plainly no_such_port (at_after (codes "m") (codes "u") 1))

abbrev pub TellsFlowOutput : Type 0
TellsFlowOutput =
    checked is_known_service
    (one_flow ((codes "x", 0) ∷ []) ((codes "u", upper_of_x) ∷ []) (codes "v")
    ((codes "x", a_text) ∷ []))
    ≡ Some (plainly no_such_port (at_flow_output (codes "m") (codes "out")))

abbrev pub TellsNoMain : Type 0
TellsNoMain = checked is_known_service (record (one_flow [] [] (codes "u") []) { main = codes "n" })
    ≡ Some (plainly no_such_flow at_main)

-- ---- nested flows

-- a flow with the input a and the output o, of a step that opens another flow
abbrev pub opening : Name → Flow
opening g =
    record {
      inputs = (codes "a", 0) ∷ [];
      steps =
          (codes "n", step_of ((codes "a", fed 0 (link (input (codes "a")))) ∷ []) 0 (nested g)) ∷ [];
      outputs = (codes "o", of_step (codes "n")) ∷ [];
    }

-- the same of a service
abbrev pub asking : Flow
asking = record {
  inputs = (codes "a", 0) ∷ [];
  steps = (
    codes "n",
    step_of ((codes "a", fed 0 (link (input (codes "a")))) ∷ []) 0
        (service (codes "upper")),
  ) ∷ [];
  outputs = (codes "o", of_step (codes "n")) ∷ [];
}

abbrev pub of_flows : Name → List (Name × Flow) → Document
of_flows main flows =
    record { format = 1; main = main; flows = flows; inputs = (codes "a", a_text) ∷ [] }

abbrev pub AcceptsNested : Type 0
AcceptsNested =
    checked is_known_service
    (of_flows (codes "f1") ((codes "f1", opening (codes "f2")) ∷ (codes "f2", asking) ∷ [])) ≡ None

abbrev pub TellsFlowCycle : Type 0
TellsFlowCycle =
    checked is_known_service
    (of_flows (codes "f1")
    ((codes "f1", opening (codes "f2")) ∷ (codes "f2", opening (codes "f1")) ∷ []))
    ≡ Some (plainly flow_cycle (at_flow (codes "f1")))

-- nine levels of flows are one too many
abbrev pub TellsDeepNesting : Type 0
TellsDeepNesting =
    checked is_known_service
    (of_flows (codes "f1")
    ((codes "f1", opening (codes "f2")) ∷ (codes "f2", opening (codes "f3"))
    ∷ (codes "f3", opening (codes "f4")) ∷ (codes "f4", opening (codes "f5"))
    ∷ (codes "f5", opening (codes "f6")) ∷ (codes "f6", opening (codes "f7"))
    ∷ (codes "f7", opening (codes "f8")) ∷ (codes "f8", opening (codes "f9"))
    ∷ (codes "f9", asking) ∷ []))
    ≡ Some (with_numbers too_deep (at_flow (codes "f1")) 9 8)

-- a step takes depth 1 where the flow that it opens takes depth 0
abbrev pub TellsNestedPorts : Type 0
TellsNestedPorts =
    checked is_known_service
    (record (one_flow ((codes "x", 1) ∷ [])
    ((codes "n", step_of ((codes "a", fed 1 from_x) ∷ []) 0 (nested (codes "s"))) ∷ [])
    (codes "n") ((codes "x", a_list) ∷ [])) {
      flows = (
        codes "m",
        record {
          inputs = (codes "x", 1) ∷ [];
          steps = (codes "n", step_of ((codes "a", fed 1 from_x) ∷ []) 0 (nested (codes "s"))) ∷ [];
          outputs = (codes "out", of_step (codes "n")) ∷ [];
        },
      ) ∷ (codes "s", asking) ∷ [];
    })
    ≡ Some (plainly nested_ports (at_activity (codes "m") (codes "n") 0))

-- 16 levels iterated and 17 declared are one too many
abbrev pub TellsDeepOutput : Type 0
TellsDeepOutput =
    checked is_known_service
    (one_flow ((codes "x", 16) ∷ [])
    ((codes "u", step_of ((codes "a", fed 0 from_x) ∷ []) 17 (service (codes "upper"))) ∷ [])
    (codes "u") [])
    ≡ Some (with_numbers too_deep (at_output (codes "m") (codes "u") (codes "o")) 33 32)
