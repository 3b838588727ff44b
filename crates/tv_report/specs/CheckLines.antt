-- The line of a fault of the check.
use Rattle.std.specs.Prelude.{ℕ, [], ◌∷◌, ◌++◌, codes, decimal, Bool, true, false, if◌then◌else◌}
use Rattle.tv_value.specs.Values.{Name, Text}
use Rattle.tv_check.specs.Faulty.{Kind, no_such_port, no_such_service, no_such_flow, flow_cycle, link_cycle, strategy_ports, dot_depths, merge_depths, nested_ports, too_deep, input_missing, input_unknown, input_depth, loop_nested, loop_depths, prefix_depths, Where, at_main, at_flow, at_step, at_input, at_output, at_activity, at_after, at_loop, at_flow_output, at_given, CheckComplaint}

abbrev pub check_number : Kind → ℕ
check_number no_such_port = 1
check_number no_such_service = 2
check_number no_such_flow = 3
check_number flow_cycle = 4
check_number link_cycle = 5
check_number strategy_ports = 6
check_number dot_depths = 7
check_number merge_depths = 8
check_number nested_ports = 9
check_number too_deep = 10
check_number input_missing = 11
check_number input_unknown = 12
check_number input_depth = 13
check_number loop_nested = 14
check_number loop_depths = 15
check_number prefix_depths = 16

abbrev pub check_words : Kind → Text
check_words no_such_port = codes "no such port"
check_words no_such_service = codes "no such service"
check_words no_such_flow = codes "no such flow"
check_words flow_cycle = codes "flow cycle"
check_words link_cycle = codes "link cycle"
check_words strategy_ports = codes "strategy ports"
check_words dot_depths = codes "dot depths"
check_words merge_depths = codes "merge depths"
check_words nested_ports = codes "nested ports"
check_words too_deep = codes "too deep"
check_words input_missing = codes "input missing"
check_words input_unknown = codes "input unknown"
check_words input_depth = codes "input depth"
check_words loop_nested = codes "loop nested"
check_words loop_depths = codes "loop depths"
check_words prefix_depths = codes "prefix depths"

-- whether a complaint of that kind has its two numbers printed
abbrev pub has_numbers : Kind → Bool
has_numbers no_such_port = false
has_numbers no_such_service = false
has_numbers no_such_flow = false
has_numbers flow_cycle = false
has_numbers link_cycle = false
has_numbers strategy_ports = false
has_numbers dot_depths = true
has_numbers merge_depths = true
has_numbers nested_ports = false
has_numbers too_deep = true
has_numbers input_missing = false
has_numbers input_unknown = false
has_numbers input_depth = true
has_numbers loop_nested = false
has_numbers loop_depths = true
has_numbers prefix_depths = true

abbrev pub flow_text : Name → Text
flow_text f = codes "flow " ++ f

abbrev pub step_text : Name → Name → Text
step_text f s = flow_text f ++ codes " step " ++ s

-- a place in the document, as `flow m step c input a`
abbrev pub spot_text : Where → Text
spot_text at_main = codes "main"
spot_text (at_flow f) = flow_text f
spot_text (at_step f s) = step_text f s
spot_text (at_input f s p) = step_text f s ++ codes " input " ++ p
spot_text (at_output f s p) = step_text f s ++ codes " output " ++ p
spot_text (at_activity f s k) = step_text f s ++ codes " activity " ++ decimal k
spot_text (at_after f s k) = step_text f s ++ codes " after " ++ decimal k
spot_text (at_loop f s) = step_text f s ++ codes " loop"
spot_text (at_flow_output f p) = flow_text f ++ codes " output " ++ p
spot_text (at_given p) = codes "input " ++ p

abbrev pub numbers_text : Kind → ℕ → ℕ → Text
numbers_text k a b = if has_numbers k then codes ": " ++ decimal a ++ codes " and "
    ++ decimal b else []

abbrev pub check_text : CheckComplaint → Text
check_text c =
    codes "taverna: check fault " ++ decimal (check_number c.kind) ++ codes " "
    ++ check_words c.kind ++ codes " at " ++ spot_text c.spot
    ++ numbers_text c.kind c.first c.second ++ 10 ∷ []
