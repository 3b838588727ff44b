-- The values that a document gives its main flow.
use Rattle.std.specs.Prelude.{ℕ, List, [], ◌++◌, not, flat_map, unwrap_or}
use Rattle.std.specs.Option.{option_map_or}
use Rattle.tv_value.specs.Values.{Name, Value, has_depth}
use Rattle.tv_value.specs.DepthSets.{least_depth}
use Rattle.tv_value.specs.Orders.{named}
use Rattle.tv_flow.specs.Flows.{Document}
use Rattle.tv_naming.specs.Faulty.{input_missing, input_unknown, input_depth, at_given, CheckComplaint, plainly, with_numbers}
use Rattle.tv_naming.specs.Naming.{complain_if, has_name}

abbrev pub main_inputs : Document → List (Name × ℕ)
main_inputs d = option_map_or (λ f. f.inputs) (named d.main d.flows) []

abbrev pub missing_against : List (Name × Value) → Name × ℕ → List CheckComplaint
missing_against given x = complain_if (not (has_name given x.0))
    (plainly input_missing (at_given x.0))

abbrev pub unknown_against : List (Name × ℕ) → Name × Value → List CheckComplaint
unknown_against inputs v = complain_if (not (has_name inputs v.0))
    (plainly input_unknown (at_given v.0))

-- a value that hasn't the declared depth
abbrev pub depth_against : List (Name × ℕ) → Name × Value → List CheckComplaint
depth_against inputs v = option_map_or (λ k. complain_if (not (has_depth v.1 k))
    (with_numbers input_depth (at_given v.0) k (unwrap_or (least_depth v.1) 0))) (named v.0 inputs)
    []

-- inputs without a value, values without an input, and values that haven't the declared depth, each in order of names
abbrev pub given_against : List (Name × ℕ) → List (Name × Value) → List CheckComplaint
given_against inputs given = flat_map (missing_against given) inputs
    ++ flat_map (unknown_against inputs) given ++ flat_map (depth_against inputs) given

abbrev pub given_complaints : Document → List CheckComplaint
given_complaints d = given_against (main_inputs d) d.inputs
