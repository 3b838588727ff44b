-- Inputs and constants as code has them, by numbers.
use Rattle.std.specs.Prelude.{◌≡◌, true, List, slice_index_or}
use Rattle.tv_value.specs.Nested.{list, no_trees}
use Rattle.tv_value.specs.Values.{Name, Value}
use Rattle.tv_flow.specs.Flows.{Feed, Flow, constant, link, merge}
use Rattle.tv_naming.specs.Naming.{has_name}
use Rattle.tv_naming.specs.Numbers.{position}
use Rattle.tv_model.specs.Instances.{value_given}

-- these are the values that the inputs of a flow are given, in their order
abbrev pub AreInputValues : Flow → List (Name × Value) → List Value → Type 0
AreInputValues f given values =
    (x : Name) → has_name f.inputs x ≡ true
    → slice_index_or values (position x f.inputs) (list tt no_trees) ≡ value_given given x

-- the constant, where the feed is one
abbrev pub IsFixedValue : Feed → Value → Type 0
IsFixedValue (link l) c = Unit {0}
IsFixedValue (merge ls) c = Unit {0}
IsFixedValue (constant v) c = c ≡ v
