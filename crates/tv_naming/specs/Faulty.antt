-- What the check of a document complains of, and where.
use Rattle.std.specs.Prelude.{ℕ, List, [], ◌∷◌, Option, Some, None}
use Rattle.tv_value.specs.Values.{Name}

pub data Kind : Type 0 where
  no_such_port : Kind
  no_such_service : Kind
  no_such_flow : Kind
  flow_cycle : Kind
  link_cycle : Kind
  strategy_ports : Kind
  dot_depths : Kind
  merge_depths : Kind
  nested_ports : Kind
  too_deep : Kind
  input_missing : Kind
  input_unknown : Kind
  input_depth : Kind
  loop_nested : Kind
  loop_depths : Kind
  prefix_depths : Kind

-- a place in a document: positions count from 0
pub data Where : Type 0 where
  at_main : Where
  at_flow : Name → Where
  at_step : Name → Name → Where
  at_input : Name → Name → Name → Where
  at_output : Name → Name → Name → Where
  at_activity : Name → Name → ℕ → Where
  at_after : Name → Name → ℕ → Where
  at_loop : Name → Name → Where
  at_flow_output : Name → Name → Where
  at_given : Name → Where

-- a complaint, with two numbers that are 0 where its kind has none
pub record CheckComplaint : Type 0 where
  pub kind : Kind
  pub spot : Where
  pub first : ℕ
  pub second : ℕ

-- one with no numbers
abbrev pub plainly : Kind → Where → CheckComplaint
plainly k w = record { kind = k; spot = w; first = 0; second = 0 }

-- one with two numbers
abbrev pub with_numbers : Kind → Where → ℕ → ℕ → CheckComplaint
with_numbers k w a b = record { kind = k; spot = w; first = a; second = b }

-- the first of these, where there is one
abbrev pub first_of : List CheckComplaint → Option CheckComplaint
first_of [] = None
first_of (c ∷ cs) = Some c
