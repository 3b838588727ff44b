-- What a frame looks up of its flow, by the numbers of steps.
use Rattle.std.specs.Prelude.{◌≡◌, ℕ, zero, suc, ◌+◌, List, [], ◌∷◌, filter, flat_map, length, map, replicate}
use Rattle.std.specs.List.{range_with_len}
use Rattle.std.specs.Option.{option_map_or}
use Rattle.tv_value.specs.Orders.{named}
use Rattle.tv_value.specs.Values.{Name}
use Rattle.tv_flow.specs.Flows.{Flow, Step}
use Rattle.tv_strategy.specs.Conditions.{number_of}
use Rattle.tv_model.specs.instance.Steps.{strategy_of}
use Rattle.tv_check.specs.Tables.{step_level}
use Rattle.tv_check.specs.Ports.{mismatches}
use Rattle.tv_check.specs.Wirings.{wires_by_step}
use Rattle.tv_telling.specs.Along.{is_walked}
use Rattle.tv_binding.specs.Constants.{constants_view, flow_constants}
use Rattle.tv_frame.specs.Starts.{starts}
use Rattle.tv_framing.specs.turns.FirstReady.{by_falling_rank}
use Rattle.tv_frame.specs.declared.tables.Tables.{Tables}

abbrev pub levels_in : Flow → Name → ℕ
levels_in f n = option_map_or (step_level f) (named n f.steps) 0

-- ---- trees: one for each output of a step, and one for a step without outputs

abbrev pub at_least_one : ℕ → ℕ
at_least_one zero = 1
at_least_one (suc n) = suc n

abbrev pub trees_of : Name × Step → ℕ
trees_of s = at_least_one (length s.1.outputs)

-- the number of a step's first tree
abbrev pub first_tree : List (Name × Step) → ℕ → ℕ
first_tree [] n = 0
first_tree (s ∷ ss) zero = 0
first_tree (s ∷ ss) (suc n) = trees_of s + first_tree ss n

-- the depth of each tree
abbrev pub tree_depths : Flow → List ℕ
tree_depths f = flat_map (λ s. replicate (trees_of s) (step_level f s.1)) f.steps

-- ---- where the leaves of a step begin in the places of its jobs

abbrev pub step_starts : Flow → Name × Step → List (Name × ℕ)
step_starts f s = starts (number_of (mismatches f s.1)) 0 (strategy_of s.1)

-- ---- all of it

-- the tables of a flow: first trees, starts, the steps with the greatest rank first, the levels of each step, the depth of
-- each tree, the wires into ports that walk some levels, and constants
pub record AreTables (f : Flow) (t : Tables) : Type 0 where
  pub firsts_are : t.firsts.items ≡ map (first_tree f.steps) (range_with_len 0 (length f.steps))
  pub starts_are : map (λ is. is.items) t.starts.items
      ≡ map (λ s. map (λ x. x.1) (step_starts f s)) f.steps
  pub order_is : t.order.items ≡ by_falling_rank f
  pub levels_are : t.levels.items ≡ map (λ s. levels_in f s.0) f.steps
  pub depths_are : t.depths.items ≡ tree_depths f
  pub walked_are : map (λ row. row.items) t.walked.items ≡ map (filter is_walked) (wires_by_step f)
  pub constants_are : constants_view t.constants ≡ flow_constants f
