-- The depths of a flow's steps as a table in the order of the steps, filled step by step.
use Rattle.std.specs.Prelude.{◌≡◌, ◌+◌, ◌-◌, ◌++◌, ℕ, flat_map, List, [], ◌∷◌, map, length, Bool, true, nat_le, Option, Some, None, find, unwrap_or, slice_get}
use Rattle.std.specs.Option.{option_map_or}
use Rattle.std.specs.List.{list_all}
use Rattle.tv_value.specs.Values.{Name}
use Rattle.tv_value.specs.Orders.{same_name, named}
use Rattle.tv_flow.specs.Flows.{Feed, StepInput, Step, Flow}
use Rattle.tv_flow.specs.Formed.{is_step, is_flow}
use Rattle.tv_strategy.specs.Measures.{strategy_depth, first_difference}
use Rattle.tv_model.specs.instance.Ranks.{ranked}
use Rattle.tv_model.specs.instance.Steps.{strategy_of}
use Rattle.tv_model.specs.instance.CheckedDepths.{StepDepths, feed_depth, port_depth, flow_depths, measured_outputs}
use Rattle.tv_naming.specs.Faulty.{at_step, at_input, at_output, CheckComplaint}
use Rattle.tv_naming.specs.Naming.{fits_ports}
use Rattle.tv_check.specs.Depthwise.{depth_most, past_limit, fed_complaints, node_complaints}

-- a step whose strategy has this depth
abbrev pub with_level : Name × Step → ℕ → StepDepths
with_level s k = record { step = s.0; outputs = map (λ p. (p.0, k + p.1)) s.1.outputs }

-- the steps whose depth stands in the table
abbrev pub known_steps : List (Name × Step) → List (Option ℕ) → List StepDepths
known_steps [] ls = []
known_steps (s ∷ ss) [] = []
known_steps (s ∷ ss) (None ∷ ls) = known_steps ss ls
known_steps (s ∷ ss) (Some k ∷ ls) = with_level s k ∷ known_steps ss ls

-- no strategy is deeper: 16 ports of depth 32
abbrev pub level_most : ℕ
level_most = 512

abbrev pub is_level : Option ℕ → Bool
is_level None = true
is_level (Some k) = nat_le k level_most

-- a table for a flow of a document
pub record IsTable (f : Flow) (ls : List (Option ℕ)) : Type 0 where
  pub formed : is_flow f ≡ true
  pub entries : length ls ≡ length f.steps
  pub small : list_all is_level ls ≡ true

-- two lists of steps so far in which each name finds the same
abbrev pub Agree : List StepDepths → List StepDepths → Type 0
Agree made table = (s : Name) → find (λ m. same_name s m.step) made ≡ find (λ m. same_name s m.step)
    table

-- the depth that a feed delivers, and the levels that an input port iterates
abbrev pub table_depth : Flow → List (Option ℕ) → Feed → ℕ
table_depth f ls = feed_depth f.inputs (known_steps f.steps ls)

abbrev pub table_mismatch : Flow → List (Option ℕ) → StepInput → ℕ
table_mismatch f ls i = table_depth f ls i.from - i.depth

-- no input is delivered more than the limit
abbrev pub are_within : Flow → List (Option ℕ) → List (Name × StepInput) → Bool
are_within f ls is = list_all (λ i. nat_le (table_depth f ls i.1.from) depth_most) is

-- the leaves of the strategy of a step are its input ports, where it has one
abbrev pub has_fitting : Step → Bool
has_fitting s = option_map_or (fits_ports s) s.strategy true

-- a step of a document
pub record IsSound (s : Step) : Type 0 where
  pub formed : is_step s ≡ true
  pub fitting : has_fitting s ≡ true

-- what is said of a step's ports, before its activities
abbrev pub ports_complaints : Name → List (Name × ℕ) → List StepDepths → Name × Step
    → List CheckComplaint
ports_complaints f given so_far (n, s) =
    let mismatch = port_depth given so_far s in
    let levels = strategy_depth mismatch (strategy_of s) in
    flat_map (λ i. fed_complaints given so_far (at_input f n i.0) i.1.from) s.inputs
    ++ node_complaints (at_step f n) (first_difference mismatch (strategy_of s))
    ++ flat_map (λ o. past_limit (at_output f n o.0) (o.1 + levels)) s.outputs

-- the depth of a port of outputs that are known, where they are
abbrev pub depth_of_output : Name → Option (List (Name × ℕ)) → ℕ
depth_of_output p o = option_map_or (λ ps. unwrap_or (named p ps) 1) o 1

-- the steps of these numbers, one after another
abbrev pub AreAt : {A : Type 0} → List A → List ℕ → List A → Type 0
AreAt xs ks ys = map (slice_get xs) ks ≡ map Some ys

-- the depth of a step's strategy in its flow
abbrev pub step_level : Flow → Step → ℕ
step_level f s = strategy_depth (port_depth f.inputs (flow_depths f) s) (strategy_of s)

-- a table of a whole flow, with the delivered depths of its outputs: it has the depth of each step that has a rank
pub record IsMeasured (f : Flow) (ls : List (Option ℕ)) (outputs : List (Name × ℕ)) : Type 0 where
  pub table : IsTable f ls
  pub agree : Agree (flow_depths f) (known_steps f.steps ls)
  pub levels : (j k : ℕ) (s : Name × Step) → slice_get (ranked f.steps) j ≡ Some s
      → slice_get f.steps k ≡ Some s → slice_get ls k ≡ Some (Some (step_level f s.1))
  pub outputs_are : outputs ≡ measured_outputs f
