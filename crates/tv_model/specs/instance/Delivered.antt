-- What the ports of a step are given: delivered values, wrapped or to be iterated.
use Rattle.std.specs.Prelude.{ℕ, zero, suc, ◌-◌, List, [], ◌∷◌, map, unwrap_or, find}
use Rattle.std.specs.Option.{option_map_or}
use Rattle.tv_value.specs.Nested.{list, no_trees, tree, trees_of}
use Rattle.tv_value.specs.Values.{Name, JobName}
use Rattle.tv_value.specs.DepthSets.{least_depth}
use Rattle.tv_value.specs.Orders.{same_name, named}
use Rattle.tv_flow.specs.Flows.{Link, input, output, Feed, link, merge, constant}
use Rattle.tv_strategy.specs.Origins.{Origin, Traced, fixed, traced}
use Rattle.tv_strategy.specs.Iterations.{Iteration}

-- a value with its delivered depth
pub record Delivered : Type 0 where
  pub depth : ℕ
  pub value : Traced

-- a value as a port takes it: so many levels are iterated
pub record Ported : Type 0 where
  pub mismatch : ℕ
  pub value : Traced

-- a step of an instance on its inputs, by the name of the job that opened the instance
pub record StepMeaning : Type 0 where
  pub instance : JobName
  pub step : Name
  pub inputs : List (Name × Ported)
  pub iteration : Iteration
  pub outputs : List (Name × Delivered)
  -- the nodes that are known once the step has ended
  pub ending : List Origin

-- no checked flow meets it
abbrev pub nothing_delivered : Delivered
nothing_delivered = record { depth = 1; value = list fixed no_trees }

-- the links of a merge as the items of a list
abbrev pub merged : List Delivered → Delivered
merged [] = nothing_delivered
merged (d ∷ ds) = record {
  depth = suc d.depth;
  value = list fixed (trees_of (map (λ e. e.value) (d ∷ ds)));
}

-- from the flow's inputs and the steps so far, each of which has its meaning
module _ {M : Type 0} (step_in : M → StepMeaning) where
  abbrev pub link_delivers : List (Name × Delivered) → List M → Link → Delivered
  link_delivers given made (input x) = unwrap_or (named x given) nothing_delivered
  link_delivers given made (output s p) =
      option_map_or
      (λ m. unwrap_or (named p (step_in m).outputs) nothing_delivered)
      (find (λ m. same_name s (step_in m).step) made) nothing_delivered

  -- the linked value, the list of the merged ones, or the constant
  abbrev pub feed_delivers : List (Name × Delivered) → List M → Feed → Delivered
  feed_delivers given made (link l) = link_delivers given made l
  feed_delivers given made (merge ls) = merged (map (link_delivers given made) ls)
  feed_delivers given made (constant v) = record {
    depth = unwrap_or (least_depth v) 0;
    value = traced fixed v;
  }

-- in so many one-item lists
abbrev pub wrapped : ℕ → Traced → Traced
wrapped zero v = v
wrapped (suc k) v = list fixed (tree (wrapped k v) no_trees)

-- deeper data is iterated, shallower data is wrapped
abbrev pub at_port : ℕ → Delivered → Ported
at_port declared d = record {
  mismatch = d.depth - declared;
  value = wrapped (declared - d.depth) d.value;
}
