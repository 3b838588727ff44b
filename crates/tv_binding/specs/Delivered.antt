-- The values that feeds deliver once all is known.
use Rattle.std.specs.Prelude.{◌≡◌, ℕ, zero, suc, List, map, slice_index_or}
use Rattle.tv_value.specs.Nested.{no_trees, tree, trees_of}
use Rattle.tv_value.specs.Values.{Value, list_value}
use Rattle.tv_parts.specs.Below.{Below}
use Rattle.tv_check.specs.declared.feeds.NumberedLink.{NumberedLink}
use Rattle.tv_check.specs.declared.feeds.NumberedLink.TheVariants.{Input, Output}
use Rattle.tv_check.specs.declared.feeds.NumberedFeed.{NumberedFeed}
use Rattle.tv_check.specs.declared.feeds.NumberedFeed.TheVariants.{Link, Merge, Constant}
use Rattle.tv_binding.specs.Found.{Known}

-- the values of the flow's inputs, and that of each output, by its step and its number
pub record FlowValues : Type 0 where
  pub inputs : List Value
  pub outputs : ℕ → ℕ → Value

-- the inputs are known, and what is known of each output is so
pub record IsKnownOf (d : FlowValues) (k : Known) : Type 0 where
  pub inputs : k.inputs ≡ d.inputs
  pub outputs : (s o : ℕ) → Below (k.outputs s o) (d.outputs s o)

-- what an input delivers that isn't there: no checked flow has a link to it
abbrev pub no_items : Value
no_items = list_value no_trees

abbrev pub link_value : FlowValues → NumberedLink → Value
link_value d (Input x) = slice_index_or d.inputs x no_items
link_value d (Output s o) = d.outputs s o

-- the linked value, the list of the merged ones, or the constant
abbrev pub feed_value : FlowValues → NumberedFeed → Value → Value
feed_value d (Link l) c = link_value d l
feed_value d (Merge ls) c = list_value (trees_of (map (link_value d) ls))
feed_value d Constant c = c

-- in so many one-item lists
abbrev pub wrapped_value : ℕ → Value → Value
wrapped_value zero v = v
wrapped_value (suc k) v = list_value (tree (wrapped_value k v) no_trees)
