-- What a feed is found to deliver at a place, from the values of the flow's inputs and what is known of the steps' outputs.
use Rattle.std.specs.Prelude.{ℕ, List, [], ◌∷◌, map, Option, Some, None, option_map, option_and_then, slice_get}
use Rattle.tv_value.specs.Nested.{Place, at, trees_of}
use Rattle.tv_value.specs.Values.{Value, list_value}
use Rattle.tv_parts.specs.Partials.{Partial}
use Rattle.tv_outputs.specs.FoundIn.{found_in}
use Rattle.tv_check.specs.declared.feeds.NumberedLink.{NumberedLink}
use Rattle.tv_check.specs.declared.feeds.NumberedLink.TheVariants.{Input, Output}
use Rattle.tv_check.specs.declared.feeds.NumberedFeed.{NumberedFeed}
use Rattle.tv_check.specs.declared.feeds.NumberedFeed.TheVariants.{Link, Merge, Constant}

-- the values of the flow's inputs, and of each output, by its step and its number, what is known of it
pub record Known : Type 0 where
  pub inputs : List Value
  pub outputs : ℕ → ℕ → Partial Value

abbrev pub link_found : Known → NumberedLink → Place → Option Value
link_found k (Input x) q = option_and_then (λ v. at v q) (slice_get k.inputs x)
link_found k (Output s o) q = found_in q (k.outputs s o)

-- all of these, where each is there
abbrev pub all_found : List (Option Value) → Option (List Value)
all_found [] = Some []
all_found (None ∷ os) = None
all_found (Some v ∷ os) = option_map (λ vs. v ∷ vs) (all_found os)

-- a merge is the list of what its links deliver
abbrev pub merge_found : Known → List NumberedLink → Place → Option Value
merge_found k ls [] = option_map (λ vs. list_value (trees_of vs))
    (all_found (map (λ l. link_found k l []) ls))
merge_found k ls (i ∷ q) = option_and_then (λ l. link_found k l q) (slice_get ls i)

-- a constant stands in the flow
abbrev pub feed_found : Known → NumberedFeed → Option Value → Place → Option Value
feed_found k (Link l) c q = link_found k l q
feed_found k (Merge ls) c q = merge_found k ls q
feed_found k Constant c q = option_and_then (λ v. at v q) c
