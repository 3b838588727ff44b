-- What a feed delivers at a place, as far as marks go: elements of the flow's inputs, and nodes of steps' iterations.
use Rattle.std.specs.Option.{option_map_or}
use Rattle.std.specs.Prelude.{ℕ, List, [], ◌∷◌, flat_map, map, slice_get, slice_index_or}
use Rattle.tv_value.specs.Nested.{Place, leaf, list}
use Rattle.tv_value.specs.Values.{JobName, Name}
use Rattle.tv_lineage.specs.Kept.{Part, element, result}
use Rattle.tv_lineage.specs.Touching.{Mark, given, made}
use Rattle.tv_flow.specs.Flows.{Flow}
use Rattle.tv_check.specs.declared.feeds.NumberedLink.{NumberedLink}
use Rattle.tv_check.specs.declared.feeds.NumberedLink.TheVariants.{Input, Output}
use Rattle.tv_check.specs.declared.feeds.NumberedFeed.{NumberedFeed}
use Rattle.tv_check.specs.declared.feeds.NumberedFeed.TheVariants.{Link, Merge, Constant}
use Rattle.tv_traces.specs.Shapes.{Shape, job_here, no_shape, passed_by, reached, shape_used}

-- the job of a step of the main flow
abbrev pub job_at : Name → Place → JobName
job_at s q = (s, q) ∷ []

-- ---- what is told of an element of an input, and of a node of a step at a place

-- their marks
abbrev pub element_marks : Name → Place → List Mark
element_marks x q = given x q ∷ []

abbrev pub node_marks : Name → Place → Shape → List Mark
node_marks s q u = shape_used (job_at s) q u

-- and parts that stand for these
abbrev pub element_parts : Name → Place → List Part
element_parts x q = element x q ∷ []

abbrev pub as_part : Mark → Part
as_part (given x q) = element x q
as_part (made n) = result n

abbrev pub node_parts : Name → Place → Shape → List Part
node_parts s q (leaf g job_here) = result (job_at s q) ∷ []
node_parts s q (leaf g (passed_by ms)) = map as_part ms
node_parts s q (list g us) = g ∷ []

-- ---- what a feed delivers

-- of an input that the flow has
abbrev pub input_told : {A : Type 0} → (Name → Place → List A) → Flow → ℕ → Place → List A
input_told of_element flow x q = option_map_or (λ i. of_element i.0 q) (slice_get flow.inputs x) []

module _ {A : Type 0} (of_node : Name → Place → Shape → List A) (flow : Flow)
    (shapes : List Shape) where
  -- of an output that the flow has
  abbrev pub output_told : ℕ → ℕ → Place → List A
  output_told n o q =
      option_map_or
      (λ s. option_map_or
      (λ p. option_map_or (λ x. of_node s.0 x.0 x.1)
      (reached [] (slice_index_or shapes n no_shape) q) [])
      (slice_get s.1.outputs o) [])
      (slice_get flow.steps n) []

module _ {A : Type 0} (of_element : Name → Place → List A) (of_node : Name → Place → Shape → List A)
    (flow : Flow) (shapes : List Shape) where
  abbrev pub link_told : NumberedLink → Place → List A
  link_told (Input x) q = input_told of_element flow x q
  link_told (Output n o) q = output_told of_node flow shapes n o q

  -- a merge is the list of what its links deliver
  abbrev pub merge_told : List NumberedLink → Place → List A
  merge_told ls [] = flat_map (λ l. link_told l []) ls
  merge_told ls (i ∷ q) = option_map_or (λ l. link_told l q) (slice_get ls i) []

  -- a constant has no mark
  abbrev pub feed_told : NumberedFeed → Place → List A
  feed_told (Link l) q = link_told l q
  feed_told (Merge ls) q = merge_told ls q
  feed_told Constant q = []

abbrev pub feed_marks : Flow → List Shape → NumberedFeed → Place → List Mark
feed_marks = feed_told element_marks node_marks

abbrev pub feed_parts : Flow → List Shape → NumberedFeed → Place → List Part
feed_parts = feed_told element_parts node_parts
