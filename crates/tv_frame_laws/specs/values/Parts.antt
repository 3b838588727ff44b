-- What is known of a feed and of a port: a partial tree of what the feed delivers, and of what the
-- port takes.
use Rattle.std.specs.Prelude.{ℕ, zero, suc, ◌-◌, List, [], ◌∷◌, map}
use Rattle.tv_value.specs.Values.{Name, Value}
use Rattle.tv_flow.specs.Flows.{Feed, Flow, Link, StepInput, constant, input, link, merge, output}
use Rattle.tv_model.specs.instance.CheckedDepths.{feed_depth, flow_depths}
use Rattle.tv_parts.specs.Partials.{Partial, Parts, closed, item, no_parts, part}

-- partial trees as the parts of a list
abbrev pub parts_of : List (Partial Value) → Parts Value
parts_of [] = no_parts
parts_of (p ∷ ps) = part p (parts_of ps)

-- in so many one-item lists
abbrev pub wrapped_part : ℕ → Partial Value → Partial Value
wrapped_part zero p = p
wrapped_part (suc k) p = closed (part (wrapped_part k p) no_parts)

-- in how many a port takes its value: the depth that it declares less the delivered one
abbrev pub wraps_of : Flow → StepInput → ℕ
wraps_of f i = i.depth - feed_depth f.inputs (flow_depths f) i.from

-- from the values of the flow's inputs and what is known of the outputs of its steps
module _ (inputs : Name → Value) (trees : Name → Name → Partial Value) where
  -- of an input all is known
  abbrev pub link_part : Link → Partial Value
  link_part (input x) = item (inputs x)
  link_part (output t o) = trees t o

  -- and so it is of a constant; a merge has its length at once
  abbrev pub feed_part : Feed → Partial Value
  feed_part (link l) = link_part l
  feed_part (merge ls) = closed (parts_of (map link_part ls))
  feed_part (constant v) = item v

  abbrev pub port_part : Flow → StepInput → Partial Value
  port_part f i = wrapped_part (wraps_of f i) (feed_part i.from)
