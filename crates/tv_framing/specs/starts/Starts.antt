-- What the matcher of a step is told before anything happens: the flow's inputs and constants are known, and so are the lists of
-- merges; of outputs of steps nothing is.
use Rattle.std.specs.List.{list_all, list_any}
use Rattle.std.specs.Prelude.{ℕ, zero, suc, Bool, true, false, List, [], ◌∷◌, ◌++◌, flat_map, length}
use Rattle.tv_value.specs.Nested.{Place}
use Rattle.tv_value.specs.Values.{Name, Value, holds_fault}
use Rattle.tv_flow.specs.Flows.{Feed, Flow, Link, Step, StepInput, constant, input, link, merge, output}
use Rattle.tv_model.specs.Instances.{value_given}
use Rattle.tv_matching.specs.Items.{if_so}
use Rattle.tv_matching.specs.Told.{Told, close}
use Rattle.tv_telling.specs.ValueTellings.{bound_told, value_told}
use Rattle.tv_check.specs.Ports.{levels_of}

-- the link comes from an input of the flow
abbrev pub is_input : Link → Bool
is_input (input x) = true
is_input (output s o) = false

-- all that the feed delivers is known at the start
abbrev pub is_given : Feed → Bool
is_given (link l) = is_input l
is_given (merge ls) = list_all is_input ls
is_given (constant v) = true

-- with these values of the flow's inputs
module _ (inputs : List (Name × Value)) where
  -- it delivers a value that holds a fault
  abbrev pub input_faulty : Link → Bool
  input_faulty (input x) = holds_fault (value_given inputs x)
  input_faulty (output s o) = false

  abbrev pub given_faulty : Feed → Bool
  given_faulty (link l) = input_faulty l
  given_faulty (merge ls) = list_any input_faulty ls
  given_faulty (constant v) = holds_fault v

  -- of a link that stands at q of the port's value, of which the port walks k levels there
  abbrev pub link_start : Name → ℕ → Place → Link → List Told
  link_start p k q (input x) = value_told p k q (value_given inputs x)
  link_start p k q (output s o) = []

  -- of links that are merged, of which the first has number i
  abbrev pub links_start : Name → ℕ → ℕ → List Link → List Told
  links_start p k i [] = []
  links_start p k i (l ∷ ls) = link_start p k (i ∷ []) l ++ links_start p k (suc i) ls

  -- of port p, which walks k levels of what the feed delivers
  abbrev pub feed_start : Name → ℕ → Feed → List Told
  feed_start p zero f = if_so (is_given f) (bound_told p [] (given_faulty f))
  feed_start p (suc k) (link l) = link_start p (suc k) [] l
  feed_start p (suc k) (merge ls) = close p [] (length ls) ∷ links_start p k 0 ls
  feed_start p (suc k) (constant v) = value_told p (suc k) [] v

-- of an input port of a step, and of all of a step's
abbrev pub port_start : Flow → List (Name × Value) → Name × StepInput → List Told
port_start f inputs i = feed_start inputs i.0 (levels_of f i.1) i.1.from

abbrev pub step_start : Flow → List (Name × Value) → Step → List Told
step_start f inputs s = flat_map (port_start f inputs) s.inputs
