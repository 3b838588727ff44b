-- Worked examples: what a port is told at the start of its feed.
use Rattle.std.specs.Prelude.{◌≡◌, false, List, [], ◌∷◌, codes}
use Rattle.tv_value.specs.Nested.{trees_of}
use Rattle.tv_value.specs.Values.{Name, Value, fault_value, list_value, text_value}
use Rattle.tv_flow.specs.Flows.{constant, input, link, merge, output}
use Rattle.tv_matching.specs.Told.{arrival, close, faulty}
use Rattle.tv_framing.specs.starts.Starts.{feed_start}

abbrev pub p : Name
p = codes "p"

-- a list of a text and a fault, and a text
abbrev pub two : Value
two =
    list_value
    (trees_of
    (text_value (codes "A")
    ∷ fault_value (record { at = []; depth = 0; why = codes "down"; from = [] }) ∷ []))

abbrev pub inputs : List (Name × Value)
inputs = (codes "x", two) ∷ (codes "y", text_value (codes "B")) ∷ []

-- a port that walks a list is told of its items, one that takes it whole of the whole; of a merge its list is told, and of its links
-- those that are inputs, at their numbers; of an output nothing
pub record TellsFeeds : Type 0 where
  pub walked :
      feed_start inputs p 1 (link (input (codes "x")))
      ≡ close p [] 2 ∷ arrival p (0 ∷ []) false ∷ faulty p (1 ∷ []) ∷ []
  pub taken_whole : feed_start inputs p 0 (link (input (codes "x"))) ≡ faulty p [] ∷ []
  pub without_fault : feed_start inputs p 0 (link (input (codes "y"))) ≡ arrival p [] false ∷ []
  pub walked_output : feed_start inputs p 1 (link (output (codes "u") (codes "o"))) ≡ []
  pub whole_output : feed_start inputs p 0 (link (output (codes "u") (codes "o"))) ≡ []
  pub lists_of_merge :
      feed_start inputs p 1 (merge (output (codes "u") (codes "o") ∷ input (codes "x") ∷ []))
      ≡ close p [] 2 ∷ faulty p (1 ∷ []) ∷ []
  pub items_of_merge :
      feed_start inputs p 2 (merge (output (codes "u") (codes "o") ∷ input (codes "x") ∷ []))
      ≡ close p [] 2 ∷ close p (1 ∷ []) 2 ∷ arrival p (1 ∷ 0 ∷ []) false ∷ faulty p (1 ∷ 1 ∷ [])
      ∷ []
  pub merge_with_output : feed_start inputs p 0
      (merge (output (codes "u") (codes "o") ∷ input (codes "x") ∷ [])) ≡ []
  pub merge_of_inputs :
      feed_start inputs p 0 (merge (input (codes "y") ∷ input (codes "x") ∷ [])) ≡ faulty p [] ∷ []
  pub constants : feed_start inputs p 0 (constant (text_value (codes "C")))
      ≡ arrival p [] false ∷ []
