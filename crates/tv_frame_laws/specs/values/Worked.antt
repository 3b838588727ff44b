-- Worked examples of what is known of feeds and ports: step u makes a list of two texts, and only
-- the first of them is known.
use Rattle.std.specs.Prelude.{◌≡◌, ℕ, true, false, [], ◌∷◌, codes}
use Rattle.tv_value.specs.Nested.{trees_of}
use Rattle.tv_value.specs.Values.{Name, Value, list_value, text_value}
use Rattle.tv_flow.specs.Flows.{Feed, Flow, constant, input, link, merge, output}
use Rattle.tv_parts.specs.Below.{value_in}
use Rattle.tv_parts.specs.Partials.{Partial, wanting, item, closed, no_parts, part, whole}
use Rattle.tv_model.specs.instance.Worked.{o, u, u_step}
use Rattle.tv_frame_laws.specs.values.Parts.{port_part}

abbrev pub x : Name
x = codes "x"

abbrev pub y : Name
y = codes "y"

-- two texts come in
abbrev pub flow : Flow
flow = record { inputs = (x, 0) ∷ (y, 0) ∷ []; steps = u_step ∷ []; outputs = [] }

-- the first of two texts
abbrev pub half : Partial Value
half = closed (part (item (text_value (codes "A"))) (part wanting no_parts))

-- of a port of that depth that is fed so; the value of each input is its name
abbrev pub of_port : ℕ → Feed → Partial Value
of_port depth from =
    port_part (λ n. text_value n) (λ t p. half) flow (record { depth = depth; from = from })

abbrev pub text_item : Name → Partial Value
text_item n = item (text_value n)

-- a port has its feed's tree, whether it iterates it or not, in as many lists as it takes more
abbrev pub TakesOutputs : Type 0
TakesOutputs =
    (of_port 0 (link (output u o)) ≡ half)
    × (of_port 1 (link (output u o)) ≡ half)
    × (of_port 3 (link (output u o)) ≡ closed (part (closed (part half no_parts)) no_parts))
    × (whole (of_port 3 (link (output u o))) ≡ false)

-- inputs and constants are whole from the start
abbrev pub TakesInputs : Type 0
TakesInputs =
    (of_port 0 (link (input x)) ≡ text_item x)
    × (of_port 1 (link (input y)) ≡ closed (part (text_item y) no_parts))
    × (of_port 0 (constant (text_value y)) ≡ text_item y)
    × (whole (of_port 1 (link (input y))) ≡ true)

-- a merge is the list of its links in their order, and its length is known before all of them are
abbrev pub two_texts : Feed
two_texts = merge (input x ∷ input y ∷ [])

abbrev pub two_lists : Feed
two_lists = merge (output u o ∷ output u o ∷ [])

abbrev pub TakesMerges : Type 0
TakesMerges =
    (of_port 1 two_texts ≡ closed (part (text_item x) (part (text_item y) no_parts)))
    × (value_in (of_port 1 two_texts)
    ≡ list_value (trees_of (text_value x ∷ text_value y ∷ [])))
    × (of_port 3 two_lists ≡ closed (part (closed (part half (part half no_parts))) no_parts))
