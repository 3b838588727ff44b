-- The parts of the generated document, which is that of tv_model's rows: each step, each flow, and the lists of texts.
use Rattle.std.specs.List.{range_with_len}
use Rattle.std.specs.Prelude.{List, [], codes, map, ◌∷◌, ℕ}
use Rattle.tv_value.specs.Activities.{nested}
use Rattle.tv_value.specs.Values.{Name, Text, Value, text_value}
use Rattle.tv_flow.specs.Flows.{Flow, Step}
use Rattle.tv_model.specs.RowsOfSize.{inner_text, outer_text}
use Rattle.tv_model.specs.Writing.{a, asks, b, constant_text, from_input, from_step, o, out, takes, x, y}
use Rattle.tv_generator.specs.declared.texts.Side.TheVariants.{Inner, Outer}
use Rattle.tv_generator.specs.declared.texts.Side.{Side}

-- text i of the list x, or of y
abbrev pub text_of : Side → ℕ → Text
text_of Outer i = outer_text i
text_of Inner i = inner_text i

-- the first n texts of a list as values
abbrev pub first_values : (ℕ → Text) → ℕ → List Value
first_values f n = map text_value (map f (range_with_len 0 n))

abbrev pub concat_step : Step
concat_step = record (asks (codes "concat")
    (takes a (from_input x) ∷ takes b (from_input y) ∷ [])) { jobs = 8 }

abbrev pub flaky_step : Step
flaky_step = record (asks (codes "flaky")
    (takes a (from_step (codes "c")) ∷ takes (codes "n")
    (constant_text (codes "1")) ∷ [])) { retries = 1; jobs = 8 }

abbrev pub fail_step : Step
fail_step = record (asks (codes "fail_if") (takes a (from_step (codes "f")) ∷ [])) { jobs = 8 }

abbrev pub nested_step : Step
nested_step =
    record (asks (codes "sub") (takes a (from_step (codes "g")) ∷ [])) {
      activities = nested (codes "sub") ∷ [];
      jobs = 4;
    }

abbrev pub upper_step : Step
upper_step = asks (codes "upper") (takes a (from_input a) ∷ [])

abbrev pub main_steps : List (Name × Step)
main_steps = (codes "c", concat_step) ∷ (codes "f", flaky_step) ∷ (codes "g", fail_step)
    ∷ (codes "n", nested_step) ∷ []

abbrev pub main_flow : Flow
main_flow = record { inputs = (x, 1) ∷ (y, 1) ∷ []; steps = main_steps; outputs = out (codes "n") }

abbrev pub sub_flow : Flow
sub_flow =
    record {
      inputs = (a, 0) ∷ [];
      steps = (codes "u", upper_step) ∷ [];
      outputs = (o, from_step (codes "u")) ∷ [];
    }

abbrev pub both_flows : List (Name × Flow)
both_flows = (codes "main", main_flow) ∷ (codes "sub", sub_flow) ∷ []
