-- A document that grows with a number: each text of one list with each of another, through retries, faults and nested flows.
use Rattle.std.specs.List.{range_with_len}
use Rattle.std.specs.Prelude.{Bool, [], codes, decimal, if◌then◌else◌, length, map, ℕ, ◌%◌, ◌++◌, ◌==◌, ◌∷◌, ◌≡◌}
use Rattle.tv_value.specs.Activities.{nested}
use Rattle.tv_value.specs.Values.{Text, Value}
use Rattle.tv_flow.specs.Flows.{Document}
use Rattle.tv_model.specs.Totals.{totals}
use Rattle.tv_model.specs.Writing.{a, asks, b, constant_text, from_input, from_step, line, meant, o, out, takes, words, x, y}

abbrev pub is_tenth : ℕ → Bool
is_tenth i = i % 10 == 0

-- `true` for each tenth, which the step g refuses
abbrev pub outer_text : ℕ → Text
outer_text i = if is_tenth i then codes "true" else codes "x" ++ decimal i

abbrev pub inner_text : ℕ → Text
inner_text j = if is_tenth j then [] else decimal j

abbrev pub texts_to : ℕ → (ℕ → Text) → Value
texts_to n f = words (map f (range_with_len 0 n))

abbrev pub generated : ℕ → Document
generated n =
    record {
      format = 1;
      main = codes "main";
      flows = (
        codes "main",
        record {
          inputs = (x, 1) ∷ (y, 1) ∷ [];
          steps = (
            codes "c",
            record (asks (codes "concat")
                (takes a (from_input x) ∷ takes b (from_input y) ∷ [])) { jobs = 8 },
          )
              ∷ (
                codes "f",
                record (asks (codes "flaky")
                    (takes a (from_step (codes "c")) ∷ takes (codes "n") (constant_text (codes "1"))
                    ∷ [])) { retries = 1; jobs = 8 },
              )
              ∷ (
                codes "g",
                record (asks (codes "fail_if") (takes a (from_step (codes "f")) ∷ [])) {
                  jobs = 8;
                },
              )
              ∷ (
                codes "n",
                record (asks (codes "sub") (takes a (from_step (codes "g")) ∷ [])) {
                  activities = nested (codes "sub") ∷ [];
                  jobs = 4;
                },
              ) ∷ [];
          outputs = out (codes "n");
        },
      )
          ∷ (
            codes "sub",
            record {
              inputs = (a, 0) ∷ [];
              steps = (codes "u", asks (codes "upper") (takes a (from_input a) ∷ [])) ∷ [];
              outputs = (o, from_step (codes "u")) ∷ [];
            },
          ) ∷ [];
      inputs = (x, texts_to n outer_text) ∷ (y, texts_to n inner_text) ∷ [];
    }

abbrev pub LineOfOne : Type 0
LineOfOne =
    line (generated 1)
    ≡ codes "{\"outputs\":{\"out\":[[{\"error\":{\"at\":\"n[0,0]\",\"depth\":0,\"from\":[\"g[0,0]\"],\"why\":\"bounced\"}}]]},\"totals\":{\"attempts\":4,\"bounced\":1,\"failed\":1,\"jobs\":4}}\n"

abbrev pub TotalsOfThree : Type 0
TotalsOfThree = totals (meant (generated 3)).jobs ≡ record {
  attempts = 44;
  bounced = 1;
  failed = 1;
  jobs = 44;
}

abbrev pub TotalsOfTen : Type 0
TotalsOfTen = totals (meant (generated 10)).jobs ≡ record {
  attempts = 499;
  bounced = 1;
  failed = 1;
  jobs = 499;
}

abbrev pub LengthOfTen : Type 0
LengthOfTen = length (line (generated 10)) ≡ 775
