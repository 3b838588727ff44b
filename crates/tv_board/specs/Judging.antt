-- Whether what an answer has is what an outcome comes to, as a test.
use Rattle.std.specs.Prelude.{Bool, Err, List, Ok, Result, false, map, ℕ}
use Rattle.tv_value.specs.Orders.{same_name}
use Rattle.tv_value.specs.Sameness.{same_values}
use Rattle.tv_value.specs.Values.{Name, Text, Value}
use Rattle.tv_gate.specs.Outcomes.{Outcome}
use Rattle.tv_dispatch.specs.Jobs.{judged}
use Rattle.tv_run.specs.Judging.{judged_view}
use Rattle.tv_run.specs.declared.judging.Judgment.{Judgment}

abbrev pub same_judgment : Result (List Value) Text → Result (List Value) Text → Bool
same_judgment (Ok vs) (Ok us) = same_values vs us
same_judgment (Ok vs) (Err u) = false
same_judgment (Err t) (Ok us) = false
same_judgment (Err t) (Err u) = same_name t u

-- by the depths of these outputs
abbrev pub is_judged : List (Name × ℕ) → Outcome → Judgment → Bool
is_judged os o j = same_judgment (judged (map (λ p. p.1) os) o) (judged_view j)
