-- The lines of `trace`: which jobs asked a service, in the order of their first asks, each with the number of its asks.
use Rattle.std.specs.Prelude.{Bool, List, [], codes, count_by, decimal, filter, flat_map, map, not, suc, ℕ, ◌++◌, ◌∷◌}
use Rattle.tv_value.specs.Orders.{same_job}
use Rattle.tv_value.specs.Printed.{job_text}
use Rattle.tv_value.specs.Values.{JobName, Text}
use Rattle.tv_history.specs.Tries.{all_tries}
use Rattle.tv_history.specs.Runs.{Run, past_of}

-- each once, in the order in which they first come, with how often it comes
abbrev pub tallied : {A : Type 0} → (A → A → Bool) → List A → List (A × ℕ)
tallied same [] = []
tallied same (x ∷ xs) = (x, suc (count_by (same x) xs)) ∷ filter (λ e. not (same x e.0))
    (tallied same xs)

-- a job with the number of its asks
abbrev pub trace_line : JobName → ℕ → Text
trace_line n asks = job_text n ++ codes " " ++ decimal asks ++ 10 ∷ []

-- of the jobs of all asks, in order
abbrev pub trace_text : List JobName → Text
trace_text ns = flat_map (λ e. trace_line e.0 e.1) (tallied same_job ns)

-- the jobs of the outcomes that a board has accepted, in order
abbrev pub accepted_jobs : Run → List JobName
accepted_jobs r = map (λ t. t.0) (all_tries (past_of r))
