-- The jobs among what the matchers of a flow's steps bring.
use Rattle.std.specs.Prelude.{ℕ, List, flat_map, map}
use Rattle.tv_value.specs.Nested.{Place}
use Rattle.tv_value.specs.Values.{Name}
use Rattle.tv_flow.specs.Flows.{Flow, Step}
use Rattle.tv_naming.specs.Naming.{numbered}
use Rattle.tv_matching.specs.Matchers.{Outcome}
use Rattle.tv_intake.specs.Sorting.{job_places}

-- of one step
abbrev pub jobs_of : Name → List Outcome → List (Name × Place)
jobs_of s os = map (λ q. (s, q)) (job_places os)

-- of all, by their numbers
abbrev pub all_jobs : Flow → (ℕ → List Outcome) → List (Name × Place)
all_jobs flow os =
    flat_map (λ (x : ℕ × (Name × Step)). jobs_of x.1.0 (os x.0)) (numbered 0 flow.steps)
