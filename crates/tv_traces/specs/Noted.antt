-- Which records were noted of the jobs of a step.
use Rattle.std.specs.Prelude.{◌≡◌, ◌⊎◌, ◌++◌, Bool, true, List, flat_map, map, Some}
use Rattle.tv_lemmas.specs.Members.{In}
use Rattle.tv_value.specs.Nested.{Place, at, leaf}
use Rattle.tv_value.specs.Values.{Name}
use Rattle.tv_flow.specs.Flows.{Step}
use Rattle.tv_lineage.specs.Lineages.{Record}
use Rattle.tv_strategy.specs.Iterations.{Binding, Iteration, job}
use Rattle.tv_strategy.specs.Origins.{Origin}
use Rattle.tv_model.specs.instance.Steps.{bound_values}
use Rattle.tv_model.specs.Lineages.{used}
use Rattle.tv_model.specs.records.Recorded.{mark_of}
use Rattle.tv_traces.specs.Feeds.{job_at}

-- the record of a settled job of the step
pub record IsRecordOf (settled : Place → Bool) (s : Name × Step) (it : Iteration) (r : Record)
    : Type 0 where
  pub place : Place
  pub sources : List Origin
  pub binding : Binding
  pub stands : at it place ≡ Some (leaf sources (job binding))
  pub is_settled : settled place ≡ true
  pub is : r ≡ record {
    job = job_at s.0 place;
    used = map mark_of (flat_map used (bound_values s.1 binding));
  }

-- from old to new records of settled jobs of the step were noted, and nothing else
pub record IsNoted (settled : Place → Bool) (s : Name × Step) (it : Iteration)
    (old new : List Record) : Type 0 where
  pub only : (r : Record) → In r new → In r old ⊎ IsRecordOf settled s it r
  pub kept : (r : Record) → In r old → In r new

-- each settled job of t, which stands at place q of the step's iteration, has a record
abbrev pub HaveRecords : (Place → Bool) → Name → Place → Iteration → List Record → Type 0
HaveRecords settled s q t rs =
    (p : Place) (sources : List Origin) (b : Binding) → at t p ≡ Some (leaf sources (job b))
    → settled (q ++ p) ≡ true
    → (r : Record) × In r rs × (r.job ≡ job_at s (q ++ p))
