-- The lineage of a meaning is what the records of its jobs lead to, for all documents and services.
use Rattle.std.specs.Prelude.{List, Some, true, ◌↔◌, ◌≡◌, ◌⊎◌}
use Rattle.tv_lemmas.specs.Members.{In}
use Rattle.tv_value.specs.Nested.{Place}
use Rattle.tv_value.specs.Values.{JobName, Name}
use Rattle.tv_gate.specs.Outcomes.{Giving}
use Rattle.tv_flow.specs.Flows.{Document}
use Rattle.tv_flow.specs.Formed.{is_formed}
use Rattle.tv_lineage.specs.Members.{HaveSame, Rises}
use Rattle.tv_lineage.specs.Lineages.{IsReached, Record, backward, by_step, forward, job_at}
use Rattle.tv_lineage.specs.Touching.{Label, label_cmp}
use Rattle.tv_strategy.specs.Origins.{Traced}
use Rattle.tv_model.specs.Jobs.{Job}
use Rattle.tv_model.specs.Lineages as model
use Rattle.tv_model.specs.Made.{Meaning}
use Rattle.tv_model.specs.Meanings.{meaning}
use Rattle.tv_model.specs.records.Recorded.{leaves, main_records, marks_of, output_at, records}

-- these are the records of all jobs, or those of the main flow's jobs alone, in whatever order
abbrev pub AreRecords : Meaning → List Record → Type 0
AreRecords m rs = HaveSame rs (records m) ⊎ HaveSame rs (main_records m)

-- a label is in the lineage of an output element exactly where one of its marks leads there, by
-- what each job used
abbrev pub LineageIsReached : Type 0
LineageIsReached =
    (gives : Giving) (d : Document) (p : Name) (q : Place) (v : Traced)
    → output_at (meaning gives d) p q ≡ Some v
    → (l : Label)
    → In l (model.lineage (meaning gives d) v)
    ↔ IsReached (records (meaning gives d)) (marks_of v) l

-- what the marks of an output element lead to is its lineage
abbrev pub BackwardIsLineage : Type 0
BackwardIsLineage =
    (gives : Giving) (d : Document) (rs : List Record) → AreRecords (meaning gives d) rs
    → (p : Name) (q : Place) (v : Traced) → output_at (meaning gives d) p q ≡ Some v
    → backward rs (marks_of v) ≡ model.lineage (meaning gives d) v

-- the leaves that were made from an input element
abbrev pub ForwardIsForward : Type 0
ForwardIsForward =
    (gives : Giving) (d : Document) (rs : List Record) → AreRecords (meaning gives d) rs
    → (x : Name) (q : Place)
    → forward rs (leaves (meaning gives d)) x q ≡ model.forward (meaning gives d) x q

-- by port in byte order, then place, each once
abbrev pub ForwardRises : Type 0
ForwardRises =
    (gives : Giving) (d : Document) → is_formed d ≡ true → (x : Name) (q : Place)
    → Rises label_cmp (model.forward (meaning gives d) x q)

-- this is the name of a job of the main flow's step s
pub record IsJobOf (m : Meaning) (s : Name) (n : JobName) : Type 0 where
  pub place : Place
  pub of_step : n ≡ job_at s place
  pub job : Job
  pub among : In job (model.main_jobs m)
  pub named : job.name ≡ n

-- the noted jobs of a step are all that the meaning has of it
abbrev pub ByStepIsOfJobs : Type 0
ByStepIsOfJobs =
    (gives : Giving) (d : Document) (rs : List Record)
    → HaveSame rs (main_records (meaning gives d))
    → (s : Name) (n : JobName) → In n (by_step rs s) ↔ IsJobOf (meaning gives d) s n
