-- The steps of the main instance of a document, as far as they were made by rank; and what was worked out of them.
use Rattle.std.specs.Prelude.{◌≡◌, ℕ, Bool, true, List, [], take}
use Rattle.tv_lemmas.specs.Members.{In}
use Rattle.tv_value.specs.Values.{JobName}
use Rattle.tv_gate.specs.Outcomes.{Giving}
use Rattle.tv_flow.specs.Flows.{Document, Flow}
use Rattle.tv_lineage.specs.Lineages.{Record}
use Rattle.tv_strategy.specs.Origins.{Origin}
use Rattle.tv_model.specs.instance.Ranks.{ranked}
use Rattle.tv_model.specs.instance.ByResults.{InstanceStep, PlacedJob, Results, steps_by}
use Rattle.tv_frame.specs.instances.OwnResults.{results_of}
use Rattle.tv_model.specs.Instances.{given_of, steps_made}
use Rattle.tv_model.specs.Made.{Made}
use Rattle.tv_model.specs.Meanings.{flow_meaning, meaning}
use Rattle.tv_model.specs.records.Recorded.{main_records}
use Rattle.tv_lineage.specs.Kept.{Kept, records_of}
use Rattle.tv_traces.specs.Feeds.{job_at}
use Rattle.tv_traces.specs.Shapes.{Shape}
use Rattle.tv_traces.specs.Standing.{AreShapesOf}

-- ---- steps

module _ (gives : Giving) (d : Document) (flow : Flow) where
  abbrev pub main_made : List Made
  main_made = steps_made gives (flow_meaning gives d.flows 7) [] (given_of flow d.inputs) []
      (ranked flow.steps)

  abbrev pub main_results : Results
  main_results = results_of [] main_made

  -- the first so many by rank, the last first
  abbrev pub steps_until : ℕ → List InstanceStep
  steps_until r = steps_by [] main_results (given_of flow d.inputs) [] (take r (ranked flow.steps))

-- ---- records

-- so many steps by rank are done: these are the shapes of what is known of them, and the records are of settled main jobs, with one for
-- each settled job of theirs
pub record IsStage (gives : Giving) (d : Document) (flow : Flow) (known : Origin → Bool)
    (settled : JobName → Bool) (r : ℕ) (k : Kept)
    (us : List Shape) : Type 0 where
  pub shapes : AreShapesOf known flow (steps_until gives d flow r) us
  pub own :
      (x : Record) → In x (records_of k)
      → In x (main_records (meaning gives d)) × (settled x.job ≡ true)
  pub all :
      (f : InstanceStep) → In f (steps_until gives d flow r) → (j : PlacedJob)
      → In j f.jobs → settled (job_at j.step j.place) ≡ true
      → (x : Record) × In x (records_of k) × (x.job ≡ job_at j.step j.place)
