-- What the flow of an instance of a run is meant to give is what its steps feed to its outputs, whoever opened it.
use Rattle.std.specs.Option.{option_map_or}
use Rattle.std.specs.Prelude.{◌≡◌, refl, ℕ, zero, suc, Bool, [], ◌∷◌, Option, None, Some, find}
use Rattle.std.proofs.Common.{sym, ap, subst, ◌∙◌}
use Rattle.std.proofs.lemmas.Option.{same_Some}
use Rattle.tv_lemmas.proofs.Members.{found-in}
use Rattle.tv_value.specs.Nested.{Place}
use Rattle.tv_value.specs.Orders.{same_job}
use Rattle.tv_value.specs.Values.{JobName, Name}
use Rattle.tv_value.proofs.JobNameLemmas.{same_job_decides}
use Rattle.tv_gate.specs.Outcomes.{Giving}
use Rattle.tv_flow.specs.Flows.{Document, Flow}
use Rattle.tv_model.specs.Instances.{given_of}
use Rattle.tv_model.specs.Jobs.{Job}
use Rattle.tv_model.specs.Made.{Meaning}
use Rattle.tv_model.specs.Meanings.{meaning}
use Rattle.tv_history.specs.Entries.{History}
use Rattle.tv_framing.specs.Views.{View}
use Rattle.tv_forest.specs.Forest.{Instance, Instances, IsAt, IsMain, Stand}
use Rattle.tv_forest.specs.seats.Seated.{spot_of}
use Rattle.tv_forest.specs.views.InRun.{IsJobThere}
use Rattle.tv_forest.proofs.Instances.{job-named, one-job}
use Rattle.tv_forest.proofs.views.Opened.{opened-part}
use Rattle.tv_forest.proofs.views.Runs.{Runs}
use Rattle.tv_known.specs.Meant.{flow_values}
use Rattle.tv_known.proofs.Gives.{fed, main-gives, opened-gives}
use Rattle.tv_known.proofs.Steps.{none-found}

module _ (gives : Giving) (d : Document) (levels_of : Flow → Name → ℕ) (past : History) (xs : Instances) (stand : Stand gives d levels_of past xs) where
  abbrev m : Meaning
  m = meaning gives d

  -- a job's result is what the instance gives that it opened
  abbrev has_its : JobName → Job → Bool
  has_its n j = same_job n j.name

  job-values : (J : JobName) (x : Name × Place) (j : Job) → IsJobThere gives d J j x → (n : JobName) → j.name ≡ n → flow_values m n ≡ j.result
  job-values J x j it [] e = absurd (job-named gives d J j x it e)
  job-values J x j it (k ∷ n) e = by (find (has_its (k ∷ n)) m.jobs) refl
    where
      by : (o : Option Job) → find (has_its (k ∷ n)) m.jobs ≡ o → option_map_or (λ (b : Job). b.result) o [] ≡ j.result
      by None h = absurd (none-found (has_its (k ∷ n)) m.jobs h j it.listed ((same_job_decides (k ∷ n) j.name).1 (sym e)))
      by (Some b) h =
          let a = found-in (has_its (k ∷ n)) m.jobs b h in
          ap (λ (c : Job). c.result) (one-job gives d b j a.0 it.listed (sym ((same_job_decides (k ∷ n) b.name).0 a.1) ∙ sym e))

  -- an open instance
  module _ (x : Instance) (v : View) (shown : x.view ≡ Some v) (flow : v.flow ≡ x.flow) (levels : Name → ℕ) where
    abbrev Gives : JobName → Type 0
    Gives J = (run : Runs gives d.flows m past J levels v) → flow_values m J ≡ fed gives d.flows m past J levels v run

    -- the main one, on the document's inputs
    of-main : IsAt xs 0 x → Gives x.name
    of-main at =
        let same = same_Some stand.main.0 x (sym stand.main.1 ∙ at) in
        let main = subst (IsMain d) same stand.main.2 in
        subst Gives (sym main.unnamed)
        (λ run. main-gives gives d.flows 7 d.main d.inputs past levels v run (main.is_flow ∙ ap Some (sym flow)) (ap (given_of v.flow) (main.inputs v shown)))

    -- and one that a job opened
    of-job : (i : ℕ) → IsAt xs (suc i) x → Gives x.name
    of-job i at =
        let o = stand.opened i x at in
        let j = o.job in
        let it = o.is_job.job in
        let its = (o.while_open v shown).1 in
        subst Gives (sym o.named)
        (λ run. job-values o.around.name (spot_of o.around.flow.steps o.seat) j it j.name refl
        ∙ opened-gives gives d.flows m past j levels v run its.flow_name its.is_flow (opened-part gives d stand.formed stand.accepted j it.listed v its))

    pub values-fed : (i : ℕ) → IsAt xs i x → (J : JobName) → x.name ≡ J → Gives J
    values-fed zero at J e = subst Gives e (of-main at)
    values-fed (suc i) at J e = subst Gives e (of-job i at)
