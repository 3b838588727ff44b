-- The laws as they are stated.
use Rattle.std.specs.Prelude.{◌≡◌, refl, ℕ, Bool, List, map}
use Rattle.std.specs.List.{list_any}
use Rattle.std.proofs.Common.{sym, ap, subst, ◌∙◌}
use Rattle.tv_lemmas.specs.Members.{Each}
use Rattle.tv_lemmas.proofs.Members.{each_in}
use Rattle.tv_value.specs.Nested.{Place, leaf}
use Rattle.tv_value.specs.Values.{JobName, Name, holds_fault}
use Rattle.tv_gate.specs.Outcomes.{Giving}
use Rattle.tv_flow.specs.Flows.{Document}
use Rattle.tv_strategy.specs.Iterations.{job}
use Rattle.tv_strategy.specs.Origins.{Traced, plain}
use Rattle.tv_model.specs.instance.ByResults.{InstanceStep, PlacedJob}
use Rattle.tv_framing.proofs.instances.Settling.{node-listed}
use Rattle.tv_model.specs.Jobs.{Job}
use Rattle.tv_model.specs.Meanings.{flow_meaning, meaning}
use Rattle.tv_history.specs.Entries.{History}
use Rattle.tv_framing.specs.Views.{InAll, View, steps_with}
use Rattle.tv_forest.specs.views.InRun.{IsJobThere}
use Rattle.tv_forest.specs.views.Stated.{BegunIsKnown, InputsAreTold, InstancesEndAsTold, IsPlaced, JobsAreSomewhere, KnownJobsAreThere, LevelsSettleAsTold, OutputsAreMeant, OutputsAreResults, PlacedJobsAreJobs, ReadyIsTold, TakenIsRunning}
use Rattle.tv_forest.proofs.views.Endings.{ending-told, main-told, opened-told}
use Rattle.tv_forest.proofs.views.Jobs.{Finds, begun-known, begun-told, bounced-told, ends-find, found-here, known-ends, settled-told, somewhere}
use Rattle.tv_forest.proofs.views.Opened.{opened-part}
use Rattle.tv_forest.proofs.views.Ready.{ready-told, told-ready}
use Rattle.tv_forest.proofs.views.Runs.{Runs, results_here, runs}
use Rattle.tv_forest.proofs.views.Settling.{nothing-settles, settling-legal}
use Rattle.tv_forest.proofs.views.Steps.{as_step, job-inputs, job-placed, placed_job, step-in}

abbrev RunsIn : Giving → Document → History → JobName → (Name → ℕ) → View → Type 0
RunsIn gives d past I levels v = Runs gives d.flows (meaning gives d) past I levels v

there : (gives : Giving) (d : Document) (past : History) (I : JobName) (levels : Name → ℕ) (v : View) (r : RunsIn gives d past I levels v) (j : Job) (x : Name × Place)
    → Finds gives d.flows (meaning gives d) past I levels v r j x → IsJobThere gives d I j x
there gives d past I levels v r j x w = record { listed = w.listed; within = w.within; step = w.step; name = w.name }

finds : (gives : Giving) (d : Document) (past : History) (I : JobName) (levels : Name → ℕ) (v : View) (r : RunsIn gives d past I levels v) (j : Job) (x : Name × Place)
    → IsJobThere gives d I j x → Finds gives d.flows (meaning gives d) past I levels v r j x
finds gives d past I levels v r j x w = record { listed = w.listed; within = w.within; step = w.step; name = w.name }

-- ---- which jobs there are

pub known_jobs-are_there : KnownJobsAreThere
known_jobs-are_there gives d past I levels v w x h =
    let r = runs gives d past I levels v w in
    let j = ends-find gives d.flows (meaning gives d) past I levels v r x (known-ends gives d.flows (meaning gives d) past I levels v r x h) in
    (j.0, there gives d past I levels v r j.0 x j.1)

pub begun-is_known : BegunIsKnown
begun-is_known gives d past I levels v w x j k h =
    let r = runs gives d past I levels v w in
    begun-known gives d.flows (meaning gives d) past I levels v r j x (finds gives d past I levels v r j x k) h

pub jobs-are_somewhere : JobsAreSomewhere
jobs-are_somewhere gives d past I levels v w j h e =
    let r = runs gives d past I levels v w in
    let x = somewhere gives d.flows (meaning gives d) past I levels v r j h e in
    (x.0, there gives d past I levels v r j x.0 x.1)

-- ---- ready, begun and settled jobs

pub ready-is_told : ReadyIsTold
ready-is_told gives d past I levels v w x j k =
    let r = runs gives d past I levels v w in
    let f = finds gives d past I levels v r j x k in
    record { told = ready-told gives d.flows (meaning gives d) past I levels v r j x f; ready = told-ready gives d.flows (meaning gives d) past I levels v r j x f }

pub taken-is_running : TakenIsRunning
taken-is_running gives d past I levels v w x j k =
    let r = runs gives d past I levels v w in
    let f = finds gives d past I levels v r j x k in
    record { settled = settled-told gives d.flows (meaning gives d) past I levels v r j x f; begun = begun-told gives d.flows (meaning gives d) past I levels v r j x f }

-- ---- what jobs bind

pub placed_jobs-are_jobs : PlacedJobsAreJobs
placed_jobs-are_jobs gives d past I levels v w x j k =
    let r = runs gives d past I levels v w in
    let t = found-here gives d.flows (meaning gives d) past I levels v r j x (finds gives d past I levels v r j x k) in
    let inside = flow_meaning gives d.flows r.nesting in
    let a = as_step gives inside I v.flow v.inputs t.stands in
    record {
      results = results_here gives d.flows (meaning gives d) past I levels v r;
      depths = r.right;
      extends = r.gave;
      step = a;
      is_step = step-in gives inside I v.flow v.inputs t.stands;
      job = placed_job gives inside I v.flow v.inputs t.stands x.1 t.sources t.binding;
      listed = job-placed gives inside I v.flow v.inputs t.stands x.1 t.sources t.binding (node-listed a.step.iteration x.1 (leaf t.sources (job t.binding)) t.node);
      its_step = t.name;
      its_place = refl;
      inputs = sym (ap (λ (i : Job). i.inputs) t.is_job ∙ job-inputs gives inside I v.flow v.inputs t.stands x.1 t.sources t.binding);
    }

-- what is so of all placed jobs at a spot is so of the one that is the run's job
module _ (I : JobName) (v : View) (j : Job) (x : Name × Place) (p : IsPlaced I v j x) (P : PlacedJob → Type 0) where
  abbrev pub IsSo : PlacedJob → Type 0
  IsSo k = k.step ≡ x.0 → k.place ≡ x.1 → P k

  pub placed-so : InAll v (λ instance results fs. Each (λ (f : InstanceStep). Each IsSo f.jobs) fs) → P p.job
  placed-so h =
      let all = each_in (λ (f : InstanceStep). Each IsSo f.jobs) (steps_with v I p.results) (h I p.results p.depths p.extends) p.step p.is_step in
      each_in IsSo p.step.jobs all p.job p.listed p.its_step p.its_place

abbrev holds_any : List Traced → Bool
holds_any vs = list_any (λ u. holds_fault u) vs

pub inputs-are_told : InputsAreTold
inputs-are_told gives d past I levels v w x j k =
    let r = runs gives d past I levels v w in
    let p = placed_jobs-are_jobs gives d past I levels v w x j k in
    record {
      values = λ vs h. placed-so I v j x p (λ k. vs ≡ map plain k.inputs) h ∙ ap (map plain) p.inputs;
      fault = λ b h. placed-so I v j x p (λ k. b ≡ holds_any k.inputs) h ∙ ap holds_any p.inputs;
      bounced = bounced-told gives d.flows (meaning gives d) past I levels v r j x (finds gives d past I levels v r j x k);
    }

-- ---- the instance

pub instances-end_as_told : InstancesEndAsTold
instances-end_as_told gives d past I levels v w = ending-told gives d.flows (meaning gives d) past I levels v (runs gives d past I levels v w)

pub outputs-are_meant : OutputsAreMeant
outputs-are_meant gives d past I levels v w main flow given ws h =
    main-told gives d.flows 7 d.main d.inputs past levels v
    (subst (λ J. Runs gives d.flows (meaning gives d) past J levels v) main (runs gives d past I levels v w)) flow given ws h

pub outputs-are_results : OutputsAreResults
outputs-are_results gives d past I levels v w j i e of_job ws h =
    let r = runs gives d past I levels v w in
    opened-told gives d.flows (meaning gives d) past j levels v (subst (λ J. Runs gives d.flows (meaning gives d) past J levels v) (sym e) r)
    of_job.flow_name of_job.is_flow (opened-part gives d w.formed w.accepted j i v of_job) ws h

pub levels-settle_as_told : LevelsSettleAsTold
levels-settle_as_told gives d past I levels v w =
    let r = runs gives d past I levels v w in
    record { settles = settling-legal gives d.flows (meaning gives d) past I levels v r; nothing = nothing-settles gives d.flows (meaning gives d) past I levels v r }
