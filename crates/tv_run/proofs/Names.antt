-- The names of a run's seats are distinct names of jobs, and every ready job has one.
use Rattle.std.specs.List.{list_all, list_any}
use Rattle.std.specs.Prelude.{◌≡◌, refl, true, not, List, [], ◌∷◌, filter}
use Rattle.std.proofs.Common.{ap, sym}
use Rattle.std.proofs.lemmas.Bool.{false_from_ne_true}
use Rattle.tv_lemmas.proofs.Members.{all-in, any-in, of-map, some_in}
use Rattle.tv_value.specs.Orders.{same_job}
use Rattle.tv_value.specs.Values.{JobName}
use Rattle.tv_value.proofs.JobNameLemmas.{same_job_decides}
use Rattle.tv_gate.specs.Outcomes.{Giving}
use Rattle.tv_flow.specs.Flows.{Document}
use Rattle.tv_model.specs.Jobs.{Job}
use Rattle.tv_model.specs.Meanings.{meaning}
use Rattle.tv_model.proofs.Tests.{both_true}
use Rattle.tv_history.specs.Entries.{History}
use Rattle.tv_history.specs.Histories.{is_ready}
use Rattle.tv_history.specs.activities.Agreed.{ready}
use Rattle.tv_model.specs.JobOrder.{Apart}
use Rattle.tv_instances.specs.stands.States.{AreNamesOfJobs}
use Rattle.tv_history.specs.Runs.{all_distinct, has_job_name}

distinct-apart : (ns : List JobName) → Apart (λ n. n) ns → all_distinct ns ≡ true
distinct-apart [] a = refl
distinct-apart (n ∷ ns) a =
    both_true (not (has_job_name ns n)) (all_distinct ns)
    (ap not (false_from_ne_true (has_job_name ns n)
    (λ h. let r = some_in (same_job n) ns h in a.0 r.0 r.1 (sym ((same_job_decides n r.0).0 r.2)))))
    (distinct-apart ns a.1)

module _ (gives : Giving) (d : Document) (past : History) (ns : List JobName) (names : AreNamesOfJobs gives d past ns) where
  pub are-distinct : all_distinct ns ≡ true
  are-distinct = distinct-apart ns names.distinct

  pub are-jobs : list_all (λ n. list_any (λ (j : Job). same_job n j.name) (meaning gives d).jobs) ns ≡ true
  are-jobs =
      all-in (λ n. list_any (λ (j : Job). same_job n j.name) (meaning gives d).jobs) ns
      (λ n i. let r = names.jobs n i in
      any-in (λ (j : Job). same_job n j.name) r.0 (meaning gives d).jobs r.1 ((same_job_decides n r.0.name).1 (sym r.2)))

  pub are-numbered : list_all (has_job_name ns) (ready (meaning gives d) past) ≡ true
  are-numbered =
      all-in (has_job_name ns) (ready (meaning gives d) past)
      (λ n i. let r = of-map (λ (j : Job). j.name) n (filter (is_ready (meaning gives d) past) (meaning gives d).jobs) i in
      any-in (same_job n) r.0.name ns (names.ready r.0 r.1) ((same_job_decides n r.0.name).1 r.2))
