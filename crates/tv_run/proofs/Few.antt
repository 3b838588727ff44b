-- No more jobs are settled, and no more have failed, than have numbers: a job that is settled has a seat.
use Rattle.std.specs.Prelude.{◌≡◌, refl, ◌+◌, ◌<◌, ◌≤◌, ◌^◌, Bool, true, false, List, [], ◌∷◌, cond, filter, length}
use Rattle.std.proofs.Common.{ap, arith, sym, ◌∙◌}
use Rattle.std.proofs.lemmas.List.{length-map}
use Rattle.std.proofs.lemmas.List.Sums.{count_by-le-length}
use Rattle.tv_lemmas.specs.Members.{In}
use Rattle.tv_lemmas.proofs.Members.{of-filter, in-slice}
use Rattle.tv_value.specs.Orders.{same_job}
use Rattle.tv_value.specs.Values.{JobName}
use Rattle.tv_value.proofs.JobNameLemmas.{same_job_decides}
use Rattle.tv_gate.specs.Outcomes.{Giving}
use Rattle.tv_flow.specs.Flows.{Document}
use Rattle.tv_check.specs.RunViews.{run_view}
use Rattle.tv_model.specs.Jobs.{Job}
use Rattle.tv_model.specs.Made.{Meaning}
use Rattle.tv_model.proofs.Tests.{true≠false}
use Rattle.tv_history.specs.Entries.{History}
use Rattle.tv_history.specs.Histories.{is_settled}
use Rattle.tv_history.specs.ReadOff.{has_failed}
use Rattle.tv_history.proofs.Counts.{bit, tally, total}
use Rattle.tv_history.proofs.Ready.{document-whole}
use Rattle.tv_history.proofs.Tallies.{few-by, tally-once}
use Rattle.tv_frame.specs.Tables.{levels_in}
use Rattle.tv_instances.proofs.forest_firsts.Instances.{job-seat, settled-anywhere}
use Rattle.tv_instances.specs.Forest.{Instances, name_of}
use Rattle.tv_instances.proofs.Instances.{one-job}
use Rattle.tv_history.specs.Runs.{meant, past_of}
use Rattle.tv_run.specs.Standing.{Stands, names_of, numbered_as, numbers_of, run_of}
use Rattle.tv_run.specs.declared.run.OpenRun.{OpenRun}
use Rattle.tv_run.proofs.Numbers.{job-named, number-of_seat}

-- ---- counting

tally-filtered : {A : Type 0} (p q : A → Bool) (xs : List A) → tally p (filter q xs) ≤ tally p xs
tally-filtered p q [] = omega arith
tally-filtered p q (x ∷ xs) = by (q x) (tally-filtered p q xs)
  where
    by : (b : Bool) → tally p (filter q xs) ≤ tally p xs
        → tally p (cond b (x ∷ filter q xs) (filter q xs)) ≤ bit (p x) + tally p xs
    by true h = omega (arith, h)
    by false h = omega (arith, h)

tally-all : {A : Type 0} (xs : List A) → tally (λ (x : A). true) xs ≡ length xs
tally-all [] = refl
tally-all (x ∷ xs) = let rest = tally-all xs in omega (arith, rest)

total-ones : {A : Type 0} (xs : List A) → total (λ (x : A). 1) xs ≡ length xs
total-ones [] = refl
total-ones (x ∷ xs) = let rest = total-ones xs in omega (arith, rest)

module _ (gives : Giving) (r : OpenRun) (xs : Instances) (st : Stands gives r xs) where
  abbrev d : Document
  d = run_view r.run

  abbrev past : History
  past = past_of (run_of r)

  abbrev m : Meaning
  m = meant gives (run_of r)

  abbrev settled : List Job
  settled = filter (is_settled past) m.jobs

  names-many : length (names_of r) ≡ length r.jobs.items
  names-many =
      ap length st.fits.names_are
      ∙ length-map (numbers_of r) (name_of xs)
      ∙ length-map r.jobs.items numbered_as

  -- each that is settled has a name
  named : (j : Job) → In j settled → (n : JobName) × In n (names_of r) × (same_job j.name n ≡ true)
  named j i =
      let p = of-filter (is_settled past) j m.jobs i in
      let s =
      job-seat gives d levels_in past xs st.stand j p.0 (settled-anywhere m past j p.1) in
      let k = number-of_seat gives r xs st s.outer s.number s.instance s.seat j s.is_its in (
        j.name,
        in-slice (names_of r) k.0 j.name (job-named gives r xs st k.0 s.outer s.number s.instance s.seat j k.1),
        (same_job_decides j.name j.name).1 refl,
      )

  one-of : (n : JobName) → tally (λ (j : Job). same_job j.name n) m.jobs ≤ 1
  one-of n =
      tally-once (λ (j : Job). j.name) (λ (j : Job). same_job j.name n) m.jobs (document-whole gives d).jobs_apart
      (λ j k h i e f.
      one-job gives d j k h i ((same_job_decides j.name n).0 e ∙ sym ((same_job_decides k.name n).0 f)))

  pub settled-few : length settled ≤ length r.jobs.items
  settled-few =
      let few =
      few-by (λ (j : Job) (n : JobName). same_job j.name n) (λ (n : JobName). true) 1 settled (names_of r) named
      (λ n i. (
        let one = one-of n in
            let less = tally-filtered (λ (j : Job). same_job j.name n) (is_settled past) m.jobs in
            omega (arith, one, less),
        λ e. absurd (true≠false e),
      )) in
      let all = tally-all (names_of r) in
      let ones = total-ones settled in
      let many = names-many in
      omega (arith, few, all, ones, many)

  pub failed-few : r.failed < 2 ^ 63
  failed-few =
      let is = st.failed_is in
      let failed = count_by-le-length (λ (j : Job). has_failed past j.name) settled in
      let few = settled-few in
      let within = r.jobs.ok in
      let small = r.jobs.small in
      omega (arith, is, failed, few, within.0, within.1, small)
