-- The jobs of a run are counted by number: those that are settled, and those that are out.
use Rattle.std.specs.Option.{option_map_or}
use Rattle.std.specs.Prelude.{◌≡◌, ℕ, ◌+◌, ◌<◌, ◌≤◌, Bool, true, false, Option, Some, count_by, filter, get_or, length, option_and_then, slice_get, take}
use Rattle.std.proofs.Common.{ap, subst, sym, ◌∙◌}
use Rattle.std.proofs.lemmas.List.{take_all}
use Rattle.std.proofs.lemmas.List.Sums.{count_by-le-length, count_by_more_no, count_by_more_yes, length-filter}
use Rattle.std.proofs.lemmas.Option.{same_Some, slice_get-get_or, slice_get_within}
use Rattle.tv_lemmas.specs.Members.{In}
use Rattle.tv_lemmas.proofs.Lists.{get-map}
use Rattle.tv_lemmas.proofs.Members.{get-in, in-slice}
use Rattle.tv_value.specs.Values.{JobName}
use Rattle.tv_gate.specs.Outcomes.{Giving}
use Rattle.tv_check.specs.RunViews.{run_view}
use Rattle.tv_model.specs.Jobs.{Job}
use Rattle.tv_model.specs.Made.{Meaning}
use Rattle.tv_model.proofs.Members.{once-of_apart}
use Rattle.tv_model.specs.JobOrder.{Apart}
use Rattle.tv_history.specs.Entries as entries
use Rattle.tv_history.specs.Entries.{History}
use Rattle.tv_history.specs.Histories.{is_settled}
use Rattle.tv_history.proofs.Ready.{document-whole}
use Rattle.tv_frame.specs.Tables.{levels_in}
use Rattle.tv_seats.specs.Seats.{Seat}
use Rattle.tv_seats.specs.Stages.{is_out}
use Rattle.tv_seats.specs.declared.stage.Stage.{Stage}
use Rattle.tv_instances.specs.seats.Seated.{IsStage}
use Rattle.tv_instances.specs.stands.Seats.{is_over}
use Rattle.tv_instances.proofs.stands.Counts.{ArePartnered, as-many}
use Rattle.tv_instances.proofs.stands.Lists.{apart-by}
use Rattle.tv_instances.proofs.stands.Stages.{out-is, over-is}
use Rattle.tv_instances.specs.Forest.{Instance, Instances, name_of}
use Rattle.tv_instances.specs.forest_firsts.Told.{HasSeat}
use Rattle.tv_instances.proofs.forest_firsts.Instances.{job-seat, out-anywhere, settled-anywhere}
use Rattle.tv_history.specs.Calls.{out_now}
use Rattle.tv_history.specs.Runs.{meant, past_of}
use Rattle.tv_run.specs.Following.{numbered_in}
use Rattle.tv_run.specs.Jobs.{stage_in, stage_of}
use Rattle.tv_run.specs.Standing.{Stands, names_of, numbered_as, numbers_of, run_of}
use Rattle.tv_run.specs.Walking.{IsNumber}
use Rattle.tv_run.specs.declared.instances.Numbered.{Numbered}
use Rattle.tv_run.specs.declared.run.OpenRun.{OpenRun}
use Rattle.tv_run.proofs.JobLemmas.{number-is}
use Rattle.tv_run.proofs.Numbers.{IsJobOfRun, job-at, job-named, number-of_seat, one-number, stage-at, stage-is}

-- ---- one more at a time

-- the job of that number in its instance is at such a stage
abbrev pub is_in : (Stage → Bool) → OpenRun → Numbered → Bool
is_in p r m = option_map_or p (option_and_then (stage_in m) (slice_get r.instances.items m.instance)) false

abbrev pub over_in : OpenRun → Numbered → Bool
over_in r m = is_in is_over r m

is-of : (p : Stage → Bool) (r : OpenRun) (k : ℕ) (m : Numbered) → slice_get r.jobs.items k ≡ Some m
    → option_map_or p (stage_of r k) false ≡ is_in p r m
is-of p r k m e =
    ap
    (λ o.
    option_map_or p
    (option_and_then (λ (n : Numbered). option_and_then (stage_in n) (slice_get r.instances.items n.instance)) o) false)
    e

module _ (r : OpenRun) (k c : ℕ) (b : Bool) (low : k < length r.jobs.items)
    (told : b ≡ option_map_or is_over (stage_of r k) false) (before : c ≡ count_by (over_in r) (take k r.jobs.items)) where
  next-is : over_in r (get_or r.jobs.items k (numbered_in 0 0)) ≡ b
  next-is =
      sym
      (told
      ∙ is-of is_over r k (get_or r.jobs.items k (numbered_in 0 0)) (slice_get-get_or r.jobs.items k (numbered_in 0 0) low))

  pub one-over : b ≡ true → c + 1 ≡ count_by (over_in r) (take (k + 1) r.jobs.items)
  one-over h =
      ap (λ n. n + 1) before ∙ sym (count_by_more_yes (over_in r) r.jobs.items k (numbered_in 0 0) low (next-is ∙ h))

  pub not-over : b ≡ false → c ≡ count_by (over_in r) (take (k + 1) r.jobs.items)
  not-over h = before ∙ sym (count_by_more_no (over_in r) r.jobs.items k (numbered_in 0 0) low (next-is ∙ h))

-- ---- all of them

module _ (gives : Giving) (r : OpenRun) (xs : Instances) (st : Stands gives r xs) where
  abbrev m : Meaning
  m = meant gives (run_of r)

  abbrev past : History
  past = past_of (run_of r)

  -- the name of a job by its number
  abbrev named : Numbered → JobName
  named n = name_of xs (numbered_as n)

  name-there : (k : ℕ) (n : Numbered) → slice_get r.jobs.items k ≡ Some n → slice_get (names_of r) k ≡ Some (named n)
  name-there k n e =
      ap (λ l. slice_get l k) st.fits.names_are
      ∙ get-map (name_of xs) (numbers_of r) k (numbered_as n) (get-map numbered_as r.jobs.items k n e)

  module _ (k : ℕ) (n : Numbered) (there : slice_get r.jobs.items k ≡ Some n) (i l : ℕ) (x : Instance) (s : Seat)
      (j : Job) (is : IsNumber gives r xs k i l x s j) where
    named-so : named n ≡ j.name
    named-so =
        same_Some (named n) j.name (sym (name-there k n there) ∙ job-named gives r xs st k i l x s j is)

    is-so : (p : Stage → Bool) → is_in p r n ≡ p s.stage
    is-so p =
        sym (is-of p r k n there)
        ∙ ap (λ (o : Option Stage). option_map_or p o false) (stage-at gives r xs st k i l x s j is)

  its : (k : ℕ) (n : Numbered) → slice_get r.jobs.items k ≡ Some n → IsJobOfRun gives r xs k
  its k n e = job-at gives r xs st k (slice_get_within r.jobs.items k n e)

  its-name : (k : ℕ) (n : Numbered) (e : slice_get r.jobs.items k ≡ Some n) → named n ≡ (its k n e).job.name
  its-name k n e =
      let w = its k n e in named-so k n e w.outer w.number w.instance w.seat w.job w.is_number

  names-apart : Apart named r.jobs.items
  names-apart =
      apart-by named r.jobs.items
      (λ k l x y e f same.
      let u = its k x e in
      let w = its l y f in
      let job =
      once-of_apart (λ (j : Job). j.name) m.jobs (document-whole gives (run_view r.run)).jobs_apart w.job u.job
      w.is_number.is_job.job.listed u.is_number.is_job.job.listed (sym (its-name l y f) ∙ sym same ∙ its-name k x e) in
      one-number-of k l u w job)
    where
      one-number-of : (k l : ℕ) (u : IsJobOfRun gives r xs k) (w : IsJobOfRun gives r xs l) → w.job ≡ u.job → k ≡ l
      one-number-of k l u w same =
          one-number gives r xs st k l u.outer u.number w.outer w.number u.instance w.instance u.seat w.seat u.job
          u.is_number
          (subst (IsNumber gives r xs l w.outer w.number w.instance w.seat) same w.is_number)

  -- by a test of stages and of jobs that is the same of each
  module _ (p : Stage → Bool) (counts : Job → Bool)
      (seated : (j : Job) → In j m.jobs → counts j ≡ true → HasSeat gives (run_view r.run) xs j)
      (alike : (j : Job) (x : Stage) → IsStage past j x → counts j ≡ p x) where
    jobs-partnered : ArePartnered (λ (j : Job). j.name) named counts (is_in p r) m.jobs r.jobs.items
    jobs-partnered j i h =
        let s = seated j i h in
        let k = number-of_seat gives r xs st s.outer s.number s.instance s.seat j s.is_its in
        let n = numbered_in s.outer s.number in
        let e = number-is r k.0 s.outer s.number k.1.numbered in (
          n,
          in-slice r.jobs.items k.0 n e,
          is-so k.0 n e s.outer s.number s.instance s.seat j k.1 p
              ∙ sym (alike j s.seat.stage (stage-is gives r xs st k.0 s.outer s.number s.instance s.seat j k.1))
              ∙ h,
          named-so k.0 n e s.outer s.number s.instance s.seat j k.1,
        )

    numbers-partnered : ArePartnered named (λ (j : Job). j.name) (is_in p r) counts r.jobs.items m.jobs
    numbers-partnered n i h =
        let k = get-in n r.jobs.items i in
        let w = its k.0 n k.1 in (
          w.job,
          w.is_number.is_job.job.listed,
          alike w.job w.seat.stage
              (stage-is gives r xs st k.0 w.outer w.number w.instance w.seat w.job w.is_number)
              ∙ sym (is-so k.0 n k.1 w.outer w.number w.instance w.seat w.job w.is_number p)
              ∙ h,
          sym (its-name k.0 n k.1),
        )

    by-number : count_by counts m.jobs ≡ count_by (is_in p r) r.jobs.items
    by-number =
        as-many (λ (j : Job). j.name) named counts (is_in p r) m.jobs r.jobs.items
        (document-whole gives (run_view r.run)).jobs_apart names-apart jobs-partnered numbers-partnered

  settled-counted : count_by (over_in r) r.jobs.items ≡ length (filter (is_settled past) m.jobs)
  settled-counted =
      sym
      (length-filter (is_settled past) m.jobs
      ∙ by-number is_over (is_settled past)
      (λ j i h. job-seat gives (run_view r.run) levels_in past xs st.stand j i (settled-anywhere m past j h)) (over-is past))

  -- once all were looked at
  pub all-counted : (k c : ℕ) → length r.jobs.items ≤ k → c ≡ count_by (over_in r) (take k r.jobs.items)
      → c ≡ length (filter (is_settled past) m.jobs)
  all-counted k c h e = e ∙ ap (count_by (over_in r)) (take_all k r.jobs.items h) ∙ settled-counted

  -- no more are out than there are jobs
  pub out-few : out_now gives (run_of r) ≤ length r.jobs.items
  out-few =
      subst (λ n. n ≤ length r.jobs.items)
      (sym
      (by-number is_out (λ (j : Job). entries.is_out past j.name)
      (λ j i h. job-seat gives (run_view r.run) levels_in past xs st.stand j i (out-anywhere m past j h)) (out-is past)))
      (count_by-le-length (is_in is_out r) r.jobs.items)
