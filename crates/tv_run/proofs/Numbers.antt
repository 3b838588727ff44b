-- The run's job of each number, where the run stands: its name, its stage, and its number by its seat.
use Rattle.std.specs.Prelude.{◌≡◌, refl, ℕ, ◌<◌, ◌≤◌, List, [], None, Option, Some, find, length, option_and_then, slice_get, unwrap_or}
use Rattle.std.proofs.Common.{ap, subst, sym, ◌∙◌}
use Rattle.std.proofs.lemmas.Option.{none-some, same_Some, slice_get_cases}
use Rattle.tv_lemmas.proofs.Cases.{on_either}
use Rattle.tv_value.specs.Orders.{same_job}
use Rattle.tv_value.specs.Values.{JobName, Name}
use Rattle.tv_gate.specs.Outcomes.{Giving}
use Rattle.tv_flow.specs.Flows.{Document, Step}
use Rattle.tv_check.specs.RunViews.{run_view}
use Rattle.tv_model.specs.Jobs.{Job}
use Rattle.tv_model.specs.Made.{Meaning}
use Rattle.tv_history.specs.Entries.{History}
use Rattle.tv_instances.specs.FramingViews.{View}
use Rattle.tv_frame.specs.Tables.{levels_in}
use Rattle.tv_seats.specs.Seats.{Seat}
use Rattle.tv_seats.specs.declared.stage.Stage.TheVariants as stage
use Rattle.tv_instances.specs.seats.Seated.{HasEnded, IsStage, Sit, spot_of}
use Rattle.tv_instances.specs.stands.Seats.{IsJobOf}
use Rattle.tv_instances.specs.stands.States.{IsJobOfNumber}
use Rattle.tv_instances.specs.views.InRun.{IsJobThere}
use Rattle.tv_instances.specs.Forest.{Instance, Instances, IsJobAt, Stays, names_by}
use Rattle.tv_instances.proofs.Instances.{sits}
use Rattle.tv_instances.proofs.forest_firsts.Instances.{one-seat, seat-job, stage-of}
use Rattle.tv_instances.proofs.forest_firsts.Names as names
use Rattle.tv_history.specs.Calls.{job_of}
use Rattle.tv_history.specs.Runs.{meant, name_at, past_of}
use Rattle.tv_run.specs.Jobs.{stage_of}
use Rattle.tv_run.specs.Standing.{Stands, names_of, numbers_of, run_of}
use Rattle.tv_run.specs.Walking.{IsNumber}
use Rattle.tv_run.specs.declared.run.OpenRun.{OpenRun}
use Rattle.tv_run.proofs.JobLemmas.{IsKnownAs, known, known-as, no-name, number-of, number-there, stage-shut, stage-viewed}

-- job k of the run
pub record IsJobOfRun (gives : Giving) (r : OpenRun) (xs : Instances) (k : ℕ) : Type 0 where
  pub outer : ℕ
  pub number : ℕ
  pub instance : Instance
  pub seat : Seat
  pub step : Name × Step
  pub job : Job
  pub known : IsKnownAs r xs k outer number instance seat step
  pub is_number : IsNumber gives r xs k outer number instance seat job

module _ (gives : Giving) (r : OpenRun) (xs : Instances) (st : Stands gives r xs) where
  abbrev d : Document
  d = run_view r.run

  abbrev past : History
  past = past_of (run_of r)

  abbrev m : Meaning
  m = meant gives (run_of r)

  -- ---- the job of a number

  pub job-of_known : (k i n : ℕ) (x : Instance) (s : Seat) (t : Name × Step) → IsKnownAs r xs k i n x s t
      → (j : Job) × IsNumber gives r xs k i n x s j
  job-of_known k i n x s t w =
      let j = seat-job gives d levels_in past xs st.stand i n x s w.there w.seat in
      (j.0, record { numbered = number-of r xs st.fits k i n x s t w; is_job = j.1 })

  pub job-at : (k : ℕ) → k < length r.jobs.items → IsJobOfRun gives r xs k
  job-at k low =
      let w = known r xs st.fits k low in
      let j = job-of_known k w.outer w.number w.instance w.seat w.step w.known in
      record {
        outer = w.outer;
        number = w.number;
        instance = w.instance;
        seat = w.seat;
        step = w.step;
        job = j.0;
        known = w.known;
        is_number = j.1;
      }

  -- the number of a job's seat
  pub number-of_seat : (i n : ℕ) (x : Instance) (s : Seat) (j : Job) → IsJobAt gives d xs i n x s j
      → (k : ℕ) × IsNumber gives r xs k i n x s j
  number-of_seat i n x s j it =
      let k = number-there r xs st.fits i n x s it.instance it.seat in
      (k.0, record { numbered = k.1; is_job = it })

  module _ (k i n : ℕ) (x : Instance) (s : Seat) (j : Job) (is : IsNumber gives r xs k i n x s j) where
    pub known-number : (t : Name × Step) × IsKnownAs r xs k i n x s t
    known-number = known-as r xs st.fits k i n x s is.numbered is.is_job.instance is.is_job.seat

    abbrev told : IsJobOfNumber gives d (names_by xs (numbers_of r)) k j
    told =
        names.number-is gives d levels_in past xs st.stand (numbers_of r) st.fits.numbered k i n x s j is.numbered
        is.is_job

    -- it has the name of its number, and is found by it
    pub job-named : slice_get (names_of r) k ≡ Some j.name
    job-named = ap (λ (l : List JobName). slice_get l k) st.fits.names_are ∙ told.named

    pub name-is : name_at (names_of r) k ≡ j.name
    name-is = ap (λ (o : Option JobName). unwrap_or o []) job-named

    pub job-is : job_of gives (run_of r) k ≡ Some j
    job-is = ap (option_and_then (λ (n : JobName). find (λ (l : Job). same_job n l.name) m.jobs)) job-named ∙ told.found

    -- ---- where it stands

    -- its instance is open, told so much, or has ended with all its jobs settled
    pub sit-of : (v : View) → x.view ≡ Some v
        → (v.flow ≡ x.flow) × Sit gives d past x.name (levels_in x.flow) v x.seats
    sit-of v e = sits gives d levels_in past xs st.stand i x v is.is_job.instance e

    pub job-of_view : (v : View) → x.view ≡ Some v → IsJobOf gives d x.name v j s
    job-of_view v e =
        subst (λ f. IsJobThere gives d x.name j (spot_of f.steps s)) (sym (sit-of v e).0) is.is_job.job

    pub end-of : x.view ≡ None → HasEnded gives d past x.name x.flow x.seats
    end-of e = subst (Stays gives d levels_in past x) e (st.stand.each i x is.is_job.instance)

    pub settled-there : x.view ≡ None → s.stage ≡ stage.Settled
    settled-there e = (end-of e).settled n s is.is_job.seat

    pub stage-is : IsStage past j s.stage
    stage-is = stage-of gives d levels_in past xs st.stand i n x s j is.is_job

    pub stage-at : stage_of r k ≡ Some s.stage
    stage-at = by x.view refl
      where
        by : (o : Option View) → x.view ≡ o → stage_of r k ≡ Some s.stage
        by None e =
            stage-shut r xs st.fits k i n x s known-number.0 known-number.1 e ∙ ap Some (sym (settled-there e))
        by (Some v) e = stage-viewed r xs st.fits k i n x s known-number.0 known-number.1 v e

  -- ---- numbers and jobs

  -- no two numbers have one job
  pub one-number : (k l i n p q : ℕ) (x y : Instance) (s t : Seat) (j : Job) → IsNumber gives r xs k i n x s j
      → IsNumber gives r xs l p q y t j → k ≡ l
  one-number k l i n p q x y s t j a b =
      let one = one-seat gives d levels_in past xs st.stand i n p q x y s t j a.is_job b.is_job in
      st.fits.numbered.apart k l i n a.numbered
      (b.numbered ∙ (λ u. Some (one.0 u, one.1 u)))

  -- no number has two
  pub one-job : (k i n p q : ℕ) (x y : Instance) (s t : Seat) (j l : Job) → IsNumber gives r xs k i n x s j
      → IsNumber gives r xs k p q y t l → j ≡ l
  one-job k i n p q x y s t j l a b =
      same_Some j l (sym (job-is k i n x s j a) ∙ job-is k p q y t l b)

  -- a number beyond has none
  pub no-job : (k : ℕ) → length r.jobs.items ≤ k → job_of gives (run_of r) k ≡ None
  no-job k h =
      ap (option_and_then (λ (n : JobName). find (λ (l : Job). same_job n l.name) m.jobs))
      (no-name r xs st.fits k h)

  -- a number that has one is below
  pub number-low : (k : ℕ) (j : Job) → job_of gives (run_of r) k ≡ Some j → k < length r.jobs.items
  number-low k j e =
      on_either (slice_get_cases r.jobs.items k).1 (λ h. h.1)
      (λ h. absurd (none-some j (sym (no-job k h.0) ∙ e)))

  pub number-of_job : (k : ℕ) (j : Job) → job_of gives (run_of r) k ≡ Some j
      → (w : IsJobOfRun gives r xs k) × (w.job ≡ j)
  number-of_job k j e =
      let w = job-at k (number-low k j e) in
      (w, same_Some w.job j (sym (job-is k w.outer w.number w.instance w.seat w.job w.is_number) ∙ e))
