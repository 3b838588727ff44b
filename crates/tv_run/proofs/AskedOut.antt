-- The job of a ticket whose try is out: its seat in an open instance, its step, and what it asks.
use Rattle.std.specs.Prelude.{◌≡◌, refl, ℕ, ◌<◌, true, None, Option, Some, is_some, length, option_and_then, slice_get}
use Rattle.std.proofs.Common.{ap, subst, sym, ◌∙◌}
use Rattle.std.proofs.lemmas.Option.{none-some}
use Rattle.tv_value.specs.Values.{Name}
use Rattle.tv_gate.specs.Outcomes.{Giving}
use Rattle.tv_flow.specs.Flows.{Document, Flow, Step}
use Rattle.tv_check.specs.RunViews.{run_view}
use Rattle.tv_dispatch.specs.Jobs.{Ask}
use Rattle.tv_model.specs.Jobs.{Job}
use Rattle.tv_model.specs.Made.{Meaning}
use Rattle.tv_model.proofs.Tests.{true≠false}
use Rattle.tv_history.specs.Entries.{History, is_out}
use Rattle.tv_instances.specs.FramingViews.{View}
use Rattle.tv_frame.specs.Tables.{levels_in}
use Rattle.tv_seats.specs.Seats.{Seat}
use Rattle.tv_seats.specs.declared.stage.Stage.TheVariants as stage
use Rattle.tv_instances.specs.seats.Seated.{IsStage, Sit}
use Rattle.tv_instances.specs.stands.Seats.{IsJobOf}
use Rattle.tv_instances.proofs.stands.Offers.{steps-of_seats}
use Rattle.tv_instances.specs.forest_tries.Steps.{IsAskOf, IsOwnStep}
use Rattle.tv_instances.proofs.forest_tries.Tries.{asks-step}
use Rattle.tv_instances.specs.Forest.{Instance, Instances}
use Rattle.tv_history.specs.Calls.{job_of, try_if_out, try_out}
use Rattle.tv_history.specs.Runs.{meant, past_of}
use Rattle.tv_history.specs.declared.ticket.Ticket.{Ticket}
use Rattle.tv_run.specs.Jobs.{step_of}
use Rattle.tv_run.specs.Standing.{Stands, run_of}
use Rattle.tv_run.specs.Walking.{IsNumber}
use Rattle.tv_run.specs.declared.run.OpenRun.{OpenRun}
use Rattle.tv_run.proofs.JobLemmas.{IsKnownAs, low, step-is}
use Rattle.tv_run.proofs.Numbers.{IsJobOfRun, job-of_view, number-of_job, settled-there, sit-of, stage-is}
use Rattle.tv_run.proofs.TriesOut.{IsTryOut, out-stage, try_out-parts}

-- the job of the ticket, whose try is out, and which asks this next
pub record IsAskedOut (gives : Giving) (r : OpenRun) (xs : Instances) (t : Ticket) (k : Ask) : Type 0 where
  pub outer : ℕ
  pub number : ℕ
  pub instance : Instance
  pub seat : Seat
  pub step : Name × Step
  pub job : Job
  pub known : IsKnownAs r xs t.job outer number instance seat step
  pub is_number : IsNumber gives r xs t.job outer number instance seat job
  pub view : View
  pub is_open : instance.view ≡ Some view
  pub stands : seat.stage ≡ stage.Out t.activity t.attempt
  pub try : IsTryOut (past_of (run_of r)) t.activity t.attempt job k

module _ (gives : Giving) (r : OpenRun) (xs : Instances) (st : Stands gives r xs) where
  abbrev d : Document
  d = run_view r.run

  abbrev past : History
  past = past_of (run_of r)

  abbrev m : Meaning
  m = meant gives (run_of r)

  -- ---- what is out has a seat in an open instance

  module _ (k i n : ℕ) (x : Instance) (s : Seat) (j : Job) (is : IsNumber gives r xs k i n x s j) where
    -- one that has a try out
    pub out-open : is_out past j.name ≡ true → (v : View) × (x.view ≡ Some v)
    out-open h = by x.view refl
      where
        by : (o : Option View) → x.view ≡ o → (v : View) × (x.view ≡ Some v)
        by (Some v) e = (v, e)
        by None e =
            let settled : IsStage past j stage.Settled =
            subst (IsStage past j) (settled-there gives r xs st k i n x s j is e)
            (stage-is gives r xs st k i n x s j is) in
            absurd (true≠false (sym h ∙ settled.1))

  of-job : (t : Ticket) (k : Ask) (w : IsJobOfRun gives r xs t.job)
      → IsTryOut past t.activity t.attempt w.job k → IsAskedOut gives r xs t k
  of-job t k w o =
      let v = out-open t.job w.outer w.number w.instance w.seat w.job w.is_number o.out in
      record {
        outer = w.outer;
        number = w.number;
        instance = w.instance;
        seat = w.seat;
        step = w.step;
        job = w.job;
        known = w.known;
        is_number = w.is_number;
        view = v.0;
        is_open = v.1;
        stands =
            out-stage past w.job w.seat.stage t.activity t.attempt k
            (stage-is gives r xs st t.job w.outer w.number w.instance w.seat w.job w.is_number) o;
        try = o;
      }

  -- a ticket whose try is out has such a job
  pub asked-out : (t : Ticket) (k : Ask) → try_if_out gives (run_of r) t ≡ Some k → IsAskedOut gives r xs t k
  asked-out t k h = by (job_of gives (run_of r) t.job) refl h
    where
      by : (o : Option Job) → job_of gives (run_of r) t.job ≡ o
          → option_and_then (try_out past t.activity t.attempt) o ≡ Some k → IsAskedOut gives r xs t k
      by None e h = absurd (none-some k h)
      by (Some j) e h =
          let w = number-of_job gives r xs st t.job j e in
          of-job t k w.0
          (subst (λ l. IsTryOut past t.activity t.attempt l k) (sym w.1)
          (try_out-parts past t.activity t.attempt j k h))

  pub asked-now : (t : Ticket) → is_some (try_if_out gives (run_of r) t) ≡ true
      → (k : Ask) × (try_if_out gives (run_of r) t ≡ Some k) × IsAskedOut gives r xs t k
  asked-now t h = by (try_if_out gives (run_of r) t) refl h
    where
      by : (o : Option Ask) → try_if_out gives (run_of r) t ≡ o → is_some o ≡ true
          → (k : Ask) × (try_if_out gives (run_of r) t ≡ Some k) × IsAskedOut gives r xs t k
      by None e h = absurd (true≠false (sym h))
      by (Some k) e h = (k, e, asked-out t k e)

  module _ (t : Ticket) (k : Ask) (o : IsAskedOut gives r xs t k) where
    pub is-known : t.job < length r.jobs.items
    is-known = low r xs st.fits t.job o.outer o.number o.instance o.seat o.step o.known

    pub sit : (o.view.flow ≡ o.instance.flow)
        × Sit gives d past o.instance.name (levels_in o.instance.flow) o.view o.instance.seats
    sit = sit-of gives r xs st t.job o.outer o.number o.instance o.seat o.job o.is_number o.view o.is_open

    pub is-its : IsJobOf gives d o.instance.name o.view o.job o.seat
    is-its = job-of_view gives r xs st t.job o.outer o.number o.instance o.seat o.job o.is_number o.view o.is_open

    -- the step of its seat, in what its frame was told of
    pub at-step : slice_get o.view.flow.steps o.seat.step ≡ Some o.step
    at-step = ap (λ (f : Flow). slice_get f.steps o.seat.step) sit.0 ∙ o.known.step

    pub own-step : IsOwnStep gives d o.job o.step.1
    own-step =
        steps-of_seats gives d past o.instance.name (levels_in o.instance.flow) o.view o.instance.seats sit.1 o.number
        o.seat o.job o.known.seat is-its o.step at-step

    -- what it asks is of its step
    pub ask-is : IsAskOf o.step.1 o.job k.activity k.attempt k
    ask-is = asks-step gives d o.job o.step.1 own-step past k o.try.asks

    -- the step that a look finds
    pub step-there : step_of r t.job ≡ Some o.step.1
    step-there = step-is r xs st.fits t.job o.outer o.number o.instance o.seat o.step o.known
