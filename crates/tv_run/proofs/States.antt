-- The stage of a number and the state of its job, for instances that are open and instances that have ended alike.
use Rattle.std.specs.Option.{option_map_or}
use Rattle.std.specs.Prelude.{◌≡◌, refl, ℕ, ◌≤◌, Bool, if◌then◌else◌, [], None, Option, Some, is_some, length, option_and_then, slice_get}
use Rattle.std.proofs.Common.{ap, subst, sym, ◌∙◌}
use Rattle.std.proofs.lemmas.Option.{none-some, same_Some, slice_get_cases, slice_get_past}
use Rattle.tv_lemmas.proofs.Cases.{on_either}
use Rattle.tv_value.specs.Values.{Name}
use Rattle.tv_gate.specs.Outcomes.{Giving}
use Rattle.tv_flow.specs.Flows.{Document, Flow, Step}
use Rattle.tv_model.specs.instance.Ranks.{ranked}
use Rattle.tv_check.specs.RunViews.{run_view}
use Rattle.tv_model.specs.instance.ByResults.{last_first}
use Rattle.tv_model.specs.instance.Counting.{have_ended_by}
use Rattle.tv_model.specs.Jobs.{Job}
use Rattle.tv_model.specs.Made.{Meaning}
use Rattle.tv_model.proofs.Tests.{true≠false}
use Rattle.tv_history.specs.Entries.{History}
use Rattle.tv_history.specs.Histories.{is_ready}
use Rattle.tv_instances.specs.Answers.{after_of}
use Rattle.tv_instances.specs.FramingViews.{View}
use Rattle.tv_instances.specs.matches.Steps.{IsStepAt}
use Rattle.tv_frame.specs.Tables.{levels_in}
use Rattle.tv_seats.specs.Seats.{Seat}
use Rattle.tv_seats.specs.Stages.{is_waiting}
use Rattle.tv_seats.specs.declared.stage.Stage.{Stage}
use Rattle.tv_seats.specs.declared.stage.Stage.TheVariants as stage
use Rattle.tv_instances.specs.seats.Seated.{IsStage}
use Rattle.tv_instances.specs.stands.States.{StandsAt}
use Rattle.tv_instances.proofs.stands.States.{states-by_seats}
use Rattle.tv_instances.specs.Forest.{Instance, Instances}
use Rattle.tv_history.specs.Calls.{job_of, state_after, state_of, try_if_out, try_out}
use Rattle.tv_history.specs.Runs.{meant, past_of}
use Rattle.tv_history.specs.declared.ticket.JobState.TheVariants as state
use Rattle.tv_history.specs.declared.ticket.Ticket.{Ticket}
use Rattle.tv_run.specs.Jobs.{is_at, stage_in, stage_of}
use Rattle.tv_run.specs.Standing.{IsOpenOf, Stands, run_of}
use Rattle.tv_run.specs.Walking.{IsNumber}
use Rattle.tv_run.specs.declared.instances.Numbered.{Numbered}
use Rattle.tv_run.specs.declared.run.OpenRun.{OpenRun}
use Rattle.tv_run.proofs.JobLemmas.{open-is}
use Rattle.tv_run.proofs.Numbers.{IsJobOfRun, end-of, job-at, job-is, job-of_view, no-job, settled-there, sit-of, stage-at, stage-is}
use Rattle.tv_run.proofs.Tellings.{not-out, out-is, settled-is, state-is, state_by}

-- a number that no job has tells of none
pub no-stage : (r : OpenRun) (k : ℕ) → length r.jobs.items ≤ k → stage_of r k ≡ None
no-stage r k h =
    ap (option_and_then (λ (n : Numbered). option_and_then (stage_in n) (slice_get r.instances.items n.instance)))
    (slice_get_past r.jobs.items k h)

-- the steps have ended that the step of that name runs after
abbrev pub ended_after : View → Name → Bool
ended_after v c = have_ended_by v.events (levels_in v.flow) (last_first (ranked v.flow.steps) []) (after_of v c)

module _ (gives : Giving) (r : OpenRun) (xs : Instances) (st : Stands gives r xs) where
  abbrev d : Document
  d = run_view r.run

  abbrev past : History
  past = past_of (run_of r)

  abbrev m : Meaning
  m = meant gives (run_of r)

  module _ (k i n : ℕ) (x : Instance) (s : Seat) (j : Job) (is : IsNumber gives r xs k i n x s j) (t : Name × Step)
      (step : slice_get x.flow.steps s.step ≡ Some t) where
    -- what the stage tells of the job, where its instance is open
    pub stands-in : (v : View) → x.view ≡ Some v → StandsAt gives d past (levels_in x.flow) v t.0 j s.stage
    stands-in v e =
        let w = sit-of gives r xs st k i n x s j is v e in
        (
        states-by_seats gives d past x.name (levels_in x.flow) v x.seats w.1 n s j is.is_job.seat
        (job-of_view gives r xs st k i n x s j is v e) t
        (ap (λ (f : Flow). slice_get f.steps s.step) w.0 ∙ step)
        ).stands

    settled-now : x.view ≡ None → IsStage past j stage.Settled
    settled-now e = (end-of gives r xs st k i n x s j is e).stages n s j is.is_job.seat is.is_job.job

    pub state-of_job : state_of gives (run_of r) k ≡ state_by s.stage (is_ready m past j)
    state-of_job =
        ap (λ (o : Option Job). option_map_or (state_after m past) o state.Unknown) (job-is gives r xs st k i n x s j is)
        ∙ by x.view refl
      where
        by : (o : Option View) → x.view ≡ o → state_after m past j ≡ state_by s.stage (is_ready m past j)
        by None e =
            settled-is m past j (settled-now e).0
            ∙ ap (λ y. state_by y (is_ready m past j)) (sym (settled-there gives r xs st k i n x s j is e))
        by (Some v) e = state-is gives d m past (levels_in x.flow) v t.0 j s.stage (stands-in v e)

    -- whether that try of it is out
    pub out-of_job : (a u : ℕ)
        → is_at (Some s.stage) a u ≡ is_some (option_and_then (try_out past a u) (job_of gives (run_of r) k))
    out-of_job a u =
        by x.view refl
        ∙ sym
        (ap (λ (o : Option Job). is_some (option_and_then (try_out past a u) o)) (job-is gives r xs st k i n x s j is))
      where
        by : (o : Option View) → x.view ≡ o → is_at (Some s.stage) a u ≡ is_some (try_out past a u j)
        by None e =
            ap (λ y. is_at (Some y) a u) (settled-there gives r xs st k i n x s j is e)
            ∙ not-out m past j a u (settled-now e).1
        by (Some v) e =
            out-is gives d m past (levels_in x.flow) v t.0 j a u s.stage (stage-is gives r xs st k i n x s j is)
            (stands-in v e)

  -- ---- by number

  -- one that a job has, and one that none has
  pub at-number : {C : Type 0} (k : ℕ) → (IsJobOfRun gives r xs k → C) → (length r.jobs.items ≤ k → C) → C
  at-number k one none =
      on_either (slice_get_cases r.jobs.items k).1 (λ h. one (job-at gives r xs st k h.1)) (λ h. none h.0)

  pub stage-of_run : (k : ℕ) (w : IsJobOfRun gives r xs k) → stage_of r k ≡ Some w.seat.stage
  stage-of_run k w = stage-at gives r xs st k w.outer w.number w.instance w.seat w.job w.is_number

  pub state-of_run : (k : ℕ) (w : IsJobOfRun gives r xs k)
      → state_of gives (run_of r) k ≡ state_by w.seat.stage (is_ready m past w.job)
  state-of_run k w =
      state-of_job k w.outer w.number w.instance w.seat w.job w.is_number w.step w.known.step

  -- what the stage of a number tells of the state of its job
  pub state-at : (k : ℕ) (y : Stage) → stage_of r k ≡ Some y
      → (b : Bool) × (state_of gives (run_of r) k ≡ state_by y b)
  state-at k y e =
      at-number k
      (λ w.
      let b = is_ready m past w.job in (
        b,
        state-of_run k w ∙ ap (λ z. state_by z b) (same_Some w.seat.stage y (sym (stage-of_run k w) ∙ e)),
      ))
      (λ h. absurd (none-some y (sym (no-stage r k h) ∙ e)))

  pub no-state : (k : ℕ) → stage_of r k ≡ None → state_of gives (run_of r) k ≡ state.Unknown
  no-state k e =
      at-number k (λ w. absurd (none-some w.seat.stage (sym e ∙ stage-of_run k w)))
      (λ h. ap (λ (o : Option Job). option_map_or (state_after m past) o state.Unknown) (no-job gives r xs st k h))

  -- whether the try of a ticket is out
  pub out-told : (t : Ticket)
      → is_at (stage_of r t.job) t.activity t.attempt ≡ is_some (try_if_out gives (run_of r) t)
  out-told t =
      at-number t.job
      (λ w.
      ap (λ o. is_at o t.activity t.attempt) (stage-of_run t.job w)
      ∙ out-of_job t.job w.outer w.number w.instance w.seat w.job w.is_number w.step w.known.step t.activity t.attempt)
      (λ h.
      ap (λ o. is_at o t.activity t.attempt) (no-stage r t.job h)
      ∙ sym
      (ap (λ (o : Option Job). is_some (option_and_then (try_out past t.activity t.attempt) o))
      (no-job gives r xs st t.job h)))

  -- ---- jobs of open instances

  -- a job that isn't settled is of one
  pub record IsOpenJob (k : ℕ) : Type 0 where
    pub its : IsJobOfRun gives r xs k
    pub view : View
    pub is_open : its.instance.view ≡ Some view
    pub opened : IsOpenOf r its.known.itself its.instance view

  pub open-job : (k : ℕ) (y : Stage) → stage_of r k ≡ Some y → (y ≡ stage.Settled → ⊥)
      → (w : IsOpenJob k) × (w.its.seat.stage ≡ y)
  open-job k y e not = at-number k one (λ h. absurd (none-some y (sym (no-stage r k h) ∙ e)))
    where
      one : IsJobOfRun gives r xs k → (w : IsOpenJob k) × (w.its.seat.stage ≡ y)
      one w = by w.instance.view refl
        where
          same : w.seat.stage ≡ y
          same = same_Some w.seat.stage y (sym (stage-of_run k w) ∙ e)

          by : (o : Option View) → w.instance.view ≡ o → (w : IsOpenJob k) × (w.its.seat.stage ≡ y)
          by None h =
              absurd
              (not
              (sym same ∙ settled-there gives r xs st k w.outer w.number w.instance w.seat w.job w.is_number h))
          by (Some v) h = (
            record {
              its = w;
              view = v;
              is_open = h;
              opened = open-is r w.outer w.known.itself w.instance v w.known.kept h;
            },
            same,
          )

  -- one that waits is ready where the steps have ended that its step runs after
  pub record IsWaitingNow (k : ℕ) : Type 0 where
    pub at : IsOpenJob k
    pub step : IsStepAt at.view at.its.seat.step at.its.step
    pub state :
        state_of gives (run_of r) k
        ≡ (if ended_after at.view at.its.step.0 then state.Ready else state.Waiting)

  pub waiting-now : (k : ℕ) → stage_of r k ≡ Some stage.Waiting → IsWaitingNow k
  waiting-now k e =
      record {
        at = w.0;
        step = ap (λ (f : Flow). slice_get f.steps b.seat.step) flow ∙ b.known.step;
        state =
            state-of_run k b
            ∙ ap (λ y. state_by y (is_ready m past b.job)) w.1
            ∙ ap (λ c. if c then state.Ready else state.Waiting)
            (tells.ready ∙ ap (λ (f : Flow). ended_by f) (sym flow));
      }
    where
      w : (w : IsOpenJob k) × (w.its.seat.stage ≡ stage.Waiting)
      w = open-job k stage.Waiting e (λ h. true≠false (ap is_waiting h))

      b : IsJobOfRun gives r xs k
      b = w.0.its

      flow : w.0.view.flow ≡ b.instance.flow
      flow = (sit-of gives r xs st k b.outer b.number b.instance b.seat b.job b.is_number w.0.view w.0.is_open).0

      ended_by : Flow → Bool
      ended_by f =
          have_ended_by w.0.view.events (levels_in f) (last_first (ranked w.0.view.flow.steps) [])
          (after_of w.0.view b.step.0)

      tells : StandsAt gives d past (levels_in b.instance.flow) w.0.view b.step.0 b.job stage.Waiting
      tells =
          subst (StandsAt gives d past (levels_in b.instance.flow) w.0.view b.step.0 b.job) w.1
          (stands-in k b.outer b.number b.instance b.seat b.job b.is_number b.step b.known.step w.0.view w.0.is_open)
