-- An open instance that ends, and the job that opened it: what it gives is the job's result.
use Rattle.std.specs.Prelude.{◌≡◌, ◌≢◌, refl, ℕ, zero, suc, ◌<◌, Bool, true, false, not, ◌||◌, List, [], ◌∷◌, None, Option, Some, length, slice_get}
use Rattle.std.specs.List.{list_any}
use Rattle.std.proofs.Common.{ap, arith, subst, sym, ◌∙◌}
use Rattle.std.proofs.lemmas.Option.{none-some, same_Some, slice_get_cases}
use Rattle.std.specs.Cmp.{first_so}
use Rattle.tv_lemmas.proofs.Cases.{on_either}
use Rattle.tv_lemmas.proofs.Members.{in-slice}
use Rattle.tv_value.specs.Nested.{Place}
use Rattle.tv_value.specs.Values.{Name, Value}
use Rattle.tv_gate.specs.Outcomes.{Giving}
use Rattle.tv_flow.specs.Flows.{Document, Flow, Step}
use Rattle.tv_model.specs.instance.Steps.{declared_depths}
use Rattle.tv_check.specs.RunViews.{run_view}
use Rattle.tv_check.specs.declared.plans.FlowPlan.{FlowPlan}
use Rattle.tv_outputs.specs.Known.{Nodes}
use Rattle.tv_model.specs.instance.Events.{has_result, is_taken}
use Rattle.tv_model.specs.Jobs.{Job}
use Rattle.tv_model.specs.Meanings.{meaning}
use Rattle.tv_model.specs.RightDepths.{HaveTheseDepths}
use Rattle.tv_history.specs.Entries.{History, is_begun_entry}
use Rattle.tv_history.specs.Histories.{can_end, is_settled}
use Rattle.tv_instances.specs.Answers.{AreOutputs, has_ended_now}
use Rattle.tv_instances.specs.FramingViews.{View}
use Rattle.tv_instances.specs.views.InRun.{IsOfJob}
use Rattle.tv_instances.specs.views.Stated.{IsBegunAsTold}
use Rattle.tv_instances.proofs.views.LawLemmas.{instances-end_as_told, outputs-are_results, taken-is_running}
use Rattle.tv_frame.specs.Prepared.{MayGive}
use Rattle.tv_frame.specs.Tables.{levels_in}
use Rattle.tv_seats.specs.Seats.{Seat}
use Rattle.tv_seats.specs.Stages.{is_nested, is_out}
use Rattle.tv_seats.specs.declared.stage.Stage.TheVariants as stage
use Rattle.tv_instances.specs.seats.Seated.{GoesAs, IsStage, Sit, spot_of}
use Rattle.tv_instances.proofs.forest_firsts.Instances.{one-seat}
use Rattle.tv_instances.specs.Forest.{Instance, Instances, IsAt, IsJobAt}
use Rattle.tv_instances.proofs.Instances as forest
use Rattle.tv_instances.proofs.Instances.{one-job, sits}
use Rattle.tv_instances.proofs.Lists.{one-at}
use Rattle.tv_history.specs.Runs.{past_of}
use Rattle.tv_instances.specs.Standing.{IsOpen}
use Rattle.tv_instances.specs.declared.open.Open.{Open}
use Rattle.tv_run.specs.Changes.{IsOpenHere, IsSeatHere}
use Rattle.tv_run.specs.Settlements.{EndsIn, IsOpenIn, IsOpenerOf, OfOpen}
use Rattle.tv_run.specs.Standing.{Fits, Stands, names_of, run_of}
use Rattle.tv_run.specs.Walking.{IsNumber}
use Rattle.tv_run.specs.declared.instances.Instance as code
use Rattle.tv_run.specs.declared.instances.Numbered.{Numbered}
use Rattle.tv_run.specs.declared.run.OpenRun.{OpenRun}
use Rattle.tv_run.proofs.Bounces as bounces
use Rattle.tv_run.proofs.Itself.{its, its-code, o}
use Rattle.tv_run.proofs.JobLemmas.{IsKnownAs, no-name}
use Rattle.tv_run.proofs.Numbers.{IsJobOfRun, job-at, job-named, settled-there, stage-is}
use Rattle.tv_run.proofs.Opens.{first-open}
use Rattle.tv_run.proofs.PlannedJobs.{result-deep}
use Rattle.tv_run.proofs.PlanLemmas.{plan-there}
use Rattle.tv_run.proofs.Bouncing.{open-here}

-- ---- by its frame

module _ (r : OpenRun) (i : ℕ) (xs : Instances) (x : Instance) (v : View) (here : IsOpenHere r xs i x v) where
  -- its Open, which the code reads there
  abbrev IsRead : Open → Type 0
  IsRead p =
      (c : code.Instance) → slice_get r.instances.items i ≡ Some c → (os : List Open) × (c.open.items ≡ p ∷ os)

  pub read-open : (p : Open) → IsRead p → p ≡ o r i xs x v here
  read-open p h =
      let w = h (its r i xs x v here) (its-code r i xs x v here).there in
      first-open p (o r i xs x v here) w.0 [] (its r i xs x v here).open.items w.1 (its-code r i xs x v here).opened.there

  pub flow-same : v.flow ≡ x.flow
  flow-same = (its-code r i xs x v here).opened.flow

  -- it is open by some plan of its flow
  pub open-itself : (plan : FlowPlan) × IsOpen (run_view r.run) plan r.pool (o r i xs x v here) v
  open-itself =
      let plan = plan-there r.run (its r i xs x v here).flow x.flow (its-code r i xs x v here).kept.flow in
      (plan.0, (its-code r i xs x v here).opened.is_open plan.0 plan.1)

  pub open-some : (p : Open) → p ≡ o r i xs x v here → (plan : FlowPlan) × IsOpen (run_view r.run) plan r.pool p v
  open-some p h =
      (open-itself.0, subst (λ a. IsOpen (run_view r.run) open-itself.0 r.pool a v) (sym h) open-itself.1)

-- what an answer tells of the instance holds of it, however the run fits
pub as-told : (r : OpenRun) (i : ℕ) (p : Open)
    → ((c : code.Instance) → slice_get r.instances.items i ≡ Some c → (os : List Open) × (c.open.items ≡ p ∷ os))
    → (b : Bool)
    → (
    (d : Document) (plan : FlowPlan) (pool : Nodes) (v : View) → IsOpen d plan pool p v
    → b ≡ has_ended_now (levels_in v.flow) v)
    → (xs : Instances) (x : Instance) (v : View) → Fits r xs → IsAt xs i x → x.view ≡ Some v
    → has_ended_now (levels_in v.flow) v ≡ b
as-told r i p read b tells xs x v fits at e =
    let here : IsOpenHere r xs i x v = record { fits = fits; there = at; is_open = e } in
    let w = open-some r i xs x v here p (read-open r i xs x v here p read) in
    sym (tells (run_view r.run) w.0 r.pool v w.1)

-- ---- it can end

module _ (gives : Giving) (r : OpenRun) (i : ℕ) (h : IsOpenIn gives r i) (ends : OfOpen r i EndsIn) where
  abbrev pub xs : Instances
  xs = h.instances

  abbrev pub st : Stands gives r xs
  st = h.stands

  abbrev pub y : Instance
  y = h.instance

  abbrev pub w : View
  w = h.view

  abbrev d : Document
  d = run_view r.run

  abbrev past : History
  past = past_of (run_of r)

  pub here : IsOpenHere r xs i y w
  here = open-here gives r i h

  pub sit : Sit gives d past y.name (levels_in y.flow) w y.seats
  sit = (sits gives d levels_in past xs st.stand i y w h.there h.is_open).1

  pub ends-now : EndsIn y w
  ends-now = ends xs y w st.fits h.there h.is_open

  pub can : can_end (meaning gives d) past y.name ≡ true
  can =
      instances-end_as_told gives d past y.name (levels_in y.flow) w sit.in_run
      ∙ ap (λ (f : Flow). has_ended_now (levels_in f) w) (sym (flow-same r i xs y w here))
      ∙ ends-now

  -- ---- by the job that opened it

  -- job k, of this number, opened it: that of a seat of an open instance
  pub record HasOpener (k : ℕ) (m : Numbered) : Type 0 where
    pub around : Instance
    pub seat : Seat
    pub step : Name × Step
    pub job : Job
    pub known : IsKnownAs r xs k m.instance m.number around seat step
    pub is_number : IsNumber gives r xs k m.instance m.number around seat job
    pub named : y.name ≡ job.name
    pub before : m.instance < i
    pub nested : seat.stage ≡ stage.Nested i
    pub of_job : IsOfJob d job w

  module _ (k : ℕ) (opener : IsOpenerOf r i k) where
    named-so : slice_get (names_of r) k ≡ Some y.name
    named-so = (st.fits.kept i opener.itself y opener.there h.there).opener k opener.opener

    pub opener-low : k < length r.jobs.items
    opener-low =
        on_either (slice_get_cases r.jobs.items k).1 (λ a. a.1)
        (λ a. absurd (none-some y.name (sym (no-name r xs st.fits k a.0) ∙ named-so)))

    its-job : IsJobOfRun gives r xs k
    its-job = job-at gives r xs st k opener-low

    same-name : its-job.job.name ≡ y.name
    same-name =
        same_Some its-job.job.name y.name
        (sym
        (job-named gives r xs st k its-job.outer its-job.number its-job.instance its-job.seat its-job.job its-job.is_number)
        ∙ named-so)

    abbrev its-number : Numbered
    its-number = record { instance = its-job.outer; number = its-job.number }

    pub has-opener : (m : Numbered) → slice_get r.jobs.items k ≡ Some m → HasOpener k m
    has-opener m there =
        subst (HasOpener k) (same_Some its-number m (sym its-job.known.number ∙ there))
        (by i y h.there h.is_open refl same-name)
      where
        by : (n : ℕ) (z : Instance) → IsAt xs n z → z.view ≡ Some w → n ≡ i → its-job.job.name ≡ z.name
            → HasOpener k its-number
        by zero z at e is called =
            absurd
            (forest.job-named gives d its-job.instance.name its-job.job
            (spot_of its-job.instance.flow.steps its-job.seat) its-job.is_number.is_job.job
            (called
            ∙ ap (λ (a : Instance). a.name) (one-at xs 0 z st.stand.main.0 at st.stand.main.1)
            ∙ st.stand.main.2.unnamed))
        by (suc n) z at e is called =
            let o = st.stand.opened n z at in
            let same : its-job.job ≡ o.job =
            one-job gives d its-job.job o.job its-job.is_number.is_job.job.listed o.is_job.job.listed (called ∙ o.named) in
            let mine : IsJobAt gives d xs its-job.outer its-job.number its-job.instance its-job.seat o.job =
            subst (IsJobAt gives d xs its-job.outer its-job.number its-job.instance its-job.seat) same
            its-job.is_number.is_job in
            let one =
            one-seat gives d levels_in past xs st.stand its-job.outer its-job.number o.outer o.number its-job.instance
            o.around its-job.seat o.seat o.job mine o.is_job in
            let around : o.around ≡ its-job.instance =
            one-at xs its-job.outer o.around its-job.instance
            (subst (λ a. slice_get xs a ≡ Some o.around) one.0 o.is_job.instance) its-job.is_number.is_job.instance in
            let seat : o.seat ≡ its-job.seat =
            same_Some o.seat its-job.seat
            (sym
            (subst (λ a. slice_get its-job.instance.seats a ≡ Some o.seat) one.1
            (subst (λ (a : Instance). slice_get a.seats o.number ≡ Some o.seat) around o.is_job.seat))
            ∙ its-job.is_number.is_job.seat) in
            let open-now = o.while_open w e in
            record {
              around = its-job.instance;
              seat = its-job.seat;
              step = its-job.step;
              job = its-job.job;
              known = its-job.known;
              is_number = its-job.is_number;
              named = sym same-name;
              before = subst (λ a. its-job.outer < a) is (subst (λ a. a < suc n) one.0 o.before);
              nested =
                  ap (λ (a : Seat). a.stage) (sym seat) ∙ open-now.0 ∙ ap stage.Nested is;
              of_job = subst (λ a. IsOfJob d a w) (sym same) open-now.1;
            }

  -- ---- what the job gives

  module _ (k : ℕ) (m : Numbered) (q : HasOpener k m) where
    abbrev its-at : IsJobAt gives d xs m.instance m.number q.around q.seat q.job
    its-at = q.is_number.is_job

    pub not-itself : i ≢ m.instance
    not-itself e = let low = q.before in omega (arith, low, e)

    -- its instance is open
    pub around-open : (v : View) × (q.around.view ≡ Some v)
    around-open = by q.around.view refl
      where
        by : (a : Option View) → q.around.view ≡ a → (v : View) × (q.around.view ≡ Some v)
        by (Some v) e = (v, e)
        by None e =
            absurd
            (differ i
            (sym q.nested ∙ settled-there gives r xs st k m.instance m.number q.around q.seat q.job q.is_number e))
          where
            differ : (n : ℕ) → stage.Nested n ≡ stage.Settled → ⊥
            differ n h = cc

    abbrev pub v : View
    v = around-open.0

    pub seat-here : IsSeatHere r xs m.instance q.around v m.number q.seat q.step
    seat-here = record {
      here = record { fits = st.fits; there = its-at.instance; is_open = around-open.1 };
      seat = q.known.seat;
      step = q.known.step;
    }

    goes : GoesAs past q.job true false true
    goes =
        subst (IsStage past q.job) q.nested
        (stage-is gives r xs st k m.instance m.number q.around q.seat q.job q.is_number)

    around-sit : Sit gives d past q.around.name (levels_in v.flow) v q.around.seats
    around-sit =
        bounces.sit gives d past xs st.stand m.instance m.number q.around q.seat q.job v its-at around-open.1

    at-step : slice_get v.flow.steps q.seat.step ≡ Some q.step
    at-step =
        ap (λ (f : Flow). slice_get f.steps q.seat.step)
        (bounces.same-flow gives d past xs st.stand m.instance m.number q.around q.seat q.job v its-at around-open.1)
        ∙ q.known.step

    spot-so : spot_of v.flow.steps q.seat ≡ (q.step.0, q.seat.place)
    spot-so =
        bounces.spot-is gives d past xs st.stand m.instance m.number q.around q.seat q.job v its-at around-open.1 q.step
        at-step

    told : IsBegunAsTold past v q.job (spot_of v.flow.steps q.seat)
    told =
        taken-is_running gives d past q.around.name (levels_in v.flow) v around-sit.in_run (spot_of v.flow.steps q.seat)
        q.job
        (bounces.it gives d past xs st.stand m.instance m.number q.around q.seat q.job v its-at around-open.1)

    pub is-taken_now : is_taken v.events q.step.0 q.seat.place ≡ true
    is-taken_now =
        ap (λ (a : Name × Place). is_taken v.events a.0 a.1) (sym spot-so)
        ∙ sym told.begun
        ∙ first_so (list_any (is_begun_entry q.job.name) past) (not (is_settled past q.job)) goes.runs

    pub runs-nested : (is_out q.seat.stage || is_nested q.seat.stage) ≡ true
    runs-nested = ap (λ a. is_out a || is_nested a) q.nested

    -- what the ended instance gives is its result
    module _ (vs : List Value) (outs : AreOutputs w vs) where
      pub result-is : vs ≡ q.job.result
      result-is =
          outputs-are_results gives d past y.name (levels_in y.flow) w sit.in_run q.job its-at.job.listed (sym q.named)
          q.of_job vs outs

      pub may-give : MayGive v q.step q.seat.place vs
      may-give = record {
        known =
            in-slice v.jobs m.number (q.step.0, q.seat.place)
            (bounces.known gives d past xs st.stand m.instance m.number q.around q.seat q.job v its-at around-open.1
            ∙ ap Some spot-so);
        new =
            ap (λ (a : Name × Place). has_result v.events a.0 a.1) (sym spot-so) ∙ sym told.settled ∙ goes.unsettled;
        right =
            subst (HaveTheseDepths (declared_depths q.step.1)) (sym result-is)
            (result-deep gives d levels_in past xs st.stand m.instance m.number q.around q.seat q.job its-at q.step
            q.known.step);
      }
