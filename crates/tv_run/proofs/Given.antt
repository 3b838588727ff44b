-- A job that is settled by the outcome of its try: it gives its result, and that may be given to its frame.
use Rattle.std.specs.List.{list_any}
use Rattle.std.specs.Option.{option_map_or}
use Rattle.std.specs.Prelude.{◌≡◌, refl, Bool, true, false, not, ◌||◌, if◌then◌else◌, List, [], ◌∷◌, ◌++◌, slice_get, unwrap_or}
use Rattle.std.proofs.Common.{ap, subst, sym, ◌∙◌}
use Rattle.std.specs.Cmp.{first_so}
use Rattle.tv_lemmas.specs.Members.{In}
use Rattle.tv_lemmas.proofs.Lists.{get-map}
use Rattle.tv_lemmas.proofs.Members.{in-slice}
use Rattle.tv_value.specs.Values.{Name, Value}
use Rattle.tv_gate.specs.Outcomes.{Giving}
use Rattle.tv_flow.specs.Flows.{Document, Step}
use Rattle.tv_check.specs.RunViews.{run_view}
use Rattle.tv_model.specs.instance.Steps.{declared_depths}
use Rattle.tv_dispatch.specs.Jobs.{Ask}
use Rattle.tv_model.specs.instance.Events.{gave, has_result, is_taken}
use Rattle.tv_model.specs.Made.{Meaning}
use Rattle.tv_model.specs.RightDepths.{HaveTheseDepths}
use Rattle.tv_model.proofs.Results.{judged-depths, errors-have}
use Rattle.tv_history.specs.Entries.{History, accepted, is_begun_entry}
use Rattle.tv_history.specs.Histories.{is_settled}
use Rattle.tv_dispatch.specs.Plans.{came_right}
use Rattle.tv_history.specs.Tries.{TryKey, key_of}
use Rattle.tv_history.proofs.Done.{of-next}
use Rattle.tv_history.proofs.Legal.{legal-of}
use Rattle.tv_history.proofs.Ready.{AnyNumber, document-whole}
use Rattle.tv_history.proofs.Tests.{same-itself}
use Rattle.tv_instances.specs.FramingViews.{View}
use Rattle.tv_frame.specs.Prepared.{MayGive}
use Rattle.tv_frame.specs.Tables.{levels_in}
use Rattle.tv_seats.specs.Seats.{Seat, with_stage}
use Rattle.tv_seats.specs.Stages.{is_nested, is_out}
use Rattle.tv_seats.specs.declared.stage.Stage.TheVariants as stage
use Rattle.tv_instances.proofs.views.LawLemmas.{taken-is_running}
use Rattle.tv_instances.specs.seats.GoingOn.{GoesOn, MaySettle}
use Rattle.tv_instances.specs.seats.Seated.{IsStage, spot_of}
use Rattle.tv_instances.specs.Entries.{with_view, with_instance}
use Rattle.tv_instances.specs.Forest.{Instances, Stand}
use Rattle.tv_instances.proofs.Entries.{settling}
use Rattle.tv_history.specs.Runs.{meant, past_of}
use Rattle.tv_history.specs.declared.ticket.Ticket.{Ticket}
use Rattle.tv_run.specs.Accepting.{SettlesWith}
use Rattle.tv_run.specs.Standing.{Stands, run_of}
use Rattle.tv_run.specs.declared.run.OpenRun.{OpenRun}
use Rattle.tv_run.proofs.AskedOut.{IsAskedOut, at-step, is-its, out-open, sit}
use Rattle.tv_run.proofs.Numbers.{known-number, stage-is}
use Rattle.tv_run.proofs.Outcomes.{fails-settled, its-after, legal-now, said-now}

-- the try of the ticket is out, and with its outcome, which is right or not, its job is settled and gives these
pub record SettlesAsked (gives : Giving) (r : OpenRun) (xs : Instances) (t : Ticket) (right : Bool) (vs : List Value)
    : Type 0 where
  pub ask : Ask
  pub asked : IsAskedOut gives r xs t ask
  pub is : came_right gives ask ≡ right
  pub settled : is_settled (accepted asked.job.name t.activity t.attempt right ∷ past_of (run_of r)) asked.job ≡ true
  pub result : vs ≡ asked.job.result

-- ---- what was asked

first-key : (x y : TryKey) → x ∷ [] ≡ y ∷ [] → x ≡ y
first-key x y e = ap (λ l. unwrap_or (slice_get l 0) x) e

module _ (gives : Giving) (r : OpenRun) (t : Ticket) (right : Bool) (vs : List Value) where
  pub settles-asked : (w : SettlesWith gives r t right vs) → SettlesAsked gives r w.instances t right vs
  settles-asked w =
      let past = past_of (run_of r) in
      let m = meant gives (run_of r) in
      let listed = w.is_number.is_job.job.listed in
      let e = accepted w.job.name t.activity t.attempt right in
      let q =
      of-next gives AnyNumber m (document-whole gives (run_view r.run)) past {e = e} w.job listed
      (legal-of gives m past e w.legal) (same-itself w.job.name) in
      let key : (t.activity, t.attempt, right) ≡ key_of gives q.0 =
      first-key (t.activity, t.attempt, right) (key_of gives q.0)
      (ap (λ b. if b then (t.activity, t.attempt, right) ∷ [] else []) (sym (same-itself w.job.name)) ∙ q.2) in
      let at : IsStage past w.job (stage.Out t.activity t.attempt) =
      subst (IsStage past w.job) w.out
      (stage-is gives r w.instances w.stands t.job w.outer w.number w.instance w.seat w.job w.is_number) in
      let out = at.0.is_out in
      let v = out-open gives r w.instances w.stands t.job w.outer w.number w.instance w.seat w.job w.is_number out in
      let known = known-number gives r w.instances w.stands t.job w.outer w.number w.instance w.seat w.job w.is_number in
      record {
        ask = q.0;
        asked = record {
          outer = w.outer;
          number = w.number;
          instance = w.instance;
          seat = w.seat;
          step = known.0;
          job = w.job;
          known = known.1;
          is_number = w.is_number;
          view = v.0;
          is_open = v.1;
          stands = w.out;
          try = record {
            out = out;
            asks = q.1;
            activity = sym (ap (λ z. z.0) key);
            attempt = sym (ap (λ z. z.1) key);
          };
        };
        is = sym (ap (λ z. z.2) key);
        settled = w.settled;
        result = w.result;
      }

-- ---- what it gives

module _ (gives : Giving) (r : OpenRun) (xs : Instances) (st : Stands gives r xs) (t : Ticket) (right : Bool)
    (vs : List Value) (a : SettlesAsked gives r xs t right vs) where
  abbrev d : Document
  d = run_view r.run

  abbrev past : History
  past = past_of (run_of r)

  abbrev m : Meaning
  m = meant gives (run_of r)

  abbrev o : IsAskedOut gives r xs t a.ask
  o = a.asked

  -- values of the depths that its step declares
  result-deep : HaveTheseDepths (declared_depths o.step.1) o.job.result
  result-deep = by right a.is a.settled
    where
      by : (b : Bool) → came_right gives a.ask ≡ b → is_settled (accepted o.job.name t.activity t.attempt b ∷ past) o.job ≡ true
          → HaveTheseDepths (declared_depths o.step.1) o.job.result
      by true is settled =
          let after = its-after gives r xs st t a.ask o in
          let result = (after.right (said-now gives r xs st t a.ask o true is)).result in
          subst (λ ds. HaveTheseDepths ds o.job.result) after.of_step.outputs
          (judged-depths a.ask.outputs (gives a.ask.service a.ask.inputs a.ask.attempt) o.job.result result)
      by false is settled =
          let after = its-after gives r xs st t a.ask o in
          let w = after.wrong (fails-settled gives r xs st t a.ask o is settled) in
          subst (HaveTheseDepths (declared_depths o.step.1)) (sym w.result)
          (errors-have o.job.name w.why [] (declared_depths o.step.1))

  spot-is : spot_of o.view.flow.steps o.seat ≡ (o.step.0, o.seat.place)
  spot-is = ap (λ l. (option_map_or (λ (u : Name × Step). u.0) l [], o.seat.place)) (at-step gives r xs st t a.ask o)

  its-stage : IsStage past o.job (stage.Out t.activity t.attempt)
  its-stage =
      subst (IsStage past o.job) o.stands
      (stage-is gives r xs st t.job o.outer o.number o.instance o.seat o.job o.is_number)

  told-so : (is_settled past o.job ≡ has_result o.view.events o.step.0 o.seat.place)
      × (list_any (is_begun_entry o.job.name) past ≡ is_taken o.view.events o.step.0 o.seat.place)
  told-so =
      let s = sit gives r xs st t a.ask o in
      let told =
      taken-is_running gives d past o.instance.name (levels_in o.instance.flow) o.view s.1.in_run
      (spot_of o.view.flow.steps o.seat) o.job (is-its gives r xs st t a.ask o) in (
        told.settled ∙ ap (λ z. has_result o.view.events z.0 z.1) spot-is,
        told.begun ∙ ap (λ z. is_taken o.view.events z.0 z.1) spot-is,
      )

  -- which its frame may be given
  pub may-give : MayGive o.view o.step o.seat.place vs
  may-give = record {
    known =
        let s = sit gives r xs st t a.ask o in
        subst (λ z. In z o.view.jobs) spot-is
        (in-slice o.view.jobs o.number (spot_of o.view.flow.steps o.seat)
        (ap (λ l. slice_get l o.number) (sym s.1.jobs)
        ∙ get-map (spot_of o.view.flow.steps) o.instance.seats o.number o.seat o.known.seat));
    new = sym told-so.0 ∙ its-stage.0.unsettled;
    right = subst (HaveTheseDepths (declared_depths o.step.1)) (sym a.result) result-deep;
  }

  pub was-taken : is_taken o.view.events o.step.0 o.seat.place ≡ true
  was-taken =
      sym told-so.1
      ∙ first_so (list_any (is_begun_entry o.job.name) past) (not (is_settled past o.job)) its-stage.0.runs

  pub its-runs : (is_out o.seat.stage || is_nested o.seat.stage) ≡ true
  its-runs = ap (λ x. is_out x || is_nested x) o.stands

  -- ---- the instances once it is settled

  pub stand-settled : (w : View) (ns : List Seat)
      → GoesOn d (levels_in o.instance.flow) o.view w (gave o.step.0 o.seat.place vs) ns
      → Stand gives d levels_in (accepted o.job.name t.activity t.attempt right ∷ past)
      (with_instance xs o.outer (with_view o.instance w (with_stage o.number stage.Settled o.instance.seats ++ ns)))
  stand-settled w ns on =
      let e = accepted o.job.name t.activity t.attempt right in
      let name : (spot_of o.instance.flow.steps o.seat).0 ≡ o.step.0 =
      ap (λ l. option_map_or (λ (u : Name × Step). u.0) l []) o.known.step in
      settling gives d levels_in past xs st.stand o.outer o.number o.instance o.seat o.job o.view o.is_number.is_job
      o.is_open e w ns (subst (λ y. MaySettle o.job y e) (sym o.stands) (right, refl)) (λ k. refl)
      (legal-now gives r xs st t a.ask o right a.is) a.settled
      (subst (λ f. GoesOn d (levels_in o.instance.flow) o.view w f ns)
      (λ i. gave (sym name i) o.seat.place (a.result i)) on)
