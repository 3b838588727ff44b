-- A run once the first try on offer is handed out.
use Rattle.std.specs.List.{list_any}
use Rattle.std.specs.Option.{option_map_or}
use Rattle.std.specs.Prelude.{◌≡◌, refl, ℕ, ◌+◌, ◌==◌, ◌||◌, Bool, true, false, if◌then◌else◌, List, [], ◌∷◌, None, Option, Some, find, is_none, slice_get, vec_capacity}
use Rattle.std.proofs.Common.{ap, arith, inl, inr, subst, sym, ◌∙◌}
use Rattle.std.proofs.lemmas.Bool.{eqb-true}
use Rattle.std.proofs.lemmas.Option.{none-some, same_Some}
use Rattle.std.specs.Cmp.{first_so, second_so}
use Rattle.tv_lemmas.proofs.Members.{found-in}
use Rattle.tv_lemmas.proofs.Cases.{on_test}
use Rattle.tv_gate.specs.Outcomes.{Giving}
use Rattle.tv_flow.specs.Flows.{Document}
use Rattle.tv_check.specs.RunViews.{run_view}
use Rattle.tv_dispatch.specs.Jobs.{Ask}
use Rattle.tv_model.specs.Jobs.{Job}
use Rattle.tv_model.proofs.Tests.{true≠false}
use Rattle.tv_history.specs.Entries as history
use Rattle.tv_history.specs.Entries.{History}
use Rattle.tv_history.specs.Histories.{is_ask, is_legal_after, next_ask}
use Rattle.tv_history.specs.order.Moments.{all_jobs, has_offer}
use Rattle.tv_instances.specs.FramingViews.{View}
use Rattle.tv_frame.specs.Tables.{levels_in}
use Rattle.tv_seats.specs.Firsts.{MayGoOut}
use Rattle.tv_seats.specs.Seats.{Seat, with_stage}
use Rattle.tv_seats.specs.Stages.{is_idle, is_waiting}
use Rattle.tv_seats.specs.declared.stage.Stage.{Stage}
use Rattle.tv_seats.specs.declared.stage.Stage.TheVariants as stage
use Rattle.tv_instances.specs.seats.Seated.{IsNextTry, IsStage}
use Rattle.tv_history.proofs.offers.Offers.{handing-legal}
use Rattle.tv_instances.specs.Entries.{seated, with_view, with_instance}
use Rattle.tv_instances.specs.Forest.{Instance, Instances, Stand}
use Rattle.tv_instances.proofs.Entries.{handing-out_again, handing-out_first}
use Rattle.tv_history.specs.Calls.{hands_out}
use Rattle.tv_history.specs.Runs.{meant, past_of}
use Rattle.tv_history.specs.declared.ticket.Ticket.{Ticket}
use Rattle.tv_history.proofs.ToldLemmas.{IsTold, tells-handed}
use Rattle.tv_instances.specs.Events.{WaitsReady}
use Rattle.tv_instances.specs.declared.firsts.Seeking.TheVariants as seeking
use Rattle.tv_run.specs.Changes.{IsOpenHere, TakesIn}
use Rattle.tv_run.specs.Following.{numbered_in}
use Rattle.tv_run.specs.Rooms.{IsNoted}
use Rattle.tv_run.specs.Standing.{Stands, StandsOpen, run_of}
use Rattle.tv_run.specs.Turns.{HandsOut}
use Rattle.tv_run.specs.Walking.{IsFound, IsHandable, IsOnOffer, IsTicketOf, MayBegin, passes}
use Rattle.tv_run.specs.declared.instances.Numbered.{Numbered}
use Rattle.tv_run.specs.declared.run.OpenRun.{OpenRun}
use Rattle.tv_run.proofs.Failing.{handed-fails_none}
use Rattle.tv_run.proofs.JobLemmas.{number-is}
use Rattle.tv_run.proofs.Next.{IsNotedNext, goes-noted, main-kept, names-kept, names-noted}
use Rattle.tv_run.proofs.Numbers.{job-named, stage-is}
use Rattle.tv_run.proofs.Rooms.{before-itself, stays-before}
use Rattle.tv_run.proofs.Tellings.{waits-alone}

-- ---- lists

none-any : {A : Type 0} (p : A → Bool) (xs : List A) → find p xs ≡ None → list_any p xs ≡ false
none-any p [] h = refl
none-any {A} p (x ∷ xs) h = by (p x) (λ e. none-any p xs e) h
  where
    by : (b : Bool) → (find p xs ≡ None → list_any p xs ≡ false) → (if b then Some x else find p xs) ≡ None
        → (b || list_any p xs) ≡ false
    by true rest e = absurd (none-some x (sym e))
    by false rest e = rest e

-- ---- stages

-- an idle stage, by its try
idle-as : (x : Stage) → is_idle x ≡ true → (a : ℕ) × (t : ℕ) × (x ≡ stage.Idle a t)
idle-as stage.Waiting h = absurd (true≠false (sym h))
idle-as (stage.Out a t) h = absurd (true≠false (sym h))
idle-as (stage.Idle a t) h = (a, t, refl)
idle-as (stage.Aside a) h = absurd (true≠false (sym h))
idle-as (stage.Nested i) h = absurd (true≠false (sym h))
idle-as stage.Settled h = absurd (true≠false (sym h))

-- there is one next try
next-one : (o : Option Ask) (a t b u : ℕ) → option_map_or (is_ask a t) o false ≡ true
    → option_map_or (is_ask b u) o false ≡ true → (a ≡ b) × (t ≡ u)
next-one None a t b u h k = absurd (true≠false (sym h))
next-one (Some x) a t b u h k = (
  eqb-true a x.activity (first_so (a == x.activity) (t == x.attempt) h)
      ∙ sym (eqb-true b x.activity (first_so (b == x.activity) (u == x.attempt) k)),
  eqb-true t x.attempt (second_so (a == x.activity) (t == x.attempt) h)
      ∙ sym (eqb-true u x.attempt (second_so (b == x.activity) (u == x.attempt) k)),
)

-- where there is a next try, something is asked next
some-ask : (past : History) (j : Job) (a t : ℕ) → IsNextTry past j a t → next_ask past j ≡ None → ⊥
some-ask past j a t h e = true≠false (sym h ∙ ap (λ o. option_map_or (is_ask a t) o false) e)

-- ---- the job of a ticket that may be handed out

module _ (gives : Giving) (r : OpenRun) (xs : Instances) (st : Stands gives r xs) (t : Ticket)
    (h : IsHandable gives r xs t) where
  abbrev d : Document
  d = run_view r.run

  abbrev past : History
  past = past_of (run_of r)

  abbrev x : Instance
  x = h.may.instance

  abbrev n : ℕ
  n = h.may.number

  abbrev v : View
  v = h.may.view

  abbrev s : Seat
  s = h.may.seat

  abbrev handed : history.Entry
  handed = history.handed_out h.job.name t.activity t.attempt

  its-number : slice_get r.jobs.items t.job ≡ Some (numbered_in h.may.outer n)
  its-number = number-is r t.job h.may.outer n h.may.is_number.numbered

  may-out : MayGoOut x.seats n
  may-out = h.may.out (some-ask past h.job t.activity t.attempt h.is_next)

  here : IsOpenHere r xs h.may.outer x v
  here = record { fits = st.fits; there = h.may.is_number.is_job.instance; is_open = h.may.is_open }

  -- ---- as the code has it

  module _ (k : Numbered) (known : slice_get r.jobs.items t.job ≡ Some k) where
    known-is : numbered_in h.may.outer n ≡ k
    known-is = same_Some (numbered_in h.may.outer n) k (sym its-number ∙ known)

    pub handed-here : IsOpenHere r xs k.instance x v
    handed-here = subst (λ (m : Numbered). IsOpenHere r xs m.instance x v) known-is here

    pub handed-may : MayGoOut x.seats k.number
    handed-may = subst (λ (m : Numbered). MayGoOut x.seats m.number) known-is may-out

    pub handed-ready : WaitsReady v x.seats k.number
    handed-ready = subst (λ (m : Numbered). WaitsReady v x.seats m.number) known-is h.may.ready

  -- ---- the entry

  is-legal : is_legal_after gives (meant gives (run_of r)) past handed ≡ true
  is-legal = handing-legal gives d past h.job t.activity t.attempt h.first h.is_next

  is-told : IsTold (run_of r) (hands_out t) handed
  is-told =
      tells-handed (run_of r) t.job h.job.name
      (job-named gives r xs st t.job h.may.outer n x s h.job h.may.is_number) t.activity t.attempt

  -- it is idle where it doesn't wait
  rests : is_waiting s.stage ≡ false → is_idle s.stage ≡ true
  rests rested = by may-out
    where
      by : MayGoOut x.seats n → is_idle s.stage ≡ true
      by (inl w) =
          absurd (true≠false
          (sym w ∙ ap (λ o. option_map_or (λ (z : Seat). is_waiting z.stage) o false) h.may.is_number.is_job.seat ∙ rested))
      by (inr f) =
          subst (λ (z : Seat). is_idle z.stage ≡ true)
          (same_Some f.1.seat s (sym f.1.is.there ∙ h.may.is_number.is_job.seat)) f.1.is.idle

  -- with the try that is its next one
  idle-try : is_waiting s.stage ≡ false → s.stage ≡ stage.Idle t.activity t.attempt
  idle-try rested =
      let i = idle-as s.stage (rests rested) in
      let its : IsStage past h.job (stage.Idle i.0 i.1) =
      subst (IsStage past h.job) i.2 (stage-is gives r xs st t.job h.may.outer n x s h.job h.may.is_number) in
      let one = next-one (next_ask past h.job) i.0 i.1 t.activity t.attempt its.1 h.is_next in
      i.2 ∙ (λ k. stage.Idle (one.0 k) (one.1 k))

  -- ---- the run then

  abbrev out : Stage
  out = stage.Out t.activity t.attempt

  module _ (u : OpenRun) (takes : TakesIn r u xs h.may.outer x v n out) where
    abbrev y : Instance
    y = with_view x takes.view (with_stage n out x.seats)

    stand-first : is_waiting s.stage ≡ true → Stand gives d levels_in (handed ∷ past) (with_instance xs h.may.outer y)
    stand-first waits =
        handing-out_first gives d levels_in past xs st.stand h.may.outer n x s h.job v h.may.is_number.is_job h.may.is_open
        t.activity t.attempt takes.view (waits-alone s.stage waits) h.is_next is-legal
        (takes.waited s h.may.is_number.is_job.seat waits)

    stand-again : is_waiting s.stage ≡ false → Stand gives d levels_in (handed ∷ past) (with_instance xs h.may.outer y)
    stand-again rested =
        subst (λ z. Stand gives d levels_in (handed ∷ past) (with_instance xs h.may.outer z)) same
        (handing-out_again gives d levels_in past xs st.stand h.may.outer n x s h.job v h.may.is_number.is_job h.may.is_open
        t.activity t.attempt (idle-try rested) is-legal)
      where
        same : seated x (with_stage n out x.seats) ≡ y
        same = λ i. record {
          name = x.name;
          flow = x.flow;
          seats = with_stage n out x.seats;
          view = (h.may.is_open ∙ ap Some (sym (takes.went_on s h.may.is_number.is_job.seat rested))) i;
        }

    module _ (w : OpenRun) (noted : IsNoted u w (hands_out t)) (due : u.due + 1 ≡ r.due) where
      next : IsNotedNext gives r u w xs (with_instance xs h.may.outer y) (hands_out t) handed
      next = record {
        changes = takes.changes;
        noted = noted;
        told = is-told;
        none = refl;
        legal = is-legal;
        stand = on_test (is_waiting s.stage) stand-first stand-again;
        failed = handed-fails_none gives d levels_in past xs st.stand h.job.name t.activity t.attempt is-legal;
        room =
            let entries = ap vec_capacity takes.changes.rest.entries in
            let wider = noted.capacity in
            let room = st.room in
            omega (arith, entries, wider, room, due);
        names = names-kept xs h.may.outer x y h.may.is_number.is_job.instance refl;
        main = main-kept xs h.may.outer x y h.may.is_number.is_job.instance (sym (ap is_none h.may.is_open));
      }

      hands-so : r.outs ≡ None → HandsOut gives r w (Some t)
      hands-so undone = (
        goes-noted gives r u w xs (with_instance xs h.may.outer y) (hands_out t) handed next st undone,
        names-noted u w (hands_out t) noted ∙ takes.names,
      )

  pub hands-out : (k : Numbered) → slice_get r.jobs.items t.job ≡ Some k → (u w : OpenRun)
      → TakesIn r u xs k.instance x v k.number out → IsNoted u w (hands_out t) → u.due + 1 ≡ r.due → r.outs ≡ None
      → HandsOut gives r w (Some t)
  hands-out k known u w takes noted due undone =
      hands-so u
      (subst (λ (m : Numbered). TakesIn r u xs m.instance x v m.number out) (sym (known-is k known)) takes) w noted due undone

-- ---- what was found

module _ (gives : Giving) (r : OpenRun) (xs : Instances) where
  pub found-offer : (k : ℕ) → IsFound gives r xs seeking.Offers (Some k) → IsOnOffer gives r xs k
  found-offer k f =
      let p = found-in (passes gives r seeking.Offers) (all_jobs gives (run_view r.run)) f.0 f.1 in
      (f.0, f.2, p.1)

  pub found-handable : (k : ℕ) (t : Ticket) → IsFound gives r xs seeking.Offers (Some k) → IsTicketOf gives r xs k t
      → IsHandable gives r xs t
  found-handable k t f of_job =
      let p = found-in (passes gives r seeking.Offers) (all_jobs gives (run_view r.run)) f.0 f.1 in
      record {
        job = f.0;
        first = f.1;
        is_next =
            of_job.next f.2.outer f.2.number f.2.instance f.2.seat f.0 f.2.is_number p.1;
        may = subst (λ n. MayBegin gives r xs n f.0) (sym of_job.job) f.2;
      }

pub none-found : (gives : Giving) (r : OpenRun) → StandsOpen gives r
    → ((xs : Instances) → Stands gives r xs → IsFound gives r xs seeking.Offers None) → HandsOut gives r r None
none-found gives r st none = (
  stays-before gives r r (before-itself r) st,
  none-any (has_offer gives (run_view r.run) (past_of (run_of r))) (all_jobs gives (run_view r.run)) (none st.0 st.1),
)
