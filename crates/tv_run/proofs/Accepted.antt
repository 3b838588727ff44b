-- The run once an outcome is accepted: its job is settled, or goes on.
use Rattle.std.specs.Option.{option_map_or}
use Rattle.std.specs.Prelude.{◌≡◌, refl, ℕ, suc, ◌+◌, ◌≤◌, Bool, true, false, List, [], ◌∷◌, ◌++◌, None, Option, Some, find, is_none, length, option_and_then, slice_get, vec_capacity}
use Rattle.std.proofs.Common.{ap, arith, subst, sym, ◌∙◌}
use Rattle.std.proofs.lemmas.List.{length-append}
use Rattle.tv_lemmas.specs.Members.{In}
use Rattle.tv_lemmas.proofs.Lists.{in-front}
use Rattle.tv_value.specs.Orders.{same_job}
use Rattle.tv_value.specs.Values.{JobName, Value}
use Rattle.tv_gate.specs.Outcomes.{Giving, Outcome}
use Rattle.tv_check.specs.RunViews.{run_view}
use Rattle.tv_dispatch.specs.Jobs.{Ask}
use Rattle.tv_model.specs.instance.Events.{gave}
use Rattle.tv_model.specs.Jobs.{Job}
use Rattle.tv_model.specs.Made.{Meaning}
use Rattle.tv_model.specs.Meanings.{meaning}
use Rattle.tv_history.specs.Entries as history
use Rattle.tv_history.specs.Entries.{History, accepted}
use Rattle.tv_history.specs.Histories.{is_legal_after, is_settled}
use Rattle.tv_dispatch.specs.Plans.{came_right}
use Rattle.tv_instances.specs.FramingViews.{View}
use Rattle.tv_frame.specs.Tables.{levels_in}
use Rattle.tv_seats.specs.Seats.{Seat, with_stage}
use Rattle.tv_seats.specs.declared.stage.Stage.{Stage}
use Rattle.tv_seats.specs.declared.stage.Stage.TheVariants as stage
use Rattle.tv_instances.specs.seats.GoingOn.{GoesOn}
use Rattle.tv_instances.specs.Entries.{GoesOnWith, seated, with_view, with_instance}
use Rattle.tv_instances.specs.Forest.{Instance, Instances, Stand}
use Rattle.tv_instances.proofs.Entries.{trying-again}
use Rattle.tv_history.specs.Answers.{Question}
use Rattle.tv_history.specs.Calls.{job_of}
use Rattle.tv_history.specs.Refusals as refusals
use Rattle.tv_history.specs.Refusals.{WasAccepted, accepts, is_settled_job}
use Rattle.tv_history.specs.Runs.{Appends, Run, meant, past_of}
use Rattle.tv_history.specs.declared.entry.Entry.{Entry}
use Rattle.tv_history.specs.declared.told.Accepted.TheVariants as told_of
use Rattle.tv_history.specs.declared.ticket.Ticket.{Ticket}
use Rattle.tv_history.proofs.ToldLemmas.{IsTold, past-told, tells-accepted}
use Rattle.tv_run.specs.Accepting.{GoesToBut, HasEntryRoom, MovesTo, with_failed}
use Rattle.tv_run.specs.Changes.{ChangesTo, TellsIn}
use Rattle.tv_run.specs.Rooms.{HasRoomIn, IsAsBefore, IsNoted}
use Rattle.tv_run.specs.Standing.{Stands, names_of, run_of}
use Rattle.tv_run.specs.Turns.{AcceptsTo, GoesTo, IsAsked}
use Rattle.tv_run.specs.declared.run.OpenRun.{OpenRun}
use Rattle.tv_run.proofs.Rooms.{stands-before}
use Rattle.tv_run.proofs.AskedOut.{IsAskedOut}
use Rattle.tv_run.proofs.Failed.{fits-failed, names-failed}
use Rattle.tv_run.proofs.Failing.{failed_in, going-fails_none, right-fails_none, wrong-fails_one}
use Rattle.tv_run.proofs.Given.{SettlesAsked, stand-settled}
use Rattle.tv_run.proofs.Judged.{its-out, wrong-asked}
use Rattle.tv_run.proofs.Next.{IsNext, IsNotedNext, KeepsMain, appends-noted, fits-noted, goes-noted, instance_names, main-kept, names-kept, outs-stay, past_then, stands-next}
use Rattle.tv_run.proofs.Numbers.{job-is, job-named}
use Rattle.tv_run.proofs.Outcomes.{legal-now}

-- ---- a run that is the same by its names and entries

goes-from : (gives : Giving) (q r s : OpenRun) (e : Entry) → run_of r ≡ run_of q → GoesTo gives r s e → GoesTo gives q s e
goes-from gives q r s e same h = record {
  stands = h.stands;
  appends = subst (λ z. Appends z (run_of s) e) same h.appends;
}

-- ---- the job of a number, with an entry more

module _ (gives : Giving) (r s : OpenRun) (xs : Instances) (st : Stands gives r xs) (e : Entry) (h : history.Entry)
    (a : Appends (run_of r) (run_of s) e) (t : IsTold (run_of r) e h) (k : ℕ) (j : Job) (n : JobName)
    (named : slice_get (names_of r) k ≡ Some n) (is : job_of gives (run_of r) k ≡ Some j) where
  job-then : job_of gives (run_of s) k ≡ Some j
  job-then =
      (λ i.
      option_and_then (λ (m : JobName). find (λ (l : Job). same_job m l.name) (meaning gives (a.document i)).jobs)
      (slice_get (a.names i) k))
      ∙ ap (option_and_then (λ (m : JobName). find (λ (l : Job). same_job m l.name) (meaning gives (run_view r.run)).jobs))
      (in-front (names_of r) a.more k n named ∙ sym named)
      ∙ is

  settled-then : is_settled_job gives (run_of s) k ≡ is_settled (past_then r h) j
  settled-then =
      let past = past-told gives (run_of r) (run_of s) st.legal e h a t in
      λ i. option_map_or (is_settled (past i)) (job-then i) false

-- ---- an outcome of a try that is out, accepted by the run b, which is r but for rooms

module _ (gives : Giving) (r : OpenRun) (xs : Instances) (st : Stands gives r xs) (t : Ticket) (k : Ask)
    (o : IsAskedOut gives r xs t k) (right : Bool) (is : came_right gives k ≡ right) (b : OpenRun) (pre : IsAsBefore r b)
  where
    abbrev e : Entry
    e = accepts t right

    abbrev h : history.Entry
    h = accepted o.job.name t.activity t.attempt right

    abbrev stands : Stands gives b xs
    stands = stands-before gives r b pre xs st

    named : slice_get (names_of r) t.job ≡ Some o.job.name
    named = job-named gives r xs st t.job o.outer o.number o.instance o.seat o.job o.is_number

    its : job_of gives (run_of r) t.job ≡ Some o.job
    its = job-is gives r xs st t.job o.outer o.number o.instance o.seat o.job o.is_number

    told-b : IsTold (run_of b) e h
    told-b =
        subst (λ z. IsTold z e h) (sym pre.same)
        (tells-accepted (run_of r) t.job o.job.name named t.activity t.attempt right)

    legal-b : is_legal_after gives (meant gives (run_of b)) (past_of (run_of b)) h ≡ true
    legal-b =
        subst (λ (z : Run). is_legal_after gives (meaning gives z.document) (past_of z) h ≡ true) (sym pre.same)
        (legal-now gives r xs st t k o right is)

    -- in which instance o.outer is y then
    module _ (y : Instance) (name : y.name ≡ o.instance.name) (main : is_none y.view ≡ is_none o.instance.view)
        (stand : Stand gives (run_view r.run) levels_in (past_then r h) (with_instance xs o.outer y)) (c s : OpenRun)
        (changes : ChangesTo b c (with_instance xs o.outer y)) (noted : IsNoted c s e)
        (room : length b.entries.items + c.due + 1 ≤ vec_capacity s.entries) where
      abbrev ys : Instances
      ys = with_instance xs o.outer y

      stand-b : Stand gives (run_view b.run) levels_in (past_then b h) ys
      stand-b =
          subst (λ (z : Run). Stand gives z.document levels_in (h ∷ past_of z) ys) (sym pre.same) stand

      names-b : instance_names ys ≡ instance_names xs
      names-b = names-kept xs o.outer o.instance y o.known.there name

      main-b : KeepsMain xs ys
      main-b = main-kept xs o.outer o.instance y o.known.there main

      appends-b : Appends (run_of b) (run_of s) e
      appends-b = appends-noted b c s ys e changes noted

      pub appends-so : Appends (run_of r) (run_of s) e
      appends-so = subst (λ z. Appends z (run_of s) e) pre.same appends-b

      pub settled-so : is_settled_job gives (run_of s) t.job ≡ is_settled (past_then r h) o.job
      settled-so =
          settled-then gives r s xs st e h appends-so
          (tells-accepted (run_of r) t.job o.job.name named t.activity t.attempt right) t.job o.job o.job.name named its

      abbrev before : History
      before = past_of (run_of r)

      abbrev m : Meaning
      m = meaning gives (run_view r.run)

      -- ---- as many have failed then

      module _ (none : failed_in m (past_then r h) ≡ failed_in m before) where
        noted-next : IsNotedNext gives b c s xs ys e h
        noted-next = record {
          changes = changes;
          noted = noted;
          told = told-b;
          none = refl;
          legal = legal-b;
          stand = stand-b;
          failed =
              subst
              (λ (z : Run).
              failed_in (meaning gives z.document) (h ∷ past_of z) ≡ failed_in (meaning gives z.document) (past_of z))
              (sym pre.same) none;
          room = room;
          names = names-b;
          main = main-b;
        }

        pub goes-same : r.outs ≡ None → GoesTo gives r s e
        goes-same undone =
            goes-from gives r b s e pre.same
            (goes-noted gives b c s xs ys e h noted-next stands (pre.outs ∙ undone))

      -- ---- or one more

      module _ (one : failed_in m (past_then r h) ≡ suc (failed_in m before)) where
        abbrev f : OpenRun
        f = with_failed (suc r.failed) s

        run-f : run_of f ≡ run_of s
        run-f =
            ap (λ ns. record { document = run_view s.run; names = ns; entries = s.entries.items })
            (names-failed (suc r.failed) s)

        room-left : length s.entries.items + s.due ≤ vec_capacity s.entries
        room-left =
            let entries : length s.entries.items ≡ length b.entries.items + 1 =
            ap length (noted.entries ∙ ap (λ v. v.items ++ e ∷ []) changes.rest.entries)
            ∙ length-append b.entries.items (e ∷ []) in
            let due = noted.rest.due in
            let enough = room in
            omega (arith, entries, due, enough)

        appends-f : Appends (run_of b) (run_of f) e
        appends-f = subst (λ z. Appends (run_of b) z e) (sym run-f) appends-b

        next-f : IsNext gives b f ys e h
        next-f = record {
          fits = fits-failed (suc r.failed) s ys (fits-noted b c s ys e changes noted);
          appends = appends-f;
          told = told-b;
          legal = legal-b;
          stand = stand-b;
          failed =
              ap suc st.failed_is
              ∙ sym one
              ∙ ap (λ (z : Run). failed_in (meaning gives z.document) (h ∷ past_of z)) (sym pre.same);
          room = room-left;
          outs =
              outs-stay gives b f xs ys stands (noted.rest.run ∙ changes.rest.run)
              (noted.rest.outs ∙ changes.rest.outs) main-b;
        }

        pub goes-one : r.outs ≡ None → GoesTo gives r f e
        goes-one undone =
            goes-from gives r b f e pre.same
            (record {
              stands = (
                ys,
                stands-next gives b f xs ys stands e h next-f refl names-b,
                noted.rest.outs ∙ changes.rest.outs ∙ pre.outs ∙ undone,
              );
              appends = appends-f;
            })

-- ---- it settles its job

module _ (gives : Giving) (r : OpenRun) (xs : Instances) (st : Stands gives r xs) (t : Ticket) (right : Bool)
    (vs : List Value) (a : SettlesAsked gives r xs t right vs) (b : OpenRun) (pre : IsAsBefore r b) where
  abbrev o : IsAskedOut gives r xs t a.ask
  o = a.asked

  abbrev pub settled_seats : List Seat
  settled_seats = with_stage o.number stage.Settled o.instance.seats

  module _ (more : ℕ) (room : HasRoomIn b o.outer more) (c s : OpenRun)
      (tells : TellsIn b c xs o.outer o.instance o.view (gave o.step.0 o.seat.place vs) more settled_seats)
      (noted : IsNoted c s (accepts t right)) where
    abbrev y : Instance
    y = with_view o.instance tells.view (settled_seats ++ tells.new)

    as-open : is_none y.view ≡ is_none o.instance.view
    as-open = ap (λ (z : Option View). is_none z) (sym o.is_open)

    stand-then :
        Stand gives (run_view r.run) levels_in (past_then r (accepted o.job.name t.activity t.attempt right))
        (with_instance xs o.outer y)
    stand-then =
        stand-settled gives r xs st t right vs a tells.view tells.new
        (subst
        (λ d. GoesOn d (levels_in o.instance.flow) o.view tells.view (gave o.step.0 o.seat.place vs) tells.new)
        (ap (λ (z : Run). z.document) pre.same) tells.goes_on)

    room-then : length b.entries.items + c.due + 1 ≤ vec_capacity s.entries
    room-then =
        let enough = room.beside.entries in
        let due = tells.due in
        let same = ap (λ v. vec_capacity v) tells.changes.rest.entries in
        let kept = noted.capacity in
        omega (arith, enough, due, same, kept)

    legal : is_legal_after gives (meaning gives (run_view r.run)) (past_of (run_of r))
        (accepted o.job.name t.activity t.attempt right)
        ≡ true
    legal = legal-now gives r xs st t a.ask o right a.is

    pub settled-job : is_settled_job gives (run_of s) t.job ≡ true
    settled-job =
        settled-so gives r xs st t a.ask o right a.is b pre y refl as-open stand-then c s tells.changes noted room-then
        ∙ a.settled

    failed-same : s.failed ≡ r.failed
    failed-same = noted.rest.failed ∙ tells.changes.rest.failed ∙ pre.failed

    pub goes-to_but : r.outs ≡ None → GoesToBut gives r s (accepts t right) right
    goes-to_but undone = by right refl
      where
        mine : In o.job (meaning gives (run_view r.run)).jobs
        mine = o.is_number.is_job.job.listed

        by : (z : Bool) → right ≡ z → GoesToBut gives r s (accepts t right) z
        by true q = (
          goes-same gives r xs st t a.ask o right a.is b pre y refl as-open stand-then c s tells.changes noted room-then
              (subst
              (λ z.
              is_legal_after gives (meaning gives (run_view r.run)) (past_of (run_of r))
              (accepted o.job.name t.activity t.attempt z)
              ≡ true
              → failed_in (meaning gives (run_view r.run)) (accepted o.job.name t.activity t.attempt z ∷ past_of (run_of r))
              ≡ failed_in (meaning gives (run_view r.run)) (past_of (run_of r)))
              (sym q)
              (right-fails_none gives (run_view r.run) levels_in (past_of (run_of r)) xs st.stand o.job mine t.activity
              t.attempt)
              legal)
              undone,
          failed-same,
        )
        by false q = (
          goes-one gives r xs st t a.ask o right a.is b pre y refl as-open stand-then c s tells.changes noted room-then
              (subst
              (λ z.
              is_legal_after gives (meaning gives (run_view r.run)) (past_of (run_of r))
              (accepted o.job.name t.activity t.attempt z)
              ≡ true
              → is_settled (accepted o.job.name t.activity t.attempt z ∷ past_of (run_of r)) o.job ≡ true
              → failed_in (meaning gives (run_view r.run)) (accepted o.job.name t.activity t.attempt z ∷ past_of (run_of r))
              ≡ suc (failed_in (meaning gives (run_view r.run)) (past_of (run_of r))))
              (sym q)
              (wrong-fails_one gives (run_view r.run) levels_in (past_of (run_of r)) xs st.stand o.job mine t.activity
              t.attempt)
              legal a.settled)
              undone,
          failed-same,
        )

-- with the failed job counted
pub failed-counted :
    (gives : Giving) (r s : OpenRun) (t : Ticket) → GoesToBut gives r s (accepts t false) false
    → GoesTo gives r (with_failed (s.failed + 1) s) (accepts t false)
failed-counted gives r s t g =
    let same = g.1 in
    let one-more : suc r.failed ≡ s.failed + 1 = omega (arith, same) in
    subst (λ n. GoesTo gives r (with_failed n s) (accepts t false)) one-more g.0

-- ---- what is accepted

module _ (gives : Giving) (r : OpenRun) (t : Ticket) (q : Question) (oc : Outcome) (asked : IsAsked gives r t q oc) where
  was-accepted : (s : OpenRun) (good : Bool) → good ≡ refusals.is_right q oc
      → Appends (run_of r) (run_of s) (accepts t good) → WasAccepted gives (run_of r) (run_of s) q oc good
  was-accepted s good right appends = record {
    task = asked.task;
    right = right;
    appends = subst (λ x. Appends (run_of r) (run_of s) (accepts x good)) (sym asked.of_ticket) appends;
  }

  -- its job is settled
  pub accepts-settled :
      (s : OpenRun) (good : Bool) → good ≡ refusals.is_right q oc → GoesTo gives r s (accepts t good)
      → is_settled_job gives (run_of s) t.job ≡ true → AcceptsTo gives r s q oc (told_of.Settled good)
  accepts-settled s good right goes settled = (
    goes.stands,
    (
      was-accepted s good right goes.appends,
      ap (λ x. is_settled_job gives (run_of s) x.job) asked.of_ticket ∙ settled,
    ),
  )

  -- it goes on: its seat is at that stage
  module _ (xs : Instances) (st : Stands gives r xs) (undone : r.outs ≡ None) (wrong : refusals.is_right q oc ≡ false)
      (y : Stage) where
    abbrev u : IsAskedOut gives r xs t asked.task.asked
    u = its-out gives r xs st t q oc asked

    abbrev then : History
    then = accepted u.job.name t.activity t.attempt false ∷ past_of (run_of r)

    is : came_right gives asked.task.asked ≡ false
    is = wrong-asked gives r xs st t q oc asked wrong

    -- with this try or flow next
    module _ (unsettled : is_settled then u.job ≡ false) (on : GoesOnWith then u.job y) (b : OpenRun)
        (pre : IsAsBefore r b) (room : HasEntryRoom b) (c s : OpenRun)
        (moves : MovesTo b c (with_instance xs u.outer (seated u.instance (with_stage u.number y u.instance.seats))))
        (due : c.due ≡ b.due + 1) (noted : IsNoted c s (accepts t false)) where
      abbrev z : Instance
      z = seated u.instance (with_stage u.number y u.instance.seats)

      stand-again : Stand gives (run_view r.run) levels_in then (with_instance xs u.outer z)
      stand-again =
          trying-again gives (run_view r.run) levels_in (past_of (run_of r)) xs st.stand u.outer u.number u.instance u.seat
          u.job u.view u.is_number.is_job u.is_open t.activity t.attempt y u.stands
          (legal-now gives r xs st t asked.task.asked u false is) unsettled on

      room-again : length b.entries.items + c.due + 1 ≤ vec_capacity s.entries
      room-again =
          let enough = room.entries in
          let one = due in
          let same = ap (λ v. vec_capacity v) moves.changes.rest.entries in
          let kept = noted.capacity in
          omega (arith, enough, one, same, kept)

      goes-again : GoesTo gives r s (accepts t false)
      goes-again =
          goes-same gives r xs st t asked.task.asked u false is b pre z refl refl stand-again c s moves.changes noted room-again
          (going-fails_none gives (run_view r.run) levels_in (past_of (run_of r)) xs st.stand u.job
          u.is_number.is_job.job.listed t.activity t.attempt (legal-now gives r xs st t asked.task.asked u false is)
          unsettled)
          undone

      pub accepts-again : AcceptsTo gives r s q oc told_of.Again
      accepts-again = (
        goes-again.stands,
        (
          was-accepted s false (sym wrong) goes-again.appends,
          ap (λ x. is_settled_job gives (run_of s) x.job) asked.of_ticket
              ∙ settled-so gives r xs st t asked.task.asked u false is b pre z refl refl stand-again c s moves.changes noted
              room-again
              ∙ unsettled,
        ),
      )
