-- The run goes on once an instance has ended that a job opened, the job gave its result, and the entry was noted.
use Rattle.std.specs.Prelude.{◌≡◌, ◌≢◌, refl, ℕ, ◌+◌, ◌≤◌, true, List, ◌∷◌, ◌++◌, None, Option, Some, is_none, length, vec_capacity}
use Rattle.std.proofs.Common.{ap, append_assoc, arith, subst, sym, ◌∙◌}
use Rattle.tv_value.specs.Nested.{Place}
use Rattle.tv_value.specs.Values.{JobName, Name, Value}
use Rattle.tv_gate.specs.Outcomes.{Giving}
use Rattle.tv_check.specs.RunViews.{run_view}
use Rattle.tv_model.specs.instance.Events.{gave}
use Rattle.tv_history.specs.Entries.{ended}
use Rattle.tv_history.specs.Histories.{can_end}
use Rattle.tv_instances.specs.Answers.{AreOutputs}
use Rattle.tv_instances.specs.FramingViews.{View}
use Rattle.tv_frame.specs.Tables.{levels_in}
use Rattle.tv_seats.specs.Seats.{with_stage}
use Rattle.tv_seats.specs.declared.stage.Stage.TheVariants as stage
use Rattle.tv_instances.specs.seats.GoingOn.{GoesOn}
use Rattle.tv_instances.specs.seats.Seated.{spot_of}
use Rattle.tv_instances.specs.Entries.{shut, with_view, with_instance}
use Rattle.tv_instances.specs.Forest.{Instance, Instances, IsAt, Stand}
use Rattle.tv_instances.proofs.Ends as ends
use Rattle.tv_instances.proofs.Lists.{of-set, set-swap, to-set}
use Rattle.tv_history.specs.Runs.{Run, meant, past_of}
use Rattle.tv_history.specs.declared.entry.Entry.TheVariants as entry
use Rattle.tv_history.proofs.ToldLemmas.{tells-ended}
use Rattle.tv_instances.specs.declared.events.Spot.{Spot}
use Rattle.tv_run.specs.Changes.{ChangesTo, IsOpenHere, IsReadyIn, IsSeatHere, LeavesOthers, MayBeGivenIn, TellsIn}
use Rattle.tv_run.specs.Rooms.{IsAsBefore, IsNoted}
use Rattle.tv_run.specs.Settlements.{EndsIn, GivesTo, IsOpenIn, OfOpen, SettlesIn}
use Rattle.tv_run.specs.Standing.{Stands, names_of, run_of}
use Rattle.tv_run.specs.declared.instances.Numbered.{Numbered}
use Rattle.tv_run.specs.declared.run.OpenRun.{OpenRun}
use Rattle.tv_run.proofs.Bouncing.{open-here}
use Rattle.tv_run.proofs.Ending as ending
use Rattle.tv_run.proofs.Ending.{HasOpener}
use Rattle.tv_run.proofs.Failing.{ended-fails_none}
use Rattle.tv_run.proofs.JobLemmas.{spot-is}
use Rattle.tv_run.proofs.Levels.{instance-named}
use Rattle.tv_run.proofs.Next.{KeepsMain, goes-noted, main-kept, names-kept}
use Rattle.tv_run.proofs.Readies.{ready-still}
use Rattle.tv_run.proofs.Rooms.{stands-before}
use Rattle.tv_run.proofs.Settlings.{settles-in}

-- one change and then another
changes-then : (r s t : OpenRun) (xs ys : Instances) → ChangesTo r s xs → ChangesTo s t ys → ChangesTo r t ys
changes-then r s t xs ys a b = record {
  fits = b.fits;
  more = a.more ++ b.more;
  names =
      b.names ∙ ap (λ l. l ++ b.more) a.names ∙ append_assoc (names_of r) a.more b.more;
  rest = record {
    run = b.rest.run ∙ a.rest.run;
    entries = b.rest.entries ∙ a.rest.entries;
    failed = b.rest.failed ∙ a.rest.failed;
    outs = b.rest.outs ∙ a.rest.outs;
  };
}

module _ (gives : Giving) (r : OpenRun) (i : ℕ) (h : IsOpenIn gives r i) (ends-in : OfOpen r i EndsIn) (k : ℕ)
    (m : Numbered) (q : HasOpener gives r i h ends-in k m) where
  pub gives-to :
      GivesTo r h.instances m.instance q.around (ending.v gives r i h ends-in k m q) m.number q.seat q.step i h.instance
      h.view
  gives-to = record {
    seat = ending.seat-here gives r i h ends-in k m q;
    here = open-here gives r i h;
    ends = ending.ends-now gives r i h ends-in;
    apart = ending.not-itself gives r i h ends-in k m q;
    may = λ vs outs. ending.may-give gives r i h ends-in k m q vs outs;
  }

  pub here-ready : (ready : OpenRun) → IsAsBefore r ready → IsOpenHere ready h.instances i h.instance h.view
  here-ready ready b = record { fits = b.fits h.instances h.stands.fits; there = h.there; is_open = h.is_open }

module _ (gives : Giving) (r : OpenRun) (i : ℕ) (h : IsOpenIn gives r i) (ends-in : OfOpen r i EndsIn) (k : ℕ)
    (m : Numbered) (q : HasOpener gives r i h ends-in k m) (ready : OpenRun) (b : IsAsBefore r ready) (vs : List Value)
    (outs : AreOutputs h.view vs) where
  abbrev xs : Instances
  xs = h.instances

  abbrev pub v : View
  v = ending.v gives r i h ends-in k m q

  not-its : i ≢ m.instance
  not-its = ending.not-itself gives r i h ends-in k m q

  its-around : IsAt xs m.instance q.around
  its-around = q.is_number.is_job.instance

  -- the room is for what it gives
  pub ready-for : (us : List Value) → AreOutputs h.view us → (p : Spot) → IsReadyIn ready m.instance v q.seat q.step us p
      → IsReadyIn ready m.instance v q.seat q.step vs p
  ready-for us theirs p w =
      subst (λ l. IsReadyIn ready m.instance v q.seat q.step l p)
      (ending.result-is gives r i h ends-in k m q us theirs ∙ sym (ending.result-is gives r i h ends-in k m q vs outs)) w

  -- ---- once it is shut

  module _ (closed : OpenRun) (changes : ChangesTo ready closed (with_instance xs i (shut h.instance)))
      (due : closed.due ≡ ready.due) (leaves : LeavesOthers ready closed i) where
    abbrev pub zs : Instances
    zs = with_instance xs i (shut h.instance)

    around-there : IsAt zs m.instance q.around
    around-there =
        to-set xs i h.instance (shut h.instance) h.there m.instance q.around (λ e. not-its (sym e)) its-around

    pub seat-closed : IsSeatHere closed zs m.instance q.around v m.number q.seat q.step
    seat-closed = record {
      here = record {
        fits = changes.fits;
        there = around-there;
        is_open = (ending.around-open gives r i h ends-in k m q).1;
      };
      seat = q.known.seat;
      step = q.known.step;
    }

    pub may-be_given : (p : Spot) → IsReadyIn ready m.instance v q.seat q.step vs p
        → MayBeGivenIn closed zs m.instance q.around v m.number q.seat q.step vs p
    may-be_given p w = record {
      seat = seat-closed;
      ready =
          ready-still ready closed i m.instance (λ e. not-its (sym e)) changes.rest due leaves v q.seat q.step vs p w;
      runs = ending.runs-nested gives r i h ends-in k m q;
      taken = ending.is-taken_now gives r i h ends-in k m q;
    }

    -- ---- once it was given

    module _ (given : OpenRun) (more : ℕ)
        (tells :
        TellsIn closed given zs m.instance q.around v (gave q.step.0 q.seat.place vs) more
        (with_stage m.number stage.Settled q.around.seats))
        (s : OpenRun) (noted : IsNoted given s (entry.Ended i))
        (room : length ready.entries.items + ready.due + more + 1 ≤ vec_capacity ready.entries)
        (undone : ready.outs ≡ None) where
      abbrev around-then : Instance
      around-then = with_view q.around tells.view (with_stage m.number stage.Settled q.around.seats ++ tells.new)

      abbrev ys : Instances
      ys = with_instance zs m.instance around-then

      -- the same as if it had been given first
      given-first : ys ≡ with_instance (with_instance xs m.instance around-then) i (shut h.instance)
      given-first = set-swap xs i m.instance (shut h.instance) around-then not-its

      abbrev name : JobName
      name = q.job.name

      now : Stands gives ready xs
      now = stands-before gives r ready b xs h.stands

      can : can_end (meant gives (run_of ready)) (past_of (run_of ready)) name ≡ true
      can =
          subst (λ p. can_end (meant gives p) (past_of p) name ≡ true) (sym b.same)
          (ap (can_end (meant gives (run_of r)) (past_of (run_of r))) (sym q.named)
          ∙ ending.can gives r i h ends-in)

      spot : spot_of q.around.flow.steps q.seat ≡ (q.step.0, q.seat.place)
      spot = spot-is r xs h.stands.fits k m.instance m.number q.around q.seat q.step q.known

      goes :
          GoesOn (run_view ready.run) (levels_in q.around.flow) v tells.view (gave q.step.0 q.seat.place vs) tells.new
      goes =
          subst
          (λ p.
          GoesOn (run_view p) (levels_in q.around.flow) v tells.view (gave q.step.0 q.seat.place vs) tells.new)
          changes.rest.run tells.goes_on

      on :
          GoesOn (run_view ready.run) (levels_in q.around.flow) v tells.view
          (gave (spot_of q.around.flow.steps q.seat).0 q.seat.place q.job.result) tells.new
      on =
          subst
          (λ (a : Name).
          GoesOn (run_view ready.run) (levels_in q.around.flow) v tells.view (gave a q.seat.place q.job.result) tells.new)
          (sym (ap (λ (p : Name × Place). p.0) spot))
          (subst
          (λ us.
          GoesOn (run_view ready.run) (levels_in q.around.flow) v tells.view (gave q.step.0 q.seat.place us) tells.new)
          (ending.result-is gives r i h ends-in k m q vs outs) goes)

      stand : Stand gives (run_view ready.run) levels_in (ended name ∷ past_of (run_of ready)) ys
      stand =
          subst (Stand gives (run_view ready.run) levels_in (ended name ∷ past_of (run_of ready))) (sym given-first)
          (subst
          (λ (p : Run).
          Stand gives p.document levels_in (ended name ∷ past_of p)
          (with_instance (with_instance xs m.instance around-then) i (shut h.instance)))
          (sym b.same)
          (ends.ending gives (run_view r.run) levels_in (past_of (run_of r)) xs h.stands.stand m.instance m.number q.around
          q.seat q.job v q.is_number.is_job (ending.around-open gives r i h ends-in k m q).1 i h.instance tells.view
          tells.new q.nested h.there
          (ap (can_end (meant gives (run_of r)) (past_of (run_of r))) (sym q.named)
          ∙ ending.can gives r i h ends-in)
          (subst
          (λ (p : Run).
          GoesOn p.document (levels_in q.around.flow) v tells.view
          (gave (spot_of q.around.flow.steps q.seat).0 q.seat.place q.job.result) tells.new)
          b.same on)))

      main : KeepsMain xs ys
      main p z was is =
          main-kept xs m.instance q.around around-then its-around
          (sym (ap (λ (o : Option View). is_none o) (ending.around-open gives r i h ends-in k m q).1)) p z was
          (of-set (with_instance xs m.instance around-then) i h.instance (shut h.instance)
          (to-set xs m.instance q.around around-then its-around i h.instance not-its h.there) 0 z
          (λ e. let low = q.before in omega (arith, low, e)) (subst (λ l. IsAt l 0 z) given-first is))

      room-left : length ready.entries.items + given.due + 1 ≤ vec_capacity s.entries
      room-left =
          let given-due = tells.due in
          let first = ap vec_capacity changes.rest.entries in
          let second = ap vec_capacity tells.changes.rest.entries in
          let wide = noted.capacity in
          omega (arith, due, given-due, first, second, wide, room)

      pub ends-nested : SettlesIn gives r s i true
      ends-nested =
          settles-in gives r ready s i (entry.Ended i) b.same refl
          (goes-noted gives ready given s xs ys (entry.Ended i) (ended name)
          (record {
            changes = changes-then ready closed given zs ys changes tells.changes;
            noted = noted;
            told =
                tells-ended (run_of ready) i name
                (instance-named gives ready xs now i h.instance h.there ∙ ap Some q.named);
            none = refl;
            legal = can;
            stand = stand;
            failed =
                ended-fails_none gives (run_view ready.run) levels_in (past_of (run_of ready)) xs now.stand name can;
            room = room-left;
            names =
                names-kept zs m.instance q.around around-then around-there refl
                ∙ names-kept xs i h.instance (shut h.instance) h.there refl;
            main = main;
          })
          now undone)
