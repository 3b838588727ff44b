-- The run goes on once a job was bounced, or a list closed or a fault passed, and the entry noted.
use Rattle.std.specs.Prelude.{Box, ◌≡◌, refl, ℕ, ◌+◌, ◌<◌, ◌≤◌, true, List, ◌∷◌, ◌++◌, None, Option, Some, is_none, length, slice_get, vec_capacity}
use Rattle.std.specs.declared.alloc.Global.{Global}
use Rattle.std.proofs.Common.{ap, arith, subst, sym, ◌∙◌}
use Rattle.tv_value.specs.declared.place.Place as held
use Rattle.tv_value.specs.Nested.{Place}
use Rattle.tv_value.specs.Values.{Name, Value}
use Rattle.tv_gate.specs.Outcomes.{Giving}
use Rattle.tv_flow.specs.Flows.{Document, Step}
use Rattle.tv_check.specs.RunViews.{run_view}
use Rattle.tv_model.specs.instance.Events.{Event, gave}
use Rattle.tv_model.specs.Jobs.{Job}
use Rattle.tv_history.specs.Entries.{bounced}
use Rattle.tv_history.specs.Histories.{is_legal_after}
use Rattle.tv_instances.specs.Answers.{CanSettle}
use Rattle.tv_instances.specs.FramingViews.{View}
use Rattle.tv_instances.specs.views.Stated.{entry_of}
use Rattle.tv_frame.specs.Tables.{levels_in}
use Rattle.tv_frame.specs.declared.events.Settled.{Settled}
use Rattle.tv_seats.specs.Seats.{Seat, with_stage}
use Rattle.tv_seats.specs.declared.stage.Stage.TheVariants as stage
use Rattle.tv_instances.specs.seats.GoingOn.{GoesOn}
use Rattle.tv_instances.specs.seats.Seated.{spot_of}
use Rattle.tv_instances.specs.Entries.{with_view, with_instance}
use Rattle.tv_instances.specs.Forest.{Instance, Instances, IsAt, Stand}
use Rattle.tv_history.specs.Calls.{Settles, settles}
use Rattle.tv_history.specs.Runs.{Run, meant, past_of}
use Rattle.tv_history.specs.declared.entry.Entry.{Entry}
use Rattle.tv_history.proofs.ToldLemmas.{tells-bounced}
use Rattle.tv_instances.specs.Events.{TellsAt}
use Rattle.tv_run.specs.Changes.{TellsIn}
use Rattle.tv_run.specs.Rooms.{HasRoomIn, IsNoted}
use Rattle.tv_run.specs.Settlements.{IsBouncedJob, SettlesIn, bounces_job, settled_entry}
use Rattle.tv_run.specs.Standing.{Stands, run_of}
use Rattle.tv_run.specs.Turns.{GoesTo}
use Rattle.tv_run.specs.declared.run.OpenRun.{OpenRun}
use Rattle.tv_run.proofs.Bounces as bounces
use Rattle.tv_run.proofs.Bouncing as bouncing
use Rattle.tv_run.proofs.Failing.{bounced-fails_none}
use Rattle.tv_run.proofs.JobLemmas.{spot-is}
use Rattle.tv_run.proofs.Levels.{level-fails_none, level-legal, level-opens_none, level-stand, level-told}
use Rattle.tv_run.proofs.Next.{goes-noted, main-kept, names-kept}
use Rattle.tv_run.proofs.Numbers.{job-named}

-- an entry that settles something, in a run with the names and entries of another
pub settles-in : (gives : Giving) (r m s : OpenRun) (i : ℕ) (e : Entry) → run_of m ≡ run_of r → settles e ≡ true
    → GoesTo gives m s e → SettlesIn gives r s i true
settles-in gives r m s i e same h g =
    ((g.stands.0, g.stands.1), subst (λ q. Settles q (run_of s)) same (e, g.appends, h))

-- where room is taken an entry can be noted
pub entry-room : (m t : OpenRun) (i more : ℕ) → HasRoomIn m i more → t.entries ≡ m.entries
    → length t.entries.items < vec_capacity t.entries
entry-room m t i more room same =
    subst (λ l. length l.items < vec_capacity l) (sym same)
    (let h = room.beside.entries in omega (arith, h))

-- ---- instance i of m was told an event, and then an entry noted

module _ (m t s : OpenRun) (xs : Instances) (i : ℕ) (x : Instance) (v : View) (e : Event) (more : ℕ) (ss : List Seat)
    (tells : TellsIn m t xs i x v e more ss) (n : Entry) (noted : IsNoted t s n) where
  room-left : length m.entries.items + m.due + more + 1 ≤ vec_capacity m.entries
      → length m.entries.items + t.due + 1 ≤ vec_capacity s.entries
  room-left h =
      let cap = ap vec_capacity tells.changes.rest.entries in
      omega (arith, h, cap, noted.capacity, tells.due)

-- ---- a job is bounced

module _ (gives : Giving) (r m t s : OpenRun) (xs : Instances) (k : ℕ) (j : Job) (st : Stands gives r xs)
    (b : IsBouncedJob gives r xs k j) (same : run_of m ≡ run_of r) (now : Stands gives m xs) (undone : m.outs ≡ None)
    (vs : List Value) (is : vs ≡ j.result) (more : ℕ)
    (tells : TellsIn m t xs b.outer b.instance b.view
    (gave (bouncing.step gives r xs k j st b).0 b.seat.place vs) more
    (with_stage b.number stage.Settled b.instance.seats))
    (noted : IsNoted t s (bounces_job k))
    (room : length m.entries.items + m.due + more + 1 ≤ vec_capacity m.entries) where
  abbrev d : Document
  d = run_view r.run

  abbrev x : Instance
  x = b.instance

  abbrev w : View
  w = tells.view

  abbrev ys : Instances
  ys = with_instance xs b.outer (with_view x w (with_stage b.number stage.Settled x.seats ++ tells.new))

  abbrev its-step : Name × Step
  its-step = bouncing.step gives r xs k j st b

  spot : spot_of x.flow.steps b.seat ≡ (its-step.0, b.seat.place)
  spot =
      spot-is r xs st.fits k b.outer b.number x b.seat its-step (bouncing.known-as_it gives r xs k j st b)

  on : GoesOn d (levels_in x.flow) b.view w (gave (spot_of x.flow.steps b.seat).0 b.seat.place j.result) tells.new
  on =
      subst
      (λ (a : Name). GoesOn d (levels_in x.flow) b.view w (gave a b.seat.place j.result) tells.new)
      (sym (ap (λ (p : Name × Place). p.0) spot))
      (subst (λ us. GoesOn d (levels_in x.flow) b.view w (gave its-step.0 b.seat.place us) tells.new) is
      (subst (λ (q : Run). GoesOn q.document (levels_in x.flow) b.view w (gave its-step.0 b.seat.place vs) tells.new) same
      tells.goes_on))

  legal : is_legal_after gives (meant gives (run_of m)) (past_of (run_of m)) (bounced j.name) ≡ true
  legal =
      subst (λ q. is_legal_after gives (meant gives q) (past_of q) (bounced j.name) ≡ true) (sym same)
      (bounces.legal-bounce gives d (past_of (run_of r)) xs st.stand b.outer b.number x b.seat j b.view b.is_number.is_job
      b.is_open b.ready b.faulty)

  stand : Stand gives (run_view m.run) levels_in (bounced j.name ∷ past_of (run_of m)) ys
  stand =
      subst (λ q. Stand gives q.document levels_in (bounced j.name ∷ past_of q) ys) (sym same)
      (bounces.stand-bounced gives d (past_of (run_of r)) xs st.stand b.outer b.number x b.seat j b.view
      b.is_number.is_job b.is_open b.ready b.faulty w tells.new on)

  pub bounce-goes : GoesTo gives m s (bounces_job k)
  bounce-goes =
      goes-noted gives m t s xs ys (bounces_job k) (bounced j.name)
      (record {
        changes = tells.changes;
        noted = noted;
        told =
            tells-bounced (run_of m) k j.name
            (ap (λ (q : Run). slice_get q.names k) same
            ∙ job-named gives r xs st k b.outer b.number x b.seat j b.is_number);
        none = refl;
        legal = legal;
        stand = stand;
        failed = bounced-fails_none gives (run_view m.run) levels_in (past_of (run_of m)) xs now.stand j.name legal;
        room =
            room-left m t s xs b.outer x b.view (gave its-step.0 b.seat.place vs) more
            (with_stage b.number stage.Settled x.seats) tells (bounces_job k) noted room;
        names = names-kept xs b.outer x (with_view x w (with_stage b.number stage.Settled x.seats ++ tells.new)) b.is_number.is_job.instance refl;
        main =
            main-kept xs b.outer x (with_view x w (with_stage b.number stage.Settled x.seats ++ tells.new))
            b.is_number.is_job.instance (sym (ap (λ (o : Option View). is_none o) b.is_open));
      })
      now undone

-- ---- a list is closed or a fault passed

module _ (gives : Giving) (m t s : OpenRun) (xs : Instances) (i : ℕ) (x : Instance) (v : View) (e : Event) (more : ℕ)
    (now : Stands gives m xs) (undone : m.outs ≡ None) (there : IsAt xs i x) (is_open : x.view ≡ Some v)
    (can : CanSettle v e) (tells : TellsIn m t xs i x v e more x.seats) (y : Settled) (at : TellsAt x.flow.steps y e)
    (b : Box held.Place Global) (noted : IsNoted t s (settled_entry i y b))
    (room : length m.entries.items + m.due + more + 1 ≤ vec_capacity m.entries) where
  abbrev then_told : Instance
  then_told = with_view x tells.view (x.seats ++ tells.new)

  pub level-goes : GoesTo gives m s (settled_entry i y b)
  level-goes =
      goes-noted gives m t s xs (with_instance xs i then_told) (settled_entry i y b) (entry_of x.name e)
      (record {
        changes = tells.changes;
        noted = noted;
        told = level-told gives m xs now i x there b y e at;
        none = level-opens_none y i b;
        legal = level-legal gives m xs now i x there v is_open e can;
        stand = level-stand gives m xs now i x there v is_open e can tells.view tells.new tells.goes_on;
        failed = level-fails_none gives m xs now i x there v is_open e can;
        room = room-left m t s xs i x v e more x.seats tells (settled_entry i y b) noted room;
        names = names-kept xs i x then_told there refl;
        main = main-kept xs i x then_told there (sym (ap (λ (o : Option View). is_none o) is_open));
      })
      now undone
