-- A list is closed or a fault passed in an open instance: the entry of what was settled, and how the instances go on with it.
use Rattle.std.specs.Prelude.{Box, ◌≡◌, refl, ℕ, true, List, None, ◌∷◌, ◌++◌, Some, slice_get}
use Rattle.std.specs.declared.alloc.Global.{Global}
use Rattle.std.proofs.Common.{ap, subst, sym, ◌∙◌}
use Rattle.tv_value.specs.declared.place.Place.{Place}
use Rattle.tv_value.specs.Values.{Name}
use Rattle.tv_gate.specs.Outcomes.{Giving}
use Rattle.tv_flow.specs.Flows.{Document, Step}
use Rattle.tv_model.specs.instance.Steps.{spot}
use Rattle.tv_check.specs.RunViews.{run_view}
use Rattle.tv_model.specs.instance.Events as events
use Rattle.tv_model.specs.instance.Events.{Event, event_step, fault_set}
use Rattle.tv_model.specs.Meanings.{meaning}
use Rattle.tv_model.proofs.Tests.{true≠false}
use Rattle.tv_history.specs.Entries as history
use Rattle.tv_history.specs.Entries.{History}
use Rattle.tv_history.specs.Histories.{is_legal_after}
use Rattle.tv_instances.specs.Answers.{CanSettle}
use Rattle.tv_instances.specs.FramingViews.{View}
use Rattle.tv_instances.specs.views.Stated.{entry_of}
use Rattle.tv_instances.proofs.views.LawLemmas.{levels-settle_as_told}
use Rattle.tv_outputs.specs.Known.{Nodes}
use Rattle.tv_frame.specs.Calls.{Tells}
use Rattle.tv_frame.specs.Tables.{levels_in}
use Rattle.tv_frame.specs.declared.events.Settled.{Settled}
use Rattle.tv_frame.specs.declared.events.Settled.TheVariants as settled
use Rattle.tv_seats.specs.Seats.{Seat}
use Rattle.tv_instances.specs.seats.GoingOn.{GoesOn}
use Rattle.tv_instances.specs.Entries.{with_view, with_instance}
use Rattle.tv_instances.specs.Forest.{Instance, Instances, IsAt, Stand}
use Rattle.tv_instances.proofs.Entries.{level-settling}
use Rattle.tv_instances.proofs.Instances.{sits}
use Rattle.tv_instances.proofs.forest_firsts.Flows.{flows-by_names}
use Rattle.tv_history.specs.Calls.{settles}
use Rattle.tv_history.specs.Runs.{flow_of, instances_of, opened_number, past_of}
use Rattle.tv_history.specs.declared.entry.Entry.TheVariants as entry
use Rattle.tv_history.proofs.ToldLemmas.{IsTold, tells-closed, tells-passed}
use Rattle.tv_instances.specs.Events.{IsReadyToSettleAt, TellsAt}
use Rattle.tv_run.specs.Changes.{IsReadyToSettleIn}
use Rattle.tv_run.specs.Rooms.{IsSameButRooms}
use Rattle.tv_run.specs.Settlements.{IsReadyToSettleLevel, settled_entry}
use Rattle.tv_run.specs.Standing.{Stands, names_of, run_of}
use Rattle.tv_run.specs.declared.run.OpenRun.{OpenRun}
use Rattle.tv_run.proofs.Failing.{FailsNone, closed-fails_none, passed-fails_none}
use Rattle.tv_run.proofs.JobLemmas.{instance-there}
use Rattle.tv_lemmas.proofs.Lists.{get-map}

-- ---- the entry

pub level-settles : (y : Settled) (i : ℕ) (b : Box Place Global) → settles (settled_entry i y b) ≡ true
level-settles (settled.Closed s q n) i b = refl
level-settles (settled.Passed s q) i b = refl

pub level-opens_none : (y : Settled) (i : ℕ) (b : Box Place Global) → opened_number (settled_entry i y b) ≡ None
level-opens_none (settled.Closed s q n) i b = refl
level-opens_none (settled.Passed s q) i b = refl

module _ (gives : Giving) (r : OpenRun) (xs : Instances) (st : Stands gives r xs) (i : ℕ) (x : Instance)
    (there : IsAt xs i x) where
  abbrev d : Document
  d = run_view r.run

  abbrev past : History
  past = past_of (run_of r)

  -- the name of instance i, and the flow to which it leads
  pub instance-named : slice_get (instances_of (names_of r) r.entries.items) i ≡ Some x.name
  instance-named =
      ap (λ l. slice_get l i) st.named ∙ get-map (λ (y : Instance). y.name) xs i x there

  pub flow-named : flow_of d.flows d.main x.name ≡ Some x.flow
  flow-named = flows-by_names gives d levels_in past xs st.stand i x there

  -- what it tells
  pub level-told : (b : Box Place Global) (y : Settled) (e : Event) → TellsAt x.flow.steps y e
      → IsTold (run_of r) (settled_entry i y b) (entry_of x.name e)
  level-told b y e h = by y e h.3 h.4
    where
      n : ℕ
      n = h.0

      s : Name × Step
      s = h.1

      by : (y : Settled) (e : Event) → event_step e ≡ s.0 → Tells y n e
          → IsTold (run_of r) (settled_entry i y b) (entry_of x.name e)
      by (settled.Closed t q m) (events.closed u p k) g c =
          subst (λ f. IsTold (run_of r) f (history.closed (spot x.name u p) k))
          (λ j. entry.Closed i (sym c.0 j) (record b { value = sym c.1 j }) (sym c.2 j))
          (subst (λ a. IsTold (run_of r) (entry.Closed i n (record b { value = p }) k) (history.closed (spot x.name a p) k)) (sym g)
          (tells-closed (run_of r) i x.name instance-named x.flow n s flow-named h.2 (record b { value = p }) k))
      by (settled.Passed t q) (fault_set u p f) g c =
          subst (λ f. IsTold (run_of r) f (history.fault_passed (spot x.name u p)))
          (λ j. entry.Passed i (sym c.0 j) (record b { value = sym c.1 j }))
          (subst (λ a. IsTold (run_of r) (entry.Passed i n (record b { value = p })) (history.fault_passed (spot x.name a p))) (sym g)
          (tells-passed (run_of r) i x.name instance-named x.flow n s flow-named h.2 (record b { value = p })))
      by y e g c = absurd c

  module _ (v : View) (is_open : x.view ≡ Some v) (e : Event) (can : CanSettle v e) where
    pub level-legal : is_legal_after gives (meaning gives d) past (entry_of x.name e) ≡ true
    level-legal =
        let h = sits gives d levels_in past xs st.stand i x v there is_open in
        (levels-settle_as_told gives d past x.name (levels_in x.flow) v h.1.in_run).settles e can

    pub level-fails_none : FailsNone gives d past (entry_of x.name e)
    level-fails_none = by e can level-legal
      where
        by : (e : Event) → CanSettle v e → is_legal_after gives (meaning gives d) past (entry_of x.name e) ≡ true
            → FailsNone gives d past (entry_of x.name e)
        by (events.gave s q vs) c l = absurd (true≠false (sym c.0))
        by (events.closed s q n) c l = closed-fails_none gives d levels_in past xs st.stand (spot x.name s q) n l
        by (fault_set s q f) c l = passed-fails_none gives d levels_in past xs st.stand (spot x.name s q) l
        by (events.took s q) c l = absurd (true≠false (sym c.0))

    pub level-stand : (w : View) (ns : List Seat) → GoesOn d (levels_in x.flow) v w e ns
        → Stand gives d levels_in (entry_of x.name e ∷ past) (with_instance xs i (with_view x w (x.seats ++ ns)))
    level-stand w ns on =
        level-settling gives d levels_in past xs st.stand i x v w e ns there is_open can on

-- ---- ready to settle it

-- and once there is room for the entry too
pub ready-then : (gives : Giving) (r m : OpenRun) (i more : ℕ) (e : Event) (q : IsReadyToSettleLevel gives r i e more)
    → IsSameButRooms r m → IsReadyToSettleIn m i q.here.view e more
ready-then gives r m i more e q same = record {
  ready = λ c o plan at opened flow.
      let w = instance-there r q.here.instances q.here.stands.fits i q.here.instance q.here.there in
      let alike = same.instances i w.0 c w.1 at in
      let h = q.ready.ready w.0 o plan w.1 (ap (λ l. l.items) (sym alike.opened) ∙ opened) flow in
      subst (λ g. IsReadyToSettleAt (run_view g) plan m.pool o q.here.view e more) (sym same.run)
      (subst (λ (p : Nodes). IsReadyToSettleAt (run_view r.run) plan p o q.here.view e more) (sym same.pool) h);
}
