-- The seats of an instance where it starts, and with the entries that are of no job of it.
use Rattle.std.specs.Prelude.{◌≡◌, refl, ℕ, ◌<◌, ◌==◌, List, [], ◌∷◌, ◌++◌, Bool, true, false, Some, map, nat_lt, slice_get}
use Rattle.std.proofs.Common.{subst, sym, ◌∙◌}
use Rattle.std.proofs.lemmas.Bool.{eq-eqb, lt-ltb}
use Rattle.tv_value.specs.Nested.{Place}
use Rattle.tv_value.specs.Values.{JobName, Name}
use Rattle.tv_gate.specs.Outcomes.{Giving}
use Rattle.tv_flow.specs.Flows.{Document, Step}
use Rattle.tv_model.specs.instance.Steps.{spot}
use Rattle.tv_model.specs.instance.Events as events
use Rattle.tv_model.specs.instance.Events.{Event, fault_set, gave, took}
use Rattle.tv_model.specs.Jobs.{Job}
use Rattle.tv_model.specs.Made.{Meaning}
use Rattle.tv_model.specs.Meanings.{meaning}
use Rattle.tv_model.proofs.Tests.{both_true, true≠false}
use Rattle.tv_history.specs.Entries.{Entry, History, closed, fault_passed, is_begun_entry, is_out, opened, recalled}
use Rattle.tv_history.specs.Histories.{is_legal_after, out_count}
use Rattle.tv_framing.specs.instances.InHistory.{SettlesNot}
use Rattle.tv_framing.specs.Answers.{CanSettle}
use Rattle.tv_framing.specs.Views.{View}
use Rattle.tv_seats.specs.Seats.{Seat, back}
use Rattle.tv_seats.specs.Stages.{called_back}
use Rattle.tv_seats.specs.declared.stage.Stage.{Stage}
use Rattle.tv_seats.specs.declared.stage.Stage.TheVariants as stage
use Rattle.tv_forest.specs.views.InRun.{IsInRun, IsJobThere}
use Rattle.tv_forest.specs.views.Stated.{entry_of}
use Rattle.tv_forest.proofs.views.LawLemmas.{levels-settle_as_told}
use Rattle.tv_forest.specs.runs.Elsewhere.{IsElsewhere}
use Rattle.tv_forest.proofs.runs.Elsewhere.{elsewhere-tells_nothing}
use Rattle.tv_forest.proofs.runs.Entries.{closing-goes_on, passing-goes_on, recalls-tell_nothing}
use Rattle.tv_forest.proofs.runs.Opened.{opened-starts}
use Rattle.tv_forest.proofs.runs.Starts.{main-starts}
use Rattle.tv_forest.specs.seats.GoingOn.{ElsewhereStays, GoesOn, LevelSettles, Recalled, SitAtStart, SitWhereOpened}
use Rattle.tv_forest.specs.seats.Seated.{GoesAs, IsStage, Sit, spot_of}
use Rattle.tv_forest.proofs.seats.Lists.{unseen}
use Rattle.tv_forest.proofs.seats.Seats.{AreThen, in-run, none-changes, sits-on, sits-same, untold-sits}
use Rattle.tv_forest.proofs.seats.Stages.{LeavesAlone, closed-none, inside-stays, passed-none}
use Rattle.tv_lemmas.proofs.Lists.{of-image}

-- ---- the start

pub sit-at_start : SitAtStart
sit-at_start gives d levels v ss main inputs is = untold-sits gives d [] [] levels v in_run is.untold ss is.jobs is.new
  where
    in_run : IsInRun gives d [] [] levels v
    in_run = record {
      formed = main.formed;
      accepted = main.accepted;
      legal = refl;
      flow_name = d.main;
      is_flow = main.is_main;
      frame = is.frame;
      depths = is.depths;
      view = main-starts gives d v.flow main v refl inputs is.untold;
    }

pub sit-where_opened : SitWhereOpened
sit-where_opened gives d past j levels v ss formed accepted listed legal opens is =
    untold-sits gives d (opened j.name ∷ past) j.name levels v in_run is.untold ss is.jobs is.new
  where
    in_run : IsInRun gives d (opened j.name ∷ past) j.name levels v
    in_run = record {
      formed = formed;
      accepted = accepted;
      legal = legal;
      flow_name = opens.of_job.flow_name;
      is_flow = opens.of_job.is_flow;
      frame = is.frame;
      depths = is.depths;
      view = opened-starts gives d past j v formed accepted listed legal opens;
    }

-- ---- entries of no job

module _ (gives : Giving) (d : Document) (past : History) (I : JobName) (levels : Name → ℕ) (v : View) (ss : List Seat)
    (sit : Sit gives d past I levels v ss) where
  abbrev m : Meaning
  m = meaning gives d

  level-settles : (e : Event) → CanSettle v e → (w : View) (ns : List Seat) → GoesOn d levels v w e ns
      → Sit gives d (entry_of I e ∷ past) I levels w (ss ++ ns)
  level-settles e c w ns on = by e c on
    where
      legal : (e : Event) → CanSettle v e → is_legal_after gives m past (entry_of I e) ≡ true
      legal e c = (levels-settle_as_told gives d past I levels v sit.in_run).settles e c

      by : (e : Event) → CanSettle v e → GoesOn d levels v w e ns
          → Sit gives d (entry_of I e ∷ past) I levels w (ss ++ ns)
      by (gave s q vs) c on = absurd (true≠false (sym c.0))
      by (took s q) c on = absurd (true≠false (sym c.0))
      by (events.closed s q n) c on =
          let x = closed (spot I s q) n in
          let may = legal (events.closed s q n) c in
          let view = closing-goes_on gives d past I v sit.in_run.view s q n w on.follows in
          let now = in-run gives d past I levels v ss sit x may w on.follows.flow on.frame on.depths view in
          sits-on gives d past I levels v ss sit x w (events.closed s q n) ns on
          (λ k y it unknown. closed-none past k (spot I s q) n) ss
          (none-changes gives d past I levels v ss sit x (λ k y it. closed-none past k (spot I s q) n)) now
      by (fault_set s q f) c on =
          let x = fault_passed (spot I s q) in
          let may = legal (fault_set s q f) c in
          let view = passing-goes_on gives d past I v sit.in_run.view s q f w on.follows in
          let now = in-run gives d past I levels v ss sit x may w on.follows.flow on.frame on.depths view in
          sits-on gives d past I levels v ss sit x w (fault_set s q f) ns on
          (λ k y it unknown. passed-none past k (spot I s q)) ss
          (none-changes gives d past I levels v ss sit x (λ k y it. passed-none past k (spot I s q))) now

  -- ---- a recall

  goes-back : (k : ℕ) (j : Job) (running out nested : Bool) → GoesAs past j running out nested
      → GoesAs (recalled k ∷ past) j running false nested
  goes-back k j r o n h = record {
    unsettled = h.unsettled;
    runs = h.runs;
    is_out = refl;
    inside = inside-stays past (recalled k) j refl refl ∙ h.inside;
  }

  called-back : (k : ℕ) (j : Job) (x : Stage) → IsStage past j x → IsStage (recalled k ∷ past) j (called_back x)
  called-back k j stage.Waiting h = goes-back k j false false false h
  called-back k j (stage.Out a t) h = (goes-back k j true true false h.0, h.1)
  called-back k j (stage.Idle a t) h = (goes-back k j true false false h.0, h.1)
  called-back k j (stage.Aside a) h = (
    goes-back k j true false false h.0,
    record { no_ask = h.1.no_ask; opens = h.1.opens; activity = h.1.activity },
  )
  called-back k j (stage.Nested i) h = goes-back k j true false true h
  called-back k j stage.Settled h = (h.0, refl)

  all-back : (k : ℕ) → AreThen gives d past I levels v ss sit (recalled k) (map back ss)
  all-back k = record {
    spots = unseen (spot_of v.flow.steps) back (λ s. refl) ss ∙ sit.jobs;
    there = λ n s e.
        let r = of-image back ss n s e in
        subst (λ (u : Seat). (t : Name × Step) × (slice_get v.flow.steps u.step ≡ Some t)) r.2 (sit.steps n r.0 r.1);
    stages = λ n s j e it.
        let r = of-image back ss n s e in
        let mine = subst (λ (u : Seat). IsJobThere gives d I j (spot_of v.flow.steps u)) (sym r.2) it in
        subst (λ (u : Seat). IsStage (recalled k ∷ past) j u.stage) r.2
        (called-back k j r.0.stage (sit.stages n r.0 j r.1 mine));
  }

  recalled-all : (k : ℕ) → k ≡ out_count m past → 0 < k → Sit gives d (recalled k ∷ past) I levels v (map back ss)
  recalled-all k all some =
      let legal = both_true (nat_lt 0 k) (k == out_count m past) (lt-ltb 0 k some) (eq-eqb k (out_count m past) all) in
      let view = recalls-tell_nothing gives d past I v sit.in_run.view k in
      sits-same gives d past I levels v ss sit (recalled k) (map back ss) (all-back k)
      (in-run gives d past I levels v ss sit (recalled k) legal v refl sit.in_run.frame sit.in_run.depths view)

  -- ---- an entry of another instance

  elsewhere-leaves : (e : Entry) → IsElsewhere e I → (j : Job) (x : Name × Place) → IsJobThere gives d I j x
      → LeavesAlone past e j
  elsewhere-leaves e h j x it = record {
    settles = subst (SettlesNot e) (sym it.name) (h.settles x.0 x.1);
    begins = subst (λ n. is_begun_entry n e ≡ false) (sym it.name) (h.rest.begins x.0 x.1);
    out = subst (λ n. is_out (e ∷ past) n ≡ is_out past n) (sym it.name) (h.out past x.0 x.1);
  }

  elsewhere-sits : (e : Entry) → is_legal_after gives m past e ≡ true → IsElsewhere e I
      → Sit gives d (e ∷ past) I levels v ss
  elsewhere-sits e legal h =
      let view = elsewhere-tells_nothing gives d past I v sit.in_run.view e h in
      sits-same gives d past I levels v ss sit e ss
      (none-changes gives d past I levels v ss sit e (elsewhere-leaves e h))
      (in-run gives d past I levels v ss sit e legal v refl sit.in_run.frame sit.in_run.depths view)

-- ---- the laws

pub level_settles : LevelSettles
level_settles = level-settles

pub recalled_all : Recalled
recalled_all = recalled-all

pub elsewhere-stays : ElsewhereStays
elsewhere-stays = elsewhere-sits
