-- The entries of one job, list or fault.
use Rattle.std.specs.Prelude.{◌≡◌, refl, ℕ, [], ◌∷◌, ◌++◌, List, Option, Some, true, false, is_some, option_map}
use Rattle.std.proofs.Common.{ap, append-nil, subst, sym, ◌∙◌}
use Rattle.tv_value.specs.Nested.{Place}
use Rattle.tv_value.specs.Values.{JobName, Name}
use Rattle.tv_gate.specs.Outcomes.{Giving}
use Rattle.tv_flow.specs.Flows.{Document, Flow}
use Rattle.tv_model.specs.instance.Steps.{spot}
use Rattle.tv_model.specs.instance.Events as events
use Rattle.tv_model.specs.instance.Events.{Event, fault_set, gave, took}
use Rattle.tv_model.specs.Jobs.{Job}
use Rattle.tv_model.specs.Made.{Meaning}
use Rattle.tv_model.specs.Meanings.{meaning}
use Rattle.tv_model.proofs.Tests.{true≠false}
use Rattle.tv_history.specs.Entries.{Entry, History, accepted, handed_out, is_ended_entry, is_opened_entry}
use Rattle.tv_history.specs.Histories.{is_legal_after, is_settled}
use Rattle.tv_history.proofs.Tests.{same-itself}
use Rattle.tv_framing.specs.Answers.{CanSettle}
use Rattle.tv_framing.specs.Views.{View}
use Rattle.tv_seats.specs.Seats.{Seat, with_stage}
use Rattle.tv_seats.specs.Stages.{is_nested}
use Rattle.tv_seats.specs.declared.stage.Stage.{Stage}
use Rattle.tv_seats.specs.declared.stage.Stage.TheVariants as stage
use Rattle.tv_forest.specs.views.InRun.{IsJobThere}
use Rattle.tv_forest.specs.views.Stated.{entry_of}
use Rattle.tv_forest.proofs.views.LawLemmas.{levels-settle_as_told}
use Rattle.tv_forest.specs.runs.Elsewhere.{name_in}
use Rattle.tv_forest.specs.seats.GoingOn.{GoesOn, IsSeatOf, MaySettle}
use Rattle.tv_forest.specs.seats.Seated.{IsNextTry, Sit, spot_of}
use Rattle.tv_forest.proofs.seats.Entries.{handed_out-again, handed_out-first, job-settles, put_aside, tried_again}
use Rattle.tv_forest.proofs.seats.Runs.{level_settles}
use Rattle.tv_forest.specs.Entries.{GoesOnAs, GoesOnWith, HandingOutAgain, HandingOutFirst, LevelSettling, Settling, TryingAgain, seated, with_view, with_instance}
use Rattle.tv_forest.specs.Forest.{Instance, Instances, IsAt, IsJobAt, Stand, Stays}
use Rattle.tv_forest.proofs.Instances.{sits}
use Rattle.tv_forest.proofs.One.{one-goes_on}
use Rattle.tv_forest.proofs.SeatLemmas.{Spots, StayNested, WereNested, spots-behind, spots-same, spots-staged, stay-behind, stay-same, stay-staged, were-behind, were-same, were-staged}

-- ---- the instance goes on

module _ (x : Instance) (us : List Seat) (spots : Spots x.seats us) (were : WereNested x.seats us)
    (stay : StayNested x.seats us) where
  -- with other seats
  pub seats-go_on : GoesOnAs x (seated x us)
  seats-go_on = record {
    name = refl;
    flow = refl;
    as_open = refl;
    inputs = refl;
    seats = spots;
    nested = were;
    still_nested = stay;
  }

  -- and told something
  pub told-goes_on : (v w : View) → x.view ≡ Some v → w.inputs ≡ v.inputs → GoesOnAs x (with_view x w us)
  told-goes_on v w is_open i = record {
    name = refl;
    flow = refl;
    as_open = sym (ap (λ (o : Option View). is_some o) is_open);
    inputs = ap Some i ∙ sym (ap (option_map (λ (u : View). u.inputs)) is_open);
    seats = spots;
    nested = were;
    still_nested = stay;
  }

-- ---- entries of a job

module _ (gives : Giving) (d : Document) (levels : Flow → Name → ℕ) (past : History) (xs : Instances)
    (stand : Stand gives d levels past xs) (i n : ℕ) (x : Instance) (s : Seat) (j : Job) (v : View)
    (is : IsJobAt gives d xs i n x s j) (is_open : x.view ≡ Some v) where
  abbrev m : Meaning
  m = meaning gives d

  abbrev p : Name × Place
  p = spot_of x.flow.steps s

  pub sit : Sit gives d past x.name (levels x.flow) v x.seats
  sit = (sits gives d levels past xs stand i x v is.instance is_open).1

  pub same-flow : v.flow ≡ x.flow
  same-flow = (sits gives d levels past xs stand i x v is.instance is_open).0

  abbrev pub its-seat : IsSeatOf gives d x.name v x.seats j n s.stage
  its-seat = record {
    seat = s;
    there = is.seat;
    stage = refl;
    job = subst (λ (f : Flow). IsJobThere gives d x.name j (spot_of f.steps s)) (sym same-flow) is.job;
  }

  -- its frame goes on so
  abbrev pub On : View → (Name → Event) → List Seat → Type 0
  On w e ns = GoesOn d (levels x.flow) v w (e (spot_of x.flow.steps s).0) ns

  pub by-view : (w : View) (e : Name → Event) (ns : List Seat) → On w e ns
      → GoesOn d (levels x.flow) v w (e (spot_of v.flow.steps s).0) ns
  by-view w e ns on =
      subst (λ (f : Flow). GoesOn d (levels x.flow) v w (e (spot_of f.steps s).0) ns) (sym same-flow) on

  -- the seats after an entry of the job
  module _ (e : Entry) (named : name_in e ≡ Some j.name) (legal : is_legal_after gives m past e ≡ true)
      (no_opening : (k : JobName) → is_opened_entry k e ≡ false) (no_end : (k : JobName) → is_ended_entry k e ≡ false)
      (plain : is_nested s.stage ≡ false) (y : Stage) (plain_then : is_nested y ≡ false) where
    abbrev us : List Seat
    us = with_stage n y x.seats

    then-named : name_in e ≡ Some (spot x.name p.0 p.1)
    then-named = named ∙ ap Some is.job.name

    spots : Spots x.seats us
    spots = spots-staged x.seats n s y is.seat

    were : WereNested x.seats us
    were = were-staged x.seats n s y is.seat plain_then

    stay : StayNested x.seats us
    stay = stay-staged x.seats n s y is.seat plain

    -- of which the frame is told nothing
    pub untold : Sit gives d (e ∷ past) x.name (levels x.flow) v us
        → Stand gives d levels (e ∷ past) (with_instance xs i (seated x us))
    untold now =
        one-goes_on gives d levels past xs stand e i x (seated x us) p.0 p.1 is.instance then-named legal
        no_opening no_end (seats-go_on x us spots were stay)
        (subst (Stays gives d levels (e ∷ past) (seated x us)) (sym is_open) (same-flow, now))

    -- and of which it is
    pub told-on : (w : View) (c : Name → Event) (ns : List Seat) → On w c ns
        → Sit gives d (e ∷ past) x.name (levels x.flow) w (us ++ ns)
        → Stand gives d levels (e ∷ past) (with_instance xs i (with_view x w (us ++ ns)))
    told-on w c ns on now =
        one-goes_on gives d levels past xs stand e i x (with_view x w (us ++ ns)) p.0 p.1 is.instance then-named legal
        no_opening no_end
        (told-goes_on x (us ++ ns) (spots-behind x.seats us ns spots)
        (were-behind x.seats us ns on.new.waiting were) (stay-behind x.seats us ns spots stay) v w is_open
        on.follows.inputs)
        (on.follows.flow ∙ same-flow, now)

  -- ---- tries that go out

  first-out :
      (a t : ℕ) (w : View) → s.stage ≡ stage.Waiting → IsNextTry past j a t
      → is_legal_after gives m past (handed_out j.name a t) ≡ true
      → On w (λ k. took k s.place) []
      → Stand gives d levels (handed_out j.name a t ∷ past)
      (with_instance xs i (with_view x w (with_stage n (stage.Out a t) x.seats)))
  first-out a t w waits next legal on =
      let e = handed_out j.name a t in
      let us = with_stage n (stage.Out a t) x.seats in
      let now =
      handed_out-first gives d past x.name (levels x.flow) v x.seats sit j n s.stage its-seat waits a t next legal w
      (by-view w (λ k. took k s.place) [] on) in
      subst (λ l. Stand gives d levels (e ∷ past) (with_instance xs i (with_view x w l))) (append-nil us)
      (told-on e refl legal (λ k. refl) (λ k. refl) (ap is_nested waits) (stage.Out a t) refl w (λ k. took k s.place) [] on
      (subst (Sit gives d (e ∷ past) x.name (levels x.flow) w) (sym (append-nil us)) now))

  out-again :
      (a t : ℕ) → s.stage ≡ stage.Idle a t
      → is_legal_after gives m past (handed_out j.name a t) ≡ true
      → Stand gives d levels (handed_out j.name a t ∷ past)
      (with_instance xs i (seated x (with_stage n (stage.Out a t) x.seats)))
  out-again a t idle legal =
      untold (handed_out j.name a t) refl legal (λ k. refl) (λ k. refl) (ap is_nested idle) (stage.Out a t) refl
      (handed_out-again gives d past x.name (levels x.flow) v x.seats sit j n s.stage its-seat a t idle legal)

  -- ---- outcomes, and bounces

  -- what these are
  record IsPlain (e : Entry) (y : Stage) : Type 0 where
    pub named : name_in e ≡ Some j.name
    pub opens_none : (k : JobName) → is_opened_entry k e ≡ false
    pub plain : is_nested y ≡ false

  plain-entry : (e : Entry) → ((k : JobName) → is_ended_entry k e ≡ false) → (y : Stage) → MaySettle j y e → IsPlain e y
  plain-entry e no_end stage.Waiting h = record {
    named = ap name_in h;
    opens_none = λ k. ap (is_opened_entry k) h;
    plain = refl;
  }
  plain-entry e no_end (stage.Out a t) h = record {
    named = ap name_in h.1;
    opens_none = λ k. ap (is_opened_entry k) h.1;
    plain = refl;
  }
  plain-entry e no_end (stage.Idle a t) h = absurd h
  plain-entry e no_end (stage.Aside a) h = absurd h
  plain-entry e no_end (stage.Nested k) h =
      absurd (true≠false (sym (ap (is_ended_entry j.name) h ∙ same-itself j.name) ∙ no_end j.name))
  plain-entry e no_end stage.Settled h = absurd h

  settles :
      (e : Entry) (w : View) (ns : List Seat)
      → MaySettle j s.stage e → ((k : JobName) → is_ended_entry k e ≡ false)
      → is_legal_after gives m past e ≡ true → is_settled (e ∷ past) j ≡ true
      → On w (λ k. gave k s.place j.result) ns
      → Stand gives d levels (e ∷ past) (with_instance xs i (with_view x w (with_stage n stage.Settled x.seats ++ ns)))
  settles e w ns may no_end legal settled on =
      let r = plain-entry e no_end s.stage may in
      told-on e r.named legal r.opens_none no_end r.plain stage.Settled refl w (λ k. gave k s.place j.result) ns on
      (job-settles gives d past x.name (levels x.flow) v x.seats sit j n s.stage its-seat e may legal settled w ns
      (by-view w (λ k. gave k s.place j.result) ns on))

  tries-again :
      (a t : ℕ) (y : Stage) → s.stage ≡ stage.Out a t
      → is_legal_after gives m past (accepted j.name a t false) ≡ true
      → is_settled (accepted j.name a t false ∷ past) j ≡ false
      → GoesOnWith (accepted j.name a t false ∷ past) j y
      → Stand gives d levels (accepted j.name a t false ∷ past)
      (with_instance xs i (seated x (with_stage n y x.seats)))
  tries-again a t y out legal unsettled next = by y next
    where
      e : Entry
      e = accepted j.name a t false

      then-seated : (b : Stage) → is_nested b ≡ false
          → Sit gives d (e ∷ past) x.name (levels x.flow) v (with_stage n b x.seats)
          → Stand gives d levels (e ∷ past) (with_instance xs i (seated x (with_stage n b x.seats)))
      then-seated b plain now = untold e refl legal (λ k. refl) (λ k. refl) (ap is_nested out) b plain now

      by : (b : Stage) → GoesOnWith (e ∷ past) j b
          → Stand gives d levels (e ∷ past) (with_instance xs i (seated x (with_stage n b x.seats)))
      by stage.Waiting h = absurd h
      by (stage.Out b u) h = absurd h
      by (stage.Idle b u) h =
          then-seated (stage.Idle b u) refl
          (tried_again gives d past x.name (levels x.flow) v x.seats sit j n s.stage its-seat a t out legal unsettled b u
          h)
      by (stage.Aside b) h =
          then-seated (stage.Aside b) refl
          (put_aside gives d past x.name (levels x.flow) v x.seats sit j n s.stage its-seat a t out legal unsettled b h)
      by (stage.Nested k) h = absurd h
      by stage.Settled h = absurd h

-- ---- an entry of a list or a fault

-- which opens and ends none
record IsOfLevel (e : Entry) (I : JobName) : Type 0 where
  pub step : Name
  pub place : Place
  pub named : name_in e ≡ Some (spot I step place)
  pub opens_none : (k : JobName) → is_opened_entry k e ≡ false
  pub ends_none : (k : JobName) → is_ended_entry k e ≡ false

level-entry : (v : View) (I : JobName) (e : Event) → CanSettle v e → IsOfLevel (entry_of I e) I
level-entry v I (gave s q vs) c = absurd (true≠false (sym c.0))
level-entry v I (took s q) c = absurd (true≠false (sym c.0))
level-entry v I (events.closed s q n) c = record {
  step = s;
  place = q;
  named = refl;
  opens_none = λ k. refl;
  ends_none = λ k. refl;
}
level-entry v I (fault_set s q f) c = record {
  step = s;
  place = q;
  named = refl;
  opens_none = λ k. refl;
  ends_none = λ k. refl;
}

module _ (gives : Giving) (d : Document) (levels : Flow → Name → ℕ) (past : History) (xs : Instances)
    (stand : Stand gives d levels past xs) (i : ℕ) (x : Instance) (v w : View) (e : Event) (ns : List Seat)
    (at : IsAt xs i x) (is_open : x.view ≡ Some v) (can : CanSettle v e) (on : GoesOn d (levels x.flow) v w e ns) where
  level-settles : Stand gives d levels (entry_of x.name e ∷ past) (with_instance xs i (with_view x w (x.seats ++ ns)))
  level-settles =
      let h = sits gives d levels past xs stand i x v at is_open in
      let r = level-entry v x.name e can in
      one-goes_on gives d levels past xs stand (entry_of x.name e) i x (with_view x w (x.seats ++ ns)) r.step r.place at
      r.named ((levels-settle_as_told gives d past x.name (levels x.flow) v h.1.in_run).settles e can) r.opens_none
      r.ends_none
      (told-goes_on x (x.seats ++ ns) (spots-behind x.seats x.seats ns (spots-same x.seats))
      (were-behind x.seats x.seats ns on.new.waiting (were-same x.seats))
      (stay-behind x.seats x.seats ns (spots-same x.seats) (stay-same x.seats)) v w is_open on.follows.inputs)
      (on.follows.flow ∙ h.0, level_settles gives d past x.name (levels x.flow) v x.seats h.1 e can w ns on)

-- ---- the laws

pub handing-out_first : HandingOutFirst
handing-out_first = first-out

pub handing-out_again : HandingOutAgain
handing-out_again = out-again

pub settling : Settling
settling = settles

pub trying-again : TryingAgain
trying-again = tries-again

pub level-settling : LevelSettling
level-settling gives d levels past xs stand i x v w e ns at is_open can on =
    level-settles gives d levels past xs stand i x v w e ns at is_open can on
