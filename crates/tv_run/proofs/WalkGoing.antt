-- Which job of an open instance passes itself, by its seat, and that it may begin.
use Rattle.std.specs.Option.{option_map_or}
use Rattle.std.specs.Prelude.{◌≡◌, refl, ℕ, Bool, true, false, not, nat_lt, ◌&&◌, ◌||◌, ◌⊎◌, List, [], ◌∷◌, None, Some, is_some, map, slice_get}
use Rattle.std.proofs.Common.{ap, inl, inr, subst, sym, ◌∙◌}
use Rattle.std.proofs.lemmas.Bool.{lt-ltb, ltb-true, not-true}
use Rattle.std.proofs.lemmas.Option.{same_Some}
use Rattle.std.specs.Cmp.{first_so, second_so}
use Rattle.tv_lemmas.specs.Members.{In}
use Rattle.tv_lemmas.proofs.Cases.{on_either, on_or, on_test}
use Rattle.tv_lemmas.proofs.Tests.{from-false_true}
use Rattle.tv_value.specs.Activities.{Activity, nested, service}
use Rattle.tv_value.specs.Nested.{Place}
use Rattle.tv_value.specs.Values.{Name}
use Rattle.tv_gate.specs.Outcomes.{Giving}
use Rattle.tv_flow.specs.Flows.{Step}
use Rattle.tv_dispatch.specs.Plans.{kind_of}
use Rattle.tv_check.specs.RunViews.{run_view}
use Rattle.tv_instances.specs.Spreads.{is_faulty_now}
use Rattle.tv_model.specs.Jobs.{Job}
use Rattle.tv_model.specs.Made.{Meaning}
use Rattle.tv_model.specs.Meanings.{meaning}
use Rattle.tv_model.specs.Turns.{is_bounced}
use Rattle.tv_model.proofs.Tests.{or_left, or_right, true≠false}
use Rattle.tv_history.specs.Entries.{History}
use Rattle.tv_history.specs.Histories.{has_open_instance, is_ready, may_go_on, next_ask}
use Rattle.tv_history.proofs.Ready.{AnyNumber, document-whole}
use Rattle.tv_model.specs.JobOrder.{place_before}
use Rattle.tv_history.proofs.First.{open-unsettled, opener-waits}
use Rattle.tv_instances.specs.FramingViews.{View}
use Rattle.tv_frame.specs.Calls.{HoldsError}
use Rattle.tv_frame.specs.Tables.{levels_in}
use Rattle.tv_frame.proofs.JobLemmas.{said-holds}
use Rattle.tv_instances.proofs.framing_turns.Ranks.{place-is}
use Rattle.tv_seats.specs.Seats.{Seat, running_count, stands}
use Rattle.tv_seats.specs.Stages.{is_aside, is_idle, is_nested, is_waiting}
use Rattle.tv_seats.specs.declared.stage.Stage.{Stage}
use Rattle.tv_seats.specs.declared.stage.Stage.TheVariants as stage
use Rattle.tv_instances.specs.views.Stated.{IsBoundAsTold, IsReadyAsTold}
use Rattle.tv_instances.proofs.views.LawLemmas.{inputs-are_told, ready-is_told}
use Rattle.tv_instances.specs.seats.Seated.{IsStage, spot_of}
use Rattle.tv_instances.specs.stands.Offers.{GoesOnBySeat, HasNextBySeat, is_service_first}
use Rattle.tv_instances.proofs.stands.Next.{next-by_seat}
use Rattle.tv_instances.proofs.stands.Offers.{going-by_seat, ready-waits}
use Rattle.tv_instances.proofs.stands.Stages.{over-is, runs-is}
use Rattle.tv_instances.specs.Forest.{Instance, Instances, IsAt, IsJobAt}
use Rattle.tv_instances.specs.forest_firsts.FirstWithin.{GoesOnBy}
use Rattle.tv_instances.proofs.forest_firsts.Quiet.{going-by_next}
use Rattle.tv_history.specs.Runs.{past_of}
use Rattle.tv_instances.specs.Events.{WaitsReady}
use Rattle.tv_instances.specs.Firsts.{BindsFault, CanBegin, GoesOnAt, IsReadySeat, asides}
use Rattle.tv_instances.specs.declared.firsts.Seeking.{Seeking}
use Rattle.tv_instances.specs.declared.firsts.Seeking.TheVariants as seeking
use Rattle.tv_run.specs.Looks.{tries_of}
use Rattle.tv_run.specs.Standing.{Stands, run_of}
use Rattle.tv_run.specs.Walking.{IsNumber, MayBegin, is_service_kind, is_sought, passes}
use Rattle.tv_run.specs.declared.run.OpenRun.{OpenRun}
use Rattle.tv_run.proofs.WalkOpen.{is-open, sit-there, spot-known, there, viewed}
use Rattle.tv_run.proofs.Tellings.{waits-alone}

-- ---- stages

pub idle-waits : (x : Stage) → is_idle x ≡ true → is_waiting x ≡ true → ⊥
idle-waits x h k = true≠false (sym h ∙ ap is_idle (waits-alone x k))

aside-waits : (x : Stage) → is_aside x ≡ true → is_waiting x ≡ true → ⊥
aside-waits x h k = true≠false (sym h ∙ ap is_aside (waits-alone x k))

pub waits-at : (ss : List Seat) (k : ℕ) (s : Seat) → slice_get ss k ≡ Some s → stands is_waiting ss k ≡ is_waiting s.stage
waits-at ss k s e = ap (λ o. option_map_or (λ u. is_waiting u.stage) o false) e

-- ---- first activities

sought-first : (as' : List Activity) → option_map_or is_service_kind (slice_get (map kind_of as') 0) false ≡ is_service_first as'
sought-first [] = refl
sought-first (service f ∷ as') = refl
sought-first (nested f ∷ as') = refl

-- ---- one job

module _ (gives : Giving) (r : OpenRun) (xs : Instances) (st : Stands gives r xs) (i : ℕ) (x : Instance) (v : View)
    (at : IsAt xs i x) (told : x.view ≡ Some v) where
  abbrev m : Meaning
  m = meaning gives (run_view r.run)

  abbrev past : History
  past = past_of (run_of r)

  module _ (n : ℕ) (s : Seat) (j : Job) (it : IsJobAt gives (run_view r.run) xs i n x s j) where
    -- the stage of its seat
    stage-is : IsStage past j s.stage
    stage-is =
        (sit-there gives r xs st i x v at told).stages n s j it.seat (viewed gives r xs st i x v at told n s j it)

    -- its flow is open where its seat says so
    pub opens-by : has_open_instance past j ≡ is_nested s.stage
    opens-by = by s.stage stage-is
      where
        by : (y : Stage) → IsStage past j y → has_open_instance past j ≡ is_nested y
        by stage.Waiting h = h.inside
        by (stage.Out a t) h = h.0.inside
        by (stage.Idle a t) h = h.0.inside
        by (stage.Aside a) h = h.0.inside
        by (stage.Nested k) h = h.inside
        by stage.Settled h =
            on_test (has_open_instance past j)
            (λ e.
            absurd
            (true≠false
            (sym h.0
            ∙ open-unsettled gives AnyNumber m (document-whole gives (run_view r.run)) past st.stand.legal j it.job.listed e)))
            (λ e. e)

    -- ---- ready, and what it binds

    abbrev spot_now : Name × Place
    spot_now = spot_of v.flow.steps s

    ready-told : IsReadyAsTold gives (run_view r.run) past (levels_in v.flow) v j spot_now
    ready-told =
        ready-is_told gives (run_view r.run) past x.name (levels_in v.flow) v (sit-there gives r xs st i x v at told).in_run
        spot_now j (viewed gives r xs st i x v at told n s j it)

    pub ready-run : IsReadySeat v s → is_ready m past j ≡ true
    ready-run h = ready-told.ready (spot-known gives r xs st i x v at told n s it.seat) h

    pub ready-seat : is_ready m past j ≡ true → IsReadySeat v s
    ready-seat h = (ready-told.told h).1

    pub ready-waiting : is_ready m past j ≡ true → is_waiting s.stage ≡ true
    ready-waiting h =
        first_so (is_waiting s.stage) (is_ready m past j)
        (sym (ready-waits m past j s.stage (runs-is past j s.stage stage-is) (over-is past j s.stage stage-is)) ∙ h)

    bound-told : IsBoundAsTold v j spot_now
    bound-told =
        inputs-are_told gives (run_view r.run) past x.name (levels_in v.flow) v (sit-there gives r xs st i x v at told).in_run
        spot_now j (viewed gives r xs st i x v at told n s j it)

    pub binds-bounced : (b : Bool) → BindsFault v s b → b ≡ is_bounced j.ending
    binds-bounced b h = bound-told.fault b h ∙ bound-told.bounced

    module _ (t : Name × Step) (at_step : slice_get v.flow.steps s.step ≡ Some t) where
      spot-is : spot_now ≡ (t.0, s.place)
      spot-is = ap (λ o. (option_map_or (λ (u : Name × Step). u.0) o [], s.place)) at_step

      pub binds : BindsFault v s (is_bounced j.ending)
      binds =
          let o = (there gives r xs st i x v at told).opened in
          let keeps = (is-open gives r xs st i x v at told).keeps in
          let b = is_faulty_now o.itself.frame.intakes (s.step, s.place) in
          let holds : HoldsError v spot_now b =
          subst (λ c. HoldsError v c b) (sym spot-is)
          (said-holds (run_view r.run).flows _ r.pool o.itself.frame v keeps s.step t at_step s.place
          (subst (λ c. In c v.jobs) spot-is (spot-known gives r xs st i x v at told n s it.seat))) in
          subst (HoldsError v spot_now) (binds-bounced b holds) holds

      -- ---- what goes on

      by-seat : GoesOnBySeat gives (run_view r.run) past x.seats s t.1 j
      by-seat =
          going-by_seat gives (run_view r.run) past x.name (levels_in v.flow) v x.seats (sit-there gives r xs st i x v at told) n
          s j it.seat (viewed gives r xs st i x v at told n s j it) t at_step

      next-seat : HasNextBySeat past s t.1 j
      next-seat =
          next-by_seat gives (run_view r.run) past x.name (levels_in v.flow) v x.seats (sit-there gives r xs st i x v at told) n s
          j it.seat (viewed gives r xs st i x v at told n s j it) t at_step

      by-next : GoesOnBy gives (run_view r.run) past j
      by-next = going-by_next gives (run_view r.run) levels_in past xs st.stand j it.job.listed

      abbrev fewer : Bool
      fewer = nat_lt (running_count s.step x.seats) t.1.jobs

      abbrev Begins : Type 0
      Begins = CanBegin v x.seats t.1.jobs s

      begins-now : Begins
          → (is_waiting s.stage ≡ true) × (is_ready m past j ≡ true) × (is_bounced j.ending ≡ false) × (fewer ≡ true)
      begins-now c =
          let now = ready-run c.1 in
          (ready-waiting now, now, sym (binds-bounced false c.2), lt-ltb (running_count s.step x.seats) t.1.jobs c.0)

      -- one that goes on is idle, was put aside or can begin
      abbrev GoesOn : Type 0
      GoesOn = (is_idle s.stage ≡ true) ⊎ ((is_aside s.stage ≡ true) ⊎ Begins)

      by-going : GoesOn → may_go_on m past j ≡ true
      by-going (inl e) =
          by-seat.goes_on
          ∙ or_left (is_idle s.stage || is_aside s.stage)
          (is_waiting s.stage && is_ready m past j && not (is_bounced j.ending) && fewer)
          (or_left (is_idle s.stage) (is_aside s.stage) e)
      by-going (inr (inl e)) =
          by-seat.goes_on
          ∙ or_left (is_idle s.stage || is_aside s.stage)
          (is_waiting s.stage && is_ready m past j && not (is_bounced j.ending) && fewer)
          (or_right (is_idle s.stage) (is_aside s.stage) e)
      by-going (inr (inr c)) =
          let w = begins-now c in
          by-seat.goes_on
          ∙ or_right (is_idle s.stage || is_aside s.stage)
          (is_waiting s.stage && is_ready m past j && not (is_bounced j.ending) && fewer)
          (λ k. w.0 k && w.1 k && not (w.2 k) && w.3 k)

      going-by : may_go_on m past j ≡ true → GoesOn
      going-by h =
          on_or (is_idle s.stage || is_aside s.stage)
          (is_waiting s.stage && is_ready m past j && not (is_bounced j.ending) && fewer) (sym by-seat.goes_on ∙ h)
          (λ e. on_or (is_idle s.stage) (is_aside s.stage) e (λ q. inl q) (λ q. inr (inl q)))
          (λ e.
          let a = first_so (is_waiting s.stage && is_ready m past j && not (is_bounced j.ending)) fewer e in
          let b = first_so (is_waiting s.stage && is_ready m past j) (not (is_bounced j.ending)) a in
          let good = not-true (is_bounced j.ending)
          (second_so (is_waiting s.stage && is_ready m past j) (not (is_bounced j.ending)) a) in
          inr
          (inr (
            ltb-true (running_count s.step x.seats) t.1.jobs
                (second_so (is_waiting s.stage && is_ready m past j && not (is_bounced j.ending)) fewer e),
            ready-seat (second_so (is_waiting s.stage) (is_ready m past j) b),
            subst (BindsFault v s) good binds,
          )))

      -- ---- what passes

      abbrev sought : Seeking → Bool
      sought k = is_sought (tries_of t.1) k

      some-next : is_some (next_ask past j) ≡ true → next_ask past j ≡ None → ⊥
      some-next h e = true≠false (sym h ∙ ap is_some e)

      pub offered-next : passes gives r seeking.Offers j ≡ true → is_some (next_ask past j) ≡ true
      offered-next h =
          on_test (is_some (next_ask past j)) (λ e. e) (λ e. absurd (true≠false (sym h ∙ by-next.not_offered e)))

      pub passes-going : (k : Seeking) → passes gives r k j ≡ true → may_go_on m past j ≡ true
      passes-going seeking.Offers h = sym (by-next.offered (offered-next h)) ∙ h
      passes-going seeking.All h = sym by-next.goes_on_is ∙ h

      -- so its flow isn't open
      pub passes-shut : (k : Seeking) → passes gives r k j ≡ true → has_open_instance past j ≡ true → ⊥
      passes-shut k h e =
          true≠false
          (sym (passes-going k h)
          ∙ opener-waits gives AnyNumber m (document-whole gives (run_view r.run)) past st.stand.legal j it.job.listed e)

      -- one on offer is idle, or it waits and binds no fault
      pub offered-either : passes gives r seeking.Offers j ≡ true
          → (is_idle s.stage ≡ true) ⊎ ((is_waiting s.stage ≡ true) × (is_bounced j.ending ≡ false))
      offered-either h =
          on_either (going-by (passes-going seeking.Offers h)) (λ e. inl e)
          (λ q.
          on_either q (λ e. absurd (some-next (offered-next h) (next-seat.aside e).0))
          (λ c. let w = begins-now c in inr (w.0, w.2)))

      pub passes-by : (k : Seeking) → passes gives r k j ≡ true → GoesOnAt v x.seats t.1.jobs (asides k) (sought k) s
      passes-by seeking.Offers h =
          let some = offered-next h in
          on_either (going-by (passes-going seeking.Offers h)) (λ e. inl e)
          (λ q.
          on_either q (λ e. absurd (some-next some (next-seat.aside e).0))
          (λ c.
          let w = begins-now c in
          inr (inr (sought-first t.1.activities ∙ sym (next-seat.waits w.0 w.2).0 ∙ some, c))))
      passes-by seeking.All h =
          on_either (going-by (passes-going seeking.All h)) (λ e. inl e)
          (λ q. on_either q (λ e. inr (inl (refl, e))) (λ c. inr (inr (refl, c))))

      pub by-passes : (k : Seeking) → GoesOnAt v x.seats t.1.jobs (asides k) (sought k) s → passes gives r k j ≡ true
      by-passes seeking.Offers (inl e) = by-next.offered (next-seat.idle e) ∙ by-going (inl e)
      by-passes seeking.Offers (inr (inl e)) = from-false_true e.0
      by-passes seeking.Offers (inr (inr c)) =
          let w = begins-now c.1 in
          by-next.offered ((next-seat.waits w.0 w.2).0 ∙ sym (sought-first t.1.activities) ∙ c.0)
          ∙ by-going (inr (inr c.1))
      by-passes seeking.All (inl e) = by-next.goes_on_is ∙ by-going (inl e)
      by-passes seeking.All (inr (inl e)) = by-next.goes_on_is ∙ by-going (inr (inl e.1))
      by-passes seeking.All (inr (inr c)) = by-next.goes_on_is ∙ by-going (inr (inr c.1))

      -- ---- it may begin

      -- where a seat of this number waits it is this one
      seat-ready : (is_waiting s.stage ≡ true → IsReadySeat v s) → WaitsReady v x.seats n
      seat-ready h u e w =
          let same = same_Some s u (sym it.seat ∙ e) in
          subst (IsReadySeat v) same (h (subst (λ c. is_waiting c.stage ≡ true) (sym same) w))

      module _ (limit step number : ℕ) (numbered : IsNumber gives r xs number i n x s j) (of_step : s.step ≡ step)
          (withs begins : Bool)
          (first : (k : ℕ) (u : Seat) → slice_get x.seats k ≡ Some u → u.step ≡ step → GoesOnAt v x.seats limit withs begins u
          → place_before u.place s.place ≡ false)
        where
          pub may-begin : GoesOnAt v x.seats limit withs begins s → MayBegin gives r xs number j
          may-begin (inl e) = record {
            outer = i;
            number = n;
            instance = x;
            seat = s;
            is_number = numbered;
            view = v;
            is_open = told;
            ready = seat-ready (λ w. absurd (idle-waits s.stage e w));
            out = λ h.
                inr (
                  step,
                  record {
                    seat = s;
                    is = record { there = it.seat; of_step = of_step; idle = e };
                    first = λ k u q. sym (place-is u.place s.place) ∙ first k u q.there q.of_step (inl q.idle);
                  },
                );
            nest = λ h. absurd (some-next (next-seat.idle e) h);
          }
          may-begin (inr (inl e)) = record {
            outer = i;
            number = n;
            instance = x;
            seat = s;
            is_number = numbered;
            view = v;
            is_open = told;
            ready = seat-ready (λ w. absurd (aside-waits s.stage e.1 w));
            out = λ h. absurd (h (next-seat.aside e.1).0);
            nest = λ h.
                inr (
                  step,
                  record {
                    seat = s;
                    is = record { there = it.seat; of_step = of_step; aside = e.1 };
                    first = λ k u q. sym (place-is u.place s.place) ∙ first k u q.there q.of_step (inr (inl (e.0, q.aside)));
                  },
                );
          }
          may-begin (inr (inr c)) =
              let waits = waits-at x.seats n s it.seat ∙ ready-waiting (ready-run c.1.1) in
              record {
                outer = i;
                number = n;
                instance = x;
                seat = s;
                is_number = numbered;
                view = v;
                is_open = told;
                ready = seat-ready (λ w. c.1.1);
                out = λ h. inl waits;
                nest = λ h. inl waits;
              }
