-- What a job that goes on has next, as its stage and its step tell: an ask, or a flow.
use Rattle.std.specs.Option.{option_map_or}
use Rattle.std.specs.Prelude.{◌≡◌, refl, ℕ, ◌<◌, ◌≤◌, Bool, true, false, not, ◌&&◌, ◌||◌, nat_lt, List, [], ◌∷◌, None, Option, Some, is_some, length, map, slice_get, ◌⊎◌}
use Rattle.std.proofs.Common.{ap, arith, inl, inr, sym, ◌∙◌}
use Rattle.std.proofs.lemmas.Bool.{leb-true, and_parts}
use Rattle.std.proofs.lemmas.List.{length-map}
use Rattle.std.proofs.lemmas.Option.{same_Some}
use Rattle.std.specs.Cmp.{first_so, second_so}
use Rattle.tv_lemmas.proofs.Cases.{on_either, on_test}
use Rattle.tv_lemmas.proofs.Options.{not_some-none}
use Rattle.tv_value.specs.Activities.{Activity, nested, service}
use Rattle.tv_value.specs.Orders.{named}
use Rattle.tv_value.specs.Values.{Name}
use Rattle.tv_gate.specs.Outcomes.{Giving}
use Rattle.tv_flow.specs.Flows.{Document, Flow, Step}
use Rattle.tv_flow.specs.Formed.{is_formed}
use Rattle.tv_naming.proofs.FormedParts.{step-at}
use Rattle.tv_dispatch.specs.Plans.{kind_of}
use Rattle.tv_check.specs.RunViews.{run_view}
use Rattle.tv_model.specs.Jobs.{Job}
use Rattle.tv_model.specs.Made.{Meaning}
use Rattle.tv_model.specs.Meanings.{meaning}
use Rattle.tv_model.specs.Turns.{is_bounced}
use Rattle.tv_model.proofs.Tests.{true≠false}
use Rattle.tv_history.specs.Entries.{History}
use Rattle.tv_history.specs.Histories.{is_ready, may_go_on, next_ask}
use Rattle.tv_history.specs.order.Moments.{goes_on}
use Rattle.tv_instances.specs.FramingViews.{View}
use Rattle.tv_frame.specs.Tables.{levels_in}
use Rattle.tv_seats.specs.Firsts.{MayNest}
use Rattle.tv_seats.specs.Seats.{Seat, running_count, stands}
use Rattle.tv_seats.specs.Stages.{is_aside, is_idle, is_waiting}
use Rattle.tv_seats.specs.declared.stage.Stage.{Stage}
use Rattle.tv_seats.specs.declared.stage.Stage.TheVariants as stage
use Rattle.tv_instances.specs.seats.Seated.{Sit}
use Rattle.tv_instances.specs.stands.Offers.{HasNextBySeat, begins_with_service, is_service_first}
use Rattle.tv_instances.proofs.stands.Next.{next-by_seat}
use Rattle.tv_instances.proofs.stands.Offers.{going-by_seat}
use Rattle.tv_instances.specs.forest_tries.Steps.{IsOwnStep}
use Rattle.tv_instances.proofs.views.OwnDepths.{formed-flow}
use Rattle.tv_instances.proofs.forest_firsts.Quiet.{going-by_next}
use Rattle.tv_instances.specs.Forest.{Instance, Instances, IsJobAt}
use Rattle.tv_history.specs.Runs.{past_of}
use Rattle.tv_instances.specs.declared.firsts.Seeking.TheVariants as seeking
use Rattle.tv_run.specs.Looks.{tries_of}
use Rattle.tv_run.specs.Settlements.{has_flow_next}
use Rattle.tv_run.specs.Standing.{Stands, run_of}
use Rattle.tv_run.specs.Walking.{MayBegin, is_service_kind, is_sought}
use Rattle.tv_run.specs.declared.run.OpenRun.{OpenRun}
use Rattle.tv_run.proofs.Bounces as bounces
use Rattle.tv_run.proofs.JobLemmas.{IsKnownAs}
use Rattle.tv_run.proofs.Numbers.{known-number}

-- ---- options

some-unless : {A : Type 0} (o : Option A) → (o ≡ None → ⊥) → is_some o ≡ true
some-unless None h = absurd (h refl)
some-unless (Some x) h = refl

-- ---- steps

-- those that begin with a service are sought for offers
sought-first : (s : Step) → is_sought (tries_of s) seeking.Offers ≡ begins_with_service s
sought-first s = by s.activities
  where
    by : (as' : List Activity) → option_map_or is_service_kind (slice_get (map kind_of as') 0) false ≡ is_service_first as'
    by [] = refl
    by (service n ∷ as') = refl
    by (nested f ∷ as') = refl

-- a step of a document has an activity
pub some-activity : (d : Document) → is_formed d ≡ true → (n : Name) (f : Flow) → named n d.flows ≡ Some f → (k : ℕ)
    (t : Name × Step) → slice_get f.steps k ≡ Some t → 0 < length (tries_of t.1).activities
some-activity d formed n f is k t at =
    let h = step-at f (formed-flow d formed n f is) k t at in
    let listed = (and_parts _ _ (and_parts _ _ (and_parts _ _ (and_parts _ _ (and_parts _ _ h).0).0).0).0).1 in
    let least = (and_parts _ _ (and_parts _ _ listed).0).0 in
    let one : 1 ≤ length t.1.activities = leb-true 1 (length t.1.activities) least in
    let many = length-map t.1.activities kind_of in
    omega (arith, one, many)

-- ---- a job that may begin

module _ (gives : Giving) (r : OpenRun) (xs : Instances) (st : Stands gives r xs) (k : ℕ) (j : Job)
    (may : MayBegin gives r xs k j) where
  abbrev d : Document
  d = run_view r.run

  abbrev past : History
  past = past_of (run_of r)

  abbrev m : Meaning
  m = meaning gives d

  abbrev x : Instance
  x = may.instance

  abbrev s : Seat
  s = may.seat

  abbrev v : View
  v = may.view

  abbrev is : IsJobAt gives d xs may.outer may.number x s j
  is = may.is_number.is_job

  -- its step
  abbrev pub step : Name × Step
  step = (known-number gives r xs st k may.outer may.number x s j may.is_number).0

  pub known : IsKnownAs r xs k may.outer may.number x s step
  known = (known-number gives r xs st k may.outer may.number x s j may.is_number).1

  pub same-flow : v.flow ≡ x.flow
  same-flow = bounces.same-flow gives d past xs st.stand may.outer may.number x s j v is may.is_open

  pub sit : Sit gives d past x.name (levels_in v.flow) v x.seats
  sit = bounces.sit gives d past xs st.stand may.outer may.number x s j v is may.is_open

  pub at-step : slice_get v.flow.steps s.step ≡ Some step
  at-step = ap (λ (f : Flow). slice_get f.steps s.step) same-flow ∙ known.step

  pub own : IsOwnStep gives d j step.1
  own = bounces.own gives d past xs st.stand may.outer may.number x s j v is may.is_open step at-step

  pub activities : 0 < length (tries_of step.1).activities
  activities = some-activity d sit.in_run.formed sit.in_run.flow_name v.flow sit.in_run.is_flow s.step step at-step

  next : HasNextBySeat past s step.1 j
  next =
      next-by_seat gives d past x.name (levels_in v.flow) v x.seats sit may.number s j is.seat
      (bounces.it gives d past xs st.stand may.outer may.number x s j v is may.is_open) step at-step

  -- one whose flow may be opened waits, or was put aside
  stands-here : (P : Stage → Bool) → stands P x.seats may.number ≡ P s.stage
  stands-here P = ap (λ o. option_map_or (λ (u : Seat). P u.stage) o false) is.seat

  pub waits-or-aside : MayNest x.seats may.number → (is_waiting s.stage ≡ true) ⊎ (is_aside s.stage ≡ true)
  waits-or-aside (inl h) = inl (sym (stands-here is_waiting) ∙ h)
  waits-or-aside (inr f) =
      let a = f.1 in
      inr (ap (λ (u : Seat). is_aside u.stage) (same_Some s a.seat (sym is.seat ∙ a.is.there)) ∙ a.is.aside)

  pub neither : (y : Stage) → s.stage ≡ y → is_waiting y ≡ false → is_aside y ≡ false → next_ask past j ≡ None → ⊥
  neither y e w a none =
      on_either (waits-or-aside (may.nest none)) (λ h. true≠false (sym h ∙ ap is_waiting e ∙ w))
      (λ h. true≠false (sym h ∙ ap is_aside e ∙ a))

  -- ---- that goes on

  module _ (goes : goes_on gives d past j ≡ true) where
    may-go : may_go_on m past j ≡ true
    may-go = sym (going-by_next gives d levels_in past xs st.stand j is.job.listed).goes_on_is ∙ goes

    -- where it waits it isn't bounced
    abbrev few : Bool
    few = nat_lt (running_count s.step x.seats) step.1.jobs

    abbrev goes-at : Stage → Bool
    goes-at y =
        is_idle y || is_aside y || (is_waiting y && is_ready m past j && not (is_bounced j.ending) && few)

    sound-at : (y : Stage) → is_waiting y ≡ true → goes-at y ≡ true → is_bounced j.ending ≡ false
    sound-at stage.Waiting w h =
        on_test (is_bounced j.ending)
        (λ b.
        absurd
        (true≠false
        (sym
        (second_so (is_ready m past j) (not (is_bounced j.ending))
        (first_so (is_ready m past j && not (is_bounced j.ending)) few h))
        ∙ ap not b)))
        (λ b. b)
    sound-at (stage.Out a u) w h = absurd (true≠false (sym w))
    sound-at (stage.Idle a u) w h = absurd (true≠false (sym w))
    sound-at (stage.Aside a) w h = absurd (true≠false (sym w))
    sound-at (stage.Nested i) w h = absurd (true≠false (sym w))
    sound-at stage.Settled w h = absurd (true≠false (sym w))

    sound : is_waiting s.stage ≡ true → is_bounced j.ending ≡ false
    sound w =
        sound-at s.stage w
        (sym
        (
        going-by_seat gives d past x.name (levels_in v.flow) v x.seats sit may.number s j is.seat
        (bounces.it gives d past xs st.stand may.outer may.number x s j v is may.is_open) step at-step
        ).goes_on
        ∙ may-go)

    begins : is_waiting s.stage ≡ true → is_some (next_ask past j) ≡ begins_with_service step.1
    begins w = (next.waits w (sound w)).0

    asks-at : (y : Stage) → s.stage ≡ y → has_flow_next (tries_of step.1) (Some y) ≡ false
        → is_some (next_ask past j) ≡ true
    asks-at stage.Waiting e h =
        begins (ap is_waiting e)
        ∙ on_test (begins_with_service step.1) (λ b. b)
        (λ b. absurd (true≠false (sym (ap not (sought-first step.1 ∙ b)) ∙ h)))
    asks-at (stage.Out a u) e h =
        some-unless (next_ask past j) (neither (stage.Out a u) e refl refl)
    asks-at (stage.Idle a u) e h = next.idle (ap is_idle e)
    asks-at (stage.Aside a) e h = absurd (true≠false h)
    asks-at (stage.Nested i) e h =
        some-unless (next_ask past j) (neither (stage.Nested i) e refl refl)
    asks-at stage.Settled e h = some-unless (next_ask past j) (neither stage.Settled e refl refl)

    none-at : (y : Stage) → s.stage ≡ y → has_flow_next (tries_of step.1) (Some y) ≡ true → next_ask past j ≡ None
    none-at stage.Waiting e h =
        not_some-none (next_ask past j)
        (begins (ap is_waiting e)
        ∙ on_test (begins_with_service step.1)
        (λ b. absurd (true≠false (sym h ∙ ap not (sought-first step.1 ∙ b)))) (λ b. b))
    none-at (stage.Out a u) e h = absurd (true≠false (sym h))
    none-at (stage.Idle a u) e h = absurd (true≠false (sym h))
    none-at (stage.Aside a) e h = (next.aside (ap is_aside e)).0
    none-at (stage.Nested i) e h = absurd (true≠false (sym h))
    none-at stage.Settled e h = absurd (true≠false (sym h))

    -- it has an ask next, or a flow
    pub asks-next : has_flow_next (tries_of step.1) (Some s.stage) ≡ false → is_some (next_ask past j) ≡ true
    asks-next h = asks-at s.stage refl h

    pub none-next : has_flow_next (tries_of step.1) (Some s.stage) ≡ true → next_ask past j ≡ None
    none-next h = none-at s.stage refl h

    -- which it opens
    pub opens-next : next_ask past j ≡ None → is_some j.opens ≡ true
    opens-next none =
        on_either (waits-or-aside (may.nest none))
        (λ w. (next.waits w (sound w)).1 (sym (begins w) ∙ ap is_some none))
        (λ a. (next.aside a).1)
