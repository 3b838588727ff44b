-- What is recorded of a run: of its main instance while it is open, as far as it is known, and all of it at the end.
use Rattle.std.specs.Option.{option_map_or}
use Rattle.std.specs.Prelude.{◌≡◌, refl, ◌+◌, ◌<◌, ◌≤◌, ◌⊎◌, ℕ, zero, suc, Bool, true, false, filter, is_none, List, [], ◌∷◌, map, Option, None, Some, length, option_map, slice_get, ◌++◌, take}
use Rattle.std.proofs.Common.{ap, ap₂, arith, get_or, inl, inr, subst, sym, ◌∙◌}
use Rattle.std.proofs.lemmas.Bool.{true≢false, or_right}
use Rattle.std.proofs.lemmas.List.{map-append, take_all}
use Rattle.std.proofs.lemmas.Option.{none-some, same_Some, slice_get_cases, slice_get_within}
use Rattle.tv_lemmas.specs.Members.{In}
use Rattle.tv_value.specs.Nested.{Place}
use Rattle.tv_value.specs.Orders.{named}
use Rattle.tv_value.specs.Values.{Name}
use Rattle.tv_gate.specs.Outcomes.{Giving}
use Rattle.tv_flow.specs.Flows.{Document, Step}
use Rattle.tv_naming.specs.Numbers.{position}
use Rattle.tv_naming.proofs.FormedParts.{steps-ascend}
use Rattle.tv_instances.proofs.framing_turns.Ranks.{number-of}
use Rattle.tv_model.specs.Jobs.{Job}
use Rattle.tv_model.specs.Meanings.{meaning}
use Rattle.tv_history.specs.Entries.{History}
use Rattle.tv_history.specs.Histories.{is_settled}
use Rattle.tv_model.specs.instance.Events.{has_result, is_taken}
use Rattle.tv_model.specs.instance.Legality.{AreLegal}
use Rattle.tv_instances.specs.FramingViews.{View}
use Rattle.tv_instances.proofs.views.Jobs.{ends-known, ends-told}
use Rattle.tv_instances.proofs.views.LawLemmas.{known_jobs-are_there, taken-is_running}
use Rattle.tv_instances.proofs.views.Runs.{Runs, in-all, runs, steps_here}
use Rattle.tv_instances.proofs.views.OwnDepths.{formed-flow}
use Rattle.tv_seats.specs.Seats.{Seat, place_at, stage_at, step_at}
use Rattle.tv_seats.specs.declared.stage.Stage.{Stage}
use Rattle.tv_seats.specs.declared.stage.Stage.TheVariants as stage
use Rattle.tv_instances.specs.seats.Seated.{IsStage, Sit, spot_of}
use Rattle.tv_instances.specs.seats.Seated.{HasEnded}
use Rattle.tv_instances.specs.Forest.{Instance, IsAt, IsMain, Stays}
use Rattle.tv_instances.proofs.runs.Entries.{by-name}
use Rattle.tv_check.specs.FlowPlanViews.{flow_plan_view}
use Rattle.tv_check.specs.Plans.{flow_plans}
use Rattle.tv_check.specs.RunViews.{run_view}
use Rattle.tv_check.specs.declared.plans.FlowPlan.{FlowPlan}
use Rattle.tv_flow.specs.Views.{flow_view}
use Rattle.tv_history.specs.Histories.{is_settled_name}
use Rattle.tv_model.specs.instance.Events.{known_by}
use Rattle.tv_history.specs.Runs.{past_of}
use Rattle.tv_lineage.specs.Lineages.{Record}
use Rattle.tv_lineage.specs.Members.{HaveSame}
use Rattle.tv_model.specs.records.Recorded.{main_records, record_of}
use Rattle.tv_model.specs.Lineages.{is_outermost, main_jobs}
use Rattle.tv_frame.specs.MainSteps.{main_steps}
use Rattle.tv_frame.specs.Views.{level_view}
use Rattle.tv_frame.specs.declared.level.Level.{Level}
use Rattle.tv_frame.specs.Tables.{levels_in}
use Rattle.tv_instances.specs.Standing.{IsOpen}
use Rattle.tv_instances.specs.declared.open.Open.{Open}
use Rattle.tv_traces.specs.KnownInRun.{AreJobsTold, AreLevelsTold}
use Rattle.tv_traces.specs.Settled.{settled_records}
use Rattle.tv_traces.proofs.Known.{main-known}
use Rattle.tv_lemmas.proofs.Members.{of-filter, of-map}
use Rattle.tv_traces.proofs.Records.{outermost}
use Rattle.tv_traces.specs.Sights.{job_view}
use Rattle.tv_traces.specs.Traced.{IsTracedSoFar}
use Rattle.tv_traces.specs.declared.settled.SettledJob.{SettledJob}
use Rattle.tv_run.specs.Standing.{IsKept, IsLife, IsOpenOf, OutsAre, StandsStill, run_of, seats_of}
use Rattle.tv_run.specs.declared.ended.Ended.{Ended}
use Rattle.tv_run.specs.declared.instances.Instance as code
use Rattle.tv_run.specs.declared.run.OpenRun.{OpenRun}
use Rattle.tv_run.proofs.JobLemmas.{seats-open}
use Rattle.tv_run.proofs.OutputLemmas.{main-plan}
use Rattle.tv_traces.specs.Seen.{AreKnownBy, Spot}
use Rattle.tv_instances.specs.stands.Seats.{is_over}
use Rattle.tv_run.specs.Tracing.{settled_spots}
use Rattle.tv_history.proofs.activities.Filtered.{filter-all}

-- ---- seats and spots

record IsSettledSeat (ss : List Seat) (n : ℕ) (q : Place) : Type 0 where
  number : ℕ
  seat : Seat
  there : slice_get ss number ≡ Some seat
  step : seat.step ≡ n
  place : seat.place ≡ q
  settled : is_over seat.stage ≡ true

of-spots : (ss : List Seat) (n : ℕ) (q : Place) → In {A = Spot} (n, q) (settled_spots ss) → IsSettledSeat ss n q
of-spots [] n q i = absurd i
of-spots (s ∷ ss) n q i = by (is_over s.stage) refl i (of-spots ss n q)
  where
    later : IsSettledSeat ss n q → IsSettledSeat (s ∷ ss) n q
    later x = record { number = suc x.number; seat = x.seat; there = x.there; step = x.step; place = x.place; settled = x.settled }

    rest : List Seat
    rest = filter (λ (t : Seat). is_over t.stage) ss

    by : (b : Bool) → is_over s.stage ≡ b → In {A = Spot} (n, q) (map {B = Spot} (λ (t : Seat). (t.step, t.place)) (Rattle.std.specs.Prelude.cond b (s ∷ rest) rest)) → (In {A = Spot} (n, q) (settled_spots ss) → IsSettledSeat ss n q) → IsSettledSeat (s ∷ ss) n q
    by true e (inl f) rec = record { number = 0; seat = s; there = refl; step = sym (ap (λ (y : Spot). y.0) f); place = sym (ap (λ (y : Spot). y.1) f); settled = e }
    by true e (inr j) rec = later (rec j)
    by false e j rec = later (rec j)

in-spots : (ss : List Seat) (k : ℕ) (s : Seat) → slice_get ss k ≡ Some s → is_over s.stage ≡ true → In {A = Spot} (s.step, s.place) (settled_spots ss)
in-spots [] k s e h = absurd (none-some s e)
in-spots (t ∷ ss) zero s e h =
    subst (λ (u : Seat). In {A = Spot} (s.step, s.place) (map {B = Spot} (λ (x : Seat). (x.step, x.place)) (Rattle.std.specs.Prelude.cond (is_over u.stage) (u ∷ rest) rest))) (sym (same_Some t s e))
    (subst (λ b. In {A = Spot} (s.step, s.place) (map {B = Spot} (λ (x : Seat). (x.step, x.place)) (Rattle.std.specs.Prelude.cond b (s ∷ rest) rest))) (sym h) (inl refl))
  where
    rest : List Seat
    rest = filter (λ (u : Seat). is_over u.stage) ss
in-spots (t ∷ ss) (suc k) s e h = by (is_over t.stage) (in-spots ss k s e h)
  where
    rest : List Seat
    rest = filter (λ (u : Seat). is_over u.stage) ss

    by : (b : Bool) → In {A = Spot} (s.step, s.place) (settled_spots ss) → In {A = Spot} (s.step, s.place) (map {B = Spot} (λ (x : Seat). (x.step, x.place)) (Rattle.std.specs.Prelude.cond b (t ∷ rest) rest))
    by true i = inr i
    by false i = i

in-mapped : {A B : Type 0} (f : A → B) (xs : List A) (k : ℕ) (x : A) → slice_get xs k ≡ Some x → In (f x) (map f xs)
in-mapped f [] k x e = absurd (none-some x e)
in-mapped f (y ∷ xs) zero x e = inl (ap f (sym (same_Some y x e)))
in-mapped f (y ∷ xs) (suc k) x e = inr (in-mapped f xs k x e)

of-mapped : {A B : Type 0} (f : A → B) (xs : List A) (y : B) → In y (map f xs) → (k : ℕ) × (x : A) × (slice_get xs k ≡ Some x) × (y ≡ f x)
of-mapped f [] y i = absurd i
of-mapped f (x ∷ xs) y (inl e) = (0, x, refl, e)
of-mapped f (x ∷ xs) y (inr i) = let r = of-mapped f xs y i in (suc r.0, r.1, r.2, r.3)

settled-so : (past : History) (j : Job) (x : Stage) → IsStage past j x → is_over x ≡ true → is_settled past j ≡ true
settled-so past j stage.Waiting g h = absurd (true≢false (sym h))
settled-so past j (stage.Out a t) g h = absurd (true≢false (sym h))
settled-so past j (stage.Idle a t) g h = absurd (true≢false (sym h))
settled-so past j (stage.Aside a) g h = absurd (true≢false (sym h))
settled-so past j (stage.Nested i) g h = absurd (true≢false (sym h))
settled-so past j stage.Settled g h = g.0

so-settled : (past : History) (j : Job) (x : Stage) → IsStage past j x → is_settled past j ≡ true → is_over x ≡ true
so-settled past j stage.Waiting g h = absurd (true≢false (sym h ∙ g.unsettled))
so-settled past j (stage.Out a t) g h = absurd (true≢false (sym h ∙ g.0.unsettled))
so-settled past j (stage.Idle a t) g h = absurd (true≢false (sym h ∙ g.0.unsettled))
so-settled past j (stage.Aside a) g h = absurd (true≢false (sym h ∙ g.0.unsettled))
so-settled past j (stage.Nested i) g h = absurd (true≢false (sym h ∙ g.unsettled))
so-settled past j stage.Settled g h = refl

-- ---- seat after seat

pub spots-with : (ss : List Seat) (k : ℕ) (s : Seat) → slice_get ss k ≡ Some s → is_over s.stage ≡ true → settled_spots (take (suc k) ss) ≡ settled_spots (take k ss) ++ (s.step, s.place) ∷ []
spots-with [] k s e h = absurd (none-some s e)
spots-with (t ∷ ss) zero s e h = subst (λ (u : Seat). map {B = Spot} (λ (x : Seat). (x.step, x.place)) (Rattle.std.specs.Prelude.cond (is_over u.stage) (u ∷ []) []) ≡ ((s.step, s.place) ∷ [])) (sym (same_Some t s e)) (ap (λ b. map {B = Spot} (λ (x : Seat). (x.step, x.place)) (Rattle.std.specs.Prelude.cond b (s ∷ []) [])) h)
spots-with (t ∷ ss) (suc k) s e h = by (is_over t.stage) (spots-with ss k s e h)
  where
    spots : Bool → List Seat → List Spot
    spots b us = map {B = Spot} (λ (x : Seat). (x.step, x.place)) (Rattle.std.specs.Prelude.cond b (t ∷ filter (λ (u : Seat). is_over u.stage) us) (filter (λ (u : Seat). is_over u.stage) us))

    by : (b : Bool) → settled_spots (take (suc k) ss) ≡ settled_spots (take k ss) ++ (s.step, s.place) ∷ [] → spots b (take (suc k) ss) ≡ spots b (take k ss) ++ (s.step, s.place) ∷ []
    by true f = ap (λ l. (t.step, t.place) ∷ l) f
    by false f = f

pub spots-without : (ss : List Seat) (k : ℕ) (s : Seat) → slice_get ss k ≡ Some s → is_over s.stage ≡ false → settled_spots (take (suc k) ss) ≡ settled_spots (take k ss)
spots-without [] k s e h = absurd (none-some s e)
spots-without (t ∷ ss) zero s e h = subst (λ (u : Seat). map {B = Spot} (λ (x : Seat). (x.step, x.place)) (Rattle.std.specs.Prelude.cond (is_over u.stage) (u ∷ []) []) ≡ []) (sym (same_Some t s e)) (ap (λ b. map {B = Spot} (λ (x : Seat). (x.step, x.place)) (Rattle.std.specs.Prelude.cond b (s ∷ []) [])) h)
spots-without (t ∷ ss) (suc k) s e h = by (is_over t.stage) (spots-without ss k s e h)
  where
    spots : Bool → List Seat → List Spot
    spots b us = map {B = Spot} (λ (x : Seat). (x.step, x.place)) (Rattle.std.specs.Prelude.cond b (t ∷ filter (λ (u : Seat). is_over u.stage) us) (filter (λ (u : Seat). is_over u.stage) us))

    by : (b : Bool) → settled_spots (take (suc k) ss) ≡ settled_spots (take k ss) → spots b (take (suc k) ss) ≡ spots b (take k ss)
    by true f = ap (λ l. (t.step, t.place) ∷ l) f
    by false f = f

-- ---- jobs gathered, seat after seat

seat-at : (ss : List Seat) (k : ℕ) → k < length ss → (s : Seat) × (slice_get ss k ≡ Some s)
seat-at ss k lt = by (slice_get_cases ss k).1
  where
    by : ((x : Seat) × (k < length ss) × (slice_get ss k ≡ Some x) × (get_or ss k x ≡ x)) ⊎ ((length ss ≤ k) × (slice_get ss k ≡ None)) → (s : Seat) × (slice_get ss k ≡ Some s)
    by (inl y) = (y.0, y.2)
    by (inr y) = absurd (omega (arith, lt, y.0))

module _ (ss : List Seat) (k : ℕ) (lt : k < length ss) (m : Bool) (told : option_map_or is_over (stage_at ss k) false ≡ m) where
  s : (t : Seat) × (slice_get ss k ≡ Some t)
  s = seat-at ss k lt

  its : is_over s.0.stage ≡ m
  its = ap (λ o. option_map_or (λ (t : Seat). is_over t.stage) o false) (sym s.1) ∙ mapped (slice_get ss k) ∙ told
    where
      mapped : (o : Option Seat) → option_map_or (λ (t : Seat). is_over t.stage) o false ≡ option_map_or is_over (option_map (λ (t : Seat). t.stage) o) false
      mapped None = refl
      mapped (Some t) = refl

  next : suc k ≡ k + 1
  next = omega arith

  module _ (js : List SettledJob) (before : map job_view js ≡ settled_spots (take k ss)) where
    pub not-gathered : m ≡ false → (us : List SettledJob) → us ≡ js → map job_view us ≡ settled_spots (take (k + 1) ss)
    not-gathered f us e =
        ap (map job_view) e ∙ before ∙ sym (spots-without ss k s.0 s.1 (its ∙ f)) ∙ ap (λ n. settled_spots (take n ss)) next

    pub gathered : m ≡ true → (j : SettledJob) → j.step ≡ step_at ss k → (q : Place) → j.place ≡ q → q ≡ place_at ss k → (us vs : List SettledJob) → us ≡ vs → vs ≡ js ++ j ∷ [] → map job_view us ≡ settled_spots (take (k + 1) ss)
    gathered t j step q of place us vs same e =
        ap (map job_view) (same ∙ e) ∙ map-append job_view js (j ∷ [])
        ∙ ap₂ (λ (a : List Spot) (b : Spot). a ++ b ∷ []) before
        (ap₂ {C = Spot} (λ a b. (a, b)) (step ∙ ap (λ o. option_map_or (λ (u : Seat). u.step) o 0) s.1) (of ∙ place ∙ ap (λ o. option_map_or (λ (u : Seat). u.place) o []) s.1))
        ∙ sym (spots-with ss k s.0 s.1 (its ∙ t)) ∙ ap (λ n. settled_spots (take n ss)) next

pub all-gathered : (ss : List Seat) (n : ℕ) → length ss ≤ n → (js : List SettledJob) → map job_view js ≡ settled_spots (take n ss) → map job_view js ≡ settled_spots ss
all-gathered ss n le js e = e ∙ ap settled_spots (take_all n ss le)

-- ---- the settled jobs are those that gave something

module _ (gives : Giving) (d : Document) (past : History) (levels : Name → ℕ) (v : View) (ss : List Seat) (sit : Sit gives d past [] levels v ss) where
  r : Runs gives d.flows (meaning gives d) past [] levels v
  r = runs gives d past [] levels v sit.in_run

  numbered : (n : ℕ) (t : Name × Step) → slice_get v.flow.steps n ≡ Some t → position t.0 v.flow.steps ≡ n
  numbered n t e = number-of v.flow.steps n t (steps-ascend v.flow (formed-flow d sit.in_run.formed sit.in_run.flow_name v.flow sit.in_run.is_flow)) e

  name-at : (s : Seat) (t : Name × Step) → slice_get v.flow.steps s.step ≡ Some t → spot_of v.flow.steps s ≡ (t.0, s.place)
  name-at s t e = ap (λ o. (option_map_or (λ (u : Name × Step). u.0) o [], s.place)) e

  -- of each seat the job settled where it gave something
  stands : (k : ℕ) (s : Seat) → slice_get ss k ≡ Some s → (j : Job) × IsStage past j s.stage × (is_settled past j ≡ has_result v.events (spot_of v.flow.steps s).0 s.place)
  stands k s e =
      let there : In (spot_of v.flow.steps s) v.jobs = subst (In (spot_of v.flow.steps s)) sit.jobs (in-mapped (spot_of v.flow.steps) ss k s e) in
      let j = known_jobs-are_there gives d past [] levels v sit.in_run (spot_of v.flow.steps s) there in
      (j.0, sit.stages k s j.0 e j.1, (taken-is_running gives d past [] levels v sit.in_run (spot_of v.flow.steps s) j.0 j.1).settled)

  pub jobs-told : AreJobsTold v (settled_spots ss)
  jobs-told = record { told = told; all = all }
    where
      told : (n : ℕ) (q : Place) → In {A = Spot} (n, q) (settled_spots ss) → (t : Name × Step) × (slice_get v.flow.steps n ≡ Some t) × (has_result v.events t.0 q ≡ true)
      told n q i =
          let x = of-spots ss n q i in
          let t = sit.steps x.number x.seat x.there in
          let j = stands x.number x.seat x.there in (
            t.0,
            ap (slice_get v.flow.steps) (sym x.step) ∙ t.1,
            ap₂ (has_result v.events) (ap (λ (y : Name × Place). y.0) (sym (name-at x.seat t.0 t.1))) (sym x.place) ∙ sym j.2 ∙ settled-so past j.0 x.seat.stage j.1 x.settled,
          )

      legal : AreLegal [] (steps_here gives d.flows (meaning gives d) past [] levels v r) v.events
      legal = in-all gives d.flows (meaning gives d) past [] levels v r (λ instance results fs. AreLegal instance fs v.events) r.frame.legal

      all : (n : ℕ) (t : Name × Step) (q : Place) → slice_get v.flow.steps n ≡ Some t → has_result v.events t.0 q ≡ true → In {A = Spot} (n, q) (settled_spots ss)
      all n t q e h =
          let known : In {A = Name × Place} (t.0, q) v.jobs =
          ends-known gives d.flows (meaning gives d) past [] levels v r (t.0, q)
          (ends-told [] (steps_here gives d.flows (meaning gives d) past [] levels v r) (t.0, q) v.events legal (or_right (is_taken v.events t.0 q) (has_result v.events t.0 q) h))
          in
          let s = of-mapped (spot_of v.flow.steps) ss (t.0, q) (subst (In {A = Name × Place} (t.0, q)) (sym sit.jobs) known) in
          let u = sit.steps s.0 s.1 s.2 in
          let here : ◌≡◌ {A = Name × Place} (t.0, q) (u.0.0, s.1.place) = s.3 ∙ name-at s.1 u.0 u.1 in
          let number : s.1.step ≡ n = sym (numbered s.1.step u.0 u.1) ∙ ap (λ (y : Name × Place). position y.0 v.flow.steps) (sym here) ∙ numbered n t e in
          let j = stands s.0 s.1 s.2 in
          let is : is_settled past j.0 ≡ true = j.2 ∙ ap₂ (has_result v.events) (ap (λ (y : Name × Place). y.0) (sym s.3)) (ap (λ (y : Name × Place). y.1) (sym here)) ∙ h in
          subst (λ (y : Spot). In y (settled_spots ss)) (ap₂ {C = Spot} (λ a b. (a, b)) number (ap (λ (y : Name × Place). y.1) (sym here)))
          (in-spots ss s.0 s.1 s.2 (so-settled past j.0 s.1.stage j.1 is))

-- ---- the main instance of a run

module _ (gives : Giving) (o : OpenRun) (st : StandsStill gives o) where
  abbrev d : Document
  d = run_view o.run

  abbrev past : History
  past = past_of (run_of o)

  abbrev pub x : Instance
  x = st.1.stand.main.0

  here : IsAt st.0 0 x
  here = st.1.stand.main.1

  main : IsMain d x
  main = st.1.stand.main.2

  pub first-code : (c : code.Instance) × (slice_get o.instances.items 0 ≡ Some c)
  first-code = by (slice_get_cases o.instances.items 0).1
    where
      low : 0 < length o.instances.items
      low = let e = st.1.fits.as_many in let h = slice_get_within st.0 0 x here in omega (arith, e, h)

      by : ((c : code.Instance) × (0 < length o.instances.items) × (slice_get o.instances.items 0 ≡ Some c) × (get_or o.instances.items 0 c ≡ c)) ⊎ ((length o.instances.items ≤ 0) × (slice_get o.instances.items 0 ≡ None)) → (c : code.Instance) × (slice_get o.instances.items 0 ≡ Some c)
      by (inl y) = (y.0, y.2)
      by (inr y) = absurd (omega (arith, low, y.0))

  -- once it has ended, each of its jobs is settled
  module _ (e : Ended) (are : o.outs ≡ Some e) where
    has-ended : HasEnded gives d past [] x.flow x.seats
    has-ended = subst (λ I. HasEnded gives d past I x.flow x.seats) main.unnamed (by x.view (subst (λ y. OutsAre gives d y (is_none x.view)) are (st.1.outs_are x here)).0 (st.1.stand.each 0 x here))
      where
        by : (w : Option View) → is_none w ≡ true → Stays gives d levels_in past x w → HasEnded gives d past x.name x.flow x.seats
        by None n h = h
        by (Some v) n h = absurd (true≢false (sym n))

    settled-job : (j : Job) → In j (meaning gives d).jobs → j.instance ≡ [] → is_settled_name (meaning gives d) past j.name ≡ true
    settled-job j i is =
        let s = has-ended.all j i is in
        by-name gives d past j i ∙ (has-ended.stages s.number s.seat j s.there s.is_its).0

    pub all-recorded : (rs : List Record) → HaveSame rs (main_records (meaning gives d)) → HaveSame rs (settled_records past (meaning gives d))
    all-recorded rs = subst (HaveSame rs) (sym (filter-all (λ (y : Record). is_settled_name (meaning gives d) past y.job) (main_records (meaning gives d)) each))
      where
        each : (y : Record) → In y (main_records (meaning gives d)) → is_settled_name (meaning gives d) past y.job ≡ true
        each y i =
            let j = of-map record_of y (main_jobs (meaning gives d)) i in
            let k = of-filter (λ (z : Job). is_outermost z.instance) j.0 (meaning gives d).jobs j.1 in
            ap (λ (z : Record). is_settled_name (meaning gives d) past z.job) j.2 ∙ settled-job j.0 k.0 (outermost j.0.instance k.1)

  -- while it is open, what is told of it is all that is known
  module _ (none : o.outs ≡ None) (c : code.Instance) (at_code : slice_get o.instances.items 0 ≡ Some c) (n : ℕ) (plan : FlowPlan)
      (main_is : n ≡ position d.main d.flows) (there : slice_get (flow_plans d) n ≡ Some (flow_plan_view plan)) where
    pub view : (v : View) × (x.view ≡ Some v)
    view = by x.view refl (subst (λ y. OutsAre gives d y (is_none x.view)) none (st.1.outs_are x here))
      where
        by : (w : Option View) → x.view ≡ w → is_none w ≡ false → (v : View) × (x.view ≡ Some v)
        by None e h = absurd (true≢false h)
        by (Some v) e h = (v, e)

    kept : IsKept o 0 c x
    kept = st.1.fits.kept 0 c x at_code here

    pub life : IsOpenOf o c x view.0
    life = subst (IsLife o c x) view.1 kept.life

    stays : (view.0.flow ≡ x.flow) × Sit gives d past [] (levels_in x.flow) view.0 x.seats
    stays = subst (λ I. (view.0.flow ≡ x.flow) × Sit gives d past I (levels_in x.flow) view.0 x.seats) main.unnamed (subst (Stays gives d levels_in past x) view.1 (st.1.stand.each 0 x here))

    flow-is : named d.main d.flows ≡ Some (flow_view plan.flow)
    flow-is = main-plan d n (flow_plan_view plan) main_is there

    same-flow : flow_view plan.flow ≡ x.flow
    same-flow = same_Some (flow_view plan.flow) x.flow (sym flow-is ∙ main.is_flow)

    open-is : IsOpen d plan o.pool life.itself view.0
    open-is = life.is_open plan same-flow

    pub traced-so_far : (p : Open) (ps : List Open) → c.open.items ≡ p ∷ ps → (ls : List Level) → map level_view ls ≡ p.levels.settled → (js : List SettledJob) → map job_view js ≡ settled_spots p.seats.seats → IsTracedSoFar (known_by [] view.0.events) (is_settled_name (meaning gives d) past) gives d (flow_view plan.flow) (map level_view ls) (map job_view js)
    traced-so_far p ps first ls levels js jobs =
        let same : life.itself ≡ p = first-same life.itself p [] ps (sym life.there ∙ first) in
        let seats : p.seats.seats ≡ x.seats = ap (λ (y : Open). y.seats.seats) (sym same) ∙ seats-first ∙ kept.seats in
        let told : AreLevelsTold view.0 (map level_view ls) =
        subst (AreLevelsTold view.0) (sym (levels ∙ ap (λ (y : Open). y.levels.settled) (sym same)))
        (record { fit = open-is.kept.fit; faults = open-is.kept.faults; all = open-is.kept.all })
        in
        let done : AreJobsTold view.0 (map job_view js) =
        subst (AreJobsTold view.0) (sym (jobs ∙ ap settled_spots seats)) (jobs-told gives d past (levels_in x.flow) view.0 x.seats stays.1)
        in
        record {
          flow_is = record { formed = st.1.stand.formed; accepted = o.run.kept.0; is_main = flow-is };
          known_are =
              subst (λ f. AreKnownBy (known_by [] view.0.events) (is_settled_name (meaning gives d) past) f (main_steps (meaning gives d)) (map level_view ls) (map job_view js)) (stays.0 ∙ sym same-flow)
              (main-known gives d past (levels_in x.flow) view.0 stays.1.in_run (map level_view ls) (map job_view js) told done);
        }
      where
        first-same : {A : Type 0} (a b : A) (as' bs : List A) → a ∷ as' ≡ b ∷ bs → a ≡ b
        first-same a b as' bs e = cc

        seats-first : life.itself.seats.seats ≡ seats_of c
        seats-first = sym (seats-open c life.itself [] life.there)
