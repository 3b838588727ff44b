-- An open instance of a run that stands: its code, its seats and jobs, and its steps in turn.
use Rattle.std.specs.Prelude.{◌≡◌, ℕ, ◌+◌, ◌<◌, true, List, [], ◌∷◌, ◌++◌, Some, length, map, slice_get}
use Rattle.std.proofs.Common.{ap, get_or, subst, sym, ◌∙◌}
use Rattle.std.proofs.lemmas.List.{length-map}
use Rattle.std.proofs.lemmas.Option.{get_or_from_slice_get, same_Some, slice_get_within}
use Rattle.tv_lemmas.specs.Members.{In}
use Rattle.tv_lemmas.proofs.Lists.{get-within, in-behind}
use Rattle.tv_lemmas.proofs.Members.{get-in, in-slice}
use Rattle.tv_value.specs.Values.{JobName, Name}
use Rattle.tv_gate.specs.Outcomes.{Giving}
use Rattle.tv_flow.specs.Flows.{Document, Flow, Step}
use Rattle.tv_flow.specs.Formed.{is_ascending}
use Rattle.tv_flow.specs.Views.{flow_view}
use Rattle.tv_naming.specs.Numbers.{position}
use Rattle.tv_check.specs.RunViews.{run_view}
use Rattle.tv_check.specs.declared.plans.FlowPlan.{FlowPlan}
use Rattle.tv_outputs.specs.Known.{Nodes}
use Rattle.tv_model.specs.Jobs.{Job}
use Rattle.tv_history.specs.Entries.{History}
use Rattle.tv_instances.specs.FramingViews.{View}
use Rattle.tv_frame.specs.Tables.{levels_in}
use Rattle.tv_frame.proofs.Keeping.{kept-wired}
use Rattle.tv_seats.specs.Seats.{Seat}
use Rattle.tv_instances.specs.framing_turns.FirstReady.{by_falling_rank}
use Rattle.tv_instances.proofs.framing_turns.Ranks.{at-in, has-number, number-of, numbers-step}
use Rattle.tv_instances.specs.views.InRun.{IsJobThere}
use Rattle.tv_instances.specs.seats.Seated.{Sit, spot_of}
use Rattle.tv_instances.specs.stands.Seats.{IsJobOf}
use Rattle.tv_instances.proofs.stands.Seats.{seat-job}
use Rattle.tv_instances.proofs.stands.Told.{steps-rise}
use Rattle.tv_instances.specs.Forest.{Instance, Instances, IsAt, IsJobAt, Stays}
use Rattle.tv_history.specs.Runs.{past_of}
use Rattle.tv_instances.specs.Quiet.{AreGoing}
use Rattle.tv_instances.specs.Standing.{IsOpen, IsSome}
use Rattle.tv_instances.specs.declared.open.Open.{Open}
use Rattle.tv_run.specs.Standing.{IsKept, IsOpenOf, Stands, run_of}
use Rattle.tv_run.specs.declared.instances.Instance as code
use Rattle.tv_run.specs.declared.run.OpenRun.{OpenRun}
use Rattle.tv_run.proofs.JobLemmas.{instance-there, open-is, seats-open}
use Rattle.tv_run.proofs.PlanLemmas.{plan-there}

-- ---- plans

pub get-at : (ns : List ℕ) (n : ℕ) → n < length ns → slice_get ns n ≡ Some (get_or ns n 0)
get-at ns n low =
    let e = get-within ns n low in
    e.1 ∙ ap Some (sym (get_or_from_slice_get ns n e.0 0 e.1))

-- the code has instance i open as p
abbrev pub IsOpenedAs : OpenRun → ℕ → Open → Type 0
IsOpenedAs r i p =
    (c : code.Instance) → slice_get r.instances.items i ≡ Some c → (os : List Open) × (c.open.items ≡ p ∷ os)

-- ---- an open instance

module _ (gives : Giving) (r : OpenRun) (xs : Instances) (st : Stands gives r xs) (i : ℕ) (x : Instance) (v : View)
    (at : IsAt xs i x) (told : x.view ≡ Some v) where
  abbrev d : Document
  d = run_view r.run

  abbrev past : History
  past = past_of (run_of r)

  abbrev I : JobName
  I = x.name

  -- ---- by the laws

  stays : Stays gives d levels_in past x (Some v)
  stays = subst (Stays gives d levels_in past x) told (st.stand.each i x at)

  pub same-flow : v.flow ≡ x.flow
  same-flow = stays.0

  pub sit-there : Sit gives d past I (levels_in v.flow) v x.seats
  sit-there = subst (λ (f : Flow). Sit gives d past I (levels_in f) v x.seats) (sym same-flow) stays.1

  pub viewed : (n : ℕ) (s : Seat) (j : Job) → IsJobAt gives d xs i n x s j → IsJobOf gives d I v j s
  viewed n s j it = subst (λ (f : Flow). IsJobThere gives d I j (spot_of f.steps s)) (sym same-flow) it.job

  pub job-there : (n : ℕ) (s : Seat) → slice_get x.seats n ≡ Some s → (j : Job) × IsJobAt gives d xs i n x s j
  job-there n s e =
      let h = seat-job gives d past I (levels_in v.flow) v x.seats sit-there n s e in (
        h.job,
        record {
          instance = at;
          seat = e;
          job = subst (λ (f : Flow). IsJobThere gives d I h.job (spot_of f.steps s)) same-flow h.is_its;
        },
      )

  pub spot-known : (n : ℕ) (s : Seat) → slice_get x.seats n ≡ Some s → In (spot_of v.flow.steps s) v.jobs
  spot-known n s e =
      in-slice v.jobs n (spot_of v.flow.steps s)
      (seat-job gives d past I (levels_in v.flow) v x.seats sit-there n s e).known

  pub step-there : (n : ℕ) (s : Seat) → slice_get x.seats n ≡ Some s
      → (t : Name × Step) × (slice_get v.flow.steps s.step ≡ Some t)
  step-there n s e = sit-there.steps n s e

  -- ---- by the code

  pub record IsThere : Type 0 where
    pub itself : code.Instance
    pub is_itself : slice_get r.instances.items i ≡ Some itself
    pub kept : IsKept r i itself x
    pub opened : IsOpenOf r itself x v

  pub there : IsThere
  there =
      let c = instance-there r xs st.fits i x at in
      record { itself = c.0; is_itself = c.1; kept = c.2; opened = open-is r i c.0 x v c.2 told }

  pub seats-there : there.opened.itself.seats.seats ≡ x.seats
  seats-there = sym (seats-open there.itself there.opened.itself [] there.opened.there) ∙ there.kept.seats

  abbrev pub planned : (plan : FlowPlan) × (flow_view plan.flow ≡ x.flow)
  planned = plan-there r.run there.itself.flow x.flow there.kept.flow

  pub is-open : IsOpen d planned.0 r.pool there.opened.itself v
  is-open = there.opened.is_open planned.0 planned.1

  -- what the code has is so by the plan of its flow
  module _ (p : Open) (opened : IsOpenedAs r i p) where
    has-it : (os : List Open) × (there.itself.open.items ≡ p ∷ os)
    has-it = opened there.itself there.is_itself

    same-open : there.opened.itself ≡ p
    same-open =
        same_Some there.opened.itself p (ap (λ (l : List Open). slice_get l 0) (sym there.opened.there ∙ has-it.1))

    pub seats-at : p.seats.seats ≡ x.seats
    seats-at = subst (λ (o : Open). o.seats.seats ≡ x.seats) same-open seats-there

    pub open-at : (plan : FlowPlan) → flow_view plan.flow ≡ x.flow → IsOpen d plan r.pool p v
    open-at plan f = subst (λ o. IsOpen d plan r.pool o v) same-open (there.opened.is_open plan f)

    open-some : IsOpen d planned.0 r.pool p v
    open-some = open-at planned.0 planned.1

    pub leveled : (step : ℕ) → step < length x.flow.steps → step < length p.seats.levels
    leveled step low =
        subst (λ l. step < l)
        (sym
        (ap length open-some.levels ∙ length-map v.flow.steps (λ s. levels_in v.flow s.0)
        ∙ ap (λ (f : Flow). length f.steps) same-flow))
        low

    pub some-open : IsSome p
    some-open = (d, planned.0, r.pool, v, open-some)

    pub going-is : (going : List ℕ)
        → ((e : Document) (plan : FlowPlan) (pool : Nodes) (w : View) → IsOpen e plan pool p w
        → AreGoing w p.seats.seats going)
        → AreGoing v x.seats going
    going-is going f = subst (λ ss. AreGoing v ss going) seats-at (f d planned.0 r.pool v open-some)

  -- ---- its steps in turn

  rise : is_ascending (map (λ (s : Name × Step). s.0) v.flow.steps) ≡ true
  rise = steps-rise gives d past I (levels_in v.flow) v x.seats sit-there

  pub turn-at : (passed going : List ℕ) → passed ++ going ≡ by_falling_rank v.flow → (n : ℕ) → n < length going
      → slice_get (by_falling_rank v.flow) (length passed + n) ≡ Some (get_or going n 0)
  turn-at passed going same n low =
      ap (λ l. slice_get l (length passed + n)) (sym same) ∙ in-behind passed going n ∙ get-at going n low

  within : (n k : ℕ) → slice_get (by_falling_rank v.flow) n ≡ Some k → k < length v.flow.steps
  within n k e =
      let m = numbers-step v.flow.steps (λ s. position s.0 v.flow.steps) k (in-slice (by_falling_rank v.flow) n k e) in
      let u = at-in v.flow.steps m.0 m.1 in
      subst (λ l. l < length v.flow.steps) (sym (m.2 ∙ number-of v.flow.steps u.0 m.0 rise u.1))
      (slice_get_within v.flow.steps u.0 m.0 u.1)

  -- each that has its turn is a step
  pub step-within : (n k : ℕ) → slice_get (by_falling_rank v.flow) n ≡ Some k → k < length x.flow.steps
  step-within n k e =
      subst (λ (f : Flow). k < length f.steps) same-flow (within n k e)

  -- and each step of a seat has its turn
  pub turn-of : (n : ℕ) (s : Seat) → slice_get x.seats n ≡ Some s
      → (l : ℕ) × (slice_get (by_falling_rank v.flow) l ≡ Some s.step)
  turn-of n s e =
      let t = step-there n s e in
      let wired = kept-wired d.flows planned.0 r.pool there.opened.itself.frame v is-open.keeps in
      get-in s.step (by_falling_rank v.flow)
      (subst (λ l. In l (by_falling_rank v.flow)) (number-of v.flow.steps s.step t.0 rise t.1)
      (has-number v.flow.steps (λ u. position u.0 v.flow.steps) rise wired.ranked s.step t.0 t.1))
