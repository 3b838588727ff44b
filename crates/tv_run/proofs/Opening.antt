-- The first job that goes on opens its flow: which flow that is by number, that an instance of it can be added, and how the instances
-- go on with that.
use Rattle.std.specs.Prelude.{◌≡◌, refl, ℕ, suc, ◌<◌, Bool, true, false, if◌then◌else◌, List, [], ◌∷◌, None, Some, length, map, option_map, slice_get}
use Rattle.std.proofs.Common.{ap, subst, sym, ◌∙◌}
use Rattle.std.proofs.lemmas.Option.{none-some, same_Some}
use Rattle.tv_lemmas.proofs.Members.{each_in, found-in, in-slice}
use Rattle.tv_lemmas.proofs.Options.{is_some-some}
use Rattle.tv_value.specs.Orders.{named, same_name}
use Rattle.tv_value.specs.Values.{Name, Value}
use Rattle.tv_gate.specs.Outcomes.{Giving}
use Rattle.tv_flow.specs.Flows.{Document, Flow, Step}
use Rattle.tv_flow.specs.Formed.{is_formed}
use Rattle.tv_flow.specs.Views.{flow_view}
use Rattle.tv_strategy.specs.Origins.{plain}
use Rattle.tv_value.proofs.NameLemmas.{same_name-is}
use Rattle.tv_naming.proofs.Forms.{flows-named}
use Rattle.tv_check.specs.RunViews.{run_view}
use Rattle.tv_check.specs.declared.plans.FlowPlan.{FlowPlan}
use Rattle.tv_check.proofs.CycleLemmas.{IsThere, each-there}
use Rattle.tv_model.specs.Agreeing.{FlowAgrees}
use Rattle.tv_model.specs.Jobs.{Job}
use Rattle.tv_model.specs.RightDepths.{HaveTheseDepths}
use Rattle.tv_history.specs.Entries.{History, opened}
use Rattle.tv_history.specs.Histories.{is_legal_after}
use Rattle.tv_history.specs.order.Moments.{all_jobs, goes_on}
use Rattle.tv_instances.specs.Answers.{AreInputs}
use Rattle.tv_instances.specs.FramingViews.{View}
use Rattle.tv_frame.specs.Calls.{CanStart}
use Rattle.tv_frame.specs.Tables.{levels_in}
use Rattle.tv_instances.specs.runs.Opened.{CanBeOpened}
use Rattle.tv_instances.proofs.runs.Opened.{opened-fit}
use Rattle.tv_seats.specs.Firsts.{MayNest}
use Rattle.tv_seats.specs.Seats.{Seat}
use Rattle.tv_seats.specs.Stages.{is_waiting}
use Rattle.tv_seats.specs.declared.stage.Stage.{Stage}
use Rattle.tv_seats.specs.declared.stage.Stage.TheVariants as stage
use Rattle.tv_instances.specs.seats.GoingOn.{IsNew}
use Rattle.tv_instances.specs.seats.Seated.{spot_of}
use Rattle.tv_instances.specs.Entries.{IsFresh, IsTakenFor}
use Rattle.tv_instances.specs.Forest.{Instance, Instances, IsJobAt}
use Rattle.tv_instances.proofs.forest_firsts.Histories.{opening-is_legal}
use Rattle.tv_history.specs.Runs.{meant, past_of}
use Rattle.tv_instances.specs.Events.{WaitsReady}
use Rattle.tv_run.specs.Changes.{CanAdd, IsOpenHere, IsOpenedOn, TakesIn}
use Rattle.tv_run.specs.Jobs.{IsOfOpen, step_number_of}
use Rattle.tv_run.specs.Looks.{IsFlow, IsFlowNumber, OpensNumber}
use Rattle.tv_run.specs.Rooms.{IsAsBefore}
use Rattle.tv_run.specs.Settlements.{OpensFirst, opened_flow}
use Rattle.tv_run.specs.Standing.{Stands, run_of}
use Rattle.tv_run.specs.Walking.{IsNumber, MayBegin}
use Rattle.tv_run.specs.declared.instances.Numbered.{Numbered}
use Rattle.tv_run.specs.declared.run.OpenRun.{OpenRun}
use Rattle.tv_run.proofs.Bounces as bounces
use Rattle.tv_run.proofs.FlowsNext as next
use Rattle.tv_run.proofs.Itself.{its-code}
use Rattle.tv_run.proofs.JobLemmas.{IsKnownAs, low, step_number-is}
use Rattle.tv_run.proofs.Numbers.{job-named}
use Rattle.tv_run.proofs.PlannedJobs.{flow-opened}

-- ---- flows by name and by number

named-place : {A : Type 0} (n : Name) (xs : List (Name × A)) (a : A) → named n xs ≡ Some a
    → (k : ℕ) × (slice_get xs k ≡ Some (n, a))
named-place n [] a e = absurd (none-some a e)
named-place {A = A} n (x ∷ xs) a e = by (same_name n x.0) refl e (λ h. named-place n xs a h)
  where
    by : (b : Bool) → same_name n x.0 ≡ b → (if b then Some x.1 else named n xs) ≡ Some a
        → (named n xs ≡ Some a → (k : ℕ) × (slice_get xs k ≡ Some (n, a)))
        → (k : ℕ) × (slice_get (x ∷ xs) k ≡ Some (n, a))
    by true q h rec =
        let first = same_name-is n x.0 q in
        let here = same_Some x.1 a h in
        (0, λ i. Some (sym first i, here i))
    by false q h rec = let r = rec h in (suc r.0, r.1)

flow-named : (d : Document) → is_formed d ≡ true → (k : ℕ) (n : Name) (f : Flow) → slice_get d.flows k ≡ Some (n, f)
    → named n d.flows ≡ Some f
flow-named d formed k n f e =
    (
    each_in (IsThere d.flows) d.flows (each-there d.flows (flows-named d formed).rise) (n, f)
    (in-slice d.flows k (n, f) e)
    ).1

-- ---- the job of that number

module _ (gives : Giving) (r : OpenRun) (k : ℕ) (q : OpensFirst gives r k) where
  abbrev pub xs : Instances
  xs = q.goes.instances

  abbrev pub st : Stands gives r xs
  st = q.goes.stands

  abbrev pub j : Job
  j = q.goes.job

  abbrev pub may : MayBegin gives r xs k j
  may = q.goes.may

  abbrev pub d : Document
  d = run_view r.run

  abbrev past : History
  past = past_of (run_of r)

  abbrev pub x : Instance
  x = may.instance

  abbrev pub s : Seat
  s = may.seat

  abbrev pub v : View
  v = may.view

  abbrev is : IsJobAt gives d xs may.outer may.number x s j
  is = may.is_number.is_job

  abbrev pub step : Name × Step
  step = next.step gives r xs st k j may

  pub known : IsKnownAs r xs k may.outer may.number x s step
  known = next.known gives r xs st k j may

  goes-on : goes_on gives d past j ≡ true
  goes-on = (found-in (goes_on gives d past) (all_jobs gives d) j q.goes.first).1

  pub opener : (g : Name) × (j.opens ≡ Some g)
  opener = is_some-some j.opens (next.opens-next gives r xs st k j may goes-on q.no_ask)

  opened-first : opened_flow step.1 ≡ Some opener.0
  opened-first =
      flow-opened gives d levels_in past xs st.stand may.outer may.number x s j is step known.step opener.0 opener.1

  pub fit : CanBeOpened d j opener.0
  fit = opened-fit gives d j opener.0 st.stand.formed st.stand.accepted is.job.listed opener.1

  abbrev pub flow : Flow
  flow = fit.flow

  -- ---- its flow by number

  pub flow-there : OpensNumber d (opened_flow step.1) None → ⊥
  flow-there none =
      let p = named-place opener.0 d.flows flow fit.is_flow in
      subst (λ o. OpensNumber d o None) opened-first none p.0 (record { flow = flow; there = p.1 })

  pub flow-number : (f : ℕ) → OpensNumber d (opened_flow step.1) (Some f) → IsFlow d f flow
  flow-number f h =
      let p : IsFlowNumber d opener.0 f = subst (λ o. OpensNumber d o (Some f)) opened-first h in
      ap (option_map (λ (e : Name × Flow). e.1)) p.there
      ∙ ap Some
      (same_Some p.flow flow (sym (flow-named d st.stand.formed f opener.0 p.flow p.there) ∙ fit.is_flow))

  -- ---- where it sits

  pub step-so : (n : ℕ) → step_number_of r k ≡ Some n → n ≡ s.step
  step-so n e =
      same_Some n s.step (sym e ∙ step_number-is r xs st.fits k may.outer may.number x s step known)

  pub step-there : (n : ℕ) → step_number_of r k ≡ Some n → slice_get x.flow.steps n ≡ Some step
  step-there n e =
      ap (slice_get x.flow.steps) (step-so n e) ∙ known.step

  pub known-low : k < length r.jobs.items
  known-low = low r xs st.fits k may.outer may.number x s step known

  -- ---- an instance of it can be added

  module _ (values : List Value) (bound : AreInputs v (spot_of x.flow.steps s) values) where
    values-are : values ≡ map plain j.inputs
    values-are = bounces.inputs-are gives d past xs st.stand may.outer may.number x s j v is may.is_open values bound

    can-start : (plan : FlowPlan) → flow_view plan.flow ≡ flow → CanStart d.flows plan values
    can-start plan e = record {
      agrees = subst (FlowAgrees d.flows) (sym e) fit.agrees;
      right =
          subst (λ (f : Flow). HaveTheseDepths (map (λ i. i.1) f.inputs) values) (sym e)
          (subst (HaveTheseDepths (map (λ i. i.1) flow.inputs)) (sym values-are) fit.right);
    }

    pub can-add : (t : OpenRun) → IsAsBefore r t → t.run ≡ r.run → (f : ℕ) → OpensNumber d (opened_flow step.1) (Some f)
        → CanAdd t xs f flow (Some k) j.name values
    can-add t b run f h = record {
      fits = b.fits xs st.fits;
      is_flow = subst (λ a. IsFlow (run_view a) f flow) (sym run) (flow-number f h);
      named =
          ap (λ a. slice_get a.names k) b.same
          ∙ job-named gives r xs st k may.outer may.number x s j may.is_number;
      main = λ e. absurd (none-some k (sym e));
      start = λ plan e. subst (λ a. CanStart (run_view a).flows plan values) (sym run) (can-start plan e);
    }

    -- ---- the instance

    module _ (t : OpenRun) (run : t.run ≡ r.run) (y : Instance)
        (o : IsOpenedOn (run_view t.run) flow values j.name y) where
      pub fresh : IsFresh d levels_in j y o.view
      fresh = record {
        name = o.called;
        view = o.is_open;
        flow = o.of_flow ∙ sym o.flow;
        opened_by = record {
          of_job = record {
            flow_name = opener.0;
            opens = opener.1;
            is_flow = fit.is_flow ∙ ap Some (sym o.of_flow);
            names = o.names ∙ ap (λ (f : Flow). map (λ i. i.0) f.inputs) (sym o.of_flow);
            values = o.inputs ∙ values-are;
          };
          untold = o.new.untold;
        };
        new =
            subst (λ (f : Flow). IsNew d (levels_in f) o.view y.seats) (sym o.flow)
            (subst (λ a. IsNew (run_view a) (levels_in flow) o.view y.seats) run o.new);
      }

  -- ---- the job

  module _ (m : Numbered) (at : slice_get r.jobs.items k ≡ Some m) where
    same : record { instance = may.outer; number = may.number } ≡ m
    same = same_Some (record { instance = may.outer; number = may.number }) m (sym known.number ∙ at)

    pub known-so : IsKnownAs r xs k m.instance m.number x s step
    known-so = subst (λ (a : Numbered). IsKnownAs r xs k a.instance a.number x s step) same known

    pub number-so : IsNumber gives r xs k m.instance m.number x s j
    number-so = subst (λ (a : Numbered). IsNumber gives r xs k a.instance a.number x s j) same may.is_number

    pub ready-so : WaitsReady v x.seats m.number
    ready-so = subst (λ (a : Numbered). WaitsReady v x.seats a.number) same may.ready

    pub nest-so : MayNest x.seats m.number
    nest-so = subst (λ (a : Numbered). MayNest x.seats a.number) same (may.nest q.no_ask)

    pub here-so : IsOpenHere r xs m.instance x v
    here-so = record { fits = st.fits; there = known-so.there; is_open = may.is_open }

    pub of-open : IsOfOpen r k
    of-open =
        let c = its-code r m.instance xs x v here-so in
        record {
          job = m;
          there = at;
          itself = c.itself;
          instance = c.there;
          opened = c.opened.itself;
          is_open = c.opened.there;
        }

    -- what its frame is told
    module _ (t u : OpenRun) (ys : Instances) (inner : ℕ) (run : t.run ≡ r.run)
        (takes : TakesIn t u ys m.instance x v m.number (stage.Nested inner)) where
      taken-at : (y : Stage) → s.stage ≡ y → IsTakenFor d levels_in x s v takes.view y
      taken-at stage.Waiting e =
          subst (λ a. IsTakenFor (run_view a) levels_in x s v takes.view stage.Waiting) run
          (takes.waited s known-so.seat (ap is_waiting e))
      taken-at (stage.Aside a) e = takes.went_on s known-so.seat (ap is_waiting e)
      taken-at (stage.Out a n) e =
          absurd (next.neither gives r xs st k j may (stage.Out a n) e refl refl q.no_ask)
      taken-at (stage.Idle a n) e =
          absurd (next.neither gives r xs st k j may (stage.Idle a n) e refl refl q.no_ask)
      taken-at (stage.Nested i) e =
          absurd (next.neither gives r xs st k j may (stage.Nested i) e refl refl q.no_ask)
      taken-at stage.Settled e =
          absurd (next.neither gives r xs st k j may stage.Settled e refl refl q.no_ask)

      pub taken-for : IsTakenFor d levels_in x s v takes.view s.stage
      taken-for = taken-at s.stage refl

  -- ---- the entry

  pub legal-opening : is_legal_after gives (meant gives (run_of r)) past (opened j.name) ≡ true
  legal-opening = opening-is_legal gives d past j q.goes.quiet q.goes.first q.no_ask
