-- An open instance in the code: what is read there, and what stands there once its Open is another.
use Rattle.std.specs.Prelude.{◌≡◌, refl, ℕ, ◌<◌, [], ◌∷◌, None, Option, Some, length, option_map, slice_get, slice_index_or, slice_set}
use Rattle.std.specs.Vec.{with_item}
use Rattle.std.proofs.Common.{ap, arith, subst, sym, ◌∙◌}
use Rattle.std.proofs.lemmas.List.{length-set}
use Rattle.std.proofs.lemmas.Option.{get_or_from_slice_get, none-some, slice_get_within}
use Rattle.tv_value.specs.Values.{Name}
use Rattle.tv_flow.specs.Flows.{Flow}
use Rattle.tv_flow.specs.Views.{flow_view}
use Rattle.tv_check.specs.FlowPlanViews.{flow_plan_view}
use Rattle.tv_check.specs.Plans.{flow_plans}
use Rattle.tv_check.specs.RunViews.{run_view}
use Rattle.tv_check.specs.declared.plans.FlowPlan.{FlowPlan}
use Rattle.tv_model.specs.instance.Events.{Event}
use Rattle.tv_instances.specs.FramingViews.{View}
use Rattle.tv_frame.specs.declared.events.Settled.{Settled}
use Rattle.tv_seats.proofs.Staging.{set-other}
use Rattle.tv_instances.specs.Forest.{Instance, Instances}
use Rattle.tv_instances.proofs.Lists.{at-set}
use Rattle.tv_instances.specs.Events.{TellsAt}
use Rattle.tv_instances.specs.Standing.{IsOpen}
use Rattle.tv_instances.specs.declared.open.Open.{Open}
use Rattle.tv_run.specs.Changes.{IsOpenHere}
use Rattle.tv_run.specs.Following.{OthersAreSame}
use Rattle.tv_run.specs.Standing.{IsKept, IsOpenOf}
use Rattle.tv_run.specs.declared.instances.Instance as code
use Rattle.tv_run.specs.declared.run.OpenRun.{OpenRun}
use Rattle.tv_run.proofs.Fits.{IsTurned}
use Rattle.tv_run.proofs.FlowPlans.{plan-flow}
use Rattle.tv_run.proofs.JobLemmas.{instance-there, open-is, seats-open}
use Rattle.tv_run.proofs.Prepared.{IsPrepared}

-- the instance with this Open in the place of its first
abbrev pub with_open : code.Instance → Open → code.Instance
with_open c p = record {
  flow = c.flow;
  opener = c.opener;
  jobs = c.jobs;
  is_busy = c.is_busy;
  «open» = with_item c.open 0 p;
  seats = c.seats;
}

-- t is r with this Open there, and perhaps another pool and number of due jobs
pub record IsCalled (r t : OpenRun) (i : ℕ) (c : code.Instance) (p : Open) : Type 0 where
  pub run : t.run ≡ r.run
  pub looks : t.looks ≡ r.looks
  pub busy : t.busy ≡ r.busy
  pub jobs : t.jobs ≡ r.jobs
  pub entries : t.entries ≡ r.entries
  pub failed : t.failed ≡ r.failed
  pub outs : t.outs ≡ r.outs
  pub instances : t.instances.items ≡ slice_set r.instances.items i (with_open c p)

-- ---- an open instance in the code

module _ (r : OpenRun) (i : ℕ) (xs : Instances) (x : Instance) (v : View) (here : IsOpenHere r xs i x v) where
  pub record IsItself : Type 0 where
    pub itself : code.Instance
    pub there : slice_get r.instances.items i ≡ Some itself
    pub kept : IsKept r i itself x
    pub opened : IsOpenOf r itself x v

  pub its-code : IsItself
  its-code =
      let c = instance-there r xs here.fits i x here.there in
      record { itself = c.0; there = c.1; kept = c.2; opened = open-is r i c.0 x v c.2 here.is_open }

  abbrev pub its : code.Instance
  its = its-code.itself

  abbrev pub o : Open
  o = its-code.opened.itself

  pub number-low : i < length r.instances.items
  number-low = slice_get_within r.instances.items i its its-code.there

  -- what the code reads there
  module _ (c : code.Instance) (read : c ≡ slice_index_or r.instances.items i c) where
    pub read-is : c ≡ its
    read-is = read ∙ get_or_from_slice_get r.instances.items i its c its-code.there

    pub flow-low : c.flow < length (run_view r.run).flows
    flow-low = by (slice_get (run_view r.run).flows c.flow) refl
      where
        by : (f : Option (Name × Flow)) → slice_get (run_view r.run).flows c.flow ≡ f
            → c.flow < length (run_view r.run).flows
        by None e =
            absurd (none-some x.flow
            (sym (ap (option_map (λ (g : Name × Flow). g.1)) e)
            ∙ ap (λ (g : code.Instance). option_map (λ (f : Name × Flow). f.1) (slice_get (run_view r.run).flows g.flow)) read-is
            ∙ its-code.kept.flow))
        by (Some f) e = slice_get_within (run_view r.run).flows c.flow f e

    pub plan-is : (p : FlowPlan) → slice_get (flow_plans (run_view r.run)) c.flow ≡ Some (flow_plan_view p)
        → flow_view p.flow ≡ x.flow
    plan-is p e =
        plan-flow (run_view r.run) c.flow x.flow p
        (ap (λ (g : code.Instance). option_map (λ (f : Name × Flow). f.1) (slice_get (run_view r.run).flows g.flow)) read-is
        ∙ its-code.kept.flow)
        e

    open-there : c.open.items ≡ o ∷ []
    open-there = ap (λ (g : code.Instance). g.open.items) read-is ∙ its-code.opened.there

    pub open-low : 0 < length c.open.items
    open-low = let n = ap length open-there in omega (arith, n)

    pub open-read : (p : Open) → p ≡ slice_index_or c.open.items 0 p → p ≡ o
    open-read p e = e ∙ ap (λ l. slice_index_or l 0 p) open-there

    -- with another Open there
    pub open-set : (p : Open) → slice_set c.open.items 0 p ≡ p ∷ []
    open-set p = ap (λ l. slice_set l 0 p) open-there

  pub seats-are : o.seats.seats ≡ x.seats
  seats-are = sym (seats-open its o [] its-code.opened.there) ∙ its-code.kept.seats

  -- what is told of its view's steps is of its own
  pub steps-same : (y : Settled) (e : Event) → TellsAt v.flow.steps y e → TellsAt x.flow.steps y e
  steps-same y e h = subst (λ (f : Flow). TellsAt f.steps y e) its-code.opened.flow h

  -- by the plan that is read
  pub open-by : (plan : FlowPlan) → flow_view plan.flow ≡ x.flow → IsOpen (run_view r.run) plan r.pool o v
  open-by plan h = its-code.opened.is_open plan h

  -- ---- once its Open is another

  module _ (c : code.Instance) (read : c ≡ slice_index_or r.instances.items i c) (t : OpenRun) (p : Open)
      (w : IsCalled r t i c p) where
    pub called-there : slice_get t.instances.items i ≡ Some (with_open c p)
    called-there = ap (λ l. slice_get l i) w.instances ∙ at-set r.instances.items i its (with_open c p) its-code.there

    called-others : OthersAreSame r t i
    called-others = record {
      as_many = ap length w.instances ∙ length-set r.instances.items i (with_open c p);
      others = λ k ne.
          ap (λ l. slice_get l k) w.instances ∙ set-other r.instances.items i k (with_open c p) ne;
    }

    pub turned : IsTurned r t i o p
    turned = record {
      run = w.run;
      looks = w.looks;
      busy = w.busy;
      jobs = w.jobs;
      entries = w.entries;
      failed = w.failed;
      outs = w.outs;
      before = its;
      was = its-code.there;
      after = with_open c p;
      there = called-there;
      others = called-others;
      flow = ap (λ (g : code.Instance). g.flow) (read-is c read);
      opener = ap (λ (g : code.Instance). g.opener) (read-is c read);
      numbers = ap (λ (g : code.Instance). g.jobs) (read-is c read);
      is_busy = ap (λ (g : code.Instance). g.is_busy) (read-is c read);
      opened = its-code.opened.there;
      is_open = open-set c read p;
    }

    pub took-room : t.due ≡ r.due → t.pool.regions ≡ r.pool.regions → p.seats.seats ≡ o.seats.seats
        → p.frame.region ≡ o.frame.region → IsPrepared r t i o p
    took-room due regions seats region = record {
      run = w.run;
      looks = w.looks;
      regions = regions;
      busy = w.busy;
      jobs = w.jobs;
      entries = w.entries;
      due = due;
      failed = w.failed;
      outs = w.outs;
      before = its;
      was = its-code.there;
      after = with_open c p;
      there = called-there;
      others = called-others;
      flow = ap (λ (g : code.Instance). g.flow) (read-is c read);
      opener = ap (λ (g : code.Instance). g.opener) (read-is c read);
      numbers = ap (λ (g : code.Instance). g.jobs) (read-is c read);
      is_busy = ap (λ (g : code.Instance). g.is_busy) (read-is c read);
      opened = its-code.opened.there;
      is_open = open-set c read p;
      seats = seats;
      region = region;
    }
