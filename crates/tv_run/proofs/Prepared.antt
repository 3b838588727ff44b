-- An open instance takes room: the run is as it was, but for rooms.
use Rattle.std.specs.Prelude.{◌≡◌, refl, ℕ, ◌<◌, true, [], ◌∷◌, None, Option, Some, option_and_then, option_map, slice_get, vec_capacity}
use Rattle.std.proofs.Common.{ap, arith, subst, sym, ◌∙◌}
use Rattle.std.proofs.lemmas.Option.{same_Some}
use Rattle.tv_lemmas.specs.Members.{In}
use Rattle.tv_flow.specs.Flows.{Document, Flow}
use Rattle.tv_flow.specs.Views.{flow_view}
use Rattle.tv_check.specs.RunViews.{run_view}
use Rattle.tv_check.specs.declared.plans.FlowPlan.{FlowPlan}
use Rattle.tv_instances.specs.FramingViews.{View}
use Rattle.tv_frame.specs.Calls.{SameRegions}
use Rattle.tv_frame_laws.specs.Theirs.{AreTheirs, OthersStay}
use Rattle.tv_frame_laws.proofs.Frames.{rooms-keep, same-keeps}
use Rattle.tv_frame_laws.proofs.Theirs.{theirs-called}
use Rattle.tv_pool.specs.Pool.{number_of}
use Rattle.tv_instances.specs.Forest.{Instance, Instances}
use Rattle.tv_instances.proofs.Lists.{same-number}
use Rattle.tv_instances.specs.Standing.{IsOpen}
use Rattle.tv_instances.specs.declared.open.Open.{Open}
use Rattle.tv_run.specs.Following.{OthersAreSame}
use Rattle.tv_run.specs.Looks.{IsFlow}
use Rattle.tv_run.specs.Rooms.{IsAsBefore}
use Rattle.tv_run.specs.Standing.{Fits, IsKept, IsLife, frame_at}
use Rattle.tv_run.specs.declared.instances.Instance as code
use Rattle.tv_run.specs.declared.run.OpenRun.{OpenRun}
use Rattle.tv_run.proofs.Alike.{AreAlike, IsAlike, alike-there, fits-alike, names-alike}
use Rattle.tv_run.proofs.JobLemmas.{seats_by}
use Rattle.tv_run.proofs.Opens.{first-open, frame-is, life-beside, nothing-open, open-any}

-- s is r but for the pool's room and the Open of instance i, which was o and is p, with the same seats in the same region
pub record IsPrepared (r s : OpenRun) (i : ℕ) (o p : Open) : Type 0 where
  pub run : s.run ≡ r.run
  pub looks : s.looks ≡ r.looks
  pub regions : s.pool.regions ≡ r.pool.regions
  pub busy : s.busy ≡ r.busy
  pub jobs : s.jobs ≡ r.jobs
  pub entries : s.entries ≡ r.entries
  pub due : s.due ≡ r.due
  pub failed : s.failed ≡ r.failed
  pub outs : s.outs ≡ r.outs
  pub before : code.Instance
  pub was : slice_get r.instances.items i ≡ Some before
  pub after : code.Instance
  pub there : slice_get s.instances.items i ≡ Some after
  pub others : OthersAreSame r s i
  pub flow : after.flow ≡ before.flow
  pub opener : after.opener ≡ before.opener
  pub numbers : after.jobs ≡ before.jobs
  pub is_busy : after.is_busy ≡ before.is_busy
  pub opened : before.open.items ≡ o ∷ []
  pub is_open : after.open.items ≡ p ∷ []
  pub seats : p.seats.seats ≡ o.seats.seats
  pub region : p.frame.region ≡ o.frame.region

module _ (r s : OpenRun) (i : ℕ) (o p : Open) (w : IsPrepared r s i o p) where
  -- instance k of r is this one, or that of s
  at-one : {P : Type 0} (k : ℕ) (c e : code.Instance) → slice_get r.instances.items k ≡ Some c
      → slice_get s.instances.items k ≡ Some e
      → (k ≡ i → c ≡ w.before → e ≡ w.after → P) → ((k ≡ i → ⊥) → c ≡ e → P) → P
  at-one {P} k c e at there here other =
      same-number k i
      (λ is.
      here is (same_Some c w.before (sym at ∙ ap (λ n. slice_get r.instances.items n) is ∙ w.was))
      (same_Some e w.after (sym there ∙ ap (λ n. slice_get s.instances.items n) is ∙ w.there)))
      (λ ne. other ne (same_Some c e (sym at ∙ sym (w.others.others k ne) ∙ there)))

  open-seats : IsAlike w.before w.after
  open-seats = record {
    flow = w.flow;
    opener = w.opener;
    jobs = ap (λ l. l.items) w.numbers;
    seats = ap (seats_by w.after.seats) w.is_open ∙ w.seats ∙ sym (ap (seats_by w.before.seats) w.opened);
  }

  same-here : (c : code.Instance) → IsAlike c c
  same-here c = record { flow = refl; opener = refl; jobs = refl; seats = refl }

  pub prepared-alike : AreAlike r s
  prepared-alike = record {
    run = w.run;
    looks = w.looks;
    jobs = ap (λ l. l.items) w.jobs;
    due = w.due;
    as_many = w.others.as_many;
    each = λ k c e at there.
        at-one k c e at there
        (λ is a b. subst (λ y. IsAlike y e) (sym a) (subst (IsAlike w.before) (sym b) open-seats))
        (λ ne a. subst (IsAlike c) a (same-here c));
  }

  regions-same : SameRegions r.pool s.pool
  regions-same = rooms-keep r.pool s.pool w.regions

  -- ---- the frames

  others-stay : OthersStay i (frame_at r) (frame_at s)
  others-stay k ne =
      ap (option_and_then (λ (x : code.Instance). option_map (λ (q : Open). q.frame) (slice_get x.open.items 0)))
      (w.others.others k ne)

  theirs : AreTheirs r.pool (frame_at r) → AreTheirs s.pool (frame_at s)
  theirs t =
      theirs-called r.pool s.pool (frame_at r) (frame_at s) i o.frame p.frame t
      (frame-is r i w.before o [] w.was w.opened) (frame-is s i w.after p [] w.there w.is_open) w.region others-stay
      (same-keeps r.pool s.pool (number_of o.frame.region) regions-same)

  -- ---- by the plan of the call

  module _ (plan : FlowPlan)
      (same : (d : Document) (v : View) → IsOpen d plan r.pool o v → IsOpen d plan s.pool p v)
      (of_flow : (f : Flow) → IsFlow (run_view r.run) w.before.flow f → flow_view plan.flow ≡ f) where
    life-here : (x : Instance) (v : Option View) → IsFlow (run_view r.run) w.before.flow x.flow → IsLife r w.before x v
        → IsLife s w.after x v
    life-here x None flow life = absurd (nothing-open o [] w.before.open.items life.0 w.opened)
    life-here x (Some v) flow life = record {
      itself = p;
      there = w.is_open;
      flow = life.flow;
      is_open = λ other h.
          let plan-is = of_flow x.flow flow in
          let was =
          subst (λ q. IsOpen (run_view r.run) plan r.pool q v)
          (first-open life.itself o [] [] w.before.open.items life.there w.opened) (life.is_open plan plan-is) in
          subst (λ d. IsOpen (run_view d) other s.pool p v) (sym w.run)
          (open-any (run_view r.run) plan other s.pool p v (h ∙ sym life.flow) (same (run_view r.run) v was));
      still = λ b. life.still (sym w.is_busy ∙ b);
    }

    lives : (k : ℕ) (c e : code.Instance) (x : Instance) → slice_get r.instances.items k ≡ Some c
        → slice_get s.instances.items k ≡ Some e → IsKept r k c x → IsLife s e x x.view
    lives k c e x at there kept =
        at-one k c e at there
        (λ is a b.
        subst (λ y. IsLife s y x x.view) (sym b)
        (life-here x x.view (subst (λ y. IsFlow (run_view r.run) y.flow x.flow) a kept.flow)
        (subst (λ y. IsLife r y x x.view) a kept.life)))
        (λ ne a.
        subst (λ y. IsLife s y x x.view) a
        (life-beside r s c x x.view w.run (λ q h. regions-same (number_of q.frame.region)) kept.life))

    busy-then : (xs : Instances) → Fits r xs → (k : ℕ) (e : code.Instance) → slice_get s.instances.items k ≡ Some e
        → e.is_busy ≡ true → In k s.busy.items
    busy-then xs fits k e there b =
        let c = alike-there r s prepared-alike k e there in
        subst (λ l. In k l.items) (sym w.busy)
        (at-one k c.0 e c.1 there
        (λ is a f. fits.busy k c.0 c.1 (ap (λ y. y.is_busy) a ∙ sym w.is_busy ∙ ap (λ y. y.is_busy) (sym f) ∙ b))
        (λ ne a. fits.busy k c.0 c.1 (ap (λ y. y.is_busy) a ∙ b)))

    pub prepared-fits : (xs : Instances) → Fits r xs → Fits s xs
    prepared-fits xs fits =
        fits-alike r s prepared-alike xs fits (λ k c e x at there is kept. lives k c e x at there kept) (theirs fits.theirs)
        (busy-then xs fits)
        (λ k h.
        subst (λ n. k < n) (sym w.others.as_many) (fits.busy_low k (subst (λ l. In k l.items) w.busy h)))

    pub prepared : IsAsBefore r s
    prepared = record {
      fits = prepared-fits;
      same = λ j. record {
        document = run_view (w.run j);
        names = names-alike r s prepared-alike j;
        entries = (w.entries j).items;
      };
      regions = regions-same;
      capacity = let e = ap vec_capacity w.entries in omega (arith, e);
      due = w.due;
      failed = w.failed;
      outs = w.outs;
    }
