-- The first job of an open instance that can be bounced, as its Open finds it.
use Rattle.std.specs.Prelude.{◌≡◌, ℕ, List, ◌∷◌, [], MatchOption, None, Option, Some, slice_get}
use Rattle.std.proofs.Common.{ap, subst, sym, ◌∙◌}
use Rattle.tv_flow.specs.Flows.{Document}
use Rattle.tv_flow.specs.Views.{flow_view}
use Rattle.tv_check.specs.RunViews.{run_view}
use Rattle.tv_check.specs.declared.plans.FlowPlan.{FlowPlan}
use Rattle.tv_instances.specs.FramingViews.{View}
use Rattle.tv_instances.specs.Forest.{Instance, Instances, IsAt}
use Rattle.tv_instances.specs.Firsts.{IsFirstFaulty}
use Rattle.tv_instances.specs.Standing.{IsOpen}
use Rattle.tv_instances.specs.declared.open.Open.{Open}
use Rattle.tv_run.specs.Changes.{IsOpenHere}
use Rattle.tv_run.specs.Settlements.{BouncesIn, NothingBouncesIn, OfOpen}
use Rattle.tv_run.specs.Standing.{Fits}
use Rattle.tv_run.specs.declared.instances.Instance as code
use Rattle.tv_run.specs.declared.run.OpenRun.{OpenRun}
use Rattle.tv_run.proofs.Itself.{its-code, seats-are}
use Rattle.tv_run.proofs.Opens.{first-open}

module _ (r : OpenRun) (i : ℕ) (q : Open)
    (read : (c : code.Instance) → slice_get r.instances.items i ≡ Some c → (os : List Open) × (c.open.items ≡ q ∷ os))
    (plan : FlowPlan) (of_flow : (xs : Instances) (x : Instance) → Fits r xs → IsAt xs i x → flow_view plan.flow ≡ x.flow)
  where
    -- it is open by this plan, with the instance's seats
    pub open-read : (xs : Instances) (x : Instance) (v : View) → IsOpenHere r xs i x v
        → IsOpen (run_view r.run) plan r.pool q v × (q.seats.seats ≡ x.seats)
    open-read xs x v here =
        let o = its-code r i xs x v here in
        let w = read o.itself o.there in
        let same = first-open o.opened.itself q [] w.0 o.itself.open.items o.opened.there w.1 in (
          subst (λ a. IsOpen (run_view r.run) plan r.pool a v) same
              (o.opened.is_open plan (of_flow xs x here.fits here.there)),
          ap (λ a. a.seats.seats) (sym same) ∙ seats-are r i xs x v here,
        )

    module _ (found : Option ℕ)
        (first : (d : Document) (v : View) → IsOpen d plan r.pool q v → IsFirstFaulty v q.seats.seats found) where
      pub first-bounced : MatchOption found (OfOpen r i NothingBouncesIn) (λ n. OfOpen r i (BouncesIn n))
      first-bounced = by found first
        where
          its : (o : Option ℕ) → ((d : Document) (v : View) → IsOpen d plan r.pool q v → IsFirstFaulty v q.seats.seats o)
              → (xs : Instances) (x : Instance) (v : View) → Fits r xs → IsAt xs i x → x.view ≡ Some v
              → IsFirstFaulty v x.seats o
          its o h xs x v fits at e =
              let w = open-read xs x v (record { fits = fits; there = at; is_open = e }) in
              subst (λ ss. IsFirstFaulty v ss o) w.1 (h (run_view r.run) v w.0)

          by : (o : Option ℕ) → ((d : Document) (v : View) → IsOpen d plan r.pool q v → IsFirstFaulty v q.seats.seats o)
              → MatchOption o (OfOpen r i NothingBouncesIn) (λ n. OfOpen r i (BouncesIn n))
          by None h = λ xs x v fits at e. its None h xs x v fits at e
          by (Some n) h = λ xs x v fits at e. its (Some n) h xs x v fits at e
