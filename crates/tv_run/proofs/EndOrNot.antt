-- Whether an open instance has ended, as its Open tells it.
use Rattle.std.specs.Prelude.{◌≡◌, ℕ, Bool, None, Some, List, ◌∷◌, [], slice_get, slice_index_or}
use Rattle.std.proofs.Common.{ap, subst, sym, ◌∙◌}
use Rattle.tv_gate.specs.Outcomes.{Giving}
use Rattle.tv_flow.specs.Flows.{Document}
use Rattle.tv_check.specs.RunViews.{run_view}
use Rattle.tv_check.specs.declared.plans.FlowPlan.{FlowPlan}
use Rattle.tv_outputs.specs.Known.{Nodes}
use Rattle.tv_instances.specs.Answers.{has_ended_now}
use Rattle.tv_instances.specs.FramingViews.{View}
use Rattle.tv_frame.specs.Tables.{levels_in}
use Rattle.tv_instances.specs.Standing.{IsOpen}
use Rattle.tv_instances.specs.declared.open.Open.{Open}
use Rattle.tv_run.specs.Settlements.{IsOpenIn, IsOpenerOf, OfOpen}
use Rattle.tv_run.specs.declared.instances.Instance as code
use Rattle.tv_run.specs.declared.run.OpenRun.{OpenRun}
use Rattle.tv_run.proofs.Bouncing.{open-here}
use Rattle.tv_run.proofs.Itself.{its-code, read-is}
use Rattle.tv_run.proofs.Opens.{first-open}
use Rattle.tv_run.proofs.PlanLemmas.{plan-there}

module _ (r : OpenRun) (i : ℕ) (q : Open)
    (read : (c : code.Instance) → slice_get r.instances.items i ≡ Some c → (os : List Open) × (c.open.items ≡ q ∷ os))
    (b : Bool)
    (said : (d : Document) (plan : FlowPlan) (pool : Nodes) (v : View) → IsOpen d plan pool q v
    → b ≡ has_ended_now (levels_in v.flow) v) where
  pub ended-said : (c : Bool) → b ≡ c → OfOpen r i (λ x v. has_ended_now (levels_in v.flow) v ≡ c)
  ended-said c is xs x v fits at e =
      let o = its-code r i xs x v (record { fits = fits; there = at; is_open = e }) in
      let w = read o.itself o.there in
      let same = first-open o.opened.itself q [] w.0 o.itself.open.items o.opened.there w.1 in
      let p = plan-there r.run o.itself.flow x.flow o.kept.flow in
      sym
      (said (run_view r.run) p.0 r.pool v
      (subst (λ a. IsOpen (run_view r.run) p.0 r.pool a v) same (o.opened.is_open p.0 p.1)))
      ∙ is

module _ (gives : Giving) (r : OpenRun) (i : ℕ) (o : IsOpenIn gives r i) (g : code.Instance)
    (read : g ≡ slice_index_or r.instances.items i g) where
  -- by the opener that is read
  pub opener-is : (k : ℕ) → g.opener ≡ Some k → IsOpenerOf r i k
  opener-is k e =
      let c = its-code r i o.instances o.instance o.view (open-here gives r i o) in
      record {
        itself = c.itself;
        there = c.there;
        opener =
            ap (λ (a : code.Instance). a.opener)
            (sym (read-is r i o.instances o.instance o.view (open-here gives r i o) g read))
            ∙ e;
      }

  pub main-is : g.opener ≡ None → i ≡ 0
  main-is e =
      let c = its-code r i o.instances o.instance o.view (open-here gives r i o) in
      (c.kept.main
      (ap (λ (a : code.Instance). a.opener)
      (sym (read-is r i o.instances o.instance o.view (open-here gives r i o) g read))
      ∙ e)).0
