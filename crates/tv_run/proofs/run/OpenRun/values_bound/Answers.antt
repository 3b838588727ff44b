use Rattle.std.proofs.Common.{subst}
use Rattle.std.proofs.lemmas.Result.{IfOk-weaker}
use Rattle.tv_value.specs.Views.{values_view}
use Rattle.tv_check.specs.RunViews.{run_view}
use Rattle.tv_flow.specs.Flows.{Flow}
use Rattle.tv_instances.specs.Answers.{AreInputs}
use Rattle.tv_instances.specs.seats.Seated.{spot_of}
use Rattle.tv_run.proofs.OpenJobs.{at-low, at-there, code-there, is-open, open-as, open-of, opened-as, seat-in, seat-low}
use Rattle.tv_run.proofs.run.OpenRun.values_bound.Goals as goal

pub plan_of-plan-requires : goal.plan_of-plan-requires
plan_of-plan-requires c =
    let r = c.args.self.now in
    let q = c.requires.job in
    let w = open-as r q.0 q.1 c.args.job q.2 in
    let m = c.known-instance.result in (
      q.0,
      q.1,
      at-low r q.0 q.1 c.args.job w.outer w.number w.instance w.seat w.step w.known m c.known-instance.ensures,
    )

pub opened-requires : goal.opened-requires
opened-requires c =
    let r = c.args.self.now in
    let q = c.requires.job in
    let w = open-as r q.0 q.1 c.args.job q.2 in
    let m = c.known-instance.result in (
      w.known.itself,
      w.opened.itself,
      code-there r q.0 q.1 c.args.job w.outer w.number w.instance w.seat w.step w.known m c.known-instance.ensures,
      w.opened.there,
    )

pub values-requires-clause-open : goal.values-requires-clause-open
values-requires-clause-open c =
    let r = c.args.self.now in
    let q = c.requires.job in
    let w = open-as r q.0 q.1 c.args.job q.2 in
    let m = c.known-instance.result in
    let e = c.known-instance.ensures in
    let at = code-there r q.0 q.1 c.args.job w.outer w.number w.instance w.seat w.step w.known m e in
    let o = c.opened.ensures w.known.itself at in
    let is =
    opened-as r q.0 q.1 c.args.job w.outer w.number w.instance w.seat w.step w.known m e w.view w.opened c.opened.result.now
    o.0 o.1 in (
      run_view r.run,
      w.view,
      is-open r q.0 q.1 c.args.job w.outer w.number w.instance w.seat w.step w.known m e w.view w.opened
          c.opened.result.now is c.plan_of-plan.result.now
          (c.plan_of-plan.ensures q.0 w.instance q.1
          (at-there r q.0 q.1 c.args.job w.outer w.number w.instance w.seat w.step w.known m e)),
    )

pub values-requires-clause-known : goal.values-requires-clause-known
values-requires-clause-known c =
    let r = c.args.self.now in
    let q = c.requires.job in
    let w = open-as r q.0 q.1 c.args.job q.2 in
    let m = c.known-instance.result in
    let e = c.known-instance.ensures in
    let at = code-there r q.0 q.1 c.args.job w.outer w.number w.instance w.seat w.step w.known m e in
    let o = c.opened.ensures w.known.itself at in
    seat-low r q.0 q.1 c.args.job w.outer w.number w.instance w.seat w.step w.known m e w.view w.opened
    c.opened.result.now
    (opened-as r q.0 q.1 c.args.job w.outer w.number w.instance w.seat w.step w.known m e w.view w.opened
    c.opened.result.now o.0 o.1)

pub returns : goal.returns
returns c =
    IfOk-weaker c.values.result _ _
    (λ vs values xs n x v s fits there at is_open seat.
    let r = c.args.self.now in
    let u = open-of r xs fits c.args.job n x v s there at is_open seat in
    let m = c.known-instance.result in
    let e = c.known-instance.ensures in
    let o =
    c.opened.ensures u.1.itself
    (code-there r xs fits c.args.job n.instance n.number x s u.0 u.1 m e) in
    let is =
    opened-as r xs fits c.args.job n.instance n.number x s u.0 u.1 m e v u.2
    c.opened.result.now o.0 o.1 in
    let open_now =
    is-open r xs fits c.args.job n.instance n.number x s u.0 u.1 m e v u.2
    c.opened.result.now is c.plan_of-plan.result.now
    (c.plan_of-plan.ensures xs x fits
    (at-there r xs fits c.args.job n.instance n.number x s u.0 u.1 m e)) in
    subst (λ (f : Flow). AreInputs v (spot_of f.steps s) (values_view vs)) u.2.flow
    (values (run_view r.run) v s open_now
    (seat-in r xs fits c.args.job n.instance n.number x s u.0 u.1 m e v u.2
    c.opened.result.now is)))
    c.values.ensures
