use Rattle.std.proofs.Common.{ap, map, subst, sym, ◌≡◌, ◌∙◌}
use Rattle.tv_check.specs.RunViews.{run_view}
use Rattle.tv_flow.specs.Flows.{Flow}
use Rattle.tv_instances.specs.Answers.{AreInputs}
use Rattle.tv_instances.specs.seats.Seated.{spot_of}
use Rattle.tv_value.specs.Nested.{items}
use Rattle.tv_value.specs.Views.{values_view, view}
use Rattle.tv_value.proofs.ItemLemmas.{items-trees_of}
use Rattle.tv_run.proofs.OpenJobs.{at-there, code-there, is-open, open-as, open-of, opened-as, seat-in, seat-low}
use Rattle.tv_run.proofs.run.OpenRun.binds.Goals as goal

pub opened-requires : goal.opened-requires
opened-requires c =
    let r = c.args.self.now in
    let q = c.requires in
    let w = open-as r q.0 q.1 c.args.job q.2 in (
      w.known.itself,
      w.opened.itself,
      code-there r q.0 q.1 c.args.job w.outer w.number w.instance w.seat w.step w.known c.known-instance.result
          c.known-instance.ensures,
      w.opened.there,
    )

pub binds-requires-clause-open : goal.binds-requires-clause-open
binds-requires-clause-open c =
    let r = c.args.self.now in
    let q = c.requires in
    let w = open-as r q.0 q.1 c.args.job q.2 in
    let m = c.known-instance.result in
    let e = c.known-instance.ensures in
    let at = code-there r q.0 q.1 c.args.job w.outer w.number w.instance w.seat w.step w.known m e in
    let o = c.opened.ensures w.known.itself at in
    let is =
    opened-as r q.0 q.1 c.args.job w.outer w.number w.instance w.seat w.step w.known m e w.view w.opened c.opened.result.now
    o.0 o.1 in (
      run_view r.run,
      w.view,
      is-open r q.0 q.1 c.args.job w.outer w.number w.instance w.seat w.step w.known m e w.view w.opened
          c.opened.result.now is c.plan_of-plan.result.now
          (c.plan_of-plan.ensures q.0 w.instance q.1
          (at-there r q.0 q.1 c.args.job w.outer w.number w.instance w.seat w.step w.known m e)),
    )

pub binds-requires-clause-known : goal.binds-requires-clause-known
binds-requires-clause-known c =
    let r = c.args.self.now in
    let q = c.requires in
    let w = open-as r q.0 q.1 c.args.job q.2 in
    let m = c.known-instance.result in
    let e = c.known-instance.ensures in
    let at = code-there r q.0 q.1 c.args.job w.outer w.number w.instance w.seat w.step w.known m e in
    let o = c.opened.ensures w.known.itself at in
    seat-low r q.0 q.1 c.args.job w.outer w.number w.instance w.seat w.step w.known m e w.view w.opened
    c.opened.result.now
    (opened-as r q.0 q.1 c.args.job w.outer w.number w.instance w.seat w.step w.known m e w.view w.opened
    c.opened.result.now o.0 o.1)

pub returns-clause-same : goal.returns-clause-same
returns-clause-same c = λ true xs n x v s fits there at is_open seat.
    let r = c.args.self.now in
    let u = open-of r xs fits c.args.job n x v s there at is_open seat in
    let m = c.known-instance.result in
    let e = c.known-instance.ensures in
    let o = c.opened.ensures u.1.itself (code-there r xs fits c.args.job n.instance n.number x s u.0 u.1 m e) in
    let is = opened-as r xs fits c.args.job n.instance n.number x s u.0 u.1 m e v u.2 c.opened.result.now o.0 o.1 in
    let open_now =
    is-open r xs fits c.args.job n.instance n.number x s u.0 u.1 m e v u.2 c.opened.result.now is
    c.plan_of-plan.result.now
    (c.plan_of-plan.ensures xs x fits (at-there r xs fits c.args.job n.instance n.number x s u.0 u.1 m e)) in
    let values : values_view c.args.inputs.now ≡ map view c.as_slice.result.now =
    ap items (sym c.as_slice.ensures) ∙ items-trees_of (map view c.as_slice.result.now) in
    subst (AreInputs v (spot_of x.flow.steps s)) (sym values)
    (subst (λ (f : Flow). AreInputs v (spot_of f.steps s) (map view c.as_slice.result.now)) u.2.flow
    (c.binds.ensures.same true (run_view r.run) v s open_now
    (seat-in r xs fits c.args.job n.instance n.number x s u.0 u.1 m e v u.2 c.opened.result.now is)))

pub returns-clause-other : goal.returns-clause-other
returns-clause-other c = λ other xs n x v s fits there at is_open seat vs inputs same.
    let r = c.args.self.now in
    let u = open-of r xs fits c.args.job n x v s there at is_open seat in
    let m = c.known-instance.result in
    let e = c.known-instance.ensures in
    let o = c.opened.ensures u.1.itself (code-there r xs fits c.args.job n.instance n.number x s u.0 u.1 m e) in
    let is = opened-as r xs fits c.args.job n.instance n.number x s u.0 u.1 m e v u.2 c.opened.result.now o.0 o.1 in
    let open_now =
    is-open r xs fits c.args.job n.instance n.number x s u.0 u.1 m e v u.2 c.opened.result.now is
    c.plan_of-plan.result.now
    (c.plan_of-plan.ensures xs x fits (at-there r xs fits c.args.job n.instance n.number x s u.0 u.1 m e)) in
    let values : values_view c.args.inputs.now ≡ map view c.as_slice.result.now =
    ap items (sym c.as_slice.ensures) ∙ items-trees_of (map view c.as_slice.result.now) in
    c.binds.ensures.other other (run_view r.run) v s open_now
    (seat-in r xs fits c.args.job n.instance n.number x s u.0 u.1 m e v u.2 c.opened.result.now is) vs
    (subst (λ (f : Flow). AreInputs v (spot_of f.steps s) vs) (sym u.2.flow) inputs)
    (sym values ∙ same)
