use Rattle.std.specs.Prelude.{if◌then◌else◌, slice_get}
use Rattle.std.proofs.Common.{◌<◌, ◌∙◌, ap, length, subst, sym}
use Rattle.tv_check.specs.RunViews.{run_view}
use Rattle.tv_history.specs.declared.ticket.JobState.TheVariants as state
use Rattle.tv_run.proofs.OpenJobs.{at-low, at-there, code-there, is-open, opened-as, seat-low, step-in, step-low}
use Rattle.tv_run.proofs.States.{waiting-now}
use Rattle.tv_run.proofs.run.OpenRun.state_waiting.Goals as goal

pub opened-open-requires : goal.opened-open-requires
opened-open-requires c =
    let r = c.args.self.now in
    let q = c.requires.stands in
    let a = (waiting-now q.0 r q.1.0 q.1.1 c.args.job c.requires.stage).at in
    let b = a.its in (
      b.known.itself,
      a.opened.itself,
      code-there r q.1.0 q.1.1.fits c.args.job b.outer b.number b.instance b.seat b.step b.known c.known-instance.result
          c.known-instance.ensures,
      a.opened.there,
    )

pub plan_of-requires : goal.plan_of-requires
plan_of-requires c =
    let r = c.args.self.now in
    let q = c.requires.stands in
    let a = (waiting-now q.0 r q.1.0 q.1.1 c.args.job c.requires.stage).at in
    let b = a.its in (
      q.1.0,
      q.1.1.fits,
      at-low r q.1.0 q.1.1.fits c.args.job b.outer b.number b.instance b.seat b.step b.known c.known-instance.result
          c.known-instance.ensures,
    )

pub step-requires : goal.step-requires
step-requires c =
    let r = c.args.self.now in
    let q = c.requires.stands in
    let a = (waiting-now q.0 r q.1.0 q.1.1 c.args.job c.requires.stage).at in
    let b = a.its in
    let m = c.known-instance.result in
    let at =
    code-there r q.1.0 q.1.1.fits c.args.job b.outer b.number b.instance b.seat b.step b.known m c.known-instance.ensures in
    let o = c.opened-open.ensures b.known.itself at in
    seat-low r q.1.0 q.1.1.fits c.args.job b.outer b.number b.instance b.seat b.step b.known m c.known-instance.ensures
    a.view a.opened c.opened-open.result.now
    (opened-as r q.1.0 q.1.1.fits c.args.job b.outer b.number b.instance b.seat b.step b.known m c.known-instance.ensures
    a.view a.opened c.opened-open.result.now o.0 o.1)

pub may_settle-requires : goal.may_settle-requires
may_settle-requires c =
    let r = c.args.self.now in
    let q = c.requires.stands in
    let xs = q.1.0 in
    let a = (waiting-now q.0 r xs q.1.1 c.args.job c.requires.stage).at in
    let b = a.its in
    let m = c.known-instance.result in
    let at =
    code-there r xs q.1.1.fits c.args.job b.outer b.number b.instance b.seat b.step b.known m c.known-instance.ensures in
    let o = c.opened-open.ensures b.known.itself at in
    let is =
    opened-as r xs q.1.1.fits c.args.job b.outer b.number b.instance b.seat b.step b.known m c.known-instance.ensures
    a.view a.opened c.opened-open.result.now o.0 o.1 in (
      run_view r.run,
      a.view,
      is-open r xs q.1.1.fits c.args.job b.outer b.number b.instance b.seat b.step b.known m c.known-instance.ensures
          a.view a.opened c.opened-open.result.now is c.plan_of.result.now
          (c.plan_of.ensures xs b.instance q.1.1.fits
          (at-there r xs q.1.1.fits c.args.job b.outer b.number b.instance b.seat b.step b.known m
          c.known-instance.ensures)),
      subst (λ n. n < length a.view.flow.steps)
          (sym
          (c.step.ensures
          ∙ step-in r xs q.1.1.fits c.args.job b.outer b.number b.instance b.seat b.step b.known m
          c.known-instance.ensures a.view a.opened c.opened-open.result.now is))
          (step-low r xs q.1.1.fits c.args.job b.outer b.number b.instance b.seat b.step b.known m
          c.known-instance.ensures a.view a.opened),
    )

pub returns-then-may_settle : goal.returns-then-may_settle
returns-then-may_settle c = λ gives s.
    let r = c.args.self.now in
    let xs = s.0 in
    let fits = s.1.fits in
    let w = waiting-now gives r xs s.1 c.args.job c.requires.stage in
    let a = w.at in
    let b = a.its in
    let m = c.known-instance.result in
    let at =
    code-there r xs fits c.args.job b.outer b.number b.instance b.seat b.step b.known m c.known-instance.ensures in
    let o = c.opened-open.ensures b.known.itself at in
    let is =
    opened-as r xs fits c.args.job b.outer b.number b.instance b.seat b.step b.known m c.known-instance.ensures
    a.view a.opened c.opened-open.result.now o.0 o.1 in
    let open_now =
    is-open r xs fits c.args.job b.outer b.number b.instance b.seat b.step b.known m c.known-instance.ensures a.view
    a.opened c.opened-open.result.now is c.plan_of.result.now
    (c.plan_of.ensures xs b.instance fits
    (at-there r xs fits c.args.job b.outer b.number b.instance b.seat b.step b.known m c.known-instance.ensures)) in
    let step =
    c.step.ensures
    ∙ step-in r xs fits c.args.job b.outer b.number b.instance b.seat b.step b.known m c.known-instance.ensures a.view
    a.opened c.opened-open.result.now is in
    sym
    (w.state
    ∙ ap (λ b. if b then state.Ready else state.Waiting)
    (sym
    (c.may_settle.ensures (run_view r.run) a.view b.step open_now
    (ap (slice_get a.view.flow.steps) step ∙ w.step))
    ∙ c.if-may_settle.true))

pub returns-else-may_settle : goal.returns-else-may_settle
returns-else-may_settle c = λ gives s.
    let r = c.args.self.now in
    let xs = s.0 in
    let fits = s.1.fits in
    let w = waiting-now gives r xs s.1 c.args.job c.requires.stage in
    let a = w.at in
    let b = a.its in
    let m = c.known-instance.result in
    let at =
    code-there r xs fits c.args.job b.outer b.number b.instance b.seat b.step b.known m c.known-instance.ensures in
    let o = c.opened-open.ensures b.known.itself at in
    let is =
    opened-as r xs fits c.args.job b.outer b.number b.instance b.seat b.step b.known m c.known-instance.ensures
    a.view a.opened c.opened-open.result.now o.0 o.1 in
    let open_now =
    is-open r xs fits c.args.job b.outer b.number b.instance b.seat b.step b.known m c.known-instance.ensures a.view
    a.opened c.opened-open.result.now is c.plan_of.result.now
    (c.plan_of.ensures xs b.instance fits
    (at-there r xs fits c.args.job b.outer b.number b.instance b.seat b.step b.known m c.known-instance.ensures)) in
    let step =
    c.step.ensures
    ∙ step-in r xs fits c.args.job b.outer b.number b.instance b.seat b.step b.known m c.known-instance.ensures a.view
    a.opened c.opened-open.result.now is in
    sym
    (w.state
    ∙ ap (λ b. if b then state.Ready else state.Waiting)
    (sym
    (c.may_settle.ensures (run_view r.run) a.view b.step open_now
    (ap (slice_get a.view.flow.steps) step ∙ w.step))
    ∙ c.if-may_settle.false))
