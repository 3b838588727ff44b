use Rattle.std.proofs.Common.{length, subst, sym, ◌<◌}
use Rattle.tv_flow.specs.Flows.{Flow}
use Rattle.tv_check.specs.RunViews.{run_view}
use Rattle.tv_run.proofs.WalkOpen.{open-at, same-flow, there}
use Rattle.tv_run.proofs.WalkOwn.{own-begun, own-is}
use Rattle.tv_run.proofs.run.OpenRun.first_own.Goals as goal

pub opened-requires : goal.opened-requires
opened-requires c =
    let w = c.requires in
    let h = there w.0 c.args.self.now w.1 w.4 c.args.instance w.2 w.3 w.5 w.6 in
    (h.itself, h.opened.itself, h.is_itself, h.opened.there)

pub first_own-requires : goal.first_own-requires
first_own-requires c =
    let r = c.args.self.now in
    let w = c.requires in (
      run_view r.run,
      w.3,
      open-at w.0 r w.1 w.4 c.args.instance w.2 w.3 w.5 w.6 c.opened.result.now c.opened.ensures c.plan_of-plan.result.now
          (c.plan_of-plan.ensures w.1 w.2 w.4.fits w.5),
      subst (λ (f : Flow). c.args.step < length f.steps) (sym (same-flow w.0 r w.1 w.4 c.args.instance w.2 w.3 w.5 w.6)) w.7,
    )

pub returns-clause-own : goal.returns-clause-own
returns-clause-own c gives xs x v st at told low =
    own-is gives c.args.self.now xs st c.args.instance x v at told c.args.seeking c.args.step low c.plan_of-plan.result.now
    (c.plan_of-plan.ensures xs x st.fits at) c.opened.result.now c.opened.ensures c.tries_of.result.now
    (λ s e. c.tries_of.ensures xs x s st.fits at e) c.is_sought-begins.result c.is_sought-begins.ensures c.first_own.result
    c.first_own.ensures

pub returns-clause-begins : goal.returns-clause-begins
returns-clause-begins c gives xs x v st at told low =
    own-begun gives c.args.self.now xs st c.args.instance x v at told c.args.seeking c.args.step low c.plan_of-plan.result.now
    (c.plan_of-plan.ensures xs x st.fits at) c.opened.result.now c.opened.ensures c.tries_of.result.now
    (λ s e. c.tries_of.ensures xs x s st.fits at e) c.is_sought-begins.result c.is_sought-begins.ensures c.first_own.result
    c.first_own.ensures
