use Rattle.std.proofs.lemmas.Option.{slice_get_within}
use Rattle.tv_check.specs.RunViews.{run_view}
use Rattle.tv_run.proofs.FirstBounced.{first-bounced, open-read}
use Rattle.tv_run.proofs.Itself.{its-code}
use Rattle.tv_run.proofs.run.OpenRun.first_to_bounce.Goals as goal

pub opened-requires : goal.opened-requires
opened-requires c =
    let p = c.requires in
    let it = its-code c.args.self.now c.args.instance p.0 p.1 p.2 p.3 in
    (it.itself, it.opened.itself, it.there, it.opened.there)

pub plan_of-requires : goal.plan_of-requires
plan_of-requires c =
    let p = c.requires in
    (p.0, p.3.fits, slice_get_within p.0 c.args.instance p.1 p.3.there)

pub first_to_bounce-requires : goal.first_to_bounce-requires
first_to_bounce-requires c =
    let p = c.requires in
    let r = c.args.self.now in
    let w =
    open-read r c.args.instance c.opened.result.now c.opened.ensures c.plan_of.result.now c.plan_of.ensures p.0 p.1 p.2 p.3 in
    (run_view r.run, p.2, w.0)

pub returns : goal.returns
returns c =
    first-bounced c.args.self.now c.args.instance c.opened.result.now c.opened.ensures c.plan_of.result.now
    c.plan_of.ensures c.first_to_bounce.result c.first_to_bounce.ensures
