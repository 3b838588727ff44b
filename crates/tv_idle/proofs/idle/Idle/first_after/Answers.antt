use Rattle.std.proofs.Common.{◌<◌, ap, sym, subst, ◌∙◌, length}
use Rattle.tv_idle.specs.Sought.{sought}
use Rattle.tv_idle.specs.declared.queues.Queues.{Queues}
use Rattle.tv_idle.specs.Idles.{Idles, first_after, first_of, of_step, standing_after}
use Rattle.tv_idle.specs.Kept.{is_gone, live, no_queues, queues_of, queues_view}
use Rattle.tv_idle.proofs.AllSteps.{map-longer, of-shown, read-same}
use Rattle.tv_idle.proofs.Listing.{sought-live}
use Rattle.tv_idle.proofs.idle.Idle.first_after.Goals as goal

pub returns : goal.returns
returns c =
    let r = c.self.inside in
    let gs = r.gone.items in
    let qs = r.queues.items in
    let s = c.args.step in
    let p = c.args.place.now in
    let inside : s < length qs = subst (λ m. s < m) (ap (λ (v : Idles). length v.steps) (sym c.self.view_is) ∙ map-longer (queues_view (is_gone gs)) qs) c.requires in
    let q = queues_of qs s in
    c.first_after.ensures
    ∙ ap (λ m. first_of (sought p m c.read.result.now.good.jobs) (sought p m c.read.result.now.faulty.jobs)) c.as_slice.ensures.value
    ∙ ap (λ (x : Queues). first_of (sought p gs x.good.jobs) (sought p gs x.faulty.jobs)) c.read.ensures
    ∙ ap (λ (x : Queues). first_of (sought p gs x.good.jobs) (sought p gs x.faulty.jobs)) (read-same qs s c.index.result.now no_queues inside c.index.ensures)
    ∙ ap (λ js. first_of js (sought p gs q.faulty.jobs)) (sought-live p gs q.good.jobs)
    ∙ ap (first_of (standing_after p (live (is_gone gs) q.good.jobs))) (sought-live p gs q.faulty.jobs)
    ∙ ap (first_after p) (sym (of-shown (is_gone gs) qs s))
    ∙ ap (λ (v : Idles). first_after p (of_step v.steps s)) c.self.view_is
