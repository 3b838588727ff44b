use Rattle.std.proofs.Common.{◌<◌, ap, sym, subst, ◌∙◌, length, false}
use Rattle.std.specs.Prelude.{not}
use Rattle.tv_idle.specs.Idles.{Idles, is_idle}
use Rattle.tv_idle.specs.Kept.{is_gone}
use Rattle.tv_idle.proofs.AllSteps.{idle-is, read-same}
use Rattle.tv_idle.proofs.idle.Idle.is_idle.Goals as goal

pub returns : goal.returns
returns c =
    let r = c.self.inside in
    let gs = r.gone.items in
    let n = c.args.number in
    let known : n < length gs = subst (λ (v : Idles). n < v.known) (sym c.self.view_is) c.requires in
    ap not (read-same gs n c.index.result.now false known c.index.ensures)
    ∙ idle-is (is_gone gs) (length gs) r.queues.items n c.self.invariant.all known
    ∙ ap (λ (v : Idles). is_idle v.steps n) c.self.view_is
