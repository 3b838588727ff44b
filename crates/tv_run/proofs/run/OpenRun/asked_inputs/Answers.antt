use Rattle.tv_value.specs.Views.{values_view}
use Rattle.tv_frame.proofs.FaultingRead.{ok-weaken}
use Rattle.tv_run.specs.Following.{numbered_in}
use Rattle.tv_run.proofs.AskedOut.{asked-now, asked-out}
use Rattle.tv_run.proofs.TaskLemmas.{inputs-are, of-open}
use Rattle.tv_run.proofs.run.OpenRun.asked_inputs.Goals as goal

pub values_bound-requires-clause-job : goal.values_bound-requires-clause-job
values_bound-requires-clause-job c =
    let r = c.args.self.now in
    let q = c.requires.out in
    let t = c.args.ticket in
    let w = asked-now q.0 r q.1.0 q.1.1 t q.2 in
    (q.1.0, q.1.1.fits, of-open q.0 r q.1.0 q.1.1 t w.0 w.1 w.2)

pub returns : goal.returns
returns c =
    ok-weaken _ _ c.values_bound.result
    (λ vs values gives a z out.
    let r = c.args.self.now in
    let t = c.args.ticket in
    let b = asked-out gives r z.0 z.1 t a out in
    inputs-are gives r z.0 z.1 t a out b (values_view vs)
    (values z.0 (numbered_in b.outer b.number) b.instance b.view b.seat z.1.fits b.known.number b.known.there
    b.is_open b.known.seat))
    c.values_bound.ensures
