use Rattle.std.proofs.Common.{[]}
use Rattle.tv_cell.specs.PieceValues.{piece_values}
use Rattle.tv_model.specs.instance.Events.{gave, took}
use Rattle.tv_framing.specs.Frames.{with_event}
use Rattle.tv_frame.proofs.Forgetting.{goes-alone, taken-now}
use Rattle.tv_frame.proofs.frame.Frame.bounce.Goals as goal

pub take-requires : goal.take-requires
take-requires c =
    let r = c.requires.ready in
    record { ready = (r.0, r.1, (r.2.0, c.args.place.now), r.3.ready.keeps, r.3.job, r.3.free) }

pub result-requires-clause-ready : goal.result-requires-clause-ready
result-requires-clause-ready c =
    let r = c.requires.ready in
    let h = r.3 in
    let s = r.2 in (
      r.0,
      with_event r.1 (took s.0 c.args.place.now) [],
      s,
      c.take.ensures.stays r.0 r.1 (s.0, c.args.place.now) c.args.step s (gave s.0 c.args.place.now (piece_values c.args.outputs)) h.ready h.job h.free,
    )

pub returns-clause-goes_on : goal.returns-clause-goes_on
returns-clause-goes_on c = λ flows v s h.
    let q = c.args.place.now in
    let vs = piece_values c.args.outputs in
    goes-alone flows c.args.plan.now c.result.new.pool c.result.new.self v s.0 q vs
    (c.result.ensures.goes_on flows (with_event v (took s.0 q) []) s
    (c.take.ensures.stays flows v (s.0, q) c.args.step s (gave s.0 q vs) h.ready h.job h.free) (taken-now v.events s.0 q))
