use Rattle.std.proofs.Common.{arith, refl, ◌∙◌}
use Rattle.tv_lemmas.proofs.Options.{on-err}
use Rattle.tv_cell.specs.PieceValues.{piece_values}
use Rattle.tv_run.specs.Settlements.{bounces_job}
use Rattle.tv_run.proofs.Bouncing.{listed-low, may-bounce, may-give, read-job, seat-here, step}
use Rattle.tv_run.proofs.Rooms.{stands-before, stays-before}
use Rattle.tv_run.proofs.Settlings.{bounce-goes, entry-room, settles-in}
use Rattle.tv_run.proofs.run.OpenRun.bounce.Goals as goal

pub index-job-requires : goal.index-job-requires
index-job-requires c =
    let p = c.requires in
    let g = c.index.result.now in
    let low = listed-low p.0 c.args.self.now c.args.instance c.args.number p.1 p.2 g c.index.ensures in
    omega (arith, low, g.jobs.ok.0)

pub bounced-requires : goal.bounced-requires
bounced-requires c =
    let p = c.requires in
    let r = c.args.self.now in
    let k = c.index-job.result.now in
    let b =
    read-job p.0 r c.args.instance c.args.number p.1 p.2 c.index.result.now c.index.ensures k c.index-job.ensures in
    (p.0, p.1.instances, b.0, p.1.stands, b.1)

pub room_for_result-requires-clause-may : goal.room_for_result-requires-clause-may
room_for_result-requires-clause-may c =
    let p = c.requires in
    let r = c.args.self.now in
    let k = c.index-job.result.now in
    let o = p.1 in
    let b = read-job p.0 r c.args.instance c.args.number o p.2 c.index.result.now c.index.ensures k c.index-job.ensures in (
      o.instances,
      o.instance,
      o.view,
      b.1.seat,
      step p.0 r o.instances k b.0 o.stands b.1,
      seat-here p.0 r o.instances k b.0 o.stands b.1,
      may-give p.0 r o.instances k b.0 o.stands b.1 (piece_values c.in_ok-pieces.pieces)
          (c.in_ok-pieces.ensures.values p.0 o.instances b.0 o.stands b.1),
    )

pub returns-in_err-spot-clause-refused : goal.returns-in_err-spot-clause-refused
returns-in_err-spot-clause-refused c =
    on-err c.from_residual-in_err-spot.result
    (λ gives so. stays-before gives c.args.self.now c.room_for_result.new.self c.room_for_result.ensures.same so)

pub give_bounced-requires-clause-may : goal.give_bounced-requires-clause-may
give_bounced-requires-clause-may c =
    let p = c.requires in
    let r = c.args.self.now in
    let k = c.index-job.result.now in
    let o = p.1 in
    let xs = o.instances in
    let b = read-job p.0 r c.args.instance c.args.number o p.2 c.index.result.now c.index.ensures k c.index-job.ensures in
    let vs = piece_values c.in_ok-pieces.pieces in
    let t = step p.0 r xs k b.0 o.stands b.1 in
    let ready =
    c.in_ok-spot.ensures.ready xs o.instance o.view b.1.seat t (seat-here p.0 r xs k b.0 o.stands b.1)
    (may-give p.0 r xs k b.0 o.stands b.1 vs (c.in_ok-pieces.ensures.values p.0 xs b.0 o.stands b.1)) in (
      xs,
      o.instance,
      o.view,
      b.1.seat,
      t,
      may-bounce p.0 r xs k b.0 o.stands b.1 c.room_for_result.new.self c.room_for_result.ensures.same vs c.in_ok-spot.spot
          ready,
    )

pub note-requires : goal.note-requires
note-requires c =
    let p = c.requires in
    let r = c.args.self.now in
    let k = c.index-job.result.now in
    let o = p.1 in
    let xs = o.instances in
    let b = read-job p.0 r c.args.instance c.args.number o p.2 c.index.result.now c.index.ensures k c.index-job.ensures in
    let vs = piece_values c.in_ok-pieces.pieces in
    let t = step p.0 r xs k b.0 o.stands b.1 in
    let ready =
    c.in_ok-spot.ensures.ready xs o.instance o.view b.1.seat t (seat-here p.0 r xs k b.0 o.stands b.1)
    (may-give p.0 r xs k b.0 o.stands b.1 vs (c.in_ok-pieces.ensures.values p.0 xs b.0 o.stands b.1)) in
    let tells =
    c.give_bounced.ensures xs o.instance o.view b.1.seat t
    (may-bounce p.0 r xs k b.0 o.stands b.1 c.room_for_result.new.self c.room_for_result.ensures.same vs c.in_ok-spot.spot
    ready) in
    entry-room c.room_for_result.new.self c.give_bounced.new.self c.args.instance c.in_ok-spot.spot.more ready.room
    tells.changes.rest.entries

pub returns-clause-bounced : goal.returns-clause-bounced
returns-clause-bounced c = λ gives o found.
    let r = c.args.self.now in
    let i = c.args.instance in
    let n = c.args.number in
    let k = c.index-job.result.now in
    let xs = o.instances in
    let b = read-job gives r i n o found c.index.result.now c.index.ensures k c.index-job.ensures in
    let j = b.0 in
    let st = o.stands in
    let m = c.room_for_result.new.self in
    let before = c.room_for_result.ensures.same in
    let vs = piece_values c.in_ok-pieces.pieces in
    let is = c.in_ok-pieces.ensures.values gives xs j st b.1 in
    let t = step gives r xs k j st b.1 in
    let ready =
    c.in_ok-spot.ensures.ready xs o.instance o.view b.1.seat t (seat-here gives r xs k j st b.1)
    (may-give gives r xs k j st b.1 vs is) in
    let tells =
    c.give_bounced.ensures xs o.instance o.view b.1.seat t
    (may-bounce gives r xs k j st b.1 m before vs c.in_ok-spot.spot ready) in
    settles-in gives r m c.note.new.self i (bounces_job k) before.same refl
    (bounce-goes gives r m c.give_bounced.new.self c.note.new.self xs k j st b.1 before.same
    (stands-before gives r m before xs st) (before.outs ∙ o.going) vs is c.in_ok-spot.spot.more tells c.note.ensures
    ready.room.beside.entries)
