use Rattle.std.proofs.Common.{ap, arith, length, subst}
use Rattle.std.specs.Prelude.{vec_capacity}
use Rattle.tv_cell.specs.PieceValues.{piece_values}
use Rattle.tv_model.specs.instance.Events.{gave}
use Rattle.tv_seats.specs.Seats.{with_stage}
use Rattle.tv_seats.specs.declared.stage.Stage.TheVariants as stage
use Rattle.tv_run.specs.Changes.{TellsIn}
use Rattle.tv_run.specs.Rooms.{HasRoomIn, IsNoted}
use Rattle.tv_run.specs.declared.instances.Numbered.{Numbered}
use Rattle.tv_run.proofs.Accepted.{goes-to_but, settled-job}
use Rattle.tv_run.proofs.FoundOut.{found-is, given-here, seat-here}
use Rattle.tv_run.proofs.Given.{may-give, settles-asked}
use Rattle.tv_run.proofs.Rooms.{before-itself, stays-before}
use Rattle.tv_run.proofs.run.OpenRun.settle_with.Goals as goal

pub room_for_result-requires-clause-may : goal.room_for_result-requires-clause-may
room_for_result-requires-clause-may c =
    let p = c.requires.settles in
    let r = c.args.self.now in
    let vs = piece_values c.args.pieces in
    let xs = p.2.instances in
    let st = p.2.stands in
    let a = settles-asked p.0 r c.args.ticket c.args.right vs p.2 in (
      xs,
      a.asked.instance,
      a.asked.view,
      a.asked.seat,
      a.asked.step,
      seat-here p.0 r xs st c.args.ticket a.ask a.asked c.known-instance.result c.known-instance.ensures r
          (before-itself r),
      may-give p.0 r xs st c.args.ticket c.args.right vs a,
    )

pub returns-in-Err-clause-refused : goal.returns-in-Err-clause-refused
returns-in-Err-clause-refused c =
    (λ gives so. stays-before gives c.args.self.now c.room_for_result.new.self c.room_for_result.ensures.same so)

pub give-requires-clause-may : goal.give-requires-clause-may
give-requires-clause-may c =
    let p = c.requires.settles in
    let r = c.args.self.now in
    let t = c.args.ticket in
    let vs = piece_values c.args.pieces in
    let xs = p.2.instances in
    let st = p.2.stands in
    let m = c.known-instance.result in
    let e = c.known-instance.ensures in
    let a = settles-asked p.0 r t c.args.right vs p.2 in
    let o = a.asked in
    let ready =
    c.in-Ok.ensures.ready xs o.instance o.view o.seat o.step
    (seat-here p.0 r xs st t a.ask o m e r (before-itself r)) (may-give p.0 r xs st t c.args.right vs a) in (
      xs,
      o.instance,
      o.view,
      o.seat,
      o.step,
      given-here p.0 r xs st t c.args.right vs a m e c.room_for_result.new.self c.room_for_result.ensures.same
          c.in-Ok.spot ready,
    )

pub note-requires : goal.note-requires
note-requires c =
    let p = c.requires.settles in
    let r = c.args.self.now in
    let t = c.args.ticket in
    let vs = piece_values c.args.pieces in
    let xs = p.2.instances in
    let st = p.2.stands in
    let m = c.known-instance.result in
    let e = c.known-instance.ensures in
    let a = settles-asked p.0 r t c.args.right vs p.2 in
    let o = a.asked in
    let ready =
    c.in-Ok.ensures.ready xs o.instance o.view o.seat o.step
    (seat-here p.0 r xs st t a.ask o m e r (before-itself r)) (may-give p.0 r xs st t c.args.right vs a) in
    let tells =
    c.give.ensures xs o.instance o.view o.seat o.step
    (given-here p.0 r xs st t c.args.right vs a m e c.room_for_result.new.self c.room_for_result.ensures.same
    c.in-Ok.spot ready) in
    let many = ap (λ v. length v.items) tells.changes.rest.entries in
    let room = ap (λ v. vec_capacity v) tells.changes.rest.entries in
    let enough = ready.room.beside.entries in
    omega (arith, many, room, enough)

pub returns-in-Ok-clause-settled : goal.returns-in-Ok-clause-settled
returns-in-Ok-clause-settled c = λ gives so w.
    let r = c.args.self.now in
    let t = c.args.ticket in
    let vs = piece_values c.args.pieces in
    let xs = w.instances in
    let st = w.stands in
    let m = c.known-instance.result in
    let e = c.known-instance.ensures in
    let a = settles-asked gives r t c.args.right vs w in
    let o = a.asked in
    let b = c.room_for_result.new.self in
    let pre = c.room_for_result.ensures.same in
    let more = c.in-Ok.spot.more in
    let ready =
    c.in-Ok.ensures.ready xs o.instance o.view o.seat o.step
    (seat-here gives r xs st t a.ask o m e r (before-itself r)) (may-give gives r xs st t c.args.right vs a) in
    let is = found-is gives r xs st t a.ask o m e in
    let tells =
    subst
    (λ (n : Numbered).
    TellsIn b c.give.new.self xs n.instance o.instance o.view (gave o.step.0 o.seat.place vs) more
    (with_stage n.number stage.Settled o.instance.seats))
    is
    (c.give.ensures xs o.instance o.view o.seat o.step
    (given-here gives r xs st t c.args.right vs a m e b pre c.in-Ok.spot ready)) in
    goes-to_but gives r xs st t c.args.right vs a b pre more
    (subst (λ (n : Numbered). HasRoomIn b n.instance more) is ready.room) c.give.new.self c.note.new.self tells
    (subst (IsNoted c.give.new.self c.note.new.self) c.entry_of.ensures c.note.ensures) so.2

pub returns-in-Ok-clause-done : goal.returns-in-Ok-clause-done
returns-in-Ok-clause-done c = λ gives so w.
    let r = c.args.self.now in
    let t = c.args.ticket in
    let vs = piece_values c.args.pieces in
    let xs = w.instances in
    let st = w.stands in
    let m = c.known-instance.result in
    let e = c.known-instance.ensures in
    let a = settles-asked gives r t c.args.right vs w in
    let o = a.asked in
    let b = c.room_for_result.new.self in
    let pre = c.room_for_result.ensures.same in
    let more = c.in-Ok.spot.more in
    let ready =
    c.in-Ok.ensures.ready xs o.instance o.view o.seat o.step
    (seat-here gives r xs st t a.ask o m e r (before-itself r)) (may-give gives r xs st t c.args.right vs a) in
    let is = found-is gives r xs st t a.ask o m e in
    let tells =
    subst
    (λ (n : Numbered).
    TellsIn b c.give.new.self xs n.instance o.instance o.view (gave o.step.0 o.seat.place vs) more
    (with_stage n.number stage.Settled o.instance.seats))
    is
    (c.give.ensures xs o.instance o.view o.seat o.step
    (given-here gives r xs st t c.args.right vs a m e b pre c.in-Ok.spot ready)) in
    settled-job gives r xs st t c.args.right vs a b pre more
    (subst (λ (n : Numbered). HasRoomIn b n.instance more) is ready.room) c.give.new.self c.note.new.self tells
    (subst (IsNoted c.give.new.self c.note.new.self) c.entry_of.ensures c.note.ensures)
