use Rattle.std.proofs.Common.{ap, arith, length, subst}
use Rattle.std.specs.Prelude.{vec_capacity}
use Rattle.tv_seats.specs.Seats.{with_stage}
use Rattle.tv_seats.specs.declared.stage.Stage.TheVariants as stage
use Rattle.tv_stream.proofs.Bases.{on-err}
use Rattle.tv_instances.specs.Entries.{seated, with_instance}
use Rattle.tv_run.specs.Accepting.{HasBackRoom, MovesTo}
use Rattle.tv_run.specs.Rooms.{IsNoted}
use Rattle.tv_run.specs.declared.instances.Numbered.{Numbered}
use Rattle.tv_run.proofs.Accepted.{accepts-again}
use Rattle.tv_run.proofs.FoundOut.{found-is, open-here, out-here, step-found, step-low}
use Rattle.tv_run.proofs.Judged.{its-out, wrong-asked}
use Rattle.tv_run.proofs.Outcomes.{next-try, tried-unsettled}
use Rattle.tv_run.proofs.Rooms.{before-itself, stays-before}
use Rattle.tv_run.proofs.run.OpenRun.try_again.Goals as goal

pub room_to_put_back-requires : goal.room_to_put_back-requires
room_to_put_back-requires c =
    let p = c.requires in
    let r = c.args.self.now in
    let t = c.args.ticket in
    let o = its-out p.0 r p.3.0 p.3.1 t p.1 p.2 p.4 in (
      p.3.0,
      o.instance,
      o.view,
      open-here p.0 r p.3.0 p.3.1 t _ o c.known-instance.result c.known-instance.ensures r (before-itself r),
      step-low p.0 r p.3.0 p.3.1 t _ o c.step_number.result c.step_number.ensures,
    )

pub returns-in_err-room_to_put_back-clause-refused : goal.returns-in_err-room_to_put_back-clause-refused
returns-in_err-room_to_put_back-clause-refused c =
    on-err c.from_residual.result _
    (λ gives so. stays-before gives c.args.self.now c.room_to_put_back.new.self c.room_to_put_back.ensures.same so)

pub put_back-requires-clause-may : goal.put_back-requires-clause-may
put_back-requires-clause-may c =
    let p = c.requires in
    let r = c.args.self.now in
    let t = c.args.ticket in
    let o = its-out p.0 r p.3.0 p.3.1 t p.1 p.2 p.4 in (
      p.3.0,
      o.instance,
      o.view,
      o.seat,
      out-here p.0 r p.3.0 p.3.1 t _ o c.known-instance.result c.known-instance.ensures c.room_to_put_back.new.self
          c.room_to_put_back.ensures.same,
      subst (λ n. HasBackRoom c.room_to_put_back.new.self c.known-instance.result.instance n)
          (step-found p.0 r p.3.0 p.3.1 t _ o c.step_number.result c.step_number.ensures)
          c.in_ok-room_to_put_back.ensures.rooms.0,
    )

pub note-requires : goal.note-requires
note-requires c =
    let p = c.requires in
    let r = c.args.self.now in
    let t = c.args.ticket in
    let o = its-out p.0 r p.3.0 p.3.1 t p.1 p.2 p.4 in
    let out =
    out-here p.0 r p.3.0 p.3.1 t _ o c.known-instance.result c.known-instance.ensures c.room_to_put_back.new.self
    c.room_to_put_back.ensures.same in
    let same = (c.put_back.ensures.moved p.3.0 o.instance o.view o.seat out).changes.rest.entries in
    let many = ap (λ v. length v.items) same in
    let room = ap (λ v. vec_capacity v) same in
    let enough = c.in_ok-room_to_put_back.ensures.rooms.1.entries in
    omega (arith, many, room, enough)

pub returns-clause-accepted : goal.returns-clause-accepted
returns-clause-accepted c = λ gives q oc so asked wrong goes.
    let r = c.args.self.now in
    let t = c.args.ticket in
    let y = stage.Idle c.args.activity c.args.attempt in
    let o = its-out gives r so.0 so.1 t q oc asked in
    let is = wrong-asked gives r so.0 so.1 t q oc asked wrong in
    let out =
    out-here gives r so.0 so.1 t _ o c.known-instance.result c.known-instance.ensures c.room_to_put_back.new.self
    c.room_to_put_back.ensures.same in
    let moves =
    subst
    (λ (m : Numbered).
    MovesTo c.room_to_put_back.new.self c.put_back.new.self
    (with_instance so.0 m.instance (seated o.instance (with_stage m.number y o.instance.seats))))
    (found-is gives r so.0 so.1 t _ o c.known-instance.result c.known-instance.ensures)
    (c.put_back.ensures.moved so.0 o.instance o.view o.seat out) in
    accepts-again gives r t q oc asked so.0 so.1 so.2 wrong y (tried-unsettled gives r so.0 so.1 t _ o is c.args.activity c.args.attempt goes)
    (next-try gives r so.0 so.1 t _ o is c.args.activity c.args.attempt goes) c.room_to_put_back.new.self c.room_to_put_back.ensures.same c.in_ok-room_to_put_back.ensures.rooms.1
    c.put_back.new.self c.note.new.self moves c.put_back.ensures.due
    (subst (IsNoted c.put_back.new.self c.note.new.self) c.entry_of.ensures c.note.ensures)
