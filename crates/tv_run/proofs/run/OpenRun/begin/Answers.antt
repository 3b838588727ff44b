use Rattle.std.proofs.Common.{ap, arith}
use Rattle.std.specs.Prelude.{length, vec_capacity}
use Rattle.tv_run.proofs.HandingLemmas.{handed-here, handed-may, handed-ready, hands-out}
use Rattle.tv_run.proofs.run.OpenRun.begin.Goals as goal

pub take_out-requires : goal.take_out-requires
take_out-requires c =
    let p = c.requires in
    let r = c.args.self.now in
    let k = c.known-instance.result in (
      p.1,
      p.4.may.instance,
      p.4.may.view,
      handed-here p.0 r p.1 p.2 c.args.ticket p.4 k c.known-instance.ensures,
      handed-may p.0 r p.1 p.2 c.args.ticket p.4 k c.known-instance.ensures,
      handed-ready p.0 r p.1 p.2 c.args.ticket p.4 k c.known-instance.ensures,
    )

pub note-requires : goal.note-requires
note-requires c =
    let p = c.requires in
    let r = c.args.self.now in
    let k = c.known-instance.result in
    let takes =
    c.take_out.ensures.taken p.1 p.4.may.instance p.4.may.view
    (handed-here p.0 r p.1 p.2 c.args.ticket p.4 k c.known-instance.ensures)
    (handed-may p.0 r p.1 p.2 c.args.ticket p.4 k c.known-instance.ensures)
    (handed-ready p.0 r p.1 p.2 c.args.ticket p.4 k c.known-instance.ensures) in
    let many = ap (λ v. length v.items) takes.changes.rest.entries in
    let wide = ap vec_capacity takes.changes.rest.entries in
    let room = p.2.room in
    let due = c.take_out.ensures.due in
    omega (arith, many, wide, room, due)

pub returns : goal.returns
returns c = λ gives xs st undone h.
    let r = c.args.self.now in
    let t = c.args.ticket in
    let k = c.known-instance.result in
    let takes =
    c.take_out.ensures.taken xs h.may.instance h.may.view
    (handed-here gives r xs st t h k c.known-instance.ensures)
    (handed-may gives r xs st t h k c.known-instance.ensures)
    (handed-ready gives r xs st t h k c.known-instance.ensures) in
    hands-out gives r xs st t h k c.known-instance.ensures c.take_out.new.self c.note.new.self takes c.note.ensures
    c.take_out.ensures.due undone
