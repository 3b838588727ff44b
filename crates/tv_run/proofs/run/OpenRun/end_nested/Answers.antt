use Rattle.std.specs.Prelude.{vec_capacity}
use Rattle.std.proofs.Common.{ap, arith, length, ◌∙◌}
use Rattle.tv_cell.specs.PieceValues.{piece_values}
use Rattle.tv_run.proofs.Ending as ending
use Rattle.tv_run.proofs.EndingNested as nested
use Rattle.tv_run.proofs.Rooms.{stays-before}
use Rattle.tv_lemmas.proofs.Options.{on-err}
use Rattle.tv_run.proofs.run.OpenRun.end_nested.Goals as goal

pub known-outer-requires : goal.known-outer-requires
known-outer-requires c =
    let q = c.requires in
    ending.opener-low q.0 c.args.self.now c.args.instance q.1 q.2 c.args.job q.3

pub room_for_outs-requires : goal.room_for_outs-requires
room_for_outs-requires c =
    let q = c.requires in
    let r = c.args.self.now in
    let i = c.args.instance in
    let m = c.known-outer.result in
    let its = ending.has-opener q.0 r i q.1 q.2 c.args.job q.3 m c.known-outer.ensures in (
      q.1.instances,
      its.around,
      ending.v q.0 r i q.1 q.2 c.args.job m its,
      its.seat,
      its.step,
      q.1.instance,
      q.1.view,
      nested.gives-to q.0 r i q.1 q.2 c.args.job m its,
    )

pub returns-in_err-spot-clause-refused : goal.returns-in_err-spot-clause-refused
returns-in_err-spot-clause-refused c =
    on-err c.from_residual.result
    (λ gives so. stays-before gives c.args.self.now c.room_for_outs.new.self c.room_for_outs.ensures.same so)

pub close-ended-requires : goal.close-ended-requires
close-ended-requires c =
    let q = c.requires in
    let r = c.args.self.now in
    let i = c.args.instance in
    let m = c.known-outer.result in
    let its = ending.has-opener q.0 r i q.1 q.2 c.args.job q.3 m c.known-outer.ensures in
    let here =
    nested.here-ready q.0 r i q.1 q.2 c.args.job m its c.room_for_outs.new.self c.room_for_outs.ensures.same in
    (q.1.instances, q.1.instance, q.1.view, here, ending.ends-now q.0 r i q.1 q.2)

pub give-requires-clause-may : goal.give-requires-clause-may
give-requires-clause-may c =
    let q = c.requires in
    let r = c.args.self.now in
    let i = c.args.instance in
    let m = c.known-outer.result in
    let its = ending.has-opener q.0 r i q.1 q.2 c.args.job q.3 m c.known-outer.ensures in
    let v = ending.v q.0 r i q.1 q.2 c.args.job m its in
    let ends = ending.ends-now q.0 r i q.1 q.2 in
    let spot = c.in_ok-spot.spot in
    let taken = c.room_for_outs.new.self in
    let b = c.room_for_outs.ensures.same in
    let w = c.in_ok-spot.ensures.ready q.1.instances its.around v its.seat its.step q.1.instance q.1.view
    (nested.gives-to q.0 r i q.1 q.2 c.args.job m its) in
    let closed = c.close-ended.new.self in
    let here = nested.here-ready q.0 r i q.1 q.2 c.args.job m its taken b in
    let outs = (c.close-ended.ensures.outputs q.1.instances q.1.instance q.1.view here ends).1 in
    let vs = piece_values c.close-ended.result.outs in
    let ready = nested.ready-for q.0 r i q.1 q.2 c.args.job m its taken b vs outs w.0 w.1 spot w.2 in
    let changes = c.close-ended.ensures.shut q.1.instances q.1.instance q.1.view here ends in
    let leaves = c.close-ended.ensures.others q.1.instances q.1.instance q.1.view here ends in
    let due = c.close-ended.ensures.due in
    let zs = nested.zs q.0 r i q.1 q.2 c.args.job m its taken b vs outs closed changes due leaves in
    let given = nested.may-be_given q.0 r i q.1 q.2 c.args.job m its taken b vs outs closed changes due leaves spot ready in
    (zs, its.around, v, its.seat, its.step, given)

pub give-requires-clause-sound : goal.give-requires-clause-sound
give-requires-clause-sound c =
    let q = c.requires in
    let r = c.args.self.now in
    let i = c.args.instance in
    let m = c.known-outer.result in
    let its = ending.has-opener q.0 r i q.1 q.2 c.args.job q.3 m c.known-outer.ensures in
    let here = nested.here-ready q.0 r i q.1 q.2 c.args.job m its c.room_for_outs.new.self c.room_for_outs.ensures.same in
    (c.close-ended.ensures.outputs q.1.instances q.1.instance q.1.view here (ending.ends-now q.0 r i q.1 q.2)).0

pub note-requires : goal.note-requires
note-requires c =
    let q = c.requires in
    let r = c.args.self.now in
    let i = c.args.instance in
    let m = c.known-outer.result in
    let its = ending.has-opener q.0 r i q.1 q.2 c.args.job q.3 m c.known-outer.ensures in
    let v = ending.v q.0 r i q.1 q.2 c.args.job m its in
    let ends = ending.ends-now q.0 r i q.1 q.2 in
    let spot = c.in_ok-spot.spot in
    let taken = c.room_for_outs.new.self in
    let b = c.room_for_outs.ensures.same in
    let w = c.in_ok-spot.ensures.ready q.1.instances its.around v its.seat its.step q.1.instance q.1.view
    (nested.gives-to q.0 r i q.1 q.2 c.args.job m its) in
    let closed = c.close-ended.new.self in
    let here = nested.here-ready q.0 r i q.1 q.2 c.args.job m its taken b in
    let outs = (c.close-ended.ensures.outputs q.1.instances q.1.instance q.1.view here ends).1 in
    let vs = piece_values c.close-ended.result.outs in
    let ready = nested.ready-for q.0 r i q.1 q.2 c.args.job m its taken b vs outs w.0 w.1 spot w.2 in
    let changes = c.close-ended.ensures.shut q.1.instances q.1.instance q.1.view here ends in
    let leaves = c.close-ended.ensures.others q.1.instances q.1.instance q.1.view here ends in
    let due = c.close-ended.ensures.due in
    let zs = nested.zs q.0 r i q.1 q.2 c.args.job m its taken b vs outs closed changes due leaves in
    let given = nested.may-be_given q.0 r i q.1 q.2 c.args.job m its taken b vs outs closed changes due leaves spot ready in
    let tells = c.give.ensures zs its.around v its.seat its.step given in
    let many = ap (λ l. length l.items) (tells.changes.rest.entries ∙ changes.rest.entries) in
    let wide = ap vec_capacity (tells.changes.rest.entries ∙ changes.rest.entries) in
    let room = ready.room.beside.entries in
    omega (arith, many, wide, room)

pub returns-clause-ended : goal.returns-clause-ended
returns-clause-ended c = λ gives h ends-in opener.
    let r = c.args.self.now in
    let i = c.args.instance in
    let m = c.known-outer.result in
    let its = ending.has-opener gives r i h ends-in c.args.job opener m c.known-outer.ensures in
    let v = ending.v gives r i h ends-in c.args.job m its in
    let ends = ending.ends-now gives r i h ends-in in
    let spot = c.in_ok-spot.spot in
    let taken = c.room_for_outs.new.self in
    let b = c.room_for_outs.ensures.same in
    let w = c.in_ok-spot.ensures.ready h.instances its.around v its.seat its.step h.instance h.view
    (nested.gives-to gives r i h ends-in c.args.job m its) in
    let closed = c.close-ended.new.self in
    let here = nested.here-ready gives r i h ends-in c.args.job m its taken b in
    let outs = (c.close-ended.ensures.outputs h.instances h.instance h.view here ends).1 in
    let vs = piece_values c.close-ended.result.outs in
    let ready = nested.ready-for gives r i h ends-in c.args.job m its taken b vs outs w.0 w.1 spot w.2 in
    let changes = c.close-ended.ensures.shut h.instances h.instance h.view here ends in
    let leaves = c.close-ended.ensures.others h.instances h.instance h.view here ends in
    let due = c.close-ended.ensures.due in
    let zs = nested.zs gives r i h ends-in c.args.job m its taken b vs outs closed changes due leaves in
    let given = nested.may-be_given gives r i h ends-in c.args.job m its taken b vs outs closed changes due leaves spot ready in
    let tells = c.give.ensures zs its.around v its.seat its.step given in
    nested.ends-nested gives r i h ends-in c.args.job m its taken b vs outs closed changes due leaves c.give.new.self spot.more tells c.note.new.self
    c.note.ensures ready.room.beside.entries (b.outs ∙ h.going)
