use Rattle.std.specs.Prelude.{length, slice_index_or}
use Rattle.std.proofs.Common.{ap, arith, refl, sym, ◌∙◌}
use Rattle.std.proofs.lemmas.List.{length-set}
use Rattle.tv_cell.specs.PieceValues.{piece_values}
use Rattle.tv_check.specs.RunViews.{run_view}
use Rattle.tv_model.proofs.Tests.{true≠false}
use Rattle.tv_run.proofs.Ending.{open-some}
use Rattle.tv_run.proofs.Itself.{flow-low, number-low, open-low, open-read, plan-is}
use Rattle.tv_run.proofs.Outs.{again, again-low, aside, aside-open, aside-opened, stands_again, stood_again}
use Rattle.tv_run.proofs.Roomed.{ready-to_give, roomed, seat-read, step-read, still-open}
use Rattle.tv_run.proofs.Rooms.{before-rooms, before-then}
use Rattle.tv_run.proofs.run.OpenRun.room_for_outs.Goals as goal

pub flow-plan-requires : goal.flow-plan-requires
flow-plan-requires c =
    let q = c.requires in
    flow-low c.args.self.now c.args.instance q.0 q.1 q.2 q.7.seat.here c.index.result.now c.index.ensures

pub index_mut-outer-requires : goal.index_mut-outer-requires
index_mut-outer-requires c =
    let q = c.requires in
    let r = c.args.self.now in
    let low = number-low r c.args.instance q.0 q.1 q.2 q.7.seat.here in
    omega (arith, low, r.instances.ok.0)

pub index-requires-2 : goal.index-requires-2
index-requires-2 c =
    let q = c.requires in
    let r = c.args.self.now in
    let low = number-low r c.args.inner q.0 q.5 q.6 q.7.here in
    omega (arith, low, r.instances.ok.0)

pub index-requires-3 : goal.index-requires-3
index-requires-3 c =
    let r = c.args.self.now in
    let i = c.args.instance in
    let q = c.requires in
    let f = q.7 in
    let here = f.seat.here in
    let g = c.index_mut-outer.result.now in
    let none = c.replace-slot.new.dest in
    let e = c.index-2.result.now in
    let one = ap length (aside-opened r i g none c.args.inner f.apart q.0 q.5 q.6 f.here e c.index-2.ensures) in
    omega (arith, one, e.open.ok.0)

pub unreachable-requires : goal.unreachable-requires
unreachable-requires c =
    let r = c.args.self.now in
    let i = c.args.instance in
    let q = c.requires in
    let f = q.7 in
    let here = f.seat.here in
    let g = c.index_mut-outer.result.now in
    let none = c.replace-slot.new.dest in
    let e = c.index-2.result.now in
    let a = c.index-3.result.now in
    let same = aside-open r i g none c.args.inner f.apart q.0 q.5 q.6 f.here e c.index-2.ensures a c.index-3.ensures in
    let w = open-some r c.args.inner q.0 q.5 q.6 f.here a same in
    true≠false (sym f.ends ∙ c.in_default.ensures (run_view r.run) w.0 r.pool q.6 w.1)

pub index_mut-requires : goal.index_mut-requires
index_mut-requires c =
    let r = c.args.self.now in
    let i = c.args.instance in
    let q = c.requires in
    let f = q.7 in
    let here = f.seat.here in
    let g = c.index_mut-outer.result.now in
    let none = c.replace-slot.new.dest in
    let low = open-low r i q.0 q.1 q.2 here g c.index_mut-outer.ensures.value in
    let same = ap (λ l. length l.items) c.replace-slot.ensures.value in
    omega (arith, low, same, c.replace-slot.result.ok.0)

pub room_for_result-room-requires-clause-may : goal.room_for_result-room-requires-clause-may
room_for_result-room-requires-clause-may c =
    let r = c.args.self.now in
    let i = c.args.instance in
    let q = c.requires in
    let f = q.7 in
    let here = f.seat.here in
    let g = c.index_mut-outer.result.now in
    let none = c.replace-slot.new.dest in
    let e = c.index-2.result.now in
    let a = c.index-3.result.now in
    let same = aside-open r i g none c.args.inner f.apart q.0 q.5 q.6 f.here e c.index-2.ensures a c.index-3.ensures in
    let w = open-some r c.args.inner q.0 q.5 q.6 f.here a same in
    let plan = c.flow-plan.result.now in
    let p = c.index_mut.result.now in
    let read = c.index_mut.ensures.value ∙ ap (λ l. slice_index_or l.items 0 p) c.replace-slot.ensures.value in
    let its = open-read r i q.0 q.1 q.2 here g c.index_mut-outer.ensures.value p read in
    let of_flow = plan-is r i q.0 q.1 q.2 here c.index.result.now c.index.ensures plan c.flow-plan.ensures in
    let outs = (c.in-Some.ensures (run_view r.run) w.0 r.pool q.6 w.1).2 in (
      run_view r.run,
      q.2,
      q.3,
      q.4,
      still-open r i q.0 q.1 q.2 here plan of_flow p its,
      seat-read r i q.0 q.1 q.2 c.args.number q.3 q.4 f.seat p its,
      step-read r i q.0 q.1 q.2 c.args.number q.3 q.4 f.seat,
      f.may (piece_values c.in-Some.outs.now) outs,
    )

pub room_for_result-room-requires-clause-sound : goal.room_for_result-room-requires-clause-sound
room_for_result-room-requires-clause-sound c =
    let r = c.args.self.now in
    let i = c.args.instance in
    let q = c.requires in
    let f = q.7 in
    let here = f.seat.here in
    let g = c.index_mut-outer.result.now in
    let none = c.replace-slot.new.dest in
    let e = c.index-2.result.now in
    let a = c.index-3.result.now in
    let same = aside-open r i g none c.args.inner f.apart q.0 q.5 q.6 f.here e c.index-2.ensures a c.index-3.ensures in
    let w = open-some r c.args.inner q.0 q.5 q.6 f.here a same in
    (c.in-Some.ensures (run_view r.run) w.0 r.pool q.6 w.1).1

pub index_mut-requires-2 : goal.index_mut-requires-2
index_mut-requires-2 c =
    let q = c.requires in
    let r = c.args.self.now in
    let low = number-low r c.args.instance q.0 q.1 q.2 q.7.seat.here in
    omega (arith, low, r.instances.ok.0)

pub returns-in_err-spot-clause-same : goal.returns-in_err-spot-clause-same
returns-in_err-spot-clause-same c =
    let r = c.args.self.now in
    let i = c.args.instance in
    let q = c.requires in
    let f = q.7 in
    let here = f.seat.here in
    let g = c.index_mut-outer.result.now in
    let none = c.replace-slot.new.dest in
    let plan = c.flow-plan.result.now in
    let p = c.index_mut.result.now in
    let read = c.index_mut.ensures.value ∙ ap (λ l. slice_index_or l.items 0 p) c.replace-slot.ensures.value in
    let its = open-read r i q.0 q.1 q.2 here g c.index_mut-outer.ensures.value p read in
    let room = c.room_for_result-room.ensures in
    let back =
    again r i g none q.0 q.1 q.2 here c.index_mut-2.result.now c.index_mut-2.ensures.value c.replace-slot.result
    c.room_for_result-room.new.self c.replace-slot.ensures.value in
    let m = stood_again r i g none c.index_mut-2.result.now c.replace-slot.result c.room_for_result-room.new.self c.room_for_result-room.new.pool in
    let before =
    roomed r i q.0 q.1 q.2 here c.index.result.now c.index.ensures plan c.flow-plan.ensures g c.index_mut-outer.ensures.value p
    its m c.room_for_result-room.new.self
    (record {
      run = refl;
      looks = refl;
      busy = refl;
      jobs = refl;
      entries = refl;
      failed = refl;
      outs = refl;
      instances = back;
    })
    refl room.regions room.seats room.region room.same in
    before

pub reserve_in-requires : goal.reserve_in-requires
reserve_in-requires c =
    let r = c.args.self.now in
    let i = c.args.instance in
    let q = c.requires in
    let f = q.7 in
    let here = f.seat.here in
    let g = c.index_mut-outer.result.now in
    let none = c.replace-slot.new.dest in
    let low = again-low r i g none q.0 q.1 q.2 here in
    let same =
    length-set (aside r i g none) i
    (stands_again c.index_mut-2.result.now c.replace-slot.result c.room_for_result-room.new.self) in
    omega (arith, low, same)

pub returns-in_err-reserve_in-clause-same : goal.returns-in_err-reserve_in-clause-same
returns-in_err-reserve_in-clause-same c =
    let r = c.args.self.now in
    let i = c.args.instance in
    let q = c.requires in
    let f = q.7 in
    let here = f.seat.here in
    let g = c.index_mut-outer.result.now in
    let none = c.replace-slot.new.dest in
    let plan = c.flow-plan.result.now in
    let p = c.index_mut.result.now in
    let read = c.index_mut.ensures.value ∙ ap (λ l. slice_index_or l.items 0 p) c.replace-slot.ensures.value in
    let its = open-read r i q.0 q.1 q.2 here g c.index_mut-outer.ensures.value p read in
    let room = c.room_for_result-room.ensures in
    let back =
    again r i g none q.0 q.1 q.2 here c.index_mut-2.result.now c.index_mut-2.ensures.value c.replace-slot.result
    c.room_for_result-room.new.self c.replace-slot.ensures.value in
    let m = stood_again r i g none c.index_mut-2.result.now c.replace-slot.result c.room_for_result-room.new.self c.room_for_result-room.new.pool in
    let before =
    roomed r i q.0 q.1 q.2 here c.index.result.now c.index.ensures plan c.flow-plan.ensures g c.index_mut-outer.ensures.value p
    its m c.room_for_result-room.new.self
    (record {
      run = refl;
      looks = refl;
      busy = refl;
      jobs = refl;
      entries = refl;
      failed = refl;
      outs = refl;
      instances = back;
    })
    refl room.regions room.seats room.region room.same in
    before-then r m c.reserve_in.new.self before (before-rooms m c.reserve_in.new.self c.reserve_in.ensures.same)

pub returns-clause-same : goal.returns-clause-same
returns-clause-same c =
    let r = c.args.self.now in
    let i = c.args.instance in
    let q = c.requires in
    let f = q.7 in
    let here = f.seat.here in
    let g = c.index_mut-outer.result.now in
    let none = c.replace-slot.new.dest in
    let plan = c.flow-plan.result.now in
    let p = c.index_mut.result.now in
    let read = c.index_mut.ensures.value ∙ ap (λ l. slice_index_or l.items 0 p) c.replace-slot.ensures.value in
    let its = open-read r i q.0 q.1 q.2 here g c.index_mut-outer.ensures.value p read in
    let room = c.room_for_result-room.ensures in
    let back =
    again r i g none q.0 q.1 q.2 here c.index_mut-2.result.now c.index_mut-2.ensures.value c.replace-slot.result
    c.room_for_result-room.new.self c.replace-slot.ensures.value in
    let m = stood_again r i g none c.index_mut-2.result.now c.replace-slot.result c.room_for_result-room.new.self c.room_for_result-room.new.pool in
    let before =
    roomed r i q.0 q.1 q.2 here c.index.result.now c.index.ensures plan c.flow-plan.ensures g c.index_mut-outer.ensures.value p
    its m c.room_for_result-room.new.self
    (record {
      run = refl;
      looks = refl;
      busy = refl;
      jobs = refl;
      entries = refl;
      failed = refl;
      outs = refl;
      instances = back;
    })
    refl room.regions room.seats room.region room.same in
    before-then r m c.reserve_in.new.self before (before-rooms m c.reserve_in.new.self c.reserve_in.ensures.same)

pub returns-clause-ready : goal.returns-clause-ready
returns-clause-ready c xs x v s t y w f =
    let r = c.args.self.now in
    let i = c.args.instance in
    let n = c.args.number in
    let here = f.seat.here in
    let g = c.index_mut-outer.result.now in
    let none = c.replace-slot.new.dest in
    let a = c.index-3.result.now in
    let opened = aside-open r i g none c.args.inner f.apart xs y w f.here c.index-2.result.now c.index-2.ensures a c.index-3.ensures in
    let by = open-some r c.args.inner xs y w f.here a opened in
    let outs =
    c.in-Some.ensures (run_view r.run) by.0 r.pool w by.1 in
    let vs = piece_values c.in-Some.outs.now in
    let plan = c.flow-plan.result.now in
    let p = c.index_mut.result.now in
    let read = c.index_mut.ensures.value ∙ ap (λ l. slice_index_or l.items 0 p) c.replace-slot.ensures.value in
    let its = open-read r i xs x v here g c.index_mut-outer.ensures.value p read in
    let of_flow = plan-is r i xs x v here c.index.result.now c.index.ensures plan c.flow-plan.ensures in
    let back =
    again r i g none xs x v here c.index_mut-2.result.now c.index_mut-2.ensures.value c.replace-slot.result
    c.room_for_result-room.new.self c.replace-slot.ensures.value in
    let m = stood_again r i g none c.index_mut-2.result.now c.replace-slot.result c.room_for_result-room.new.self c.room_for_result-room.new.pool in
    let ready =
    ready-to_give r i xs x v here c.index.result.now c.index.ensures plan c.flow-plan.ensures g c.index_mut-outer.ensures.value p
    its m c.room_for_result-room.new.self
    (record {
      run = refl;
      looks = refl;
      busy = refl;
      jobs = refl;
      entries = refl;
      failed = refl;
      outs = refl;
      instances = back;
    })
    c.reserve_in.new.self c.reserve_in.ensures.same s t vs c.in_ok-spot.spot
    (c.in_ok-spot.ensures.ready (run_view r.run) v s t (still-open r i xs x v here plan of_flow p its)
    (seat-read r i xs x v n s t f.seat p its) (step-read r i xs x v n s t f.seat) (f.may vs outs.2))
    c.in_ok-reserve_in.ensures.rooms in
    (vs, outs.2, ready)
