use Rattle.std.proofs.Common.{arith, refl}
use Rattle.std.specs.Vec.{with_item}
use Rattle.std.proofs.lemmas.List.{length-set}
use Rattle.tv_check.specs.RunViews.{run_view}
use Rattle.tv_cell.specs.PieceValues.{piece_values}
use Rattle.tv_run.proofs.Itself.{flow-low, number-low, open-low, open-read, plan-is, with_open}
use Rattle.tv_run.proofs.Roomed.{ready-to_give, roomed, seat-read, step-read, still-open}
use Rattle.tv_run.proofs.Rooms.{before-rooms, before-then}
use Rattle.tv_run.proofs.run.OpenRun.room_for_result.Goals as goal

pub flow-plan-requires : goal.flow-plan-requires
flow-plan-requires c =
    let p = c.requires.may in
    flow-low c.args.self.now c.args.instance p.0 p.1 p.2 p.5.here c.index.result.now c.index.ensures

pub index_mut-requires : goal.index_mut-requires
index_mut-requires c =
    let p = c.requires.may in
    let r = c.args.self.now in
    let low = number-low r c.args.instance p.0 p.1 p.2 p.5.here in
    omega (arith, low, r.instances.ok.0)

pub index_mut-open-requires : goal.index_mut-open-requires
index_mut-open-requires c =
    let p = c.requires.may in
    let g = c.index_mut.result.now in
    let low = open-low c.args.self.now c.args.instance p.0 p.1 p.2 p.5.here g c.index_mut.ensures.value in
    omega (arith, low, g.open.ok.0)

pub room_for_result-requires-clause-may : goal.room_for_result-requires-clause-may
room_for_result-requires-clause-may c =
    let r = c.args.self.now in
    let i = c.args.instance in
    let p = c.requires.may in
    let here = p.5.here in
    let plan = c.flow-plan.result.now in
    let q = c.index_mut-open.result.now in
    let of_flow = plan-is r i p.0 p.1 p.2 here c.index.result.now c.index.ensures plan c.flow-plan.ensures in
    let same =
    open-read r i p.0 p.1 p.2 here c.index_mut.result.now c.index_mut.ensures.value q c.index_mut-open.ensures.value in (
      run_view r.run,
      p.2,
      p.3,
      p.4,
      still-open r i p.0 p.1 p.2 here plan of_flow q same,
      seat-read r i p.0 p.1 p.2 c.args.number p.3 p.4 p.5 q same,
      step-read r i p.0 p.1 p.2 c.args.number p.3 p.4 p.5,
      p.6,
    )

pub returns-in_err-spot-clause-same : goal.returns-in_err-spot-clause-same
returns-in_err-spot-clause-same c =
    let r = c.args.self.now in
    let i = c.args.instance in
    let p = c.requires.may in
    let here = p.5.here in
    let plan = c.flow-plan.result.now in
    let g = c.index_mut.result.now in
    let q = c.index_mut-open.result.now in
    let same = open-read r i p.0 p.1 p.2 here g c.index_mut.ensures.value q c.index_mut-open.ensures.value in
    let room = c.room_for_result.ensures in
    roomed r i p.0 p.1 p.2 here c.index.result.now c.index.ensures plan c.flow-plan.ensures g c.index_mut.ensures.value q
    same _ c.room_for_result.new.self
    (record {
      run = refl;
      looks = refl;
      busy = refl;
      jobs = refl;
      entries = refl;
      failed = refl;
      outs = refl;
      instances = refl;
    })
    refl room.regions room.seats room.region room.same

pub reserve_in-requires : goal.reserve_in-requires
reserve_in-requires c =
    let r = c.args.self.now in
    let i = c.args.instance in
    let p = c.requires.may in
    let g = c.index_mut.result.now in
    let low = number-low r i p.0 p.1 p.2 p.5.here in
    let same = length-set r.instances.items i (with_open g c.room_for_result.new.self) in
    omega (arith, low, same)

pub returns-in_err-reserve_in-clause-same : goal.returns-in_err-reserve_in-clause-same
returns-in_err-reserve_in-clause-same c =
    let r = c.args.self.now in
    let i = c.args.instance in
    let p = c.requires.may in
    let here = p.5.here in
    let plan = c.flow-plan.result.now in
    let g = c.index_mut.result.now in
    let q = c.index_mut-open.result.now in
    let same = open-read r i p.0 p.1 p.2 here g c.index_mut.ensures.value q c.index_mut-open.ensures.value in
    let room = c.room_for_result.ensures in
    let m =
    record r { pool = c.room_for_result.new.pool; instances = with_item r.instances i (with_open g c.room_for_result.new.self) } in
    before-then r m c.reserve_in.new.self
    (roomed r i p.0 p.1 p.2 here c.index.result.now c.index.ensures plan c.flow-plan.ensures g c.index_mut.ensures.value q
    same m c.room_for_result.new.self
    (record {
      run = refl;
      looks = refl;
      busy = refl;
      jobs = refl;
      entries = refl;
      failed = refl;
      outs = refl;
      instances = refl;
    })
    refl room.regions room.seats room.region room.same)
    (before-rooms m c.reserve_in.new.self c.reserve_in.ensures.same)

pub returns-clause-same : goal.returns-clause-same
returns-clause-same c =
    let r = c.args.self.now in
    let i = c.args.instance in
    let p = c.requires.may in
    let here = p.5.here in
    let plan = c.flow-plan.result.now in
    let g = c.index_mut.result.now in
    let q = c.index_mut-open.result.now in
    let same = open-read r i p.0 p.1 p.2 here g c.index_mut.ensures.value q c.index_mut-open.ensures.value in
    let room = c.room_for_result.ensures in
    let m =
    record r { pool = c.room_for_result.new.pool; instances = with_item r.instances i (with_open g c.room_for_result.new.self) } in
    before-then r m c.reserve_in.new.self
    (roomed r i p.0 p.1 p.2 here c.index.result.now c.index.ensures plan c.flow-plan.ensures g c.index_mut.ensures.value q
    same m c.room_for_result.new.self
    (record {
      run = refl;
      looks = refl;
      busy = refl;
      jobs = refl;
      entries = refl;
      failed = refl;
      outs = refl;
      instances = refl;
    })
    refl room.regions room.seats room.region room.same)
    (before-rooms m c.reserve_in.new.self c.reserve_in.ensures.same)

pub returns-clause-ready : goal.returns-clause-ready
returns-clause-ready c = λ xs x v s t seat may.
    let r = c.args.self.now in
    let i = c.args.instance in
    let n = c.args.number in
    let here = seat.here in
    let plan = c.flow-plan.result.now in
    let g = c.index_mut.result.now in
    let q = c.index_mut-open.result.now in
    let of_flow = plan-is r i xs x v here c.index.result.now c.index.ensures plan c.flow-plan.ensures in
    let same = open-read r i xs x v here g c.index_mut.ensures.value q c.index_mut-open.ensures.value in
    let m =
    record r { pool = c.room_for_result.new.pool; instances = with_item r.instances i (with_open g c.room_for_result.new.self) } in
    ready-to_give r i xs x v here c.index.result.now c.index.ensures plan c.flow-plan.ensures g c.index_mut.ensures.value q
    same m c.room_for_result.new.self
    (record {
      run = refl;
      looks = refl;
      busy = refl;
      jobs = refl;
      entries = refl;
      failed = refl;
      outs = refl;
      instances = refl;
    })
    c.reserve_in.new.self c.reserve_in.ensures.same s t (piece_values c.args.pieces.now) c.in_ok-spot.spot
    (c.in_ok-spot.ensures.ready (run_view r.run) v s t (still-open r i xs x v here plan of_flow q same)
    (seat-read r i xs x v n s t seat q same) (step-read r i xs x v n s t seat) may)
    c.in_ok-reserve_in.ensures.rooms
