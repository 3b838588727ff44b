use Rattle.std.proofs.Common.{◌-◌, arith, refl}
use Rattle.std.specs.Vec.{with_item}
use Rattle.tv_check.specs.RunViews.{run_view}
use Rattle.tv_cell.specs.PieceValues.{piece_values}
use Rattle.tv_model.specs.instance.Events.{gave}
use Rattle.tv_seats.specs.Seats.{with_stage}
use Rattle.tv_seats.specs.declared.stage.Stage.TheVariants as stage
use Rattle.tv_instances.proofs.Seats.{staged-jobs}
use Rattle.tv_run.proofs.Giving.{bounced-due, can-follow, settled-seats, some-due, tells-then, to-bounce}
use Rattle.tv_run.proofs.Itself.{flow-low, number-low, open-low, open-read, plan-is, with_open}
use Rattle.tv_run.proofs.run.OpenRun.give_bounced.Goals as goal

pub flow-plan-requires : goal.flow-plan-requires
flow-plan-requires c =
    let p = c.requires.may in
    flow-low c.args.self.now c.args.instance p.0 p.1 p.2 p.5.seat.here c.index.result.now c.index.ensures

pub index_mut-requires : goal.index_mut-requires
index_mut-requires c =
    let p = c.requires.may in
    let r = c.args.self.now in
    let low = number-low r c.args.instance p.0 p.1 p.2 p.5.seat.here in
    omega (arith, low, r.instances.ok.0)

pub index_mut-requires-2 : goal.index_mut-requires-2
index_mut-requires-2 c =
    let p = c.requires.may in
    let g = c.index_mut.result.now in
    let low = open-low c.args.self.now c.args.instance p.0 p.1 p.2 p.5.seat.here g c.index_mut.ensures.value in
    omega (arith, low, g.open.ok.0)

pub bounce-requires-clause-may : goal.bounce-requires-clause-may
bounce-requires-clause-may c =
    let r = c.args.self.now in
    let i = c.args.instance in
    let p = c.requires.may in
    let here = p.5.seat.here in
    let plan = c.flow-plan.result.now in
    let g = c.index_mut.result.now in
    let q = c.index_mut-2.result.now in
    let of_flow =
    plan-is r i p.0 p.1 p.2 here c.index.result.now c.index.ensures plan c.flow-plan.ensures in
    let same = open-read r i p.0 p.1 p.2 here g c.index_mut.ensures.value q c.index_mut-2.ensures.value in (
      run_view r.run,
      p.2,
      p.3,
      p.4,
      to-bounce r i c.args.number p.0 p.1 p.2 p.3 p.4 (piece_values c.args.pieces) c.args.spot p.5 plan of_flow q same,
    )

pub overflow_sub-self : goal.overflow_sub-self
overflow_sub-self c =
    let p = c.requires.may in
    let here = p.5.seat.here in
    some-due p.1.seats c.args.number p.3 p.5.seat.seat p.0 c.args.instance p.1 p.2 here.there refl c.args.self.now.due
    here.fits.due_is p.5.waits

pub follow-requires : goal.follow-requires
follow-requires c =
    let r = c.args.self.now in
    let i = c.args.instance in
    let n = c.args.number in
    let p = c.requires.may in
    let may = p.5 in
    let here = may.seat.here in
    let plan = c.flow-plan.result.now in
    let g = c.index_mut.result.now in
    let q = c.index_mut-2.result.now in
    let vs = piece_values c.args.pieces in
    let of_flow =
    plan-is r i p.0 p.1 p.2 here c.index.result.now c.index.ensures plan c.flow-plan.ensures in
    let same = open-read r i p.0 p.1 p.2 here g c.index_mut.ensures.value q c.index_mut-2.ensures.value in
    let told =
    c.bounce.ensures.told (run_view r.run) p.2 p.3 p.4
    (to-bounce r i n p.0 p.1 p.2 p.3 p.4 vs c.args.spot may plan of_flow q same) in
    can-follow r i p.0 p.1 p.2 here g c.index_mut.ensures.value plan of_flow q same _ c.bounce.new.self
    (record {
      run = refl;
      looks = refl;
      busy = refl;
      jobs = refl;
      entries = refl;
      failed = refl;
      outs = refl;
      instances = refl;
    })
    (gave p.4.0 p.3.place vs) c.args.spot.more (with_stage n stage.Settled p.1.seats)
    (with_stage n stage.Settled q.seats.seats)
    (settled-seats r i n p.0 p.1 p.2 p.3 p.4 vs c.args.spot here q same) (staged-jobs n stage.Settled p.1.seats) told
    c.bounce.ensures.regions c.bounce.ensures.region may.ready.room (omega arith)

pub returns : goal.returns
returns c = λ xs x v s t may.
    let r = c.args.self.now in
    let i = c.args.instance in
    let n = c.args.number in
    let here = may.seat.here in
    let plan = c.flow-plan.result.now in
    let g = c.index_mut.result.now in
    let q = c.index_mut-2.result.now in
    let vs = piece_values c.args.pieces in
    let of_flow = plan-is r i xs x v here c.index.result.now c.index.ensures plan c.flow-plan.ensures in
    let same = open-read r i xs x v here g c.index_mut.ensures.value q c.index_mut-2.ensures.value in
    let told =
    c.bounce.ensures.told (run_view r.run) v s t
    (to-bounce r i n xs x v s t vs c.args.spot may plan of_flow q same) in
    tells-then r i xs x v here g c.index_mut.ensures.value plan of_flow q same
    (record r { pool = c.bounce.new.pool; instances = with_item r.instances i (with_open g c.bounce.new.self); due = r.due - 1 }) c.bounce.new.self
    (record {
      run = refl;
      looks = refl;
      busy = refl;
      jobs = refl;
      entries = refl;
      failed = refl;
      outs = refl;
      instances = refl;
    })
    (gave t.0 s.place vs) c.args.spot.more (with_stage n stage.Settled x.seats) (with_stage n stage.Settled q.seats.seats)
    (settled-seats r i n xs x v s t vs c.args.spot here q same) (staged-jobs n stage.Settled x.seats) told
    c.bounce.ensures.regions c.bounce.ensures.region may.ready.room (omega arith) _ c.follow.ensures
    (
    let due = bounced-due x.seats n s may.seat.seat may.waits in
    let some = some-due x.seats n s may.seat.seat xs i x v here.there refl r.due here.fits.due_is may.waits in
    omega (arith, due, some)
    )
