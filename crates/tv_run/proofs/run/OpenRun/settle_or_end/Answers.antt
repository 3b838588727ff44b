use Rattle.std.specs.Prelude.{is_some}
use Rattle.std.proofs.Common.{ap, arith, refl}
use Rattle.std.proofs.lemmas.Result.{IfOk-weaker, on_err_weaker}
use Rattle.std.specs.Vec.{with_item}
use Rattle.tv_check.specs.RunViews.{run_view}
use Rattle.tv_stream.proofs.Bases.{on-err}
use Rattle.tv_run.proofs.Itself.{flow-low, open-low, with_open}
use Rattle.tv_run.proofs.LevelSettled as level
use Rattle.tv_run.proofs.LevelSettled.{ends-or_still, its-open, level-ready, none-settles, open-then, room-taken, settled-from, stays-after}
use Rattle.tv_run.proofs.Rooms.{stays-before}
use Rattle.tv_run.proofs.run.OpenRun.settle_or_end.Goals as goal
use Rattle.tv_run.proofs.Bouncing.{open-here}

pub flow-plan-requires : goal.flow-plan-requires
flow-plan-requires c =
    let o = c.requires.1 in
    flow-low c.args.self.now c.args.instance o.instances o.instance o.view (open-here c.requires.0 c.args.self.now c.args.instance o)
    c.index.result.now c.index.ensures

pub index_mut-requires : goal.index_mut-requires
index_mut-requires c =
    let r = c.args.self.now in
    let low = level.open-low c.requires.0 r c.args.instance c.requires.1 in
    omega (arith, low, r.instances.ok.0)

pub index_mut-open-requires : goal.index_mut-open-requires
index_mut-open-requires c =
    let o = c.requires.1 in
    let g = c.index_mut.result.now in
    let low =
    open-low c.args.self.now c.args.instance o.instances o.instance o.view
    (open-here c.requires.0 c.args.self.now c.args.instance o) g c.index_mut.ensures.value in
    omega (arith, low, g.open.ok.0)

pub room_for_settle-requires : goal.room_for_settle-requires
room_for_settle-requires c =
    let r = c.args.self.now in
    let i = c.args.instance in
    let p = c.requires in (
      run_view r.run,
      p.1.view,
      its-open r i c.index.result.now c.index.ensures c.flow-plan.result.now c.flow-plan.ensures c.index_mut.result.now
          c.index_mut.ensures.value c.index_mut-open.result.now c.index_mut-open.ensures.value p.0 p.1,
    )

pub returns-in_err-room-clause-refused : goal.returns-in_err-room-clause-refused
returns-in_err-room-clause-refused c =
    on-err c.from_residual.result _
    (λ gives so.
    let r = c.args.self.now in
    let i = c.args.instance in
    let plan = c.flow-plan.result.now in
    let g = c.index_mut.result.now in
    let q = c.index_mut-open.result.now in
    let w = c.room_for_settle.new.self in
    let m = record r { pool = c.room_for_settle.new.pool; instances = with_item r.instances i (with_open g w) } in
    let room = c.room_for_settle.ensures in
    let taken =
    room-taken r i c.index.result.now c.index.ensures plan c.flow-plan.ensures g c.index_mut.ensures.value q
    c.index_mut-open.ensures.value c.requires.0 c.requires.1 m w
    (record {
      run = refl;
      looks = refl;
      busy = refl;
      jobs = refl;
      entries = refl;
      failed = refl;
      outs = refl;
      instances = refl;
    })
    refl room.regions room.seats room.region room.same in
    stays-before gives r m taken so)

pub settle_level-requires : goal.settle_level-requires
settle_level-requires c =
    let r = c.args.self.now in
    let i = c.args.instance in
    let plan = c.flow-plan.result.now in
    let g = c.index_mut.result.now in
    let q = c.index_mut-open.result.now in
    let w = c.room_for_settle.new.self in
    let m = record r { pool = c.room_for_settle.new.pool; instances = with_item r.instances i (with_open g w) } in
    let room = c.room_for_settle.ensures in
    let ready =
    level-ready r i c.index.result.now c.index.ensures plan c.flow-plan.ensures g c.index_mut.ensures.value q
    c.index_mut-open.ensures.value c.requires.0 c.requires.1 m w
    (record {
      run = refl;
      looks = refl;
      busy = refl;
      jobs = refl;
      entries = refl;
      failed = refl;
      outs = refl;
      instances = refl;
    })
    refl room.regions room.seats room.region room.same c.in_ok-room.room c.in-Some.more c.in-Some.is
    c.in_ok-room.ensures.some in
    (c.requires.0, ready.0, ready.1)

pub returns-in_err-settle_level-in-Some-clause-refused : goal.returns-in_err-settle_level-in-Some-clause-refused
returns-in_err-settle_level-in-Some-clause-refused c =
    on-err c.from_residual-in_err-settle_level-in-Some.result _
    (λ gives so.
    let r = c.args.self.now in
    let i = c.args.instance in
    let plan = c.flow-plan.result.now in
    let g = c.index_mut.result.now in
    let q = c.index_mut-open.result.now in
    let w = c.room_for_settle.new.self in
    let m = record r { pool = c.room_for_settle.new.pool; instances = with_item r.instances i (with_open g w) } in
    let room = c.room_for_settle.ensures in
    let taken =
    room-taken r i c.index.result.now c.index.ensures plan c.flow-plan.ensures g c.index_mut.ensures.value q
    c.index_mut-open.ensures.value c.requires.0 c.requires.1 m w
    (record {
      run = refl;
      looks = refl;
      busy = refl;
      jobs = refl;
      entries = refl;
      failed = refl;
      outs = refl;
      instances = refl;
    })
    refl room.regions room.seats room.region room.same in
    stays-after gives r m i taken c.settle_level.new.self (c.in_err-settle_level-in-Some.ensures.refused gives) so)

pub returns-in_ok-settle_level-in-Some-clause-settled : goal.returns-in_ok-settle_level-in-Some-clause-settled
returns-in_ok-settle_level-in-Some-clause-settled c = λ gives o calm.
    let r = c.args.self.now in
    let i = c.args.instance in
    let plan = c.flow-plan.result.now in
    let g = c.index_mut.result.now in
    let q = c.index_mut-open.result.now in
    let w = c.room_for_settle.new.self in
    let m = record r { pool = c.room_for_settle.new.pool; instances = with_item r.instances i (with_open g w) } in
    let room = c.room_for_settle.ensures in
    let taken =
    room-taken r i c.index.result.now c.index.ensures plan c.flow-plan.ensures g c.index_mut.ensures.value q
    c.index_mut-open.ensures.value gives o m w
    (record {
      run = refl;
      looks = refl;
      busy = refl;
      jobs = refl;
      entries = refl;
      failed = refl;
      outs = refl;
      instances = refl;
    })
    refl room.regions room.seats room.region room.same in
    let ready =
    level-ready r i c.index.result.now c.index.ensures plan c.flow-plan.ensures g c.index_mut.ensures.value q
    c.index_mut-open.ensures.value gives o m w
    (record {
      run = refl;
      looks = refl;
      busy = refl;
      jobs = refl;
      entries = refl;
      failed = refl;
      outs = refl;
      instances = refl;
    })
    refl room.regions room.seats room.region room.same c.in_ok-room.room c.in-Some.more c.in-Some.is
    c.in_ok-room.ensures.some in
    settled-from gives r m i taken c.settle_level.new.self
    (c.in_ok-settle_level-in-Some.ensures.settled gives ready.0 ready.1)

pub end-requires : goal.end-requires
end-requires c =
    let r = c.args.self.now in
    let i = c.args.instance in
    let plan = c.flow-plan.result.now in
    let g = c.index_mut.result.now in
    let q = c.index_mut-open.result.now in
    let w = c.room_for_settle.new.self in
    let m = record r { pool = c.room_for_settle.new.pool; instances = with_item r.instances i (with_open g w) } in
    let room = c.room_for_settle.ensures in
    let taken =
    room-taken r i c.index.result.now c.index.ensures plan c.flow-plan.ensures g c.index_mut.ensures.value q
    c.index_mut-open.ensures.value c.requires.0 c.requires.1 m w
    (record {
      run = refl;
      looks = refl;
      busy = refl;
      jobs = refl;
      entries = refl;
      failed = refl;
      outs = refl;
      instances = refl;
    })
    refl room.regions room.seats room.region room.same in
    (c.requires.0, open-then c.requires.0 r m i taken c.requires.1)

pub returns-in-None-clause-settled : goal.returns-in-None-clause-settled
returns-in-None-clause-settled c =
    IfOk-weaker c.end.result _ _
    (λ b ends gives o calm.
    let r = c.args.self.now in
    let i = c.args.instance in
    let plan = c.flow-plan.result.now in
    let g = c.index_mut.result.now in
    let q = c.index_mut-open.result.now in
    let w = c.room_for_settle.new.self in
    let m = record r { pool = c.room_for_settle.new.pool; instances = with_item r.instances i (with_open g w) } in
    let room = c.room_for_settle.ensures in
    let taken =
    room-taken r i c.index.result.now c.index.ensures plan c.flow-plan.ensures g c.index_mut.ensures.value q
    c.index_mut-open.ensures.value gives o m w
    (record {
      run = refl;
      looks = refl;
      busy = refl;
      jobs = refl;
      entries = refl;
      failed = refl;
      outs = refl;
      instances = refl;
    })
    refl room.regions room.seats room.region room.same in
    ends-or_still gives r m i taken refl calm (none-settles r i c.index.result.now c.index.ensures plan c.flow-plan.ensures g c.index_mut.ensures.value q
    c.index_mut-open.ensures.value (c.in_ok-room.ensures.none (ap is_some c.in-None.is))) c.end.new.self b
    (ends gives (open-then gives r m i taken o)))
    c.end.ensures.settled

pub returns-in-None-clause-refused : goal.returns-in-None-clause-refused
returns-in-None-clause-refused c =
    on_err_weaker c.end.result
    (λ refused gives so.
    let r = c.args.self.now in
    let i = c.args.instance in
    let plan = c.flow-plan.result.now in
    let g = c.index_mut.result.now in
    let q = c.index_mut-open.result.now in
    let w = c.room_for_settle.new.self in
    let m = record r { pool = c.room_for_settle.new.pool; instances = with_item r.instances i (with_open g w) } in
    let room = c.room_for_settle.ensures in
    let taken =
    room-taken r i c.index.result.now c.index.ensures plan c.flow-plan.ensures g c.index_mut.ensures.value q
    c.index_mut-open.ensures.value c.requires.0 c.requires.1 m w
    (record {
      run = refl;
      looks = refl;
      busy = refl;
      jobs = refl;
      entries = refl;
      failed = refl;
      outs = refl;
      instances = refl;
    })
    refl room.regions room.seats room.region room.same in
    stays-after gives r m i taken c.end.new.self (refused gives) so)
    c.end.ensures.refused
