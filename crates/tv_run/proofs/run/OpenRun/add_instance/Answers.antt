use Rattle.std.specs.Prelude.{refl, length, None, ◌+◌, ◌<◌, ◌≤◌, vec_capacity}
use Rattle.std.proofs.Common.{ap, arith, subst, sym, ◌∙◌}
use Rattle.tv_lemmas.proofs.Options.{on-err}
use Rattle.tv_cell.specs.PieceValues.{piece_values}
use Rattle.tv_pool.specs.Pool.{IsLive, number_of, regions_with}
use Rattle.tv_check.specs.RunViews.{run_view}
use Rattle.tv_frame.specs.Tables.{AreTables}
use Rattle.tv_run.specs.Rooms.{HasRoomBeside}
use Rattle.tv_run.specs.declared.run.OpenRun.{OpenRun}
use Rattle.tv_run.proofs.Adding.{before-given_up, before-room, flow-low, is-entering, looks-low, only-one, tables-are}
use Rattle.tv_run.proofs.Enters.{IsStarted, adds-to, entered, opened-on}
use Rattle.tv_run.proofs.FlowPlans.{plan-flow}
use Rattle.tv_run.proofs.run.OpenRun.add_instance.Goals as goal

pub returns-in_err-reserve-clause-refused : goal.returns-in_err-reserve-clause-refused
returns-in_err-reserve-clause-refused c =
    on-err c.from_residual.result
    (before-room c.args.self.now c.reserve.new.self c.reserve.ensures.items c.args.self.now.leftovers c.args.self.now.pool
    (λ n. refl))

pub flow-plan-requires : goal.flow-plan-requires
flow-plan-requires c =
    let q = c.requires.fits in
    flow-low (run_view c.args.self.now.run) c.args.flow q.1 q.3.is_flow

pub leftover_with-requires-clause-can : goal.leftover_with-requires-clause-can
leftover_with-requires-clause-can c =
    let q = c.requires.fits in
    let d = run_view c.args.self.now.run in
    (d, q.3.start c.flow-plan.result.now (plan-flow d c.args.flow q.1 c.flow-plan.result.now q.3.is_flow c.flow-plan.ensures))

pub index-requires : goal.index-requires
index-requires c =
    let q = c.requires.fits in
    let r = c.args.self.now in
    subst (λ n. c.args.flow < n) (sym r.looks.ok.0)
    (looks-low (run_view r.run) r.looks.items q.3.fits.looks c.args.flow q.1 q.3.is_flow)

pub leftover_with-requires-clause-tables : goal.leftover_with-requires-clause-tables
leftover_with-requires-clause-tables c =
    let q = c.requires.fits in
    let r = c.args.self.now in
    let d = run_view r.run in
    subst (λ f. AreTables f c.index.result.now.tables)
    (sym (plan-flow d c.args.flow q.1 c.flow-plan.result.now q.3.is_flow c.flow-plan.ensures))
    (tables-are d r.looks.items q.3.fits.looks c.args.flow q.1 q.3.is_flow c.index.result.now c.index.ensures)

pub returns-in_err-leftover-clause-refused : goal.returns-in_err-leftover-clause-refused
returns-in_err-leftover-clause-refused c =
    on-err c.from_residual-in_err-leftover.result
    (before-room c.args.self.now c.reserve.new.self c.reserve.ensures.items c.leftover_with.new.leftovers c.leftover_with.new.pool
    c.in_err-leftover.ensures.refused)

pub index-requires-2 : goal.index-requires-2
index-requires-2 c =
    let one = ap length c.in_ok-leftover.ensures.ok.is_one in
    omega (arith, one, c.in_ok-leftover.leftover.slot.ok.0)

pub enter-requires : goal.enter-requires
enter-requires c =
    let h = c.in_ok-leftover.ensures.ok in
    let more = c.known.ensures ∙ ap (λ o. length o.seats.seats) (only-one c.in_ok-leftover.leftover.slot h.itself h.is_one c.index-2.result.now c.index-2.ensures) in
    let room = c.in_ok-reserve.ensures.ok in
    let same = c.reserve-2.ensures.instances in
    let long = ap (λ v. length v.items) same in
    let wide = ap vec_capacity same in
    let items = ap length c.reserve.ensures.items in
    let numbers = c.in-Ok.ensures.rooms.1 in (
      h.itself,
      is-entering c.args.self.now c.reserve.new.self c.reserve.ensures.items c.leftover_with.new.leftovers c.leftover_with.new.pool
          c.reserve-2.new.self h.itself c.reserve-2.new.jobs c.in_ok-leftover.leftover.slot c.reserve-2.ensures.same h.is_one
          (c.reserve-2.ensures.jobs ∙ c.in_ok-leftover.ensures.none)
          (subst (HasRoomBeside c.reserve-2.new.self) more c.in-Ok.ensures.rooms.0)
          (subst (λ n. length c.reserve-2.new.jobs.items + n ≤ vec_capacity c.reserve-2.new.jobs) more numbers)
          (omega (arith, room, long, wide, items)),
    )

pub index_mut-requires : goal.index_mut-requires
index_mut-requires c =
    let one = ap length c.in_ok-leftover.ensures.ok.is_one in
    omega (arith, one, c.in_ok-leftover.leftover.slot.ok.0)

pub abandon-requires : goal.abandon-requires
abandon-requires c =
    let q = c.requires.fits in
    let d = run_view c.args.self.now.run in
    let h = c.in_ok-leftover.ensures.ok in
    let starts =
    h.starts d
    (q.3.start c.flow-plan.result.now (plan-flow d c.args.flow q.1 c.flow-plan.result.now q.3.is_flow c.flow-plan.ensures)) in
    subst (λ o. IsLive c.reserve-2.new.self.pool o.frame.region)
    (sym (only-one c.in_ok-leftover.leftover.slot h.itself h.is_one c.index_mut.result.now c.index_mut.ensures.value))
    (subst (λ p. IsLive p h.itself.frame.region) (sym c.reserve-2.ensures.same.pool) starts.is_open.keeps.live)

pub returns-in-Ok-clause-added : goal.returns-in-Ok-clause-added
returns-in-Ok-clause-added c xs f name can =
    let r = c.args.self.now in
    let d = run_view r.run in
    let m : OpenRun = record r {
      instances = c.reserve.new.self;
      pool = c.leftover_with.new.pool;
      leftovers = c.leftover_with.new.leftovers;
    } in
    let h = c.in_ok-leftover.ensures.ok in
    let o = h.itself in
    let plan = c.flow-plan.result.now in
    let of_flow = plan-flow d c.args.flow f plan can.is_flow c.flow-plan.ensures in
    let vs = piece_values c.args.inputs in
    let starts = h.starts d (can.start plan of_flow) in
    let started : IsStarted r m o =
    record {
      run = refl;
      looks = refl;
      instances = c.reserve.ensures.items;
      busy = refl;
      jobs = refl;
      entries = refl;
      due = refl;
      failed = refl;
      outs = refl;
      own = h.own;
      keeps = h.keeps;
    } in
    let t = c.reserve-2.new.self in
    let s = c.enter.new.self in (
      entered r m t s xs c.args.flow f c.args.opener name vs o can started c.reserve-2.ensures.same (c.enter.ensures o h.is_one) plan
          of_flow starts,
      opened-on r m t s xs c.args.flow f c.args.opener name vs o can started c.reserve-2.ensures.same (c.enter.ensures o h.is_one) plan
          of_flow starts,
      adds-to r m t s xs c.args.flow f c.args.opener name vs o can started c.reserve-2.ensures.same (c.enter.ensures o h.is_one) plan
          of_flow starts,
    )

pub returns-in-Ok-clause-room : goal.returns-in-Ok-clause-room
returns-in-Ok-clause-room c =
    let h = c.in_ok-leftover.ensures.ok in
    let more = c.known.ensures ∙ ap (λ o. length o.seats.seats) (only-one c.in_ok-leftover.leftover.slot h.itself h.is_one c.index-2.result.now c.index-2.ensures) in
    let e = c.enter.ensures h.itself h.is_one in
    let long = ap (λ v. length v.items) e.around.entries in
    let wide = ap vec_capacity e.around.entries in
    let due = e.due in
    let beside : HasRoomBeside c.reserve-2.new.self (length h.itself.seats.seats) = subst (HasRoomBeside c.reserve-2.new.self) more c.in-Ok.ensures.rooms.0 in
    let room = beside.entries in
    omega (arith, long, wide, due, room)

pub returns-in-Err-clause-refused : goal.returns-in-Err-clause-refused
returns-in-Err-clause-refused c =
    let h = c.in_ok-leftover.ensures.ok in
    let same = only-one c.in_ok-leftover.leftover.slot h.itself h.is_one c.index_mut.result.now c.index_mut.ensures.value in
    before-given_up c.args.self.now c.reserve.new.self c.reserve.ensures.items c.leftover_with.new.leftovers c.leftover_with.new.pool
    c.abandon.new.pool c.reserve-2.new.self h.itself c.reserve-2.ensures.same h.own h.keeps
    (c.abandon.ensures ∙ ap (λ o. regions_with c.reserve-2.new.self.pool (number_of o.frame.region) None) same)
