use Rattle.std.proofs.Common.{arith, refl, sym, subst, ap, ◌<◌, ◌∙◌}
use Rattle.std.specs.Vec.{with_item}
use Rattle.tv_seats.specs.Firsts.{MayNest}
use Rattle.tv_seats.specs.Seats.{room_at, step_at}
use Rattle.tv_seats.specs.declared.stage.Stage.TheVariants as stage
use Rattle.tv_check.specs.RunViews.{run_view}
use Rattle.tv_instances.specs.Events.{IsTaken, WaitsReady}
use Rattle.tv_instances.specs.Standing.{IsOpen}
use Rattle.tv_run.proofs.Taking.{flow-low, its-code, number-low, open-low, open-read, open-set, nest-due, plan-is, read-is, seats-are, some-due, takes-in}
use Rattle.tv_run.proofs.run.OpenRun.nest.Goals as goal

pub flow-plan-requires : goal.flow-plan-requires
flow-plan-requires c =
    let p = c.requires in
    flow-low c.args.self.now c.args.instance p.0 p.1 p.2 p.3 c.index.result.now c.index.ensures

pub index_mut-requires : goal.index_mut-requires
index_mut-requires c =
    let p = c.requires in
    let r = c.args.self.now in
    let low = number-low r c.args.instance p.0 p.1 p.2 p.3 in
    omega (arith, low, r.instances.ok.0)

pub index_mut-requires-2 : goal.index_mut-requires-2
index_mut-requires-2 c =
    let p = c.requires in
    let g = c.index_mut.result.now in
    let low = open-low c.args.self.now c.args.instance p.0 p.1 p.2 p.3 g c.index_mut.ensures.value in
    omega (arith, low, g.open.ok.0)

pub nest-requires-clause-may : goal.nest-requires-clause-may
nest-requires-clause-may c =
    let p = c.requires in
    let r = c.args.self.now in
    let i = c.args.instance in
    let same =
    open-read r i p.0 p.1 p.2 p.3 c.index_mut.result.now c.index_mut.ensures.value c.index_mut-2.result.now
    c.index_mut-2.ensures.value in
    let seats = ap (λ o. o.seats.seats) same ∙ seats-are r i p.0 p.1 p.2 p.3 in (
      run_view r.run,
      p.2,
      subst (λ o. IsOpen (run_view r.run) c.flow-plan.result.now r.pool o p.2) (sym same)
          ((its-code r i p.0 p.1 p.2 p.3).opened.is_open c.flow-plan.result.now
          (plan-is r i p.0 p.1 p.2 p.3 c.index.result.now c.index.ensures c.flow-plan.result.now c.flow-plan.ensures)),
      subst (λ ss. MayNest ss c.args.number) (sym seats) p.4,
      subst (λ ss. WaitsReady p.2 ss c.args.number) (sym seats) p.5,
    )

pub overflow_sub-self : goal.overflow_sub-self
overflow_sub-self c =
    let p = c.requires in
    some-due c.args.self.now c.args.instance p.0 p.1 p.2 p.3 c.args.number (stage.Nested c.args.inner)
    (nest-due p.1.seats c.args.number p.4) refl

pub returns-clause-taken : goal.returns-clause-taken
returns-clause-taken c = λ xs x v here may ready.
    let r = c.args.self.now in
    let i = c.args.instance in
    let n = c.args.number in
    let y = stage.Nested c.args.inner in
    let plan = c.flow-plan.result.now in
    let o = c.index_mut-2.result.now in
    let g = c.index_mut.result.now in
    let due = nest-due x.seats n may in
    let of_flow = plan-is r i xs x v here c.index.result.now c.index.ensures plan c.flow-plan.ensures in
    let read = read-is r i xs x v here g c.index_mut.ensures.value in
    let same = open-read r i xs x v here g c.index_mut.ensures.value o c.index_mut-2.ensures.value in
    let seats = ap (λ o. o.seats.seats) same ∙ seats-are r i xs x v here in
    let taken =
    c.nest.ensures.taken (run_view r.run) v
    (subst (λ o. IsOpen (run_view r.run) plan r.pool o v) (sym same) ((its-code r i xs x v here).opened.is_open plan of_flow))
    (subst (λ ss. WaitsReady v ss n) (sym seats) ready) in
    let some = some-due r i xs x v here n y due refl in
    takes-in r i xs x v here n y due refl plan of_flow _ c.nest.new.self
    (subst (λ o. IsTaken (run_view r.run) plan r.pool o c.nest.new.self v n y) same taken)
    (c.nest.ensures.region ∙ ap (λ o. o.frame.region) same)
    (record {
      run = refl;
      looks = refl;
      pool = refl;
      jobs = refl;
      busy = refl;
      entries = refl;
      failed = refl;
      outs = refl;
      then_is = record {
        flow = g.flow;
        opener = g.opener;
        jobs = g.jobs;
        is_busy = g.is_busy;
        «open» = with_item g.open 0 c.nest.new.self;
        seats = g.seats;
      };
      instances = refl;
      flow = ap (λ h. h.flow) read;
      opener = ap (λ h. h.opener) read;
      numbers = ap (λ h. h.jobs.items) read;
      is_busy = ap (λ h. h.is_busy) read;
      opened = open-set r i xs x v here g c.index_mut.ensures.value c.nest.new.self;
      due = omega (arith, some);
    })

pub returns-clause-due : goal.returns-clause-due
returns-clause-due c =
    let p = c.requires in
    let some =
    some-due c.args.self.now c.args.instance p.0 p.1 p.2 p.3 c.args.number (stage.Nested c.args.inner)
    (nest-due p.1.seats c.args.number p.4) refl in
    omega (arith, some)

pub nest-requires-clause-room : goal.nest-requires-clause-room
nest-requires-clause-room c =
    let p = c.requires in
    let r = c.args.self.now in
    let i = c.args.instance in
    let itself = its-code r i p.0 p.1 p.2 p.3 in
    let same =
    open-read r i p.0 p.1 p.2 p.3 c.index_mut.result.now c.index_mut.ensures.value c.index_mut-2.result.now
    c.index_mut-2.ensures.value in
    subst (λ o. 0 < room_at o.seats.nested_rooms (step_at o.seats.seats c.args.number)) (sym same)
    (p.6.each itself.itself itself.opened.itself itself.there itself.opened.there)
