use Rattle.std.proofs.Common.{ap, arith, refl, ◌∙◌}
use Rattle.std.specs.Vec.{with_item}
use Rattle.tv_check.specs.RunViews.{run_view}
use Rattle.tv_run.proofs.Giving.{can-follow, tells-then, to-settle}
use Rattle.tv_run.proofs.Itself.{flow-low, number-low, open-low, open-read, plan-is, seats-are, steps-same, with_open}
use Rattle.tv_run.proofs.run.OpenRun.told_level.Goals as goal

pub flow-plan-requires : goal.flow-plan-requires
flow-plan-requires c =
    let p = c.requires in
    flow-low c.args.self.now c.args.instance p.0 p.1 p.2 p.5 c.index.result.now c.index.ensures

pub index_mut-requires : goal.index_mut-requires
index_mut-requires c =
    let p = c.requires in
    let r = c.args.self.now in
    let low = number-low r c.args.instance p.0 p.1 p.2 p.5 in
    omega (arith, low, r.instances.ok.0)

pub index_mut-requires-2 : goal.index_mut-requires-2
index_mut-requires-2 c =
    let p = c.requires in
    let g = c.index_mut.result.now in
    let low = open-low c.args.self.now c.args.instance p.0 p.1 p.2 p.5 g c.index_mut.ensures.value in
    omega (arith, low, g.open.ok.0)

pub settle-settled-requires : goal.settle-settled-requires
settle-settled-requires c =
    let r = c.args.self.now in
    let i = c.args.instance in
    let p = c.requires in
    let plan = c.flow-plan.result.now in
    let g = c.index_mut.result.now in
    let q = c.index_mut-2.result.now in
    let of_flow = plan-is r i p.0 p.1 p.2 p.5 c.index.result.now c.index.ensures plan c.flow-plan.ensures in
    let same = open-read r i p.0 p.1 p.2 p.5 g c.index_mut.ensures.value q c.index_mut-2.ensures.value in
    (run_view r.run, p.2, p.3, p.4, to-settle r i p.0 p.1 p.2 p.5 p.3 p.4 p.6 plan of_flow q same)

pub follow-requires : goal.follow-requires
follow-requires c =
    let r = c.args.self.now in
    let i = c.args.instance in
    let p = c.requires in
    let plan = c.flow-plan.result.now in
    let g = c.index_mut.result.now in
    let q = c.index_mut-2.result.now in
    let of_flow = plan-is r i p.0 p.1 p.2 p.5 c.index.result.now c.index.ensures plan c.flow-plan.ensures in
    let same = open-read r i p.0 p.1 p.2 p.5 g c.index_mut.ensures.value q c.index_mut-2.ensures.value in
    let told =
    c.settle-settled.ensures.told (run_view r.run) p.2 p.3 p.4
    (to-settle r i p.0 p.1 p.2 p.5 p.3 p.4 p.6 plan of_flow q same) in
    can-follow r i p.0 p.1 p.2 p.5 g c.index_mut.ensures.value plan of_flow q same _ c.settle-settled.new.self
    (record {
      run = refl;
      looks = refl;
      busy = refl;
      jobs = refl;
      entries = refl;
      failed = refl;
      outs = refl;
      instances = refl;
    })
    p.3 p.4 p.1.seats q.seats.seats (ap (λ a. a.seats.seats) same ∙ seats-are r i p.0 p.1 p.2 p.5) refl told.0
    c.settle-settled.ensures.regions c.settle-settled.ensures.region p.7 (omega arith)

pub returns : goal.returns
returns c = λ xs x v e more here ready room.
    let r = c.args.self.now in
    let i = c.args.instance in
    let plan = c.flow-plan.result.now in
    let g = c.index_mut.result.now in
    let q = c.index_mut-2.result.now in
    let of_flow = plan-is r i xs x v here c.index.result.now c.index.ensures plan c.flow-plan.ensures in
    let same = open-read r i xs x v here g c.index_mut.ensures.value q c.index_mut-2.ensures.value in
    let told =
    c.settle-settled.ensures.told (run_view r.run) v e more (to-settle r i xs x v here e more ready plan of_flow q same) in (
      tells-then r i xs x v here g c.index_mut.ensures.value plan of_flow q same
          (record r { pool = c.settle-settled.new.pool; instances = with_item r.instances i (with_open g c.settle-settled.new.self) }) c.settle-settled.new.self
          (record {
            run = refl;
            looks = refl;
            busy = refl;
            jobs = refl;
            entries = refl;
            failed = refl;
            outs = refl;
            instances = refl;
          })
          e more x.seats q.seats.seats (ap (λ a. a.seats.seats) same ∙ seats-are r i xs x v here) refl told.0
          c.settle-settled.ensures.regions c.settle-settled.ensures.region room (omega arith) _ c.follow.ensures refl,
      steps-same r i xs x v here c.settle-settled.result e told.1,
    )
