use Rattle.std.specs.Vec.{with_item}
use Rattle.std.proofs.Common.{ap, arith, refl, subst}
use Rattle.tv_instances.specs.Tries.{HasStage}
use Rattle.tv_seats.specs.declared.stage.Stage.TheVariants as stage
use Rattle.tv_run.proofs.SeatRooms.{back-room, same-open, stands-out}
use Rattle.tv_run.proofs.Staged.{moves-staged}
use Rattle.tv_run.proofs.Taking.{its-code, open-low, open-set, read-is}
use Rattle.tv_run.proofs.run.OpenRun.put_back.Goals as goal

pub index_mut-requires-2 : goal.index_mut-requires-2
index_mut-requires-2 c =
    let p = c.requires.may in
    let g = c.index_mut.result.now in
    let low = open-low c.args.self.now c.args.instance p.0 p.1 p.2 p.4.here g c.index_mut.ensures.value in
    omega (arith, low, g.open.ok.0)

pub put_back-requires-clause-out : goal.put_back-requires-clause-out
put_back-requires-clause-out c =
    let p = c.requires.may in
    stands-out c.args.self.now c.args.instance p.0 p.1 p.2 p.4.here c.index_mut.result.now c.index_mut.ensures.value
    c.index_mut-2.result.now c.index_mut-2.ensures.value c.args.number p.3 p.4.seat p.4.out

pub put_back-requires-clause-room : goal.put_back-requires-clause-room
put_back-requires-clause-room c =
    let p = c.requires.may in
    back-room c.args.self.now c.args.instance p.0 p.1 p.2 p.4.here c.index_mut.result.now c.index_mut.ensures.value
    c.index_mut-2.result.now c.index_mut-2.ensures.value c.args.number p.3 p.4.seat p.4.out p.5

pub returns-clause-moved : goal.returns-clause-moved
returns-clause-moved c = λ xs x v s out.
    let r = c.args.self.now in
    let i = c.args.instance in
    let g = c.index_mut.result.now in
    let y = stage.Idle c.args.activity c.args.attempt in
    let its = its-code r i xs x v out.here in
    let read = read-is r i xs x v out.here g c.index_mut.ensures.value in
    let same =
    same-open r i xs x v out.here g c.index_mut.ensures.value c.index_mut-2.result.now c.index_mut-2.ensures.value in
    moves-staged r _ i c.args.number y its.itself its.opened.itself c.put_back.new.self
    (record {
      was = its.there;
      opened = its.opened.there;
      set = record {
        after = record {
          flow = g.flow;
          opener = g.opener;
          jobs = g.jobs;
          is_busy = g.is_busy;
          «open» = with_item g.open 0 c.put_back.new.self;
          seats = g.seats;
        };
        instances = refl;
        flow = ap (λ h. h.flow) read;
        opener = ap (λ h. h.opener) read;
        numbers = ap (λ h. h.jobs) read;
        is_busy = ap (λ h. h.is_busy) read;
        is_open = open-set r i xs x v out.here g c.index_mut.ensures.value c.put_back.new.self;
        run = refl;
        looks = refl;
        pool = refl;
        busy = refl;
        jobs = refl;
        entries = refl;
        failed = refl;
        outs = refl;
      };
      has_stage = subst (λ o. HasStage o c.put_back.new.self c.args.number y) same c.put_back.ensures;
      due = refl;
    })
    refl refl xs x v s out
