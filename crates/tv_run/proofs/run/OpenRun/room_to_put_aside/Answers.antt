use Rattle.std.specs.Vec.{with_item}
use Rattle.std.proofs.Common.{ap, arith, refl, slice_get, sym, ◌∙◌}
use Rattle.std.proofs.lemmas.Result.{on_ok_weaker}
use Rattle.tv_instances.specs.declared.open.Open.{Open}
use Rattle.tv_seats.specs.Seats.{room_at}
use Rattle.tv_run.proofs.OpenSet.{open-in_set}
use Rattle.tv_run.proofs.Rooms.{before-entries, before-then}
use Rattle.tv_run.proofs.SeatRooms.{level-there, roomier}
use Rattle.tv_run.proofs.Taking.{its-code, open-low, open-set, read-is}
use Rattle.tv_run.proofs.run.OpenRun.room_to_put_aside.Goals as goal

pub index_mut-requires-2 : goal.index_mut-requires-2
index_mut-requires-2 c =
    let p = c.requires in
    let g = c.index_mut.result.now in
    let low = open-low c.args.self.now c.args.instance p.0 p.1 p.2 p.3 g c.index_mut.ensures.value in
    omega (arith, low, g.open.ok.0)

pub reserve_aside-requires : goal.reserve_aside-requires
reserve_aside-requires c =
    let p = c.requires in
    level-there c.args.self.now c.args.instance p.0 p.1 p.2 p.3 c.index_mut.result.now c.index_mut.ensures.value
    c.index_mut-2.result.now c.index_mut-2.ensures.value c.args.step p.4

pub returns-in_err-reserve_aside-clause-same : goal.returns-in_err-reserve_aside-clause-same
returns-in_err-reserve_aside-clause-same c =
    let p = c.requires in
    let r = c.args.self.now in
    let i = c.args.instance in
    let g = c.index_mut.result.now in
    let read = read-is r i p.0 p.1 p.2 p.3 g c.index_mut.ensures.value in
    roomier r i p.0 p.1 p.2 p.3 g c.index_mut.ensures.value c.index_mut-2.result.now c.index_mut-2.ensures.value _
    c.reserve_aside.new.self c.reserve_aside.ensures.same
    (record {
      after = record {
        flow = g.flow;
        opener = g.opener;
        jobs = g.jobs;
        is_busy = g.is_busy;
        «open» = with_item g.open 0 c.reserve_aside.new.self;
        seats = g.seats;
      };
      instances = refl;
      flow = ap (λ h. h.flow) read;
      opener = ap (λ h. h.opener) read;
      numbers = ap (λ h. h.jobs) read;
      is_busy = ap (λ h. h.is_busy) read;
      is_open = open-set r i p.0 p.1 p.2 p.3 g c.index_mut.ensures.value c.reserve_aside.new.self;
      run = refl;
      looks = refl;
      pool = refl;
      busy = refl;
      jobs = refl;
      entries = refl;
      failed = refl;
      outs = refl;
    })
    refl

pub returns-clause-same : goal.returns-clause-same
returns-clause-same c =
    let p = c.requires in
    let r = c.args.self.now in
    let i = c.args.instance in
    let g = c.index_mut.result.now in
    let read = read-is r i p.0 p.1 p.2 p.3 g c.index_mut.ensures.value in
    before-then r _ c.reserve_entries.new.self
    (roomier r i p.0 p.1 p.2 p.3 g c.index_mut.ensures.value c.index_mut-2.result.now c.index_mut-2.ensures.value _
    c.reserve_aside.new.self c.reserve_aside.ensures.same
    (record {
      after = record {
        flow = g.flow;
        opener = g.opener;
        jobs = g.jobs;
        is_busy = g.is_busy;
        «open» = with_item g.open 0 c.reserve_aside.new.self;
        seats = g.seats;
      };
      instances = refl;
      flow = ap (λ h. h.flow) read;
      opener = ap (λ h. h.opener) read;
      numbers = ap (λ h. h.jobs) read;
      is_busy = ap (λ h. h.is_busy) read;
      is_open = open-set r i p.0 p.1 p.2 p.3 g c.index_mut.ensures.value c.reserve_aside.new.self;
      run = refl;
      looks = refl;
      pool = refl;
      busy = refl;
      jobs = refl;
      entries = refl;
      failed = refl;
      outs = refl;
    })
    refl)
    (before-entries _ c.reserve_entries.new.self c.reserve_entries.ensures.rest c.reserve_entries.ensures.entries
    c.reserve_entries.ensures.capacity)

pub returns-clause-rooms : goal.returns-clause-rooms
returns-clause-rooms c =
    let p = c.requires in
    let r = c.args.self.now in
    let i = c.args.instance in
    let g = c.index_mut.result.now in
    let its = its-code r i p.0 p.1 p.2 p.3 in
    let same = c.reserve_entries.ensures.rest.instances in
    on_ok_weaker c.reserve_entries.result
    (λ room. (
      record {
        each = λ e o at there.
            let is =
            open-in_set r.instances.items i its.itself
            (record {
              flow = g.flow;
              opener = g.opener;
              jobs = g.jobs;
              is_busy = g.is_busy;
              «open» = with_item g.open 0 c.reserve_aside.new.self;
              seats = g.seats;
            })
            c.reserve_aside.new.self its.there (open-set r i p.0 p.1 p.2 p.3 g c.index_mut.ensures.value c.reserve_aside.new.self) e o
            (ap (λ v. slice_get v.items i) (sym same) ∙ at) there in
            let one = ap (λ (q : Open). room_at q.seats.aside_rooms c.args.step) is ∙ c.in_ok-reserve_aside.ensures.taken in
            omega (arith, one);
      },
      record { entries = room },
    ))
    c.reserve_entries.ensures.room
