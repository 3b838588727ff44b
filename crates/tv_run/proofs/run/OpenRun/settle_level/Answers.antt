use Rattle.std.proofs.Common.{subst}
use Rattle.tv_stream.proofs.Bases.{on-err}
use Rattle.tv_run.specs.Rooms.{IsNoted}
use Rattle.tv_run.proofs.LevelSettled.{here-then, level-settled, open-low, ready-here}
use Rattle.tv_run.proofs.Rooms.{before-rooms, stays-before}
use Rattle.tv_run.proofs.Settlings.{entry-room}
use Rattle.tv_run.proofs.run.OpenRun.settle_level.Goals as goal

pub reserve_in-requires : goal.reserve_in-requires
reserve_in-requires c =
    let p = c.requires in
    open-low p.0 c.args.self.now c.args.instance p.2.here

pub returns-in_err-reserve_in-clause-refused : goal.returns-in_err-reserve_in-clause-refused
returns-in_err-reserve_in-clause-refused c =
    on-err c.from_residual-in_err-reserve_in.result _
    (λ gives so.
    let r = c.args.self.now in
    let m = c.reserve_in.new.self in
    stays-before gives r m (before-rooms r m c.reserve_in.ensures.same) so)

pub told_level-settled-requires : goal.told_level-settled-requires
told_level-settled-requires c =
    let p = c.requires in
    let q = p.2 in
    let r = c.args.self.now in
    let i = c.args.instance in
    let more = c.args.more in
    let m = c.reserve_in.new.self in
    let rooms = c.reserve_in.ensures.same in (
      q.here.instances,
      q.here.instance,
      q.here.view,
      p.1,
      more,
      here-then p.0 r i more p.1 q m rooms,
      ready-here p.0 r i more p.1 q m rooms,
      c.in_ok-reserve_in.ensures.rooms,
    )

pub note-requires : goal.note-requires
note-requires c =
    let p = c.requires in
    let q = p.2 in
    let r = c.args.self.now in
    let i = c.args.instance in
    let more = c.args.more in
    let m = c.reserve_in.new.self in
    let rooms = c.reserve_in.ensures.same in
    let room = c.in_ok-reserve_in.ensures.rooms in
    let told =
    c.told_level-settled.ensures q.here.instances q.here.instance q.here.view p.1 more
    (here-then p.0 r i more p.1 q m rooms) (ready-here p.0 r i more p.1 q m rooms) room in
    entry-room m c.told_level-settled.new.self i more room told.0.changes.rest.entries

pub returns-clause-settled : goal.returns-clause-settled
returns-clause-settled c = λ gives e q.
    let r = c.args.self.now in
    let i = c.args.instance in
    let more = c.args.more in
    let m = c.reserve_in.new.self in
    let rooms = c.reserve_in.ensures.same in
    let room = c.in_ok-reserve_in.ensures.rooms in
    let t = c.told_level-settled.new.self in
    let told =
    c.told_level-settled.ensures q.here.instances q.here.instance q.here.view e more
    (here-then gives r i more e q m rooms) (ready-here gives r i more e q m rooms) room in
    level-settled gives r i more e q m rooms room t told.0 c.note.new.self c.told_level-settled.result c.in_ok-kept.kept told.1
    (subst (IsNoted t c.note.new.self) c.entry_of.ensures c.note.ensures)
