use Rattle.std.specs.Prelude.{vec_capacity}
use Rattle.std.proofs.Common.{ap, arith, length}
use Rattle.tv_lemmas.proofs.Options.{on-err}
use Rattle.tv_run.specs.Changes.{IsOpenHere}
use Rattle.tv_run.proofs.Ending.{ends-now}
use Rattle.tv_run.proofs.EndingMain.{ends-main}
use Rattle.tv_run.proofs.Rooms.{before-entries, stays-before}
use Rattle.tv_run.proofs.run.OpenRun.end_main.Goals as goal
use Rattle.tv_run.proofs.Bouncing.{open-here}

pub returns-in_err-reserve_entries-clause-refused : goal.returns-in_err-reserve_entries-clause-refused
returns-in_err-reserve_entries-clause-refused c =
    let r = c.args.self.now in
    let m = c.reserve_entries.new.self in
    on-err c.from_residual.result
    (λ gives so.
    stays-before gives r m
    (before-entries r m c.reserve_entries.ensures.rest c.reserve_entries.ensures.entries
    c.reserve_entries.ensures.capacity)
    so)

pub close-ended-requires : goal.close-ended-requires
close-ended-requires c =
    let h = c.requires.1 in
    let r = c.args.self.now in
    let m = c.reserve_entries.new.self in
    let b =
    before-entries r m c.reserve_entries.ensures.rest c.reserve_entries.ensures.entries
    c.reserve_entries.ensures.capacity in
    let here = open-here c.requires.0 r 0 h in (
      h.instances,
      h.instance,
      h.view,
      record { fits = b.fits h.instances here.fits; there = here.there; is_open = here.is_open },
      ends-now c.requires.0 r 0 h c.requires.2,
    )

pub note-requires : goal.note-requires
note-requires c =
    let q = c.requires in
    let h = q.1 in
    let r = c.args.self.now in
    let m = c.reserve_entries.new.self in
    let b =
    before-entries r m c.reserve_entries.ensures.rest c.reserve_entries.ensures.entries
    c.reserve_entries.ensures.capacity in
    let here = open-here q.0 r 0 h in
    let shut =
    c.close-ended.ensures.shut h.instances h.instance h.view
    (record { fits = b.fits h.instances here.fits; there = here.there; is_open = here.is_open })
    (ends-now q.0 r 0 h q.2) in
    let many = ap (λ v. length v.items) shut.rest.entries in
    let wide = ap vec_capacity shut.rest.entries in
    let room = c.in_ok-reserve_entries.ensures.room in
    omega (arith, many, wide, room)

pub returns-clause-ended : goal.returns-clause-ended
returns-clause-ended c = λ gives h ends.
    let r = c.args.self.now in
    let m = c.reserve_entries.new.self in
    let b =
    before-entries r m c.reserve_entries.ensures.rest c.reserve_entries.ensures.entries
    c.reserve_entries.ensures.capacity in
    let here = open-here gives r 0 h in
    let then : IsOpenHere m h.instances 0 h.instance h.view =
    record { fits = b.fits h.instances here.fits; there = here.there; is_open = here.is_open } in
    let now = ends-now gives r 0 h ends in
    let outs = c.close-ended.ensures.outputs h.instances h.instance h.view then now in
    ends-main gives r h ends m b c.in_ok-reserve_entries.ensures.room c.close-ended.new.self
    (c.close-ended.ensures.shut h.instances h.instance h.view then now) c.close-ended.ensures.names
    c.close-ended.ensures.due c.close-ended.result outs.0 outs.1
    (c.close-ended.ensures.levels h.instances h.instance h.view then now) c.note.new.self c.note.ensures
