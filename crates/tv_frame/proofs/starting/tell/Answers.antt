use Rattle.std.specs.Prelude.{drop}
use Rattle.std.proofs.Common.{ap, subst, sym, ◌∙◌}
use Rattle.tv_idle.specs.Idles.{of_step}
use Rattle.tv_intake.specs.Intaken.{CanShow, HoldsThese, known_jobs, matcher_at}
use Rattle.tv_spread.specs.Spreads.{is_faulty_now, with_all_new}
use Rattle.tv_spread.proofs.Reserving.{intaken-same, known-same, matcher-same, waiting-same}
use Rattle.tv_spread.proofs.Showing.{Shows}
use Rattle.tv_frame.proofs.FirstTold.{can-show, step-told}
use Rattle.tv_frame.proofs.FirstRooms.{new-numbers, new-places-at, taken-jobs, taken-levels, taken-many}
use Rattle.tv_frame.proofs.starting.tell.Goals as goal

pub new_jobs-good-requires-clause-can : goal.new_jobs-good-requires-clause-can
new_jobs-good-requires-clause-can c =
    subst CanShow (sym (matcher-same c.hold.new.self c.make_room.new.self c.make_room.ensures.same c.args.step))
    (can-show (matcher_at c.args.intakes.now c.args.step) (matcher_at c.hold.new.self c.args.step) c.args.told.now c.requires.can c.in_ok-hold.ensures.ok)

pub show-requires-clause-can : goal.show-requires-clause-can
show-requires-clause-can c =
    subst CanShow (sym (matcher-same c.hold.new.self c.make_room.new.self c.make_room.ensures.same c.args.step))
    (can-show (matcher_at c.args.intakes.now c.args.step) (matcher_at c.hold.new.self c.args.step) c.args.told.now c.requires.can c.in_ok-hold.ensures.ok)

pub add_known-requires-clause-places : goal.add_known-requires-clause-places
add_known-requires-clause-places c =
    let i = c.args.intakes.now in
    let r = c.make_room.new.self in
    let k = c.show.new.self in
    let e = c.show.ensures in
    let shows : Shows c.args.step r k = record { made = e.made; others = e.others; jobs = e.jobs; waiting = e.waiting; room = e.room; intaken = e.sound } in
    let holds = subst (HoldsThese c.args.told.now (matcher_at i c.args.step)) (sym (matcher-same c.hold.new.self r c.make_room.ensures.same c.args.step)) c.in_ok-hold.ensures.ok in
    new-places-at c.args.step i r k c.args.told.now holds shows c.known-known.result c.known-known.ensures (of_step c.args.idle.now.steps c.args.step) (of_step c.reserve_numbers.new.self.steps c.args.step)
    (taken-levels c.args.idle.now c.reserve.new.self c.reserve_numbers.new.self c.args.step c.reserve.ensures.steps c.reserve.ensures.known c.reserve_numbers.ensures.steps c.reserve_numbers.ensures.known c.args.step) c.requires.begun.5

pub add_known-requires-clause-numbers : goal.add_known-requires-clause-numbers
add_known-requires-clause-numbers c =
    let i = c.args.intakes.now in
    let r = c.make_room.new.self in
    let k = c.show.new.self in
    let e = c.show.ensures in
    let shows : Shows c.args.step r k = record { made = e.made; others = e.others; jobs = e.jobs; waiting = e.waiting; room = e.room; intaken = e.sound } in
    let holds = subst (HoldsThese c.args.told.now (matcher_at i c.args.step)) (sym (matcher-same c.hold.new.self r c.make_room.ensures.same c.args.step)) c.in_ok-hold.ensures.ok in
    new-numbers c.args.step i r k c.args.told.now holds shows c.known-known.result c.known-known.ensures c.as_slice.result.now c.hold.new.self c.reserve_numbers.new.self.room c.in_ok-jobs.jobs c.as_slice.ensures c.make_room.ensures.same.matchers c.in_ok-reserve_numbers.ensures.ok c.in_ok-jobs.ensures.count

pub returns : goal.returns
returns c f tells s h at told =
    let i = c.args.intakes.now in
    let j = c.hold.new.self in
    let r = c.make_room.new.self in
    let k = c.show.new.self in
    let e = c.show.ensures in
    let moved = c.make_room.ensures.same in
    let shows : Shows c.args.step r k = record { made = e.made; others = e.others; jobs = e.jobs; waiting = e.waiting; room = e.room; intaken = e.sound } in
    let holds = subst (HoldsThese c.args.told.now (matcher_at i c.args.step)) (sym (matcher-same j r moved c.args.step)) c.in_ok-hold.ensures.ok in
    let idle = c.args.idle.now in
    let m = c.reserve_numbers.new.self in
    step-told f tells c.args.step i r k idle m s c.args.told.now h at c.requires.can holds
    (λ n ne. matcher-same j r moved n ∙ c.hold.ensures.others n ne)
    (known-same j r moved ∙ c.hold.ensures.jobs) (waiting-same j r moved ∙ c.hold.ensures.waiting) (intaken-same j r moved c.hold.ensures.sound) shows told
    (taken-jobs idle c.reserve.new.self m c.args.step c.reserve.ensures.steps c.reserve.ensures.known c.reserve_numbers.ensures.steps c.reserve_numbers.ensures.known)
    (taken-many idle c.reserve.new.self m c.args.step c.reserve.ensures.steps c.reserve.ensures.known c.reserve_numbers.ensures.steps c.reserve_numbers.ensures.known)
    (taken-levels idle c.reserve.new.self m c.args.step c.reserve.ensures.steps c.reserve.ensures.known c.reserve_numbers.ensures.steps c.reserve_numbers.ensures.known)
    c.add_known.new.idle
    (c.add_known.ensures ∙ ap (λ n. with_all_new (is_faulty_now k) (drop n (known_jobs k)) m) c.known-known.ensures)
