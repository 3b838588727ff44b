use Rattle.std.proofs.Common.{◌≡◌, ◌<◌, length, get_or, arith, ap, sym, subst, ◌∙◌}
use Rattle.std.specs.Prelude.{sum_by}
use Rattle.tv_lemmas.specs.Members.{Each}
use Rattle.tv_strategy.proofs.Each.{each-weaken}
use Rattle.tv_idle.specs.Idles.{of_step}
use Rattle.tv_intake.specs.Intaken.{CanShow, HasRoom, brought_at, matcher_at}
use Rattle.tv_intake.specs.Sorting.{jobs_among}
use Rattle.tv_intake.proofs.IntakeLemmas.{shown-within}
use Rattle.tv_spread.specs.Arounds.{told_steps}
use Rattle.tv_spread.specs.Spreads.{new_faulty, new_good}
use Rattle.tv_spread.proofs.Lists.{each-at}
use Rattle.tv_spread.proofs.Reserving.{all-ready, matcher-same, steps-below, told-shown}
use Rattle.tv_spread.proofs.spread.Spread.hold.Goals as goal

pub make_room-requires-clause-steps : goal.make_room-requires-clause-steps
make_room-requires-clause-steps c = λ k d lt.
    let a = c.args.around.now in
    let j = c.tell_all.new.intakes in
    let xs = c.as_slice.result.now in
    let all : Each (λ x. CanShow (matcher_at j x)) xs =
    subst (Each (λ x. CanShow (matcher_at j x))) (sym (c.as_slice.ensures.value ∙ c.in_ok-tell_all.ensures.touched))
    (told-shown a c.args.step c.args.event.now c.args.intakes.now j c.in_ok-tell_all.ensures.held) in
    let here = each-at (λ x. CanShow (matcher_at j x)) xs k d all lt in
    omega (arith, shown-within j.matchers.items (get_or xs k d) here, j.matchers.ok.0)

pub reserve_idle-requires-clause-can : goal.reserve_idle-requires-clause-can
reserve_idle-requires-clause-can c =
    let a = c.args.around.now in
    let j = c.tell_all.new.intakes in
    let k = c.make_room.new.self in
    subst (Each (λ x. CanShow (matcher_at k x))) (sym c.in_ok-tell_all.ensures.touched)
    (each-weaken (λ x. CanShow (matcher_at j x)) (λ x. CanShow (matcher_at k x)) (λ x h. subst CanShow (sym (matcher-same j k c.make_room.ensures.same x)) h)
    (told_steps a c.args.step c.args.event.now)
    (told-shown a c.args.step c.args.event.now c.args.intakes.now j c.in_ok-tell_all.ensures.held))

pub reserve_idle-requires-clause-within : goal.reserve_idle-requires-clause-within
reserve_idle-requires-clause-within c =
    subst (Each (λ x. x < length c.args.idle.now.steps)) (sym c.in_ok-tell_all.ensures.touched)
    (steps-below c.args.around.now c.args.step c.args.event.now (length c.args.idle.now.steps) c.requires.steps)

pub returns-clause-ready : goal.returns-clause-ready
returns-clause-ready c =
    let a = c.args.around.now in
    let s = c.args.step in
    let e = c.args.event.now in
    let j = c.tell_all.new.intakes in
    let k = c.make_room.new.self in
    let mid = c.reserve_idle.new.idle in
    let touched = c.in_ok-tell_all.ensures.touched in
    let listed = c.as_slice.ensures.value ∙ touched in
    all-ready a s e c.args.intakes.now j k c.args.idle.now mid c.reserve_numbers.new.self
    c.in_ok-tell_all.ensures.held c.make_room.ensures.same c.tell_all.ensures.stays
    c.reserve_idle.ensures.rooms c.reserve_numbers.ensures.steps c.requires.levels c.requires.steps
    (subst (λ cs. HasRoom (sum_by (λ x. length (brought_at j x)) cs) k) listed c.in_ok-jobs.ensures.room)
    (subst (Each (λ x. (of_step mid.steps x).good_room ≡ new_good k x)) touched c.in_ok-reserve_idle.ensures.good)
    (subst (Each (λ x. (of_step mid.steps x).faulty_room ≡ new_faulty k x)) touched c.in_ok-reserve_idle.ensures.faulty)
    (c.in_ok-reserve_numbers.ensures.ok ∙ c.in_ok-jobs.ensures.count ∙ ap (λ cs. sum_by (λ x. jobs_among (brought_at j x)) cs) listed)
