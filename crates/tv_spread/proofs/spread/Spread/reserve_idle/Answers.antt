use Rattle.std.proofs.Common.{◌≡◌, ◌<◌, ℕ, length, get_or, arith, ap, subst, ◌∙◌}
use Rattle.tv_idle.specs.Idles.{StepIdle, of_step}
use Rattle.tv_spread.specs.Spreads.{new_faulty, new_good}
use Rattle.tv_spread.proofs.Lists.{each-at, each-next}
use Rattle.tv_spread.proofs.Reserving.{reserved-each, reserved-rooms, rooms-none}
use Rattle.tv_spread.proofs.spread.Spread.reserve_idle.Goals as goal

pub loop-step-init : goal.loop-step-init
loop-step-init c = record { good = tt; faulty = tt; rooms = rooms-none c.args.idle.now }

pub loop-step-preserved : goal.loop-step-preserved
loop-step-preserved c =
    let i = c.loop-step.step-index in
    let items = c.deref-step-items.result.now in
    let cs = c.args.self.now.touched.items in
    let step = get_or items i 0 in
    let at : step ≡ get_or cs i 0 = ap (λ l. get_or l i 0) c.deref-step-items.ensures.value in
    let lt : i < length cs = subst (λ l. i < length l) c.deref-step-items.ensures.value c.loop-step-test.true in
    let v = c.loop-step.invariant in
    let j = c.loop-step.idle in
    let k = c.reserve.new.self in
    let intakes = c.args.intakes.now in
    let there = each-at (λ d. d < length c.args.idle.now.steps) cs i 0 c.requires.within lt in
    let within : step < length j.steps = omega (arith, there, at, v.rooms.as_many) in
    let good : ℕ → StepIdle → Type 0 = λ d s. s.good_room ≡ new_good intakes d in
    let faulty : ℕ → StepIdle → Type 0 = λ d s. s.faulty_room ≡ new_faulty intakes d in
    let own_good : good step (of_step k.steps step) = c.in_ok-reserve.ensures.good ∙ c.new_jobs-good.ensures.good in
    let own_faulty : faulty step (of_step k.steps step) = c.in_ok-reserve.ensures.faulty ∙ c.new_jobs-good.ensures.faulty in
    record {
      good =
          each-next (λ d. good d (of_step k.steps d)) cs i 0
          (reserved-each j k step within c.reserve.ensures.steps good own_good _ v.good) lt
          (subst (λ d. good d (of_step k.steps d)) at own_good);
      faulty =
          each-next (λ d. faulty d (of_step k.steps d)) cs i 0
          (reserved-each j k step within c.reserve.ensures.steps faulty own_faulty _ v.faulty) lt
          (subst (λ d. faulty d (of_step k.steps d)) at own_faulty);
      rooms = reserved-rooms j k step within c.reserve.ensures.steps c.args.idle.now v.rooms c.reserve.ensures.known;
    }
