use Rattle.std.specs.Option.{option_map_or}
use Rattle.std.proofs.Common.{ap, arith, false, sym, ◌<◌, ◌≡◌, ◌∙◌, length}
use Rattle.tv_seats.specs.Seats.{stage_at}
use Rattle.tv_instances.specs.stands.Seats.{is_over}
use Rattle.tv_run.proofs.Recording.{all-gathered, gathered, not-gathered}
use Rattle.tv_run.proofs.tracing.settled_jobs.Goals as goal
use Rattle.tv_run.proofs.tracing.settled_jobs.Goals.{else-is_settled, then-is_settled+in_ok-place+in_ok-push}

pub loop-number-preserved : goal.loop-number-preserved
loop-number-preserved c =
    let ss = c.args.open.now.seats.seats in
    let k = c.loop-number.number in
    let told : option_map_or is_over (stage_at ss k) false ≡ c.is_settled.result =
    ap (λ o. option_map_or is_over o false) (sym c.stage.ensures) ∙ sym c.is_settled.ensures
    in
    let low : k < length ss = (let e = c.known-number-end.ensures in omega (arith, c.loop-number-test.true, e)) in
    let m = c.is_settled.result in
    let js = c.loop-number.jobs.items in
    let before = c.loop-number.invariant in
    elim c.if-is_settled.branch [
      | then-is_settled+in_ok-place+in_ok-push w ↦
          gathered ss k low m told js before w.if-is_settled.true (record { step = w.step-step.result; place = w.in_ok-place.place }) w.step-step.ensures w.place.result.now w.in_ok-place.ensures.ok w.place.ensures
          c.if-is_settled.jobs.items w.push.new.self.items (ap (λ j. j.items) w.jobs-is) w.in_ok-push.ensures.items
      | else-is_settled w ↦ not-gathered ss k low m told js before w.if-is_settled.false c.if-is_settled.jobs.items (ap (λ j. j.items) w.jobs-is)
    ]

pub returns : goal.returns
returns c = all-gathered c.args.open.now.seats.seats c.loop-number.number (let e = c.known-number-end.ensures in omega (arith, c.loop-number-test.false, e)) c.loop-number.jobs.items c.loop-number.invariant
