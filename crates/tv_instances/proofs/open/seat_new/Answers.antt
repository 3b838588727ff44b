use Rattle.std.specs.Prelude.{length, ◌<◌}
use Rattle.std.proofs.Common.{arith, subst}
use Rattle.tv_lemmas.proofs.Lists.{get-within}
use Rattle.tv_intake.specs.Intaken.{known_jobs}
use Rattle.tv_instances.proofs.Seating.{first-sitting, next-sitting}
use Rattle.tv_instances.proofs.TurnLemmas.{none-more, one-more}
use Rattle.tv_instances.proofs.open.seat_new.Goals as goal

pub loop-number-init : goal.loop-number-init
loop-number-init c = (
  first-sitting c.args.frame.now c.args.seats.now c.len-number.result c.requires.can c.len-number.ensures.len,
  none-more c.args.turns.now c.args.seats.now.seats c.len-number.result c.len-number.ensures.len,
)

pub loop-number-preserved : goal.loop-number-preserved
loop-number-preserved c =
    let i = c.loop-number.invariant in
    let low =
    subst (λ n. c.loop-number.number < n) c.known-number-end.ensures (omega (arith, c.loop-number-test.true)) in
    let j = get-within (known_jobs c.args.frame.now.intakes) c.loop-number.number low in (
      next-sitting c.args.frame.now c.args.seats.now c.loop-number.seats c.seat_job.new.seats c.loop-number.number i.0 low
          (λ j e. c.seat_job.ensures.seats j e) c.seat_job.ensures.levels c.seat_job.ensures.room
          c.seat_job.ensures.back_rooms,
      one-more c.args.turns.now c.loop-number.turns c.seat_job.new.turns (length c.args.seats.now.seats)
          c.loop-number.seats.seats c.seat_job.new.seats.seats j.0 i.1 (c.seat_job.ensures.turns j.0 j.1)
          (c.seat_job.ensures.seats j.0 j.1),
    )
