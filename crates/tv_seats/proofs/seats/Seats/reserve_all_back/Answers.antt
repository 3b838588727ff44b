use Rattle.std.proofs.Common.{ℕ, ap, ◌∙◌}
use Rattle.tv_seats.specs.Seats.{count_at}
use Rattle.tv_seats.specs.Stages.{is_out}
use Rattle.tv_seats.proofs.CallingBack.{reserved-as, reserved-more}
use Rattle.tv_seats.proofs.seats.Seats.reserve_all_back.Goals as goal

pub loop-step-preserved : goal.loop-step-preserved
loop-step-preserved c =
    let e = c.in_ok-reserve_for.ensures in
    let i = c.loop-step.invariant in
    let seats = c.args.self.now.seats in
    let rooms = c.loop-step.self.back_rooms in
    let after = c.reserve_for.new.self.back_rooms in
    let n = c.loop-step.step in
    let outs : ℕ → ℕ = λ k. count_at is_out k seats in
    let is = c.out_of.ensures ∙ ap (count_at is_out n) i.seats in
    record {
      seats = e.seats ∙ i.seats;
      levels = e.levels ∙ i.levels;
      room = e.room ∙ i.room;
      rooms = reserved-more rooms after n c.out_of.result outs e.ok e.taken is i.rooms;
      back_rooms = reserved-as rooms after n c.out_of.result outs e.ok e.taken is c.args.self.now.back_rooms i.back_rooms;
      aside_rooms = e.aside_rooms ∙ i.aside_rooms;
      nested_rooms = e.nested_rooms ∙ i.nested_rooms;
    }
