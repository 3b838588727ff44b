use Rattle.std.proofs.Common.{◌≡◌, ap, arith, ◌∙◌, length}
use Rattle.tv_seats.specs.Seats.{with_back}
use Rattle.tv_seats.proofs.CallingBack.{backed, backed-all, backed-long, backed-more}
use Rattle.tv_seats.proofs.seats.Seats.put_all_back.Goals as goal

pub call_back-requires-clause-number : goal.call_back-requires-clause-number
call_back-requires-clause-number c =
    let seats = c.args.self.now.seats in
    let n = c.loop-number.number in
    let long = ap length c.loop-number.invariant.seats ∙ backed-long n seats in
    let low = c.loop-number-test.true in
    let end = c.len-number-end.ensures.len in
    omega (arith, long, low, end)

pub loop-number-preserved : goal.loop-number-preserved
loop-number-preserved c =
    let seats = c.args.self.now.seats in
    let n = c.loop-number.number in
    let i = c.loop-number.invariant in
    let low = c.loop-number-test.true in
    let end = c.len-number-end.ensures.len in
    record {
      seats = c.call_back.ensures.seats ∙ ap (with_back n) i.seats ∙ backed-more n seats (omega (arith, low, end));
      levels = c.call_back.ensures.levels ∙ i.levels;
      room = c.call_back.ensures.room ∙ i.room;
      rooms = c.call_back.ensures.rooms;
      aside_rooms = c.call_back.ensures.aside_rooms ∙ i.aside_rooms;
      nested_rooms = c.call_back.ensures.nested_rooms ∙ i.nested_rooms;
    }

pub returns-clause-seats : goal.returns-clause-seats
returns-clause-seats c =
    let seats = c.args.self.now.seats in
    let n = c.loop-number.number in
    let high = c.loop-number-test.false in
    let most = c.loop-number.auto.number-end in
    let end = c.len-number-end.ensures.len in
    let is : n ≡ length seats = omega (arith, high, most, end) in
    c.loop-number.invariant.seats ∙ ap (λ n. backed n seats) is ∙ backed-all seats
