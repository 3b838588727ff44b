use Rattle.std.proofs.Common.{◌≡◌}
use Rattle.tv_seats.specs.Seats.{HasBackRooms}
use Rattle.tv_seats.proofs.CallingBack.{backed}
use Rattle.tv_seats.proofs.seats.Seats.put_all_back.Given as goal

abbrev pub invariant-loop-number : goal.invariant-loop-number
invariant-loop-number l = record {
  seats : l.self.seats ≡ backed l.number l.fn.self.seats;
  levels : l.self.levels ≡ l.fn.self.levels;
  room : l.self.room ≡ l.fn.self.room;
  rooms : HasBackRooms l.self;
  aside_rooms : l.self.aside_rooms ≡ l.fn.self.aside_rooms;
  nested_rooms : l.self.nested_rooms ≡ l.fn.self.nested_rooms;
}
