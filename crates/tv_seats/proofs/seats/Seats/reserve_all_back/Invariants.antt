use Rattle.std.proofs.Common.{◌≡◌, ◌<◌, ◌≤◌, ℕ}
use Rattle.tv_seats.specs.Seats.{HasRoomsOrAsBefore, back_room, count_at}
use Rattle.tv_seats.specs.Stages.{is_out}
use Rattle.tv_seats.proofs.seats.Seats.reserve_all_back.Given as goal

abbrev pub invariant-loop-step : goal.invariant-loop-step
invariant-loop-step l = record {
  seats : l.self.seats ≡ l.fn.self.seats;
  levels : l.self.levels ≡ l.fn.self.levels;
  room : l.self.room ≡ l.fn.self.room;
  rooms : (k : ℕ) → k < l.step → count_at is_out k l.fn.self.seats ≤ back_room l.self.back_rooms k;
  back_rooms : HasRoomsOrAsBefore l.fn.self l.self;
  aside_rooms : l.self.aside_rooms ≡ l.fn.self.aside_rooms;
  nested_rooms : l.self.nested_rooms ≡ l.fn.self.nested_rooms;
}
