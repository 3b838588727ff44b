-- How a table lays its seats out: the indices of all places in one list.
use Rattle.std.specs.Prelude.{◌≡◌, ℕ, ◌+◌, ◌*◌, ◌^◌, ◌<◌, ◌≤◌, nat_le, true, List, map, take, drop, length, Vec, vec_capacity}
use Rattle.std.specs.Global.{Global}
use Rattle.std.specs.List.{list_all}
use Rattle.tv_seats.specs.declared.table.Row.{Row}
use Rattle.tv_seats.specs.Seats.{Seat}

abbrev pub seat_of : List ℕ → Row → Seat
seat_of indices r = record {
  step = r.step;
  place = take r.levels (drop r.start indices);
  stage = r.stage;
}

abbrev pub table_seats : List ℕ → List Row → List Seat
table_seats indices rows = map (seat_of indices) rows

-- each place lies within the list, and so many more seats can be put
pub record IsLaid (rows : Vec Row Global) (indices : Vec ℕ Global) (widest room : ℕ) : Type 0 where
  pub inside : list_all (λ r. nat_le (r.start + r.levels) (length indices.items)) rows.items ≡ true
  pub rows_room : length rows.items + room ≤ vec_capacity rows
  pub indices_room : length indices.items + room * widest ≤ vec_capacity indices
  pub numbers : length rows.items + room < 2 ^ 32
