-- How a table lays its jobs out: the indices of all places in one list.
use Rattle.std.specs.Prelude.{◌≡◌, ℕ, ◌+◌, ◌*◌, ◌≤◌, nat_le, true, List, map, take, drop, length, Vec, vec_capacity}
use Rattle.std.specs.Global.{Global}
use Rattle.std.specs.List.{list_all}
use Rattle.tv_idle.specs.declared.table.Slot.{Slot}

abbrev pub table_jobs : ℕ → List ℕ → List Slot → List (ℕ × List ℕ)
table_jobs levels indices slots = map (λ s. (s.number, take levels (drop s.start indices))) slots

-- each place lies within the list, and so many more jobs can be put
pub record IsLaid (levels : ℕ) (slots : Vec Slot Global) (indices : Vec ℕ Global)
    (room : ℕ) : Type 0 where
  pub inside : list_all (λ s. nat_le (s.start + levels) (length indices.items)) slots.items ≡ true
  pub slots_room : length slots.items + room ≤ vec_capacity slots
  pub indices_room : length indices.items + room * levels ≤ vec_capacity indices
