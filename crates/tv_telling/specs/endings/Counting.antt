-- What is so while counts are lowered: some steps have ended and those that run after them are still to be counted down.
use Rattle.std.specs.Prelude.{◌≡◌, ℕ, ◌+◌, ◌<◌, ◌≤◌, ◌&&◌, ◌==◌, not, nat_lt, Bool, true, List, [], ◌++◌, drop, length, count_by, flat_map, slice_index, slice_index_or, vec_capacity}
use Rattle.std.specs.List.{list_all}
use Rattle.tv_telling.specs.declared.endings.endings.Endings.{Endings}
use Rattle.tv_telling.specs.endings.Ends.{after_of, AreTurned, is_whole, has_ended, ended_now}

-- those that run after the steps that ended with this call, from the k-th of these on
abbrev pub to_lower : List (List ℕ) → ℕ → Endings → List ℕ
to_lower dependents k e = flat_map (λ s. slice_index_or dependents s []) (drop k e.fresh.items)

-- the steps `first`, and what `to_lower` tells, are still to be counted down; `was` had ended before this call
pub record IsCounting (after dependents : List (List ℕ)) (was : ℕ → Bool) (e : Endings)
    (first : List ℕ) (k : ℕ) : Type 0 where
  pub turned : AreTurned after dependents
  pub left :
      (s : ℕ) → s < length after
      → slice_index e.left.items s
      ≡ count_by (λ a. not (has_ended e a)) (after_of after s) + count_by (λ j. j == s) (first
      ++ to_lower dependents k e)
  pub ended : (s : ℕ) → s < length after → has_ended e s
      ≡ (is_whole e s && slice_index e.left.items s == 0)
  pub now : (s : ℕ) → ended_now e s ≡ (has_ended e s && not (was s))
  pub kept : (s : ℕ) → was s ≡ true → has_ended e s ≡ true
  pub growing : e.growing ≡ count_by not e.whole.items
  pub whole_each : length e.whole.items ≡ length after
  pub ended_each : length e.ended.items ≡ length after
  pub left_each : length e.left.items ≡ length after
  pub first_inside : list_all (λ s. nat_lt s (length after)) first ≡ true
  pub inside : list_all (λ s. nat_lt s (length after)) e.fresh.items ≡ true
  pub room : count_by not e.ended.items + length e.fresh.items ≤ length after
  pub capacity : length after ≤ vec_capacity e.fresh
  pub counted : k ≤ length e.fresh.items

-- some steps after which others run are being counted down so
abbrev pub Counts : Endings → List ℕ → Type 0
Counts e first =
    (after : List (List ℕ)) × ((dependents : List (List ℕ))
    × ((was : ℕ → Bool) × ((k : ℕ) × IsCounting after dependents was e first k)))
