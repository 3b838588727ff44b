-- When steps have ended: each is whole, and the steps that it runs after have ended.
use Rattle.std.specs.Prelude.{◌≡◌, ℕ, ◌<◌, ◌≤◌, ◌&&◌, ◌==◌, not, Bool, false, List, [], length, count_by, slice_index, slice_index_or, vec_capacity}
use Rattle.std.specs.List.{list_all, list_any, range_with_len}
use Rattle.tv_check.specs.Turned.{all_waits, from_each}
use Rattle.tv_telling.specs.declared.endings.endings.Endings.{Endings}

-- the steps that a step runs after
abbrev pub after_of : List (List ℕ) → ℕ → List ℕ
after_of after s = slice_index_or after s []

-- for each step those that run after it, from those that each runs after
abbrev pub AreTurned : List (List ℕ) → List (List ℕ) → Type 0
AreTurned after dependents = dependents ≡ from_each (range_with_len 0 (length after))
    (all_waits after)

abbrev pub is_one_of : List ℕ → ℕ → Bool
is_one_of ns n = list_any (λ m. m == n) ns

abbrev pub is_whole : Endings → ℕ → Bool
is_whole e s = slice_index_or e.whole.items s false

abbrev pub has_ended : Endings → ℕ → Bool
has_ended e s = slice_index_or e.ended.items s false

-- each of these steps has ended
abbrev pub have_ended : Endings → List ℕ → Bool
have_ended e ss = list_all (has_ended e) ss

-- it ended with the last call
abbrev pub ended_now : Endings → ℕ → Bool
ended_now e s = is_one_of e.fresh.items s

-- what is so of every state: a step has ended exactly where it is whole and those that it runs after have ended. Beside it
-- stand the counters: of the steps that each runs after, those that haven't ended; and of all steps, those that aren't whole
pub record IsSound (after : List (List ℕ)) (e : Endings) : Type 0 where
  pub ended : (s : ℕ) → s < length after → has_ended e s
      ≡ (is_whole e s && have_ended e (after_of after s))
  pub left : (s : ℕ) → s < length after → slice_index e.left.items s
      ≡ count_by (λ a. not (has_ended e a)) (after_of after s)
  pub growing : e.growing ≡ count_by not e.whole.items
  pub whole_each : length e.whole.items ≡ length after
  pub ended_each : length e.ended.items ≡ length after
  pub left_each : length e.left.items ≡ length after
  pub room : length after ≤ vec_capacity e.fresh
