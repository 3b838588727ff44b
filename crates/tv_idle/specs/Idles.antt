-- The known jobs of an instance that neither run nor have a result, as a contract sees them: by step, in order of place.
use Rattle.std.specs.Prelude.{ℕ, ◌-◌, ◌==◌, ◌||◌, not, Bool, true, false, if◌then◌else◌, List, [], ◌∷◌, Option, Some, filter, option_map, slice_get, slice_index_or, length}
use Rattle.std.specs.Cmp.Lexicographic.{slice_cmp}
use Rattle.std.specs.List.{list_any}
use Rattle.std.specs.Ordering.{is_lt, nat_cmp, ordering_then}
use Rattle.tv_idle.specs.Listed.{with_job}
use Rattle.tv_idle.specs.Sought.{stands_after}

-- those of one step, each with its number and its place
pub record StepIdle : Type 0 where
  -- that bind no fault
  pub good : List (ℕ × List ℕ)
  -- that bind one
  pub faulty : List (ℕ × List ℕ)
  -- the indices of each place
  pub levels : ℕ
  -- how many more can be added
  pub good_room : ℕ
  pub faulty_room : ℕ

pub record Idles : Type 0 where
  pub steps : List StepIdle
  -- how many jobs are known: their numbers are those below
  pub known : ℕ
  -- how many more numbers can be given out
  pub room : ℕ

abbrev pub none_idle : ℕ → StepIdle
none_idle n = record { good = []; faulty = []; levels = n; good_room = 0; faulty_room = 0 }

abbrev pub of_step : List StepIdle → ℕ → StepIdle
of_step ss k = slice_index_or ss k (none_idle 0)

-- ---- which are idle

abbrev pub has_job : ℕ → List (ℕ × List ℕ) → Bool
has_job n js = list_any (λ j. j.0 == n) js

abbrev pub is_idle_at : ℕ → StepIdle → Bool
is_idle_at n s = has_job n s.good || has_job n s.faulty

abbrev pub is_idle : List StepIdle → ℕ → Bool
is_idle ss n = list_any (is_idle_at n) ss

abbrev pub has_some : StepIdle → Bool
has_some s = not (length s.good == 0) || not (length s.faulty == 0)

-- ---- which comes first

abbrev pub first_number : List (ℕ × List ℕ) → Option ℕ
first_number js = option_map (λ j. j.0) (slice_get js 0)

-- by place, and where two stand at one place by number
abbrev pub is_before : ℕ × List ℕ → ℕ × List ℕ → Bool
is_before j k = is_lt (ordering_then (slice_cmp nat_cmp j.1 k.1) (nat_cmp j.0 k.0))

abbrev pub first_of : List (ℕ × List ℕ) → List (ℕ × List ℕ) → Option ℕ
first_of [] fs = first_number fs
first_of (g ∷ gs) [] = Some g.0
first_of (g ∷ gs) (f ∷ fs) = if is_before f g then Some f.0 else Some g.0

-- those that stand after a place
abbrev pub standing_after : List ℕ → List (ℕ × List ℕ) → List (ℕ × List ℕ)
standing_after p js = filter (λ j. stands_after p j.1) js

abbrev pub first_after : List ℕ → StepIdle → Option ℕ
first_after p s = first_of (standing_after p s.good) (standing_after p s.faulty)

-- ---- what the calls change

abbrev pub room_for : Bool → StepIdle → ℕ
room_for true s = s.faulty_room
room_for false s = s.good_room

-- one more job, which binds a fault or none, with the room that it takes
abbrev pub with_idle : Bool → ℕ × List ℕ → StepIdle → StepIdle
with_idle true j s = record {
  good = s.good;
  faulty = with_job j s.faulty;
  levels = s.levels;
  good_room = s.good_room;
  faulty_room = s.faulty_room - 1;
}
with_idle false j s = record {
  good = with_job j s.good;
  faulty = s.faulty;
  levels = s.levels;
  good_room = s.good_room - 1;
  faulty_room = s.faulty_room;
}

abbrev pub without_job : ℕ → List (ℕ × List ℕ) → List (ℕ × List ℕ)
without_job n js = filter (λ j. not (j.0 == n)) js

-- all but one
abbrev pub without : ℕ → StepIdle → StepIdle
without n s = record {
  good = without_job n s.good;
  faulty = without_job n s.faulty;
  levels = s.levels;
  good_room = s.good_room;
  faulty_room = s.faulty_room;
}

-- with the rooms of another
abbrev pub with_rooms_of : StepIdle → StepIdle → StepIdle
with_rooms_of r s = record {
  good = s.good;
  faulty = s.faulty;
  levels = s.levels;
  good_room = r.good_room;
  faulty_room = r.faulty_room;
}
