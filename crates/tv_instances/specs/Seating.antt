-- Jobs that a frame knows sit down, one after another.
use Rattle.std.specs.Prelude.{List, Some, drop, length, map, slice_get, ℕ, ◌+◌, ◌++◌, ◌<◌, ◌≡◌, ◌≤◌}
use Rattle.tv_value.specs.Nested.{Place}
use Rattle.tv_value.specs.Values.{Name}
use Rattle.tv_flow.specs.Flows.{Flow}
use Rattle.tv_check.specs.declared.plans.FlowPlan.{FlowPlan}
use Rattle.tv_intake.specs.Intaken.{known_jobs}
use Rattle.tv_outputs.specs.Known.{Nodes}
use Rattle.tv_frame.specs.FramingViews.{View}
use Rattle.tv_frame.specs.Kept.{Keeps}
use Rattle.tv_frame.specs.declared.frame.Frame.{Frame}
use Rattle.tv_seats.specs.Seats.{Seat, Seated, levels_of, new_seat}

-- the jobs that a frame knows and that have no seat yet
abbrev pub unseated : Frame → List Seat → List (ℕ × Place)
unseated f ss = drop (length ss) (known_jobs f.intakes)

abbrev pub seat_for : ℕ × Place → Seat
seat_for j = new_seat j.0 j.1

-- these may sit down one after another
pub record CanSit (f : Frame) (x : Seated) : Type 0 where
  pub steps : (n : ℕ) (j : ℕ × Place) → slice_get (known_jobs f.intakes) n ≡ Some j
      → length x.seats ≤ n
      → (j.0 < length x.levels) × (length j.1 ≡ levels_of x.levels j.0)
  pub apart : (n m : ℕ) (j k : ℕ × Place) → slice_get (known_jobs f.intakes) n ≡ Some j
      → slice_get (known_jobs f.intakes) m ≡ Some k → j ≡ k → n ≡ m
  pub first : map (λ s. (s.step, s.place)) x.seats ++ unseated f x.seats ≡ known_jobs f.intakes
  pub room : length (known_jobs f.intakes) ≤ length x.seats + x.room

-- those that had no seat have one, behind the others
pub record AllSit (f : Frame) (x y : Seated) : Type 0 where
  pub seats : y.seats ≡ x.seats ++ map seat_for (unseated f x.seats)
  pub levels : y.levels ≡ x.levels
  pub back_rooms : y.back_rooms ≡ x.back_rooms

-- the frame keeps some view
abbrev pub IsKept : Frame → Type 0
IsKept f = (plan : FlowPlan) × (pool : Nodes) × (flows : List (Name × Flow)) × (v : View)
    × Keeps flows plan pool f v
