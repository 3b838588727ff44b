-- How the ready jobs are kept: those that came in order in a queue, the others in a heap, each by its position in the table.
use Rattle.std.specs.Prelude.{◌≡◌, ℕ, ◌+◌, ◌≤◌, ◌&&◌, Bool, true, false, List, [], ◌∷◌, ◌++◌, map, length}
use Rattle.std.specs.List.{list_all}
use Rattle.tv_idle.specs.Heaps.{IsHeap}
use Rattle.tv_idle.specs.Orders.{are_within, in_order, is_before, job_at}
use Rattle.tv_idle.specs.Tables.{Rows}

-- each stands before all that follow
abbrev pub rises : (ℕ → ℕ → Bool) → List ℕ → Bool
rises before [] = true
rises before (s ∷ ss) = list_all (before s) ss && rises before ss

abbrev pub listed : Rows → List ℕ → List ℕ → List (ℕ × List ℕ)
listed t queue late = map (job_at t.jobs) (in_order (is_before t.jobs) (queue ++ late))

-- whether the first is one of those that came late: at the top of the heap
abbrev pub is_late_first : List (ℕ × List ℕ) → List ℕ → List ℕ → Bool
is_late_first jobs queue [] = false
is_late_first jobs [] (t ∷ ts) = true
is_late_first jobs (q ∷ qs) (t ∷ ts) = is_before jobs t q

-- those in the queue in order, the others a heap, and room in both for as many as the table has room for
pub record AreKept (t : Rows) (queue : List ℕ) (queue_capacity : ℕ) (late : List ℕ)
    (late_capacity : ℕ) : Type 0 where
  pub queue_within : are_within t.jobs queue ≡ true
  pub late_within : are_within t.jobs late ≡ true
  pub queue_rises : rises (is_before t.jobs) queue ≡ true
  pub late_heap : IsHeap t.jobs late
  pub queue_room : length queue + t.room ≤ queue_capacity
  pub late_room : length late + t.room ≤ late_capacity
