-- Heaps: no job stands before the one above it. Those below position p are at 2 p + 1 and 2 p + 2.
use Rattle.std.specs.Prelude.{◌≡◌, ℕ, ◌+◌, ◌*◌, ◌<◌, ◌≤◌, false, List, length, slice_index}
use Rattle.tv_idle.specs.Orders.{is_before}

module _ (jobs : List (ℕ × List ℕ)) (ss : List ℕ) where
  -- the one at position k doesn't stand before the one at position p
  abbrev pub IsNotBefore : ℕ → ℕ → Type 0
  IsNotBefore k p = is_before jobs (slice_index ss k) (slice_index ss p) ≡ false

  abbrev pub IsHeap : Type 0
  IsHeap = (p k : ℕ) → p * 2 + 1 ≤ k → k ≤ p * 2 + 2 → k < length ss → IsNotBefore k p

  -- but for the last
  abbrev pub IsHeapButLast : Type 0
  IsHeapButLast = (p k : ℕ) → p * 2 + 1 ≤ k → k ≤ p * 2 + 2 → k + 1 < length ss → IsNotBefore k p

  -- but for the first
  abbrev pub IsHeapButFirst : Type 0
  IsHeapButFirst = (p k : ℕ) → p * 2 + 1 ≤ k → k ≤ p * 2 + 2 → k < length ss → 1 ≤ p
      → IsNotBefore k p
