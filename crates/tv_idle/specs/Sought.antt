-- The jobs that are looked for: those that stand after a place and haven't gone.
use Rattle.std.specs.Prelude.{◌≡◌, ℕ, ◌==◌, ◌&&◌, not, Bool, true, false, List, filter, slice_index_or, Option, Some, None, if◌then◌else◌}
use Rattle.std.specs.Cmp.Lexicographic.{slice_cmp}
use Rattle.std.specs.List.{list_all, list_any}
use Rattle.std.specs.Ordering.{is_lt, nat_cmp}
use Rattle.tv_idle.specs.Orders.{job_at}

-- whether a place stands after the first
abbrev pub stands_after : List ℕ → List ℕ → Bool
stands_after p q = is_lt (slice_cmp nat_cmp p q)

-- by number whether a job has gone; one without a mark hasn't
abbrev pub is_marked : List Bool → ℕ → Bool
is_marked gone n = slice_index_or gone n false

abbrev pub is_sought : List ℕ → List Bool → ℕ × List ℕ → Bool
is_sought p gone j = stands_after p j.1 && not (is_marked gone j.0)

abbrev pub sought : List ℕ → List Bool → List (ℕ × List ℕ) → List (ℕ × List ℕ)
sought p gone js = filter (is_sought p gone) js

-- ---- by positions

abbrev pub is_sought_at : List ℕ → List Bool → List (ℕ × List ℕ) → ℕ → Bool
is_sought_at p gone jobs s = is_sought p gone (job_at jobs s)

module _ (before : ℕ → ℕ → Bool) where
  abbrev pub lesser : Option ℕ → Option ℕ → Option ℕ
  lesser None t = t
  lesser (Some s) None = Some s
  lesser (Some s) (Some t) = if before t s then Some t else Some s

  -- the first of those that pass; none where none passes
  abbrev pub IsFirst : (ℕ → Bool) → List ℕ → Option ℕ → Type 0
  IsFirst passes ss None = list_all (λ s. not (passes s)) ss ≡ true
  IsFirst passes ss (Some m) =
      (list_any (λ s. s == m) ss ≡ true)
      × (passes m ≡ true)
      × (list_all (λ s. not (passes s && before s m)) ss ≡ true)
