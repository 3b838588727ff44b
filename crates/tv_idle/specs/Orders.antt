-- The order of jobs that were put one after the other, told by their positions: by place, and by position where two have one place.
use Rattle.std.specs.Prelude.{ℕ, List, [], ◌∷◌, length, Bool, nat_lt, slice_index_or, if◌then◌else◌}
use Rattle.std.specs.declared.cmp.Ordering.{Ordering}
use Rattle.std.specs.Ordering.{is_lt, nat_cmp, ordering_then}
use Rattle.std.specs.Cmp.Lexicographic.{slice_cmp}
use Rattle.std.specs.List.{list_all}

abbrev pub place_at : List (ℕ × List ℕ) → ℕ → List ℕ
place_at jobs s = (slice_index_or jobs s (0, [])).1

abbrev pub job_at : List (ℕ × List ℕ) → ℕ → ℕ × List ℕ
job_at jobs s = slice_index_or jobs s (0, [])

abbrev pub number_at : List (ℕ × List ℕ) → ℕ → ℕ
number_at jobs s = (slice_index_or jobs s (0, [])).0

-- a place with a position
abbrev pub job_cmp : List ℕ × ℕ → List ℕ × ℕ → Ordering
job_cmp x y = ordering_then (slice_cmp nat_cmp x.0 y.0) (nat_cmp x.1 y.1)

abbrev pub is_before : List (ℕ × List ℕ) → ℕ → ℕ → Bool
is_before jobs s t = is_lt (job_cmp (place_at jobs s, s) (place_at jobs t, t))

-- these are positions of jobs
abbrev pub are_within : List (ℕ × List ℕ) → List ℕ → Bool
are_within jobs ss = list_all (λ s. nat_lt s (length jobs)) ss

module _ (before : ℕ → ℕ → Bool) where
  abbrev pub inserted : ℕ → List ℕ → List ℕ
  inserted s [] = s ∷ []
  inserted s (t ∷ ts) = if before s t then s ∷ t ∷ ts else t ∷ inserted s ts

  abbrev pub in_order : List ℕ → List ℕ
  in_order [] = []
  in_order (s ∷ ss) = inserted s (in_order ss)
