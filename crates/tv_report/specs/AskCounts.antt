-- How the lines of `trace` are counted: by the numbers of jobs.
use Rattle.std.specs.Prelude.{List, None, Option, Some, [], nat_eq, slice_get, suc, unwrap_or, ℕ}
use Rattle.std.specs.Map.{lookup}
use Rattle.std.specs.Option.{option_map_or}
use Rattle.indexmap.specs.IndexMap.{insert_entry}
use Rattle.tv_value.specs.Values.{JobName, Text}
use Rattle.tv_history.specs.declared.entry.Entry.{Entry}
use Rattle.tv_history.specs.declared.entry.Entry.TheVariants as entry
use Rattle.tv_report.specs.TraceLines.{trace_line}

-- the number of the job whose outcome was accepted
abbrev pub accepted_number : Entry → Option ℕ
accepted_number (entry.Accepted k a t r) = Some k
accepted_number e = None

abbrev pub count_at : List (ℕ × ℕ) → ℕ → ℕ
count_at counts k = unwrap_or (lookup (nat_eq k) counts) 0

abbrev pub one_more : List (ℕ × ℕ) → ℕ → List (ℕ × ℕ)
one_more counts k = insert_entry nat_eq counts k (suc (count_at counts k))

abbrev pub counted : List (ℕ × ℕ) → Option ℕ → List (ℕ × ℕ)
counted counts None = counts
counted counts (Some k) = one_more counts k

-- the line of a number that some job has
abbrev pub numbered_line : List JobName → ℕ × ℕ → Text
numbered_line names e = option_map_or (λ n. trace_line n e.1) (slice_get names e.0) []
