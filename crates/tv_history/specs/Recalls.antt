-- What a recall says of a run.
use Rattle.std.specs.Prelude.{ℕ, ◌<◌, ◌≡◌}
use Rattle.tv_history.specs.Runs.{Appends, Run}
use Rattle.tv_history.specs.declared.entry.Entry.{Entry}
use Rattle.tv_history.specs.declared.entry.Entry.TheVariants as entry

abbrev pub recalls : ℕ → Entry
recalls n = entry.Recalled n

-- nothing happened where none was out
pub record IsRecalled (r s : Run) (n : ℕ) : Type 0 where
  pub none : n ≡ 0 → s ≡ r
  pub some : 0 < n → Appends r s (recalls n)
