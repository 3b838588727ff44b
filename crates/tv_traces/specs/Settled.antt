-- The records of the main flow's settled jobs.
use Rattle.std.specs.Prelude.{Bool, List, filter}
use Rattle.tv_value.specs.Values.{JobName}
use Rattle.tv_lineage.specs.Lineages.{Record}
use Rattle.tv_model.specs.Made.{Meaning}
use Rattle.tv_forest.specs.HistoryEntries.{History}
use Rattle.tv_forest.specs.Histories.{is_settled_name}
use Rattle.tv_model.specs.records.Recorded.{main_records}

-- of those of which a test is true
abbrev pub records_of_settled : (JobName → Bool) → Meaning → List Record
records_of_settled settled m = filter (λ (r : Record). settled r.job) (main_records m)

-- of those that are settled after a history
abbrev pub settled_records : History → Meaning → List Record
settled_records past m = records_of_settled (is_settled_name m past) m
