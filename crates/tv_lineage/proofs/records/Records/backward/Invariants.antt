use Rattle.std.proofs.Common.{map}
use Rattle.std.specs.BTreeMap.{get}
use Rattle.tv_value.specs.Orders.{job_name_cmp}
use Rattle.tv_lineage.specs.Reaching.{IsSearch, looks_left}
use Rattle.tv_lineage.specs.SearchViews.{search_view}
use Rattle.tv_lineage.specs.Views.{kept_of, mark_part}
use Rattle.tv_lineage.proofs.records.Records.backward.Given as goal

abbrev pub invariant-loop-number : goal.invariant-loop-number
invariant-loop-number l = IsSearch (get job_name_cmp l.self-inside.numbers) (kept_of l.self-inside.entries.items) (map mark_part l.used) (search_view l.search)

abbrev pub decreases-loop-number : goal.decreases-loop-number
decreases-loop-number l = looks_left (search_view l.search)
