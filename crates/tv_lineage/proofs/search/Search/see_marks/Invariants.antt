use Rattle.std.proofs.Common.{map, take}
use Rattle.std.specs.BTreeMap.{get}
use Rattle.tv_value.specs.Orders.{job_name_cmp}
use Rattle.tv_lineage.specs.Reaching.{Sees}
use Rattle.tv_lineage.specs.SearchViews.{search_view}
use Rattle.tv_lineage.specs.Views.{mark_part}
use Rattle.tv_lineage.proofs.search.Search.see_marks.Given as goal

abbrev pub invariant-loop-mark : goal.invariant-loop-mark
invariant-loop-mark l = Sees (get job_name_cmp l.numbers) (map mark_part (take l.mark-index l.marks)) (search_view l.fn.self) (search_view l.self)
