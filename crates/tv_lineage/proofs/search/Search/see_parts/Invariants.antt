use Rattle.std.proofs.Common.{map, take}
use Rattle.std.specs.BTreeMap.{get}
use Rattle.tv_value.specs.Orders.{job_name_cmp}
use Rattle.tv_lineage.specs.Reaching.{Sees}
use Rattle.tv_lineage.specs.SearchViews.{search_view}
use Rattle.tv_lineage.specs.Views.{part_view}
use Rattle.tv_lineage.proofs.search.Search.see_parts.Given as goal

abbrev pub invariant-loop-part : goal.invariant-loop-part
invariant-loop-part l = Sees (get job_name_cmp l.numbers) (map part_view (take l.part-index l.parts)) (search_view l.fn.self) (search_view l.self)
