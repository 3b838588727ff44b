use Rattle.std.specs.BTreeMap.{get}
use Rattle.tv_value.specs.Orders.{job_name_cmp}
use Rattle.tv_lineage.specs.SearchViews.{search_view}
use Rattle.tv_lineage.specs.Views.{part_view}
use Rattle.tv_lineage.proofs.Seeing.{inside-next, sees-next}
use Rattle.tv_lineage.proofs.search.Search.see_parts.Goals as goal

pub see_part-requires : goal.see_part-requires
see_part-requires c = record { inside = inside-next part_view (get job_name_cmp c.args.numbers.now) c.args.parts.now c.loop-part.part-index c.part-item.result c.loop-part-test.true c.part-item.is _ _ c.loop-part.invariant.size c.requires.inside }

pub loop-part-preserved : goal.loop-part-preserved
loop-part-preserved c = sees-next part_view (get job_name_cmp c.args.numbers.now) c.args.parts.now c.loop-part.part-index c.part-item.result c.loop-part-test.true c.part-item.is (search_view c.args.self.now) (search_view c.loop-part.self) (search_view c.see_part.new.self) c.loop-part.invariant c.in_ok-see_part.ensures
