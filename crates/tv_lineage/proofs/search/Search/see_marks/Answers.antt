use Rattle.std.specs.BTreeMap.{get}
use Rattle.tv_value.specs.Orders.{job_name_cmp}
use Rattle.tv_lineage.specs.SearchViews.{search_view}
use Rattle.tv_lineage.specs.Views.{mark_part}
use Rattle.tv_lineage.proofs.Seeing.{inside-next, sees-next}
use Rattle.tv_lineage.proofs.search.Search.see_marks.Goals as goal

pub see_mark-requires : goal.see_mark-requires
see_mark-requires c = record { inside = inside-next mark_part (get job_name_cmp c.args.numbers.now) c.args.marks.now c.loop-mark.mark-index c.mark-item.result c.loop-mark-test.true c.mark-item.is _ _ c.loop-mark.invariant.size c.requires.inside }

pub loop-mark-preserved : goal.loop-mark-preserved
loop-mark-preserved c = sees-next mark_part (get job_name_cmp c.args.numbers.now) c.args.marks.now c.loop-mark.mark-index c.mark-item.result c.loop-mark-test.true c.mark-item.is (search_view c.args.self.now) (search_view c.loop-mark.self) (search_view c.see_mark.new.self) c.loop-mark.invariant c.in_ok-see_mark.ensures
