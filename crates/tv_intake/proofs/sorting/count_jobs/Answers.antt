use Rattle.std.proofs.Common.{◌∙◌, arith}
use Rattle.tv_match.specs.Ahead.{in_order_ahead}
use Rattle.tv_intake.proofs.SortingLemmas.{count-next, few}
use Rattle.tv_intake.proofs.sorting.count_jobs.Goals as goal

pub overflow_add-count : goal.overflow_add-count
overflow_add-count c =
    let f = few c.item_ahead-kind.result.1 in
    let e = c.one_if_job-count.ensures in
    let v = c.loop-at.invariant.within in
    let r = c.ranges.from in
    omega (arith, f, e, v)

pub loop-at-preserved : goal.loop-at-preserved
loop-at-preserved c =
    let v = c.loop-at.invariant in
    let f = few c.item_ahead-kind.result.1 in
    let e = c.one_if_job-count.ensures in
    record {
      end_is = v.end_is;
      from_on = omega arith;
      counted = count-next 0 (in_order_ahead c.args.matcher.now) c.loop-at.at c.loop-at.count _ _ _ e c.item_ahead-kind.ensures.item ∙ v.counted;
      within = let w = v.within in omega (arith, f, e, w);
    }
