use Rattle.std.proofs.Common.{arith, ◌∙◌}
use Rattle.tv_match.specs.Ahead.{in_order_ahead}
use Rattle.tv_intake.specs.Sorting.{faulty_ahead}
use Rattle.tv_intake.proofs.SortingLemmas.{faulty-next, few-faulty, few-good, good-next}
use Rattle.tv_intake.proofs.sorting.count_each.Goals as goal

pub loop-at-preserved : goal.loop-at-preserved
loop-at-preserved c =
    let m = c.args.matcher.now in
    let v = c.loop-at.invariant in
    let k = c.item_ahead-kind.result.1 in
    let q = c.item_ahead-kind.result.0.now in
    let told = c.item_ahead-kind.ensures.faulty c.requires.sound c.requires.can in
    let here = c.item_ahead-kind.ensures.item in
    let e = c.one_of_each-more_good.ensures in
    let g = few-good k in
    let f = few-faulty k in
    record {
      end_is = v.end_is;
      from_on = omega arith;
      good = good-next (faulty_ahead m) (in_order_ahead m) c.loop-at.at k q told here c.loop-at.good _ e.good ∙ v.good;
      faulty = faulty-next (faulty_ahead m) (in_order_ahead m) c.loop-at.at k q told here c.loop-at.faulty _ e.faulty ∙ v.faulty;
      good_within = let w = v.good_within in let x = e.good in omega (arith, g, x, w);
      faulty_within = let w = v.faulty_within in let x = e.faulty in omega (arith, f, x, w);
    }

pub overflow_add-good : goal.overflow_add-good
overflow_add-good c =
    let f = few-good c.item_ahead-kind.result.1 in
    let e = c.one_of_each-more_good.ensures.good in
    let v = c.loop-at.invariant.good_within in
    let r = c.ranges.from in
    omega (arith, f, e, v)

pub overflow_add-faulty : goal.overflow_add-faulty
overflow_add-faulty c =
    let f = few-faulty c.item_ahead-kind.result.1 in
    let e = c.one_of_each-more_good.ensures.faulty in
    let v = c.loop-at.invariant.faulty_within in
    let r = c.ranges.from in
    omega (arith, f, e, v)
