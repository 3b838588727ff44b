use Rattle.std.proofs.Common.{◌-◌, ◌/◌, ◌+◌, ◌<◌, ap, sym, ◌∙◌, arith, length}
use Rattle.std.proofs.lemmas.List.{get_or_default}
use Rattle.tv_idle.specs.Orders.{place_at}
use Rattle.tv_idle.specs.Sought.{stands_after}
use Rattle.tv_idle.proofs.Finding.{none-after}
use Rattle.tv_idle.proofs.search.up_to.Goals as goal

pub loop-low-preserved : goal.loop-low-preserved
loop-low-preserved c =
    let i = c.loop-low.invariant in
    let jobs = c.args.table.now.jobs in
    let qs = c.args.queue.now.items in
    let low = c.loop-low.low in
    let high = c.loop-low.high in
    let m = low + (high - low) / 2 in
    let test = c.loop-low-test.true in
    let inside : m < length qs = let a = i.inside in omega (arith, a, test) in
    record {
      inside = i.inside;
      ordered = omega (arith, test);
      before =
          λ k l.
          none-after jobs c.args.place.now qs m k c.requires.rises inside
          (ap (λ s. stands_after c.args.place.now (place_at jobs s)) (sym (c.index.ensures ∙ get_or_default qs m c.index.result.now 0 inside)) ∙ sym c.stands_after.ensures ∙ c.if-stands_after.false)
          l;
    }
