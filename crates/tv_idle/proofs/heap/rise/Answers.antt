use Rattle.std.proofs.Common.{◌<◌, ◌-◌, ◌/◌, arith, length, sym}
use Rattle.std.specs.Prelude.{nat_lt}
use Rattle.std.proofs.lemmas.List.Sorted.{IsPermutation-trans}
use Rattle.tv_idle.specs.Orders.{is_before}
use Rattle.tv_idle.proofs.Comparing.{before-order}
use Rattle.tv_idle.proofs.Heaping.{rise-step}
use Rattle.tv_idle.proofs.Sorting.{all-same}
use Rattle.tv_idle.proofs.heap.rise.Goals as goal

pub loop-at-preserved : goal.loop-at-preserved
loop-at-preserved c =
    let jobs = c.args.table.now.jobs in
    let xs = c.loop-at.jobs in
    let ys = c.swap.new.self in
    let j = c.loop-at.at in
    let q = (j - 1) / 2 in
    let up : 0 < j = c.loop-at-test.true in
    let s = c.swap.ensures.by_index in
    let i = c.loop-at.invariant in
    record {
      rising =
          rise-step (is_before jobs) (before-order jobs) xs ys q j (omega (arith, up)) (omega (arith, up)) i.inside
          (record { first = s.0 0; second = s.1 0; rest = λ k a b. s.2 k 0 a b; many = c.swap.ensures.len })
          (sym c.if-not-is_before.ensures) i.rising;
      same = IsPermutation-trans c.args.jobs.now xs ys i.same c.swap.ensures.permutation;
      within = all-same (λ s. nat_lt s (length jobs)) xs ys c.swap.ensures.permutation i.within;
      inside = omega (arith, i.inside, c.swap.ensures.len, up);
    }
