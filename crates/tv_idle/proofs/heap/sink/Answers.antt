use Rattle.std.proofs.Common.{◌∙◌, get_or, length, sym}
use Rattle.std.specs.Prelude.{nat_lt}
use Rattle.std.proofs.lemmas.List.Sorted.{IsPermutation-trans}
use Rattle.tv_idle.specs.Orders.{is_before}
use Rattle.tv_idle.proofs.Comparing.{before-order}
use Rattle.tv_idle.proofs.Heaping.{sink-ends, sink-step}
use Rattle.tv_idle.proofs.Sorting.{all-same}
use Rattle.tv_idle.proofs.heap.sink.Goals as goal

pub returns-then-not-is_before-clause-heap : goal.returns-then-not-is_before-clause-heap
returns-then-not-is_before-clause-heap c =
    let jobs = c.args.table.now.jobs in
    let xs = c.loop-at.jobs in
    let j = c.loop-at.at in
    let m = c.lesser_below-below.result in
    sink-ends (is_before jobs) xs j
    (λ k a b f. (before-order jobs).chain (get_or xs k 0) (get_or xs m 0) (get_or xs j 0) (c.lesser_below-below.ensures.lesser k a b f) (sym c.if-not-is_before.ensures))
    c.loop-at.invariant.sinking

pub loop-at-preserved : goal.loop-at-preserved
loop-at-preserved c =
    let jobs = c.args.table.now.jobs in
    let xs = c.loop-at.jobs in
    let ys = c.swap.new.self in
    let q = c.loop-at.at in
    let j = c.lesser_below-below.result in
    let best = c.lesser_below-below.ensures in
    let s = c.swap.ensures.by_index in
    let i = c.loop-at.invariant in
    record {
      sinking =
          sink-step (is_before jobs) (before-order jobs) xs ys q j best.below.0 best.below.1 best.below.2
          (record { first = s.0 0; second = s.1 0; rest = λ k a b. s.2 k 0 a b; many = c.swap.ensures.len })
          (sym c.if-not-is_before.ensures) best.lesser i.sinking;
      same = IsPermutation-trans c.args.jobs.now xs ys i.same c.swap.ensures.permutation;
      within = all-same (λ s. nat_lt s (length jobs)) xs ys c.swap.ensures.permutation i.within;
      many = c.swap.ensures.len ∙ i.many;
    }
