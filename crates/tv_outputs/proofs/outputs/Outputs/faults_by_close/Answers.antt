use Rattle.std.proofs.Common.{◌≡◌, ◌≤◌, ◌<◌, ◌+◌, ◌-◌, ℕ, length, sym, subst, arith, Some, le-add_right}
use Rattle.std.specs.Prelude.{slice_get}
use Rattle.tv_parts.specs.Changes.{close_at}
use Rattle.tv_outputs.specs.Known.{known_in, tree_in}
use Rattle.tv_outputs.specs.Changes.{Counted}
use Rattle.tv_parts.specs.Partials.{HoldsFaults}
use Rattle.tv_outputs.proofs.Counts.{counted-more}
use Rattle.tv_outputs.proofs.Looks.{levels-there, levels-closed}
use Rattle.tv_outputs.proofs.Ones.{found, one-stands}
use Rattle.tv_outputs.proofs.Turning.{back, within-range, next-number, last-number}
use Rattle.tv_outputs.proofs.outputs.Outputs.faults_by_close.Goals as goal

below : (k first count n : ℕ) → k < first + count → first + count ≤ n → k < n
below k first count n h e = omega arith

pub marked_levels-requires : goal.marked_levels-requires
marked_levels-requires c =
    let ts = c.args.self.now.trees.items in
    let t = c.index.result.now in
    let k = c.loop-number.number in
    let pool = c.args.pool.now in
    let inside = below k c.args.first c.args.count (length (known_in pool ts)) c.loop-number-test.true c.requires.there in
    let there : slice_get ts k ≡ Some t = found pool ts k t inside c.index.ensures in
    record { stands = one-stands pool c.requires.stand.0 ts c.requires.stand.1 k t there }

pub loop-number-preserved : goal.loop-number-preserved
loop-number-preserved c size can =
    let ts = c.args.self.now.trees.items in
    let t = c.index.result.now in
    let k = c.loop-number.number in
    let pool = c.args.pool.now in
    let q = c.args.place.now in
    let first = c.args.first in
    let i = k - first in
    let inside = below k first c.args.count (length (known_in pool ts)) c.loop-number-test.true c.requires.there in
    let there : slice_get ts k ≡ Some t = found pool ts k t inside c.index.ensures in
    let tree = λ (j : ℕ). close_at q size (tree_in (known_in pool ts) (first + j)) in
    let low = c.loop-number.auto.number in
    let before = subst (λ n. HoldsFaults q (tree_in (known_in pool ts) n) c.marked_levels.result) (sym (back first k low)) (levels-there pool c.requires.stand.0 ts c.requires.stand.1 k t there q c.marked_levels.result c.marked_levels.ensures.levels) in
    let after = levels-closed q size (tree_in (known_in pool ts) (first + i)) c.marked_levels.result (can.can i (within-range first k c.args.count low c.loop-number-test.true)) before in
    subst (λ n. Counted n q c.args.faults.now.items c.push.new.self.items tree) (next-number first k low) (counted-more i q c.args.faults.now.items c.loop-number.faults.items c.push.new.self.items tree c.marked_levels.result (c.loop-number.invariant size can) c.in_ok-push.ensures.ok after)

pub returns : goal.returns
returns c size can =
    let first = c.args.first in
    let ts = c.args.self.now.trees.items in
    let q = c.args.place.now in
    subst (λ n. Counted n q c.args.faults.now.items c.loop-number.faults.items (λ j. close_at q size (tree_in (known_in c.args.pool.now ts) (first + j)))) (last-number first c.loop-number.number c.args.count c.loop-number-test.false (c.loop-number.auto.number-end (le-add_right first c.args.count))) (c.loop-number.invariant size can)
