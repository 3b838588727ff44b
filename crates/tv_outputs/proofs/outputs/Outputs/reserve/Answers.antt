use Rattle.std.proofs.Common.{◌≡◌, ◌≤◌, ◌<◌, ◌+◌, ℕ, length, ap, ◌∙◌, refl, arith, Some}
use Rattle.std.specs.Prelude.{slice_get}
use Rattle.std.proofs.lemmas.Option.{slice_get_read}
use Rattle.std.proofs.lemmas.List.{length-map}
use Rattle.tv_outputs.specs.Known.{depths}
use Rattle.tv_outputs.proofs.Lists.{depth-at}
use Rattle.tv_outputs.proofs.Keeping.{kept-respared}
use Rattle.tv_outputs.proofs.Turning.{need-step}
use Rattle.tv_outputs.proofs.outputs.Outputs.reserve.Goals as goal

below : (number first count n m : ℕ) → number < first + count → first + count ≤ n → n ≡ m → number < m
below number first count n m h k e = omega arith

pub loop-number-preserved : goal.loop-number-preserved
loop-number-preserved c =
    let ts = c.args.self.now.trees.items in
    let t = c.index.result.now in
    let k = c.loop-number.number in
    let inside : k < length ts = below k c.args.first c.args.count (length (depths c.args.self.now)) (length ts) c.loop-number-test.true c.requires (length-map ts (λ u. u.depth)) in
    let there : slice_get ts k ≡ Some t = slice_get_read ts (length ts) k t refl inside c.index.ensures in
    let depth : c.from.result ≡ t.depth = c.from.ensures ∙ c.depth.ensures in
    need-step (depths c.args.self.now) c.args.first k c.loop-number.nodes c.in-Some.more t.depth c.loop-number.auto.number c.loop-number.invariant (c.in-Some.ensures.1 ∙ ap (λ n. c.loop-number.nodes + (n + 1)) depth) (depth-at ts k t there)

pub returns-in-Ok-clause-stand : goal.returns-in-Ok-clause-stand
returns-in-Ok-clause-stand c region a = kept-respared c.args.pool.now c.reserve.new.self region c.args.self.now.trees.items c.reserve.ensures.regions a

pub returns-in-Err-clause-stand : goal.returns-in-Err-clause-stand
returns-in-Err-clause-stand c region a = kept-respared c.args.pool.now c.reserve.new.self region c.args.self.now.trees.items c.reserve.ensures.regions a
