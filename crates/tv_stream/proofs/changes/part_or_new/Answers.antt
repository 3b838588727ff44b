use Rattle.std.proofs.Common.{sym, subst, inl}
use Rattle.tv_lemmas.proofs.Options.{some-not_none}
use Rattle.tv_pool.specs.Pool.{item_in, number_of, lies_at}
use Rattle.tv_stream.specs.nodes.Stands.{AreNodes}
use Rattle.tv_stream.specs.nodes.Calls.{IsGap, HangsPart}
use Rattle.tv_stream.proofs.Bases.{same-memory, parted-new, parted-old, on-err}
use Rattle.tv_stream.proofs.changes.part_or_new.Goals as goal

pub returns-in_err-reserve-in-Free-clause-none : goal.returns-in_err-reserve-in-Free-clause-none
returns-in_err-reserve-in-Free-clause-none g c = on-err c.from_residual.result _ (c.in-Free.ensures (number_of c.args.region.now) c.requires.node).0

pub hang-requires-clause-gap : goal.hang-requires-clause-gap
hang-requires-clause-gap g c =
    let n = c.requires.node in
    let same = same-memory c.reserve.new.self c.args.pool.now (number_of c.args.region.now) c.reserve.ensures.regions in
    let gap = (c.in-Free.ensures (number_of c.args.region.now) n).2 in
    (lies_at c.args.node, record { spots = n.spots; nodes = subst (λ m. AreNodes m n.spots) (sym same) n.nodes; spot = n.spot; known = n.known }, subst (λ m. IsGap m (lies_at c.args.node) c.in-Free.gap) (sym same) gap)

pub returns-in-Found-clause-ok : goal.returns-in-Found-clause-ok
returns-in-Found-clause-ok g c spots p nodes known =
    parted-old (item_in c.args.pool.now (number_of c.args.region.now)) spots (lies_at c.args.node) c.args.index (lies_at c.in-Found.part) nodes (c.in-Found.ensures (number_of c.args.region.now) c.requires.node)

pub returns-in-Found-clause-left : goal.returns-in-Found-clause-left
returns-in-Found-clause-left g c none = absurd (some-not_none _ _ (c.in-Found.ensures (number_of c.args.region.now) c.requires.node) none)

pub returns-in_ok-reserve-in-Free-clause-ok : goal.returns-in_ok-reserve-in-Free-clause-ok
returns-in_ok-reserve-in-Free-clause-ok g c spots p nodes known =
    let k = number_of c.args.region.now in
    let s = lies_at c.args.node in
    let same = same-memory c.reserve.new.self c.args.pool.now k c.reserve.ensures.regions in
    let free = c.in-Free.ensures k c.requires.node in
    let hung = c.hang.ensures.hangs s spots p (subst (λ m. IsGap m s c.in-Free.gap) (sym same) free.2) (subst (λ m. AreNodes m spots) (sym same) nodes) known in
    let here = subst (λ m. HangsPart m (item_in c.hang.new.pool k) spots s p c.in-Free.gap.index (lies_at c.hang.result) c.wanting.result) same hung in
    let indexed = subst (λ i. HangsPart (item_in c.args.pool.now k) (item_in c.hang.new.pool k) spots s p i (lies_at c.hang.result) c.wanting.result) free.1 here in
    parted-new (item_in c.args.pool.now k) (item_in c.hang.new.pool k) spots s c.args.index (lies_at c.hang.result) p nodes free.0 (subst (λ b. HangsPart (item_in c.args.pool.now k) (item_in c.hang.new.pool k) spots s p c.args.index (lies_at c.hang.result) b) c.wanting.ensures indexed)

pub returns-in_ok-reserve-in-Free-clause-found : goal.returns-in_ok-reserve-in-Free-clause-found
returns-in_ok-reserve-in-Free-clause-found g c = inl (c.in-Free.ensures (number_of c.args.region.now) c.requires.node).0
