use Rattle.std.proofs.Common.{◌≤◌, ◌<◌, ◌^◌, ℕ, arith, sym, ap, ◌∙◌, subst, length}
use Rattle.tv_pool.specs.Pool.{lies_at, region_of}
use Rattle.tv_parts.specs.Changes.{arrive, CanArrive}
use Rattle.tv_stream.specs.Trees.{least_whole, memory_of, tree_of, tree_at}
use Rattle.tv_stream.specs.Inside.{InTree}
use Rattle.tv_stream.proofs.Calls.{root-in}
use Rattle.tv_stream.proofs.partial.Partial.whole_by_arrival.Goals as goal

pub whole_by_arrival_in-requires-clause-node : goal.whole_by_arrival_in-requires-clause-node
whole_by_arrival_in-requires-clause-node g c =
    let n = c.requires.stands in
    let p = c.args.self.now in
    let place = c.as_slice.ensures in
    let inside = root-in c.args.pool.now p n.0 n.1 in
    (region_of p.root, (n.0, (p.depth, (subst (λ s. InTree (memory_of c.args.pool.now p) n.0 s p.depth) (sym c.link.ensures) inside, subst (λ l. length l ≤ p.depth) (sym place) c.requires.short, subst (λ l. CanArrive l (tree_at p.depth (memory_of c.args.pool.now p) (lies_at c.link.result))) (sym place) (subst (λ s. CanArrive c.args.place.now (tree_at p.depth (memory_of c.args.pool.now p) s)) (sym c.link.ensures) c.requires.can)))))

pub whole_by_arrival_in-requires-clause-short : goal.whole_by_arrival_in-requires-clause-short
whole_by_arrival_in-requires-clause-short g c =
    let n = c.requires.stands in
    less (length c.as_slice.result.now) c.args.self.now.depth (subst (λ l. length l ≤ c.args.self.now.depth) (sym c.as_slice.ensures) c.requires.short) n.1.fits
  where
    less : (a d : ℕ) → a ≤ d → d < 2 ^ 32 → a < 2 ^ 32
    less a d h k = omega arith

pub returns : goal.returns
returns g c item =
    let n = c.requires.stands in
    let p = c.args.self.now in
    let m = memory_of c.args.pool.now p in
    let place = c.as_slice.ensures in
    let inside = root-in c.args.pool.now p n.0 n.1 in
    let at = subst (λ s. InTree m n.0 s p.depth) (sym c.link.ensures) inside in
    let short = subst (λ l. length l ≤ p.depth) (sym place) c.requires.short in
    let can = subst (λ l. CanArrive l (tree_at p.depth m (lies_at c.link.result))) (sym place) (subst (λ s. CanArrive c.args.place.now (tree_at p.depth m s)) (sym c.link.ensures) c.requires.can) in
    ap (λ l. least_whole l (arrive l item (tree_of c.args.pool.now p))) (sym place)
    ∙ ap (λ s. least_whole c.as_slice.result.now (arrive c.as_slice.result.now item (tree_at p.depth m s))) (sym c.link.ensures)
    ∙ c.whole_by_arrival_in.ensures.least (region_of p.root) n.0 p.depth at short can item
