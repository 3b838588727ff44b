use Rattle.std.proofs.Common.{◌≡◌, ◌<◌, ◌+◌, ℕ, suc, arith, refl, sym, ap, ◌∙◌, subst, List, ◌∷◌, length, drop, drop-cons, get_or}
use Rattle.std.proofs.lemmas.List.{drop_all}
use Rattle.tv_parts.specs.Partials.{part_at, known_at}
use Rattle.tv_pool.specs.Pool.{region_of}
use Rattle.tv_stream.specs.Trees.{memory_of, tree_of}
use Rattle.tv_stream.specs.Inside.{IsAt}
use Rattle.tv_stream.proofs.Places.{known-wanting}
use Rattle.tv_stream.proofs.Looks.{root-at, walk-part, walk-none}
use Rattle.tv_stream.proofs.Ways.{node-of}
use Rattle.tv_stream.proofs.partial.Partial.node_at.Goals as goal

pub levels-init : goal.levels-init
levels-init g c =
    let n = c.requires.stands in
    (tree_of c.args.pool.now c.args.self.now, (root-at c.args.pool.now c.args.self.now n.0 c.link-node.result.slot c.link-node.ensures n.1, refl))

pub seek-requires : goal.seek-requires
seek-requires g c =
    let a = c.levels.invariant.1.0 in
    (region_of c.args.self.now.root, node-of c.args.pool.now (region_of c.args.self.now.root) a.spots c.levels.node.slot a.height a.inside)

rest-of : (l : List ℕ) (j : ℕ) → j < length l → drop j l ≡ get_or l j 0 ∷ drop (j + 1) l
rest-of l j h = drop-cons l j 0 h ∙ ap (λ n. get_or l j 0 ∷ drop n l) (one j)
  where
    one : (j : ℕ) → suc j ≡ j + 1
    one j = omega arith

pub levels-preserved : goal.levels-preserved
levels-preserved g c =
    let v = c.levels.invariant in
    let a = v.1.0 in
    let m = memory_of c.args.pool.now c.args.self.now in
    let i = get_or c.args.place.now c.levels.index-index 0 in
    let q = drop (c.levels.index-index + 1) c.args.place.now in
    let found = c.in-Found.ensures (region_of c.args.self.now.root) (node-of c.args.pool.now (region_of c.args.self.now.root) a.spots c.levels.node.slot a.height a.inside) in
    (part_at v.0 i, (walk-part m c.levels.node.slot i c.in-Found.part.slot q v.0 a found, ap (λ l. known_at l v.0) (sym (rest-of c.args.place.now c.levels.index-index c.levels-test.true)) ∙ v.1.1))

pub returns-in-Free : goal.returns-in-Free
returns-in-Free g c =
    let v = c.levels.invariant in
    let a = v.1.0 in
    let m = memory_of c.args.pool.now c.args.self.now in
    let i = get_or c.args.place.now c.levels.index-index 0 in
    let q = drop (c.levels.index-index + 1) c.args.place.now in
    let none = (c.in-Free.ensures (region_of c.args.self.now.root) (node-of c.args.pool.now (region_of c.args.self.now.root) a.spots c.levels.node.slot a.height a.inside)).0 in
    sym v.1.1 ∙ ap (λ l. known_at l v.0) (rest-of c.args.place.now c.levels.index-index c.levels-test.true) ∙ ap (known_at q) (walk-none m c.levels.node.slot i v.0 a none) ∙ known-wanting _ q

pub returns : goal.returns
returns g c =
    let v = c.levels.invariant in
    let a = v.1.0 in
    subst (IsAt (memory_of c.args.pool.now c.args.self.now) c.levels.node.slot) (sym (ap (λ l. known_at l v.0) (drop_all c.levels.index-index c.args.place.now c.levels-test.false)) ∙ v.1.1) a
