use Rattle.std.proofs.Common.{◌≡◌, ◌≤◌, ◌∙◌, ℕ, List, ap, sym, subst, length}
use Rattle.std.specs.Prelude.{nat_lt, take}
use Rattle.tv_pool.specs.Pool.{region_of, lies_at}
use Rattle.tv_parts.specs.Partials.{known_at, holds_some}
use Rattle.tv_stream.specs.Trees.{memory_of, tree_of}
use Rattle.tv_stream.specs.Stands.{is_marked}
use Rattle.tv_stream.proofs.Looks.{root-at}
use Rattle.tv_stream.proofs.partial.Partial.marked_levels.Goals as goal

pub marked_in-requires : goal.marked_in-requires
marked_in-requires g c =
    let n = c.requires.stands in
    (region_of c.args.self.now.root, (tree_of c.args.pool.now c.args.self.now, root-at c.args.pool.now c.args.self.now n.0 c.link.result.slot c.link.ensures n.1))

pub returns-clause-levels : goal.returns-clause-levels
returns-clause-levels g c k fits =
    let n = c.requires.stands in
    let r = tree_of c.args.pool.now c.args.self.now in
    c.marked_in.ensures.levels (region_of c.args.self.now.root) r (root-at c.args.pool.now c.args.self.now n.0 c.link.result.slot c.link.ensures n.1) k (subst (λ l. k ≤ length l) (sym c.as_slice.ensures) fits)
    ∙ ap (λ l. holds_some is_marked (known_at (take k l) r)) c.as_slice.ensures
