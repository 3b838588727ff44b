use Rattle.std.proofs.Common.{◌≡◌, length, sym, ap, ◌∙◌, subst, Some, is_some}
use Rattle.std.specs.Prelude.{IfOk, slice_get}
use Rattle.tv_stream.specs.Trees.{tree_of}
use Rattle.tv_value.specs.Views.{view}
use Rattle.tv_outputs.specs.FoundIn.{found_in}
use Rattle.tv_outputs.specs.Seen.{Sees}
use Rattle.tv_outputs.proofs.Lists.{tree-at}
use Rattle.tv_outputs.proofs.Ones.{within, fits, found, one-stands}
use Rattle.tv_outputs.proofs.Seeing.{sees-top}
use Rattle.tv_outputs.proofs.outputs.Outputs.value_at.Goals as goal

pub index-tree-requires : goal.index-tree-requires
index-tree-requires c = fits c.args.number (length c.args.self.now.trees.items) c.args.self.now.trees.len (within c.args.pool.now c.args.self.now.trees.items c.args.number c.requires.there) c.args.self.now.trees.ok.0

pub look-look-requires : goal.look-look-requires
look-look-requires c =
    let ts = c.args.self.now.trees.items in
    let t = c.index-tree.result.now in
    let k = c.args.number in
    let pool = c.args.pool.now in
    record { stands = one-stands pool c.requires.stand.0 ts c.requires.stand.1 k t (found pool ts k t c.requires.there c.index-tree.ensures) }

pub found_value-requires : goal.found_value-requires
found_value-requires c =
    let ts = c.args.self.now.trees.items in
    let t = c.index-tree.result.now in
    let k = c.args.number in
    let pool = c.args.pool.now in
    let a = c.requires.stand in
    let there : slice_get ts k ≡ Some t = found pool ts k t c.requires.there c.index-tree.ensures in (
      tree_of pool t,
      subst (λ n. Sees c.look-look.result n (tree_of pool t)) (sym c.depth-levels.ensures) (sees-top pool t c.look-look.result (one-stands pool a.0 ts a.1 k t there) (a.1.kept k t there).items c.look-look.ensures),
      sym (ap (λ r. is_some (found_in c.args.place.now r)) (tree-at pool ts k t there)) ∙ c.requires.found,
    )

pub returns : goal.returns
returns c =
    let ts = c.args.self.now.trees.items in
    let t = c.index-tree.result.now in
    let k = c.args.number in
    let pool = c.args.pool.now in
    let a = c.requires.stand in
    let q = c.args.place.now in
    let there : slice_get ts k ≡ Some t = found pool ts k t c.requires.there c.index-tree.ensures in
    let same = tree-at pool ts k t there in
    subst (λ r. IfOk c.found_value.result (λ x. found_in q r ≡ Some (view x))) (sym same)
    (c.found_value.ensures (tree_of pool t)
    (subst (λ n. Sees c.look-look.result n (tree_of pool t)) (sym c.depth-levels.ensures) (sees-top pool t c.look-look.result (one-stands pool a.0 ts a.1 k t there) (a.1.kept k t there).items c.look-look.ensures))
    (sym (ap (λ r. is_some (found_in q r)) same) ∙ c.requires.found))
