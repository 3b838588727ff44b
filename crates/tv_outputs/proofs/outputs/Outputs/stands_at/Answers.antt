use Rattle.std.proofs.Common.{◌≡◌, length, ap, ◌∙◌, subst, sym, Some}
use Rattle.std.specs.Prelude.{◌↔◌, IsTrue, slice_get}
use Rattle.tv_value.specs.Views.{view}
use Rattle.tv_stream.specs.Trees.{tree_of}
use Rattle.tv_outputs.specs.FoundIn.{found_in}
use Rattle.tv_outputs.specs.Known.{known_in}
use Rattle.tv_outputs.proofs.Lists.{tree-at}
use Rattle.tv_outputs.proofs.Ones.{within, fits, found, one-stands}
use Rattle.tv_outputs.proofs.outputs.Outputs.stands_at.Goals as goal

pub index-requires : goal.index-requires
index-requires c = fits c.args.number (length c.args.self.now.trees.items) c.args.self.now.trees.len (within c.args.pool.now c.args.self.now.trees.items c.args.number c.requires.there) c.args.self.now.trees.ok.0

pub look-requires : goal.look-requires
look-requires c =
    let ts = c.args.self.now.trees.items in
    let t = c.index.result.now in
    let k = c.args.number in
    let pool = c.args.pool.now in
    record { stands = one-stands pool c.requires.stand.0 ts c.requires.stand.1 k t (found pool ts k t c.requires.there c.index.ensures) }

pub found_is-requires : goal.found_is-requires
found_is-requires c =
    let ts = c.args.self.now.trees.items in
    let t = c.index.result.now in
    let k = c.args.number in
    let pool = c.args.pool.now in
    let there : slice_get ts k ≡ Some t = found pool ts k t c.requires.there c.index.ensures in
    (tree_of pool t, c.look.ensures, (c.requires.stand.1.kept k t there).items)

pub returns : goal.returns
returns c =
    let ts = c.args.self.now.trees.items in
    let t = c.index.result.now in
    let k = c.args.number in
    let pool = c.args.pool.now in
    let there : slice_get ts k ≡ Some t = found pool ts k t c.requires.there c.index.ensures in
    subst (λ r. IsTrue c.found_is.result ↔ (found_in c.args.place.now r ≡ Some (view c.args.value.now))) (sym (tree-at pool ts k t there))
    (c.found_is.ensures (tree_of pool t) c.look.ensures (c.requires.stand.1.kept k t there).items)
