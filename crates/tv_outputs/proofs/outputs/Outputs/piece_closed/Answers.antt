use Rattle.std.proofs.Common.{◌≡◌, ◌<◌, ℕ, ◌∙◌, refl, sym, subst, length, true, Some}
use Rattle.std.specs.Prelude.{slice_get}
use Rattle.std.proofs.lemmas.Result.{IfOk-weaker}
use Rattle.tv_parts.specs.Partials.{Partial, part_at, known_at, whole}
use Rattle.tv_stream.specs.Trees.{tree_of}
use Rattle.tv_value.specs.Values.{Value}
use Rattle.tv_cell.specs.declared.piece.Piece.{Piece}
use Rattle.tv_cell.specs.PieceValues.{piece_value}
use Rattle.tv_outputs.specs.Known.{known_of, known_in, tree_in}
use Rattle.tv_outputs.specs.Seen.{Sees}
use Rattle.tv_outputs.proofs.Lists.{tree-at}
use Rattle.tv_outputs.proofs.Ones.{within, fits, found, one-stands}
use Rattle.tv_outputs.proofs.Building.{ended, ended-at}
use Rattle.tv_outputs.proofs.PieceLemmas.{FromTop, from-top, list-then}
use Rattle.tv_outputs.proofs.Seeing.{sees-top}
use Rattle.tv_outputs.proofs.outputs.Outputs.piece_closed.Goals as goal

pub index-tree-requires : goal.index-tree-requires
index-tree-requires c = fits c.args.number (length c.args.self.now.trees.items) c.args.self.now.trees.len (within c.args.pool.now c.args.self.now.trees.items c.args.number c.requires.there) c.args.self.now.trees.ok.0

pub look-look-requires : goal.look-look-requires
look-look-requires c =
    let ts = c.args.self.now.trees.items in
    let t = c.index-tree.result.now in
    let k = c.args.number in
    let pool = c.args.pool.now in
    record { stands = one-stands pool c.requires.stand.0 ts c.requires.stand.1 k t (found pool ts k t c.requires.there c.index-tree.ensures) }

pub list_at-requires : goal.list_at-requires
list_at-requires c =
    let ts = c.args.self.now.trees.items in
    let t = c.index-tree.result.now in
    let k = c.args.number in
    let n = c.args.length in
    let q = c.args.place.now in
    let pool = c.args.pool.now in
    let there : slice_get ts k ≡ Some t = found pool ts k t c.requires.there c.index-tree.ensures in
    let a = c.requires.stand in
    let tree = tree_in (known_in pool ts) k in
    let e = ended-at q n tree c.requires.can c.requires.whole in (
      tree_of pool t,
      subst (λ m. Sees c.look-look.result m (tree_of pool t)) (sym c.depth-levels.ensures) (sees-top pool t c.look-look.result (one-stands pool a.0 ts a.1 k t there) (a.1.kept k t there).items c.look-look.ensures),
      λ i lt. subst (λ x. whole (part_at (known_at x (known_of pool t)) i) ≡ true) (sym c.as_slice-inside.ensures) (subst (λ (u : Partial Value). whole (part_at (known_at q u) i) ≡ true) (tree-at pool ts k t there) ((ended n (known_at q tree) e.may e.whole_there).parts i lt)),
    )

pub piece_around-requires : goal.piece_around-requires
piece_around-requires c =
    let ts = c.args.self.now.trees.items in
    let t = c.index-tree.result.now in
    let k = c.args.number in
    let n = c.args.length in
    let q = c.args.place.now in
    let pool = c.args.pool.now in
    let there : slice_get ts k ≡ Some t = found pool ts k t c.requires.there c.index-tree.ensures in
    let a = c.requires.stand in
    let tree = tree_in (known_in pool ts) k in
    let e = ended-at q n tree c.requires.can c.requires.whole in
    let w = piece_value c.in_ok-list.list in
    let same = tree-at pool ts k t there in
    let sees = subst (λ m. Sees c.look-look.result m (tree_of pool t)) (sym c.depth-levels.ensures) (sees-top pool t c.look-look.result (one-stands pool a.0 ts a.1 k t there) (a.1.kept k t there).items c.look-look.ensures) in
    let parts : (i : ℕ) → i < n → whole (part_at (known_at c.as_slice-inside.result.now (known_of pool t)) i) ≡ true = λ i lt. subst (λ x. whole (part_at (known_at x (known_of pool t)) i) ≡ true) (sym c.as_slice-inside.ensures) (subst (λ (u : Partial Value). whole (part_at (known_at q u) i) ≡ true) same ((ended n (known_at q tree) e.may e.whole_there).parts i lt)) in
    let there-now = list-then n q c.as_slice-inside.result.now tree (known_of pool t) w c.as_slice-inside.ensures same e.may e.whole_there (c.in_ok-list.ensures.value (tree_of pool t) sees parts) in
    let f : FromTop q c.as_slice-inside.result.now tree (known_of pool t) w w = from-top q c.as_slice-inside.result.now tree (known_of pool t) w w c.as_slice-inside.ensures same refl e.there (e.arrives w there-now).0 in
    record {
      seen = (tree_of pool t, sees, f.there, f.whole_then);
      sound = c.in_ok-list.ensures.sound;
    }

pub returns : goal.returns
returns c =
    let ts = c.args.self.now.trees.items in
    let t = c.index-tree.result.now in
    let k = c.args.number in
    let n = c.args.length in
    let q = c.args.place.now in
    let pool = c.args.pool.now in
    let there : slice_get ts k ≡ Some t = found pool ts k t c.requires.there c.index-tree.ensures in
    let a = c.requires.stand in
    let tree = tree_in (known_in pool ts) k in
    let e = ended-at q n tree c.requires.can c.requires.whole in
    let w = piece_value c.in_ok-list.list in
    let same = tree-at pool ts k t there in
    let sees = subst (λ m. Sees c.look-look.result m (tree_of pool t)) (sym c.depth-levels.ensures) (sees-top pool t c.look-look.result (one-stands pool a.0 ts a.1 k t there) (a.1.kept k t there).items c.look-look.ensures) in
    let parts : (i : ℕ) → i < n → whole (part_at (known_at c.as_slice-inside.result.now (known_of pool t)) i) ≡ true = λ i lt. subst (λ x. whole (part_at (known_at x (known_of pool t)) i) ≡ true) (sym c.as_slice-inside.ensures) (subst (λ (u : Partial Value). whole (part_at (known_at q u) i) ≡ true) same ((ended n (known_at q tree) e.may e.whole_there).parts i lt)) in
    let there-now = list-then n q c.as_slice-inside.result.now tree (known_of pool t) w c.as_slice-inside.ensures same e.may e.whole_there (c.in_ok-list.ensures.value (tree_of pool t) sees parts) in
    let f : FromTop q c.as_slice-inside.result.now tree (known_of pool t) w w = from-top q c.as_slice-inside.result.now tree (known_of pool t) w w c.as_slice-inside.ensures same refl e.there (e.arrives w there-now).0 in
    record {
      value = IfOk-weaker c.piece_around.result _ _ (λ (p : Piece) h. h ∙ f.is ∙ (e.arrives w there-now).1) (c.piece_around.ensures.value (tree_of pool t) sees f.there f.whole_then);
      sound = c.piece_around.ensures.sound;
    }
