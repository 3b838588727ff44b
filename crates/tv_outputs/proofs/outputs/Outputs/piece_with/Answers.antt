use Rattle.std.proofs.Common.{◌≡◌, ◌∙◌, sym, ap, subst, length, Some}
use Rattle.std.specs.Prelude.{slice_get}
use Rattle.std.proofs.lemmas.Result.{IfOk-weaker}
use Rattle.tv_parts.proofs.Changes.{arrive-there}
use Rattle.tv_stream.specs.Trees.{tree_of}
use Rattle.tv_cell.specs.declared.piece.Piece.{Piece}
use Rattle.tv_cell.specs.PieceValues.{piece_value}
use Rattle.tv_cell.specs.Soundness.{IsSound}
use Rattle.tv_outputs.specs.Known.{known_of, known_in, tree_in}
use Rattle.tv_outputs.specs.Seen.{Sees}
use Rattle.tv_outputs.proofs.Lists.{tree-at}
use Rattle.tv_outputs.proofs.Ones.{within, fits, found, one-stands}
use Rattle.tv_outputs.proofs.PieceLemmas.{FromTop, from-top}
use Rattle.tv_outputs.proofs.Seeing.{sees-top}
use Rattle.tv_outputs.proofs.outputs.Outputs.piece_with.Goals as goal

pub index-tree-requires : goal.index-tree-requires
index-tree-requires c = fits c.args.number (length c.args.self.now.trees.items) c.args.self.now.trees.len (within c.args.pool.now c.args.self.now.trees.items c.args.number c.requires.there) c.args.self.now.trees.ok.0

pub look-look-requires : goal.look-look-requires
look-look-requires c =
    let ts = c.args.self.now.trees.items in
    let t = c.index-tree.result.now in
    let k = c.args.number in
    let pool = c.args.pool.now in
    record { stands = one-stands pool c.requires.stand.0 ts c.requires.stand.1 k t (found pool ts k t c.requires.there c.index-tree.ensures) }

pub piece_around-requires : goal.piece_around-requires
piece_around-requires c =
    let ts = c.args.self.now.trees.items in
    let t = c.index-tree.result.now in
    let k = c.args.number in
    let pool = c.args.pool.now in
    let there : slice_get ts k ≡ Some t = found pool ts k t c.requires.there c.index-tree.ensures in
    let a = c.requires.stand in
    let q = c.args.place.now in
    let tree = tree_in (known_in pool ts) k in
    let f : FromTop q c.as_slice.result.now tree (known_of pool t) (piece_value c.args.piece.now) (piece_value c.in_ok-piece.piece) = from-top q c.as_slice.result.now tree (known_of pool t) (piece_value c.args.piece.now) (piece_value c.in_ok-piece.piece) c.as_slice.ensures (tree-at pool ts k t there) (ap piece_value c.in_ok-piece.ensures) (arrive-there q tree c.requires.can).0 c.requires.whole in
    record {
      seen = (
        tree_of pool t,
        subst (λ n. Sees c.look-look.result n (tree_of pool t)) (sym c.depth-levels.ensures) (sees-top pool t c.look-look.result (one-stands pool a.0 ts a.1 k t there) (a.1.kept k t there).items c.look-look.ensures),
        f.there,
        f.whole_then,
      );
      sound = subst IsSound (sym c.in_ok-piece.ensures) c.requires.sound;
    }

pub returns : goal.returns
returns c =
    let ts = c.args.self.now.trees.items in
    let t = c.index-tree.result.now in
    let k = c.args.number in
    let pool = c.args.pool.now in
    let there : slice_get ts k ≡ Some t = found pool ts k t c.requires.there c.index-tree.ensures in
    let a = c.requires.stand in
    let q = c.args.place.now in
    let tree = tree_in (known_in pool ts) k in
    let f : FromTop q c.as_slice.result.now tree (known_of pool t) (piece_value c.args.piece.now) (piece_value c.in_ok-piece.piece) = from-top q c.as_slice.result.now tree (known_of pool t) (piece_value c.args.piece.now) (piece_value c.in_ok-piece.piece) c.as_slice.ensures (tree-at pool ts k t there) (ap piece_value c.in_ok-piece.ensures) (arrive-there q tree c.requires.can).0 c.requires.whole in
    let sees = subst (λ n. Sees c.look-look.result n (tree_of pool t)) (sym c.depth-levels.ensures) (sees-top pool t c.look-look.result (one-stands pool a.0 ts a.1 k t there) (a.1.kept k t there).items c.look-look.ensures) in
    record {
      value = IfOk-weaker c.piece_around.result _ _ (λ (p : Piece) h. h ∙ f.is) (c.piece_around.ensures.value (tree_of pool t) sees f.there f.whole_then);
      sound = c.piece_around.ensures.sound;
    }
