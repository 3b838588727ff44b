use Rattle.std.proofs.Common.{◌≡◌, ◌+◌, ◌∙◌, sym, ap, subst, length, Some}
use Rattle.std.specs.Prelude.{slice_get}
use Rattle.tv_outputs.specs.Known.{known_in, tree_in}
use Rattle.tv_parts.specs.Partials.{HoldsFaults}
use Rattle.tv_cell.specs.PieceValues.{piece_value}
use Rattle.tv_parts.specs.Changes.{arrive}
use Rattle.tv_outputs.proofs.Ones.{within, fits, found, one-stands}
use Rattle.tv_outputs.proofs.Looks.{levels-there, levels-arrived, levels-all}
use Rattle.tv_outputs.proofs.outputs.Outputs.faults_with.Goals as goal

pub index-requires : goal.index-requires
index-requires c = fits c.args.number (length c.args.self.now.trees.items) c.args.self.now.trees.len (within c.args.pool.now c.args.self.now.trees.items c.args.number c.requires.there) c.args.self.now.trees.ok.0

pub marked_levels-requires : goal.marked_levels-requires
marked_levels-requires c =
    let ts = c.args.self.now.trees.items in
    let t = c.index.result.now in
    let k = c.args.number in
    let there : slice_get ts k ≡ Some t = found c.args.pool.now ts k t c.requires.there c.index.ensures in
    let a = c.requires.stand.1 in
    let r = c.requires.stand.0 in
    record { stands = one-stands c.args.pool.now r ts a k t there }

pub returns-then-holds_fault : goal.returns-then-holds_fault
returns-then-holds_fault c =
    let ts = c.args.self.now.trees.items in
    let q = c.args.place.now in
    let v = piece_value c.args.piece.now in
    let t = tree_in (known_in c.args.pool.now ts) c.args.number in
    subst (HoldsFaults q (arrive q v t)) (ap (λ l. length l + 1) (sym c.as_slice.ensures)) (levels-all q v t c.requires.can (sym c.holds_fault.ensures ∙ c.if-holds_fault.true))

pub returns : goal.returns
returns c =
    let ts = c.args.self.now.trees.items in
    let t = c.index.result.now in
    let k = c.args.number in
    let there : slice_get ts k ≡ Some t = found c.args.pool.now ts k t c.requires.there c.index.ensures in
    let a = c.requires.stand.1 in
    let r = c.requires.stand.0 in
    levels-arrived c.args.place.now (piece_value c.args.piece.now) (tree_in (known_in c.args.pool.now ts) k) c.marked_levels.result c.requires.can (sym c.holds_fault.ensures ∙ c.if-holds_fault.false) (levels-there c.args.pool.now r ts a k t there c.args.place.now c.marked_levels.result c.marked_levels.ensures.levels)
