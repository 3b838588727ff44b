use Rattle.std.proofs.Common.{◌<◌, length, subst, ◌∙◌, arith}
use Rattle.tv_cell.proofs.Compared.{list-stands}
use Rattle.tv_cell.proofs.PieceLemmas.{piece-sound, pieces-sound}
use Rattle.tv_cell.proofs.Sizes.{list-smaller, piece-smaller, size, sizes}
use Rattle.tv_cell.proofs.+stands_for.Goals as goal

pub piece::Piece::stands_for-stand_for-requires : goal.piece::Piece::stands_for-stand_for-requires
piece::Piece::stands_for-stand_for-requires t c = (
  subst (λ n. sizes c.as_slice.result.now < n) c.decreases (list-smaller c.args.self.now c.in-List.pieces c.as_slice.result.now c.in-List.is c.as_slice.ensures),
  pieces-sound c.args.self.now c.in-List.pieces c.as_slice.result.now c.in-List.is c.as_slice.ensures c.requires,
)

pub piece::Piece::stands_for-returns-in-List-value : goal.piece::Piece::stands_for-returns-in-List-value
piece::Piece::stands_for-returns-in-List-value t c =
    c.stand_for.ensures ∙ list-stands c.args.self.now c.in-List.pieces c.as_slice.result.now c.args.value.now c.in-List-value.items c.as_slice-in-List-value.result.now c.in-List.is c.as_slice.ensures c.in-List-value.is c.as_slice-in-List-value.ensures

pub same::stand_for-stands_for-requires : goal.same::stand_for-stands_for-requires
same::stand_for-stands_for-requires t c =
    let ps = c.args.pieces.now in
    let i = c.loop-index.index in
    let x = c.index-pieces-index.result in
    let within : i < length ps = omega arith in
    (subst (λ n. size x < n) c.decreases (piece-smaller ps i x within c.index-pieces-index.is), piece-sound ps i x within c.index-pieces-index.is c.requires)
