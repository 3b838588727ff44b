use Rattle.std.proofs.Common.{◌<◌, length, subst, ◌∙◌, arith}
use Rattle.tv_value.specs.Views.{view}
use Rattle.tv_cell.proofs.Compared.{lists-same, part-stands}
use Rattle.tv_cell.proofs.PieceLemmas.{piece-sound, pieces-sound}
use Rattle.tv_cell.proofs.Sizes.{list-smaller, piece-smaller, size, sizes}
use Rattle.tv_cell.proofs.+is_same.Goals as goal

pub piece::Piece::is_same-same_pieces-requires : goal.piece::Piece::is_same-same_pieces-requires
piece::Piece::is_same-same_pieces-requires t c = (
  subst (λ n. sizes c.as_slice.result.now < n) c.decreases (list-smaller c.args.self.now c.in-List.pieces c.as_slice.result.now c.in-List.is c.as_slice.ensures),
  (
    pieces-sound c.args.self.now c.in-List.pieces c.as_slice.result.now c.in-List.is c.as_slice.ensures c.requires.first,
    pieces-sound c.args.other.now c.in-List-other.others c.as_slice-in-List-other.result.now c.in-List-other.is c.as_slice-in-List-other.ensures c.requires.second,
  ),
)

pub piece::Piece::is_same-returns-in-Part : goal.piece::Piece::is_same-returns-in-Part
piece::Piece::is_same-returns-in-Part t c =
    c.stands_for.ensures ∙ part-stands c.args.self.now c.in-Part.cell c.in-Part.place c.args.other.now (view c.value_at.result.now) c.in-Part.is c.value_at.ensures

pub piece::Piece::is_same-returns-in-List-other : goal.piece::Piece::is_same-returns-in-List-other
piece::Piece::is_same-returns-in-List-other t c =
    c.same_pieces.ensures ∙ lists-same c.args.self.now c.in-List.pieces c.as_slice.result.now c.args.other.now c.in-List-other.others c.as_slice-in-List-other.result.now c.in-List.is c.as_slice.ensures c.in-List-other.is c.as_slice-in-List-other.ensures

pub same::same_pieces-is_same-requires : goal.same::same_pieces-is_same-requires
same::same_pieces-is_same-requires t c =
    let ps = c.args.first.now in
    let qs = c.args.second.now in
    let i = c.loop-index.index in
    let x = c.index-first-index.result in
    let within : i < length ps = omega arith in
    let beside : i < length qs = omega (arith, c.if-first-second.false) in (
      subst (λ n. size x < n) c.decreases (piece-smaller ps i x within c.index-first-index.is),
      (
        piece-sound ps i x within c.index-first-index.is c.requires.first,
        piece-sound qs i c.index-second-index.result beside c.index-second-index.is c.requires.second,
      ),
    )
