use Rattle.std.proofs.Common.{◌<◌, length, subst}
use Rattle.tv_cell.proofs.PieceLemmas.{piece-sound, pieces-sound}
use Rattle.tv_cell.proofs.Sizes.{list-smaller, piece-smaller, size, sizes}
use Rattle.tv_cell.proofs.assembly.+assemble.Goals as goal

pub assemble-values_of-requires : goal.assemble-values_of-requires
assemble-values_of-requires t c = (
  subst (λ n. sizes c.as_slice.result.now < n) c.decreases (list-smaller c.args.piece.now c.in-List.pieces c.as_slice.result.now c.in-List.is c.as_slice.ensures),
  pieces-sound c.args.piece.now c.in-List.pieces c.as_slice.result.now c.in-List.is c.as_slice.ensures c.requires,
)

pub values_of-assemble-requires : goal.values_of-assemble-requires
values_of-assemble-requires t c =
    let ps = c.args.pieces.now in
    let i = c.loop-piece.piece-index in
    let x = c.piece-item.result in
    let within : i < length ps = c.loop-piece-test.true in
    (subst (λ n. size x < n) c.decreases (piece-smaller ps i x within c.piece-item.is), piece-sound ps i x within c.piece-item.is c.requires)
