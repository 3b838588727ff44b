use Rattle.tv_cell.proofs.PieceLemmas.{list-counts}
use Rattle.tv_cell.proofs.piece.Piece.length.Goals as goal

pub returns-in-List : goal.returns-in-List
returns-in-List c = list-counts c.args.self.now c.in-List.pieces c.as_slice.result.now c.in-List.is c.as_slice.ensures
