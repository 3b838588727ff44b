use Rattle.tv_cell.proofs.PieceLemmas.{items-count}
use Rattle.tv_cell.proofs.piece.items_in.Goals as goal

pub returns-in-List : goal.returns-in-List
returns-in-List c = items-count c.args.value.now c.in-List.items c.as_slice.result.now c.in-List.is c.as_slice.ensures
