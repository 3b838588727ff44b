use Rattle.tv_cell.proofs.Parts.{item-lent}
use Rattle.tv_cell.proofs.looking.item_of.Goals as goal

pub returns-in-List : goal.returns-in-List
returns-in-List c =
    item-lent c.args.value.now c.in-List.items c.as_slice.result.now c.args.index c.thing_at.result
    c.in-List.is c.as_slice.ensures c.thing_at.ensures
