use Rattle.std.proofs.Common.{arith}
use Rattle.tv_flow.proofs.Growing.{item_count-each}
use Rattle.tv_flow.proofs.lists.item_count.Goals as goal

pub returns : goal.returns
returns c = omega (arith, c.len.ensures, c.args.items.now.ok.0, item_count-each c.args.items.now.items)
