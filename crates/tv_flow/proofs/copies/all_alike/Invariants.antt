use Rattle.std.proofs.Common.{◌≡◌, map, take}
use Rattle.tv_flow.proofs.copies.all_alike.Given as goal

abbrev pub invariant-loop-thing : goal.invariant-loop-thing
invariant-loop-thing g l = map g.T.Alike.seen l.copies.items ≡ map g.T.Alike.seen (take l.thing-index l.things)
