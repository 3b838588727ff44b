use Rattle.std.proofs.Common.{◌≡◌, take}
use Rattle.tv_flow.specs.Views.{each}
use Rattle.tv_flow.proofs.copies.each_alike.Given as goal

abbrev pub invariant-loop-name : goal.invariant-loop-name
invariant-loop-name g l = each g.T.Alike.seen l.copies.items ≡ each g.T.Alike.seen (take l.name-index l.entries)
