use Rattle.std.proofs.Common.{◌≡◌, ◌++◌, map, take}
use Rattle.tv_flow.specs.declared.faults.Part.TheVariants.{Index}
use Rattle.tv_flow.specs.PathViews.{at_view}
use Rattle.tv_flow.proofs.at.At.path_at.Given as goal

abbrev pub invariant-loop-index : goal.invariant-loop-index
invariant-loop-index l = l.parts.items ≡ at_view l.self ++ map Index (take l.index-index l.index-items)
