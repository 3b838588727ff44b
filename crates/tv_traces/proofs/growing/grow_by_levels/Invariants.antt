use Rattle.std.proofs.Common.{List, ◌++◌, map, take}
use Rattle.std.specs.BTreeMap.{get}
use Rattle.tv_value.specs.Orders.{place_cmp}
use Rattle.tv_traces.specs.Seen.{Spot}
use Rattle.tv_traces.specs.Growing.{AreGrownBy, IsAroundOne}
use Rattle.tv_traces.specs.Sights.{level_spot}
use Rattle.tv_traces.proofs.growing.grow_by_levels.Given as goal

abbrev pub invariant-loop-level : goal.invariant-loop-level
invariant-loop-level l = (js : List Spot) → AreGrownBy (IsAroundOne js) (get place_cmp l.fn.grown) → AreGrownBy (IsAroundOne (js ++ map level_spot (take l.level-index l.levels))) (get place_cmp l.grown)
