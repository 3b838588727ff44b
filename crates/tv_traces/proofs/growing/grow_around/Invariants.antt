use Rattle.std.proofs.Common.{List}
use Rattle.std.specs.BTreeMap.{get}
use Rattle.tv_value.specs.Orders.{place_cmp}
use Rattle.tv_traces.specs.Seen.{Spot}
use Rattle.tv_traces.specs.Growing.{AreGrownBy, IsAroundOne, WithAround}
use Rattle.tv_traces.proofs.growing.grow_around.Given as goal

abbrev pub invariant-loop-depth : goal.invariant-loop-depth
invariant-loop-depth l = (js : List Spot) → AreGrownBy (IsAroundOne js) (get place_cmp l.fn.grown) → AreGrownBy (WithAround (IsAroundOne js) l.step l.place l.depth) (get place_cmp l.grown)
