use Rattle.std.proofs.Common.{◌++◌, map, take}
use Rattle.std.specs.BTreeMap.{get}
use Rattle.tv_value.specs.Orders.{place_cmp}
use Rattle.tv_traces.specs.Sights.{level_spot}
use Rattle.tv_traces.proofs.GrowingLemmas.{all-around, next-around}
use Rattle.tv_traces.proofs.growing.grow_by_levels.Goals as goal

pub loop-level-preserved : goal.loop-level-preserved
loop-level-preserved c = λ js h.
    next-around level_spot js c.args.levels.now c.loop-level.level-index c.level-item.result c.loop-level-test.true c.level-item.is c.as_slice.result.now c.as_slice.ensures (get place_cmp c.grow_around.new.grown)
    (c.in_ok-grow_around.ensures (js ++ map level_spot (take c.loop-level.level-index c.args.levels.now)) (c.loop-level.invariant js h))

pub returns : goal.returns
returns c = λ js h. all-around level_spot js c.args.levels.now c.loop-level.level-index c.loop-level-test.false (get place_cmp c.loop-level.grown) (c.loop-level.invariant js h)
