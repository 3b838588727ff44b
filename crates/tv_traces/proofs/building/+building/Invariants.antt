use Rattle.std.proofs.Common.{◌≡◌, ◌+◌, length, map}
use Rattle.tv_lineage.specs.Views.{part_view}
use Rattle.tv_traces.specs.OfNodes.{AreBuilt}
use Rattle.tv_traces.specs.Building.{telling}
use Rattle.tv_traces.specs.Views.{node_view}
use Rattle.tv_traces.proofs.building.+building.Given as goal

abbrev pub decreases-node_below : goal.decreases-node_below
decreases-node_below l = l.levels + l.levels

abbrev pub decreases-list_below : goal.decreases-list_below
decreases-list_below l = l.levels + l.levels + 1

abbrev pub invariant-list_below-loop-index : goal.invariant-list_below-loop-index
invariant-list_below-loop-index l = record { built : AreBuilt (telling l.walk) l.levels l.place l.fn.records l.records (map node_view l.items.items) (map part_view l.parts.items); many : length l.items.items ≡ l.index }
