use Rattle.std.proofs.Common.{◌≡◌, ◌≤◌, drop, map, length}
use Rattle.tv_value.specs.Nested.{trees_of}
use Rattle.tv_value.specs.DepthSets.{common_depths}
use Rattle.tv_value.specs.DepthViews.{depth_set_view}
use Rattle.tv_value.specs.Views.{view}
use Rattle.tv_value.proofs.value.+depths.Given as goal

abbrev pub invariant-Items::common_depths-loop-left : goal.invariant-Items::common_depths-loop-left
invariant-Items::common_depths-loop-left l =
    (l.left ≤ length l.self.values.items) × (depth_set_view l.common ≡ common_depths (trees_of (map view (drop l.left l.self.values.items))))

abbrev pub decreases-Items::common_depths-loop-left : goal.decreases-Items::common_depths-loop-left
decreases-Items::common_depths-loop-left l = l.left
