use Rattle.std.proofs.Common.{◌≡◌, true, take, map}
use Rattle.tv_value.specs.Nested.{trees_of}
use Rattle.tv_value.specs.Values.{all_have_depth}
use Rattle.tv_value.specs.Views.{view}
use Rattle.tv_value.proofs.value.+depth.Given as goal

abbrev pub invariant-Items::have_depth-loop-value : goal.invariant-Items::have_depth-loop-value
invariant-Items::have_depth-loop-value l =
    all_have_depth (trees_of (map view (take l.value-index l.value-items))) l.depth ≡ true
