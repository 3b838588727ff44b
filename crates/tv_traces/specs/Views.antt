-- The shape that a node stands for.
use Rattle.std.specs.Prelude.{List, [], map}
use Rattle.tv_value.specs.Nested.{leaf, list, trees_of}
use Rattle.tv_lineage.specs.Kept.{result}
use Rattle.tv_lineage.specs.Views.{mark_view, part_view}
use Rattle.tv_traces.specs.Shapes.{Shape, Shapes, job_here, passed_by}
use Rattle.tv_traces.specs.declared.node.Node.{Node, fold-Node}
use Rattle.tv_traces.specs.declared.node.Node.TheOpen.{Node-F}

abbrev pub node_step : Node-F Shape → Shape
node_step Node-F.Job = leaf (result []) job_here
node_step (Node-F.Passed ms) = leaf (result []) (passed_by (map mark_view ms))
node_step (Node-F.List p us) = list (part_view p) (trees_of us)

abbrev pub node_view : Node → Shape
node_view = fold-Node Shape node_step

abbrev pub shapes_view : List Node → List Shape
shapes_view = map node_view

-- the items of a list
abbrev pub nodes_view : List Node → Shapes
nodes_view us = trees_of (map node_view us)
