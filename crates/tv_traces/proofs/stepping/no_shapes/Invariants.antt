use Rattle.std.proofs.Common.{◌≡◌}
use Rattle.std.specs.Prelude.{replicate}
use Rattle.tv_traces.specs.Shapes.{no_shape}
use Rattle.tv_traces.specs.Views.{shapes_view}
use Rattle.tv_traces.proofs.stepping.no_shapes.Given as goal

abbrev pub invariant-loop-made : goal.invariant-loop-made
invariant-loop-made l = shapes_view l.shapes.items ≡ replicate l.made no_shape
