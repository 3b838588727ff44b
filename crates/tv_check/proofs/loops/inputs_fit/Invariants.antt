use Rattle.std.proofs.Common.{◌≡◌, take, [], flat_map}
use Rattle.tv_flow.specs.Views.{each, step_input_view}
use Rattle.tv_naming.specs.AtViews.{at_view}
use Rattle.tv_check.specs.Depthwise.{round_complaints}
use Rattle.tv_check.proofs.loops.inputs_fit.Given as goal

-- nothing is said of the ports so far
abbrev pub invariant-loop-port : goal.invariant-loop-port
invariant-loop-port l =
    flat_map (round_complaints (at_view l.at) l.outputs) (take l.port-index (each step_input_view l.inputs)) ≡ []
