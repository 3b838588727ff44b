use Rattle.std.proofs.Common.{◌≡◌, ◌+◌, take, [], flat_map}
use Rattle.tv_naming.specs.Faulty.{at_output}
use Rattle.tv_check.specs.Depthwise.{past_limit}
use Rattle.tv_check.proofs.levels.outputs_within.Given as goal

-- nothing is said of the ports so far
abbrev pub invariant-loop-port : goal.invariant-loop-port
invariant-loop-port l =
    flat_map (λ o. past_limit (at_output l.name l.step_name o.0) (o.1 + l.level)) (take l.port-index l.outputs) ≡ []
