use Rattle.std.proofs.Common.{◌≤◌, ◌∙◌, ap, map, length, arith}
use Rattle.tv_value.specs.Strategies.{port}
use Rattle.tv_value.specs.Views.{strategies_of}
use Rattle.tv_check.proofs.DepthLemmas.{take-whole}
use Rattle.tv_check.proofs.PlanLemmas.{ports-listed}
use Rattle.tv_check.proofs.planning.ports_of.Goals as goal

pub returns : goal.returns
returns c =
    let xs = c.as_slice-inputs.result.now in
    let all : length xs ≤ c.loop-port.port-index = omega (arith, c.loop-port-test.false) in
    c.of.ensures ∙ ap strategies_of (c.loop-port.invariant ∙ ap (map (λ i. port i.0)) (take-whole xs c.loop-port.port-index all ∙ c.as_slice-inputs.ensures)) ∙ ports-listed c.args.inputs.now
