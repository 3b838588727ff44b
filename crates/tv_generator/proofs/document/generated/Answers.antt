use Rattle.std.proofs.Common.{ap, arith, ◌∙◌}
use Rattle.tv_flow.specs.Formed.{is_formed}
use Rattle.tv_generator.proofs.Form.{are-formed, same-document}
use Rattle.tv_generator.proofs.document.generated.Goals as goal

pub invariant_of-result : goal.invariant_of-result
invariant_of-result c =
    record { formed = ap is_formed (same-document c.args.number _ _ _ c.in_ok-main.ensures c.in_ok-flows.ensures c.in_ok-inputs.ensures) ∙ are-formed c.args.number (omega (arith, c.requires.most)) }
