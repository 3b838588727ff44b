use Rattle.std.specs.Prelude.{not, is_some}
use Rattle.std.specs.List.{list_all}
use Rattle.std.proofs.Common.{ap, ◌∙◌}
use Rattle.tv_top.proofs.Loops.{steps-built}
use Rattle.tv_top.proofs.built.is_built_flow.Goals as goal

pub returns : goal.returns
returns c = c.have_no_loop.ensures ∙ ap (list_all (λ s. not (is_some s.1.repeat))) c.as_slice.ensures ∙ steps-built c.args.flow.now.steps
