use Rattle.std.proofs.Common.{◌∙◌}
use Rattle.tv_flow.specs.Views.{step_view}
use Rattle.tv_naming.proofs.Kept.{has-found}
use Rattle.tv_naming.proofs.links.has_step.Goals as goal

pub returns : goal.returns
returns c = c.is_some.ensures ∙ has-found step_view (λ x. x.now) c.thing_of.result c.args.name.now c.args.flow.now.steps c.thing_of.ensures
