use Rattle.std.proofs.Common.{◌∙◌}
use Rattle.tv_value.specs.Views.{view as value_view}
use Rattle.tv_naming.proofs.Kept.{has-found}
use Rattle.tv_naming.proofs.given.is_given.Goals as goal

pub returns : goal.returns
returns c = c.is_some.ensures ∙ has-found value_view (λ x. x.now) c.thing_of.result c.args.name.now c.args.given.now c.thing_of.ensures
