use Rattle.std.proofs.Common.{◌∙◌}
use Rattle.tv_flow.specs.Views.{flow_view}
use Rattle.tv_naming.proofs.Kept.{flows-ascend, has-found}
use Rattle.tv_naming.proofs.naming.has_flow.Goals as goal

pub thing_of-requires : goal.thing_of-requires
thing_of-requires c = flows-ascend c.args.document.now

pub returns : goal.returns
returns c = c.is_some.ensures ∙ has-found flow_view (λ x. x.now) c.thing_of.result c.args.name.now c.args.document.now.flows c.thing_of.ensures
