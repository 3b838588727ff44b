use Rattle.std.specs.List.{list_all}
use Rattle.std.proofs.Common.{ap, ◌∙◌}
use Rattle.tv_flow.specs.Views.{flow_view}
use Rattle.tv_top.specs.Built.{is_built_flow}
use Rattle.tv_top.proofs.Loops.{flows-built}
use Rattle.tv_top.proofs.built.is_built.Goals as goal

pub returns : goal.returns
returns c = c.are_built.ensures ∙ ap (list_all (λ f. is_built_flow (flow_view f.1))) c.as_slice.ensures ∙ flows-built c.args.document.now.flows
