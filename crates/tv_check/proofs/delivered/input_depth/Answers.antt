use Rattle.std.proofs.Common.{sym}
use Rattle.tv_flow.specs.Formed.{is_depth}
use Rattle.tv_flow.specs.Views.{flow_view}
use Rattle.tv_naming.proofs.FormedParts.{named-passes, all-pass, depth-small, flow-inputs}
use Rattle.tv_check.proofs.delivered.input_depth.Goals as goal

pub returns-in-Some-clause-small : goal.returns-in-Some-clause-small
returns-in-Some-clause-small c =
    let f = c.args.flow.now in
    depth-small _ (named-passes is_depth c.args.name.now f.inputs c.in-Some.depth.now (all-pass is_depth 0 16 f.inputs (flow-inputs (flow_view f) c.requires)) (sym c.in-Some.ensures))
