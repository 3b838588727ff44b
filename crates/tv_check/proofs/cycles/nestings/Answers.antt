use Rattle.std.proofs.Common.{◌≡◌, ap, ◌∙◌, subst}
use Rattle.std.specs.Result.{IfOk}
use Rattle.tv_flow.specs.Views.{flow_view}
use Rattle.tv_flow.specs.DocumentViews.{document_view}
use Rattle.tv_naming.specs.graphs.Graphs.{first_on_cycle, heights}
use Rattle.tv_naming.proofs.Forms.{flows-named, rise-each}
use Rattle.tv_check.proofs.Nestings.{nestings-are, cycle-free}
use Rattle.tv_check.proofs.cycles.nestings.Goals as goal

pub flow_graph-requires-clause-in_order : goal.flow_graph-requires-clause-in_order
flow_graph-requires-clause-in_order c = rise-each flow_view c.args.document.now.flows (flows-named (document_view c.args.document.now) c.args.document.now.formed).rise

pub heights-requires : goal.heights-requires
heights-requires c =
    let d = document_view c.args.document.now in
    ap first_on_cycle c.in_ok-graph.ensures ∙ cycle-free d (flows-named d c.args.document.now.formed).rise c.requires.free

pub returns : goal.returns
returns c =
    let d = document_view c.args.document.now in
    subst (λ ks. IfOk c.heights.result (λ ns. ns.items ≡ ks)) (ap heights c.in_ok-graph.ensures ∙ nestings-are d (flows-named d c.args.document.now.formed).rise c.requires.inside) c.heights.ensures
