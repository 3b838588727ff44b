use Rattle.std.proofs.Common.{Some, ap, sym, ◌∙◌, subst, ◌<◌, length, get_or}
use Rattle.tv_value.specs.Values.{Name}
use Rattle.tv_flow.specs.Views.{flow_view}
use Rattle.tv_flow.specs.DocumentViews.{document_view}
use Rattle.tv_naming.specs.graphs.Graphs.{first_on_cycle}
use Rattle.tv_check.specs.Cycles.{opened_flows}
use Rattle.tv_naming.specs.Faulty.{at_flow, flow_cycle, CheckComplaint, plainly}
use Rattle.tv_check.proofs.CycleLemmas.{no-cycle, cycle-inside, cycle-told}
use Rattle.tv_naming.proofs.Forms.{flows-named, rise-each}
use Rattle.tv_check.proofs.cycles.flow_cycle_fault.Goals as goal

abbrev complaint : Name → CheckComplaint
complaint f = plainly flow_cycle (at_flow f)

pub flow_graph-requires-clause-in_order : goal.flow_graph-requires-clause-in_order
flow_graph-requires-clause-in_order c = rise-each flow_view c.args.document.now.flows (flows-named (document_view c.args.document.now) c.args.document.now.formed).rise

pub bounds-as_slice-flow : goal.bounds-as_slice-flow
bounds-as_slice-flow c =
    let d = document_view c.args.document.now in
    subst (λ n. c.in-Some.flow < n) (ap length (sym c.as_slice.ensures))
    (cycle-inside flow_view opened_flows c.args.document.now.flows (flows-named d c.args.document.now.formed).rise complaint c.in-Some.flow (ap first_on_cycle (sym c.in_ok-graph.ensures) ∙ sym c.in_ok-flow.ensures ∙ c.in-Some.is))

pub returns-in-Some : goal.returns-in-Some
returns-in-Some c =
    let d = document_view c.args.document.now in
    let x = c.index-as_slice-flow.result in
    ap Some c.in_ok-flow_cycle-in-Some.ensures
    ∙ ap (λ xs. Some (complaint (get_or xs c.in-Some.flow x).0)) c.as_slice.ensures
    ∙ sym (cycle-told flow_view opened_flows c.args.document.now.flows (flows-named d c.args.document.now.formed).rise complaint c.in-Some.flow (ap first_on_cycle (sym c.in_ok-graph.ensures) ∙ sym c.in_ok-flow.ensures ∙ c.in-Some.is) x)

pub returns : goal.returns
returns c =
    let d = document_view c.args.document.now in
    sym (no-cycle opened_flows d.flows (flows-named d c.args.document.now.formed).rise complaint (ap first_on_cycle (sym c.in_ok-graph.ensures) ∙ sym c.in_ok-flow.ensures ∙ c.in-None.is))
