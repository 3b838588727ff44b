use Rattle.std.proofs.Common.{subst, [], ◌≡◌, flat_map}
use Rattle.std.proofs.lemmas.Result.{err_from_is_err_and}
use Rattle.tv_flow.specs.DocumentViews.{document_view}
use Rattle.tv_flow.specs.Views.{each, flow_view}
use Rattle.tv_naming.specs.Faulty.{at_flow_output}
use Rattle.tv_check.specs.Depthwise.{fed_complaints}
use Rattle.tv_check.specs.Tables.{known_steps, table_depth}
use Rattle.tv_naming.specs.Told.{StopsAt}
use Rattle.tv_check.proofs.DepthLemmas.{outputs-stop, flow-silent, flow-measured}
use Rattle.tv_check.proofs.depths.flow_measured.Goals as goal

pub returns-in_err-outputs_fed-clause-told : goal.returns-in_err-outputs_fed-clause-told
returns-in_err-outputs_fed-clause-told c =
    let p = err_from_is_err_and c.from_residual-in_err-outputs_fed.result c.from_residual-in_err-outputs_fed.ensures.1 in
    let f = flow_view c.args.flow.now in
    let d = document_view c.args.document.now in
    let n = c.args.name.now in
    let ls = c.in_ok-levels.levels.items in
    let same = c.in_ok-levels.ensures.table.agree in
    let e = c.in_err-outputs_fed.field-0.0 in
    let told = subst (λ ms. StopsAt (flat_map (λ o. fed_complaints f.inputs (known_steps f.steps ms) (at_flow_output n o.0) o.1) f.outputs) e) c.as_slice-table.ensures.value c.in_err-outputs_fed.ensures in
    rw (p.1, p.2) (outputs-stop d n f ls same e c.in_ok-levels.ensures.told told)

pub returns-clause-told : goal.returns-clause-told
returns-clause-told c =
    let f = flow_view c.args.flow.now in
    let n = c.args.name.now in
    let told = subst (λ ms. flat_map (λ o. fed_complaints f.inputs (known_steps f.steps ms) (at_flow_output n o.0) o.1) f.outputs ≡ []) c.as_slice-table.ensures.value c.in_ok-outputs_fed.ensures in
    flow-silent (document_view c.args.document.now) n f c.in_ok-levels.levels.items c.in_ok-levels.ensures.table.agree c.in_ok-levels.ensures.told told

pub returns-clause-measured : goal.returns-clause-measured
returns-clause-measured c =
    let f = flow_view c.args.flow.now in
    let os = c.in_ok-outputs.outputs in
    let told = subst (λ ms. os ≡ each (table_depth f ms) f.outputs) c.as_slice-table.ensures.value c.in_ok-outputs.ensures in
    flow-measured f c.in_ok-levels.levels.items c.in_ok-levels.ensures.table os told
