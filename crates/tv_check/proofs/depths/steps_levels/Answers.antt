use Rattle.std.proofs.Common.{[], ◌≡◌, ◌∙◌, sym, ap, length, replicate, None, subst, get_or, arith}
use Rattle.std.proofs.lemmas.Result.{err_from_is_err_and}
use Rattle.std.specs.Prelude.{◌≤◌}
use Rattle.tv_flow.specs.DocumentViews.{document_view}
use Rattle.tv_flow.specs.Views.{flow_view, step_view}
use Rattle.tv_model.specs.instance.Ranks.{ranked}
use Rattle.tv_value.specs.Values.{Name}
use Rattle.tv_flow.specs.Flows.{Step}
use Rattle.tv_strategy.specs.Measures.{strategy_depth}
use Rattle.tv_model.specs.instance.Steps.{strategy_of}
use Rattle.tv_model.specs.instance.CheckedDepths.{port_depth}
use Rattle.tv_check.specs.Depthwise.{step_complaints}
use Rattle.tv_check.specs.Tables.{known_steps}
use Rattle.tv_naming.specs.Told.{StopsAt}
use Rattle.tv_check.proofs.Links.{length-each}
use Rattle.tv_model.proofs.Ranks.{ranked-ordered}
use Rattle.tv_check.proofs.DepthLemmas.{steps-start, steps-stop, steps-more, steps-silent, steps-end, length-at, number-in, number-below, step-there, step-here, step-sound, step-opens}
use Rattle.tv_check.proofs.depths.steps_levels.Goals as goal

pub loop-number-init : goal.loop-number-init
loop-number-init c =
    let f = flow_view c.args.flow.now in
    steps-start (document_view c.args.document.now) c.args.name.now f (ranked f.steps) c.requires.ready.formed c.in_ok-levels.levels.items
    (c.in_ok-levels.ensures ∙ ap (λ k. replicate k None) (ap length c.as_slice-steps.ensures ∙ sym (length-each step_view c.args.flow.now.steps)))

pub bounds-steps-number : goal.bounds-steps-number
bounds-steps-number c = number-in c.args.flow.now c.as_slice-steps.result.now c.args.order.now c.loop-number.number-index c.as_slice-steps.ensures c.requires.order c.loop-number-test.true

pub step_level-requires-clause-step : goal.step_level-requires-clause-step
step_level-requires-clause-step c =
    step-sound c.args.flow.now c.as_slice-steps.result.now c.args.order.now c.loop-number.number-index c.as_slice-steps.ensures c.requires.order c.loop-number-test.true c.index-steps-number.result c.index-steps-number.is (document_view c.args.document.now) c.args.measured.now c.requires.ready

pub step_level-requires-clause-opened : goal.step_level-requires-clause-opened
step_level-requires-clause-opened c =
    step-opens c.args.flow.now c.as_slice-steps.result.now c.args.order.now c.loop-number.number-index c.as_slice-steps.ensures c.requires.order c.loop-number-test.true c.index-steps-number.result c.index-steps-number.is (document_view c.args.document.now) c.args.measured.now c.requires.ready

pub returns-in_err-level-clause-told : goal.returns-in_err-level-clause-told
returns-in_err-level-clause-told c =
    let p = err_from_is_err_and c.from_residual-in_err-level.result c.from_residual-in_err-level.ensures.1 in
    let f = flow_view c.args.flow.now in
    let d = document_view c.args.document.now in
    let n = c.args.name.now in
    let i = c.loop-number.number-index in
    let k = get_or c.args.order.now i 0 in
    let s : Name × Step = (c.index-steps-number.result.0, step_view c.index-steps-number.result.1) in
    let there = step-there c.args.flow.now c.as_slice-steps.result.now c.args.order.now i c.as_slice-steps.ensures c.requires.order c.loop-number-test.true c.index-steps-number.result c.index-steps-number.is in
    let here = step-here c.args.flow.now c.as_slice-steps.result.now c.args.order.now i c.as_slice-steps.ensures c.requires.order c.loop-number-test.true c.index-steps-number.result c.index-steps-number.is in
    let e = c.in_err-level.field-0.0 in
    let told = subst (λ ls. StopsAt (step_complaints d n f.inputs (known_steps f.steps ls) s) e) c.as_slice-table.ensures.value c.in_err-level.ensures.told in
    rw (p.1, p.2) (steps-stop d n f (ranked f.steps) (ranked-ordered f.steps) c.loop-number.levels.items i k s c.loop-number.invariant there here e told)

pub index_mut-requires : goal.index_mut-requires
index_mut-requires c =
    let at = number-below c.args.flow.now c.as_slice-steps.result.now c.args.order.now c.loop-number.number-index c.as_slice-steps.ensures c.requires.order c.loop-number-test.true in
    omega (arith, at, c.loop-number.invariant.table.entries, length-each step_view c.args.flow.now.steps, c.loop-number.levels.ok.0)

pub loop-number-preserved : goal.loop-number-preserved
loop-number-preserved c =
    let f = flow_view c.args.flow.now in
    let d = document_view c.args.document.now in
    let n = c.args.name.now in
    let i = c.loop-number.number-index in
    let k = get_or c.args.order.now i 0 in
    let s : Name × Step = (c.index-steps-number.result.0, step_view c.index-steps-number.result.1) in
    let there = step-there c.args.flow.now c.as_slice-steps.result.now c.args.order.now i c.as_slice-steps.ensures c.requires.order c.loop-number-test.true c.index-steps-number.result c.index-steps-number.is in
    let here = step-here c.args.flow.now c.as_slice-steps.result.now c.args.order.now i c.as_slice-steps.ensures c.requires.order c.loop-number-test.true c.index-steps-number.result c.index-steps-number.is in
    let ls = c.loop-number.levels.items in
    let v = c.in_ok-level.level in
    let told = subst (λ ms. step_complaints d n f.inputs (known_steps f.steps ms) s ≡ []) c.as_slice-table.ensures.value c.in_ok-level.ensures.told in
    let level = subst (λ ms. v ≡ strategy_depth (port_depth f.inputs (known_steps f.steps ms) s.1) (strategy_of s.1)) c.as_slice-table.ensures.value c.in_ok-level.ensures.level in
    steps-more d n f (ranked f.steps) (ranked-ordered f.steps) ls i k s c.loop-number.invariant there here v level c.in_ok-level.ensures.small told

pub returns-clause-table : goal.returns-clause-table
returns-clause-table c =
    let f = flow_view c.args.flow.now in
    let all : length (ranked f.steps) ≤ c.loop-number.number-index = omega (arith, length-at f.steps (ranked f.steps) c.args.order.now c.requires.order, c.loop-number-test.false) in
    steps-end (document_view c.args.document.now) c.args.name.now f c.loop-number.levels.items c.loop-number.number-index all c.loop-number.invariant

pub returns-clause-told : goal.returns-clause-told
returns-clause-told c =
    let f = flow_view c.args.flow.now in
    let all : length (ranked f.steps) ≤ c.loop-number.number-index = omega (arith, length-at f.steps (ranked f.steps) c.args.order.now c.requires.order, c.loop-number-test.false) in
    steps-silent (document_view c.args.document.now) c.args.name.now f (ranked f.steps) c.loop-number.levels.items c.loop-number.number-index all c.loop-number.invariant
