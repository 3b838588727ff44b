use Rattle.std.proofs.Common.{◌≡◌, ◌∙◌, sym, ap, subst, length, Bool, true, false, arith, eq-eqb, ◌+◌}
use Rattle.std.proofs.lemmas.Result.{err_from_is_err_and}
use Rattle.std.specs.Prelude.{◌≤◌, ◌<◌, ◌==◌}
use Rattle.std.proofs.lemmas.Bool.{ne_eqb}
use Rattle.std.proofs.lemmas.Option.{slice_get_within}
use Rattle.tv_lemmas.proofs.Lists.{get-read}
use Rattle.tv_value.specs.Values.{Name}
use Rattle.tv_flow.specs.Flows.{Flow}
use Rattle.tv_flow.specs.DocumentViews.{document_view}
use Rattle.tv_flow.specs.Views.{flow_view}
use Rattle.tv_model.specs.instance.Ranks.{ranked}
use Rattle.tv_check.specs.Depthwise.{flow_complaints}
use Rattle.tv_check.specs.Tables.{AreAt}
use Rattle.tv_naming.specs.Told.{StopsAt}
use Rattle.tv_check.specs.Measured.{IsReady, IsProgress, flow_nesting}
use Rattle.tv_check.proofs.Links.{each-get, length-each}
use Rattle.tv_check.proofs.NestedLemmas.{worked-length}
use Rattle.tv_check.proofs.Progress.{only, filtered, only-is, only-not, ready, orders-at, orders-length, nesting-is, progress-put, progress-skip, progress-next}
use Rattle.tv_naming.proofs.Told.{got-in, silent-more, silent-all, stops-next}
use Rattle.tv_check.proofs.depths.nested_measured.Goals as goal

pub bounds-orders-number : goal.bounds-orders-number
bounds-orders-number c =
    let d = document_view c.args.document.now in
    let j = c.loop-number.number in
    let x : Name × Flow = (c.entry-item.result.0, flow_view c.entry-item.result.1) in
    let here = each-get flow_view c.args.document.now.flows j c.entry-item.result (got-in _ _ j c.entry-item.result c.as_slice-entry-items.ensures c.loop-number-test.true c.entry-item.is) in
    omega (arith, slice_get_within d.flows j x here, orders-length d.flows c.args.orders.now c.requires.prepared.orders_are)

pub flow_measured-requires-clause-ready : goal.flow_measured-requires-clause-ready
flow_measured-requires-clause-ready c =
    let d = document_view c.args.document.now in
    let j = c.loop-number.number in
    let x : Name × Flow = (c.entry-item.result.0, flow_view c.entry-item.result.1) in
    let here = each-get flow_view c.args.document.now.flows j c.entry-item.result (got-in _ _ j c.entry-item.result c.as_slice-entry-items.ensures c.loop-number-test.true c.entry-item.is) in
    let level = sym (nesting-is d c.args.orders.now c.args.nestings.now c.requires.prepared j x here) ∙ c.if-nestings-number.false in
    subst (λ ws. IsReady d ws x.1) (sym c.as_slice-so_far.ensures.value)
    (ready d c.loop-number.measured.items c.args.nesting j c.loop-number.invariant.progress x c.args.orders.now c.args.nestings.now c.requires.prepared c.args.document.now.formed x here level)

pub flow_measured-requires-clause-order : goal.flow_measured-requires-clause-order
flow_measured-requires-clause-order c =
    let d = document_view c.args.document.now in
    let j = c.loop-number.number in
    let x : Name × Flow = (c.entry-item.result.0, flow_view c.entry-item.result.1) in
    let here = each-get flow_view c.args.document.now.flows j c.entry-item.result (got-in _ _ j c.entry-item.result c.as_slice-entry-items.ensures c.loop-number-test.true c.entry-item.is) in
    let lt : j < length c.args.orders.now = omega (arith, slice_get_within d.flows j x here, orders-length d.flows c.args.orders.now c.requires.prepared.orders_are) in
    let o = c.index-orders-number.result in
    subst (λ ks. AreAt x.1.steps ks (ranked x.1.steps)) (sym c.as_slice-order.ensures.value) (orders-at d.flows c.args.orders.now j x o c.requires.prepared.orders_are here (get-read c.args.orders.now j o lt c.index-orders-number.is))

pub returns-in_err-work-clause-told : goal.returns-in_err-work-clause-told
returns-in_err-work-clause-told c =
    let p = err_from_is_err_and c.from_residual.result c.from_residual.ensures.1 in
    let d = document_view c.args.document.now in
    let j = c.loop-number.number in
    let x : Name × Flow = (c.entry-item.result.0, flow_view c.entry-item.result.1) in
    let here = each-get flow_view c.args.document.now.flows j c.entry-item.result (got-in _ _ j c.entry-item.result c.as_slice-entry-items.ensures c.loop-number-test.true c.entry-item.is) in
    let level = sym (nesting-is d c.args.orders.now c.args.nestings.now c.requires.prepared j x here) ∙ c.if-nestings-number.false in
    let e = c.in_err-work.field-0.0 in
    let test : Name × Flow → Bool = λ f. flow_nesting d f.0 == c.args.nesting in
    let passed : test x ≡ true = eq-eqb _ _ level in
    let told = stops-next (only test (flow_complaints d)) d.flows j x e here c.loop-number.invariant.told (subst (λ cs. StopsAt cs e) (only-is test (flow_complaints d) x passed) c.in_err-work.ensures.told) in
    rw (p.1, p.2) (subst (λ cs. StopsAt cs e) (sym (filtered test (flow_complaints d) d.flows)) told)

pub put-requires : goal.put-requires
put-requires c =
    let d = document_view c.args.document.now in
    let j = c.loop-number.number in
    let x : Name × Flow = (c.entry-item.result.0, flow_view c.entry-item.result.1) in
    let here = each-get flow_view c.args.document.now.flows j c.entry-item.result (got-in _ _ j c.entry-item.result c.as_slice-entry-items.ensures c.loop-number-test.true c.entry-item.is) in
    omega (arith, slice_get_within d.flows j x here, worked-length d.flows c.loop-number.measured.items c.loop-number.invariant.progress.worked, c.loop-number.measured.ok.0)

pub loop-number-preserved : goal.loop-number-preserved
loop-number-preserved c =
    let d = document_view c.args.document.now in
    let j = c.loop-number.number in
    let x : Name × Flow = (c.entry-item.result.0, flow_view c.entry-item.result.1) in
    let here = each-get flow_view c.args.document.now.flows j c.entry-item.result (got-in _ _ j c.entry-item.result c.as_slice-entry-items.ensures c.loop-number-test.true c.entry-item.is) in
    let level = sym (nesting-is d c.args.orders.now c.args.nestings.now c.requires.prepared j x here) ∙ c.if-nestings-number.false in
    let test : Name × Flow → Bool = λ f. flow_nesting d f.0 == c.args.nesting in
    let passed : test x ≡ true = eq-eqb _ _ level in
    record {
      progress = subst (λ ws. IsProgress d ws c.args.nesting (j + 1)) (sym c.put.ensures) (progress-put d c.loop-number.measured.items c.args.nesting j c.loop-number.invariant.progress x c.in_ok-work.work here c.in_ok-work.ensures.measured);
      told = silent-more (only test (flow_complaints d)) d.flows j x here c.loop-number.invariant.told (sym (only-is test (flow_complaints d) x passed) ∙ c.in_ok-work.ensures.told);
    }

pub returns-clause-told : goal.returns-clause-told
returns-clause-told c =
    let d = document_view c.args.document.now in
    let test : Name × Flow → Bool = λ f. flow_nesting d f.0 == c.args.nesting in
    let all : length d.flows ≤ c.loop-number.number = omega (arith, length-each flow_view c.args.document.now.flows, ap length c.as_slice-entry-items.ensures, c.loop-number-test.false) in
    filtered test (flow_complaints d) d.flows ∙ silent-all (only test (flow_complaints d)) d.flows c.loop-number.number all c.loop-number.invariant.told

pub returns-clause-progress : goal.returns-clause-progress
returns-clause-progress c =
    let d = document_view c.args.document.now in
    let all : length d.flows ≤ c.loop-number.number = omega (arith, length-each flow_view c.args.document.now.flows, ap length c.as_slice-entry-items.ensures, c.loop-number-test.false) in
    progress-next d c.loop-number.measured.items c.args.nesting c.loop-number.number c.loop-number.invariant.progress all

pub loop-number-preserved-then-nestings-number : goal.loop-number-preserved-then-nestings-number
loop-number-preserved-then-nestings-number c =
    let d = document_view c.args.document.now in
    let j = c.loop-number.number in
    let x : Name × Flow = (c.entry-item.result.0, flow_view c.entry-item.result.1) in
    let here = each-get flow_view c.args.document.now.flows j c.entry-item.result (got-in _ _ j c.entry-item.result c.as_slice-entry-items.ensures c.loop-number-test.true c.entry-item.is) in
    let other : flow_nesting d x.0 ≡ c.args.nesting → ⊥ = λ e. c.if-nestings-number.true (nesting-is d c.args.orders.now c.args.nestings.now c.requires.prepared j x here ∙ e) in
    let test : Name × Flow → Bool = λ f. flow_nesting d f.0 == c.args.nesting in
    let failed : test x ≡ false = ne_eqb _ _ other in
    record {
      progress = progress-skip d c.loop-number.measured.items c.args.nesting j c.loop-number.invariant.progress x here other;
      told = silent-more (only test (flow_complaints d)) d.flows j x here c.loop-number.invariant.told (only-not test (flow_complaints d) x failed);
    }
