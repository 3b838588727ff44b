use Rattle.std.proofs.Common.{◌≤◌, ◌∙◌, sym, ap, map, length, arith}
use Rattle.std.proofs.lemmas.List.{length-map}
use Rattle.tv_lemmas.proofs.Lists.{get-map}
use Rattle.tv_flow.specs.DocumentViews.{document_view}
use Rattle.tv_flow.specs.Views.{step_view, activity_view}
use Rattle.tv_check.specs.Depthwise.{nested_complaints}
use Rattle.tv_naming.specs.Naming.{numbered}
use Rattle.tv_check.specs.Measured.{opens_measured}
use Rattle.tv_naming.proofs.FormedParts.{passes}
use Rattle.tv_check.proofs.NestedLemmas.{activity-silent, activity-stops}
use Rattle.tv_naming.proofs.Told.{got-in, get-numbered, length-numbered, silent-more, silent-all, stops-next}
use Rattle.tv_check.proofs.nested.activities_fit.Goals as goal

pub fits_activity-requires-clause-opened : goal.fits_activity-requires-clause-opened
fits_activity-requires-clause-opened c =
    let acts = c.args.step.now.activities in
    passes (opens_measured (document_view c.args.document.now) c.args.measured.now) (map activity_view acts) c.loop-position.position (activity_view c.activity-item.result) c.requires.opened
    (get-map activity_view acts c.loop-position.position c.activity-item.result (got-in _ _ c.loop-position.position c.activity-item.result c.as_slice-activity-items.ensures c.loop-position-test.true c.activity-item.is))

pub returns-then-not-fits_activity : goal.returns-then-not-fits_activity
returns-then-not-fits_activity c =
    let d = document_view c.args.document.now in
    let acts = map activity_view c.args.step.now.activities in
    let i = c.loop-position.position in
    let a = activity_view c.activity-item.result in
    let here = get-numbered acts i a (get-map activity_view c.args.step.now.activities i c.activity-item.result (got-in _ _ i c.activity-item.result c.as_slice-activity-items.ensures c.loop-position-test.true c.activity-item.is)) in
    stops-next (nested_complaints d c.args.name.now c.args.step_name.now (step_view c.args.step.now)) (numbered 0 acts) i (i, a) c.refused.result here c.loop-position.invariant
    (activity-stops d c.args.name.now c.args.step_name.now (step_view c.args.step.now) i a c.refused.result (sym c.fits_activity.ensures ∙ c.if-not-fits_activity.true) c.refused.ensures)

pub loop-position-preserved : goal.loop-position-preserved
loop-position-preserved c =
    let d = document_view c.args.document.now in
    let acts = map activity_view c.args.step.now.activities in
    let i = c.loop-position.position in
    let a = activity_view c.activity-item.result in
    let here = get-numbered acts i a (get-map activity_view c.args.step.now.activities i c.activity-item.result (got-in _ _ i c.activity-item.result c.as_slice-activity-items.ensures c.loop-position-test.true c.activity-item.is)) in
    silent-more (nested_complaints d c.args.name.now c.args.step_name.now (step_view c.args.step.now)) (numbered 0 acts) i (i, a) here c.loop-position.invariant
    (activity-silent d c.args.name.now c.args.step_name.now (step_view c.args.step.now) i a (sym c.fits_activity.ensures ∙ c.if-not-fits_activity.false))

pub returns : goal.returns
returns c =
    let acts = map activity_view c.args.step.now.activities in
    let all : length (numbered 0 acts) ≤ c.loop-position.position = omega (arith, length-numbered 0 acts, length-map c.args.step.now.activities activity_view, ap length c.as_slice-activity-items.ensures, c.loop-position-test.false) in
    silent-all (nested_complaints (document_view c.args.document.now) c.args.name.now c.args.step_name.now (step_view c.args.step.now)) (numbered 0 acts) c.loop-position.position all c.loop-position.invariant
