use Rattle.std.proofs.Common.{◌≡◌, ◌∙◌, sym, ap, subst, true}
use Rattle.tv_flow.specs.DocumentViews.{document_view}
use Rattle.tv_flow.specs.Views.{step_view, activity_view}
use Rattle.tv_check.specs.Measured.{opens_measured, fits_activity}
use Rattle.tv_check.proofs.NestedLemmas.{entry-there, entry-worked, entry-measured, flow-there, flow-absent}
use Rattle.tv_check.proofs.nested.fits_activity.Goals as goal
use Rattle.tv_naming.proofs.Kept.{flows-ascend}

pub number_of-requires : goal.number_of-requires
number_of-requires c = flows-ascend c.args.document.now

pub bounds-measured-number : goal.bounds-measured-number
bounds-measured-number c = entry-there c.args.document.now c.args.measured.now c.requires.worked c.in-Some.number c.in-Some.ensures.below

pub fits_flow-requires-clause-worked : goal.fits_flow-requires-clause-worked
fits_flow-requires-clause-worked c =
    entry-worked c.args.document.now c.args.measured.now c.requires.worked c.as_slice.result.now c.in-Some.number c.index-as_slice-number.result c.index-measured-number.result c.as_slice.ensures c.in-Some.ensures.below c.index-measured-number.is

pub fits_flow-requires-clause-measured : goal.fits_flow-requires-clause-measured
fits_flow-requires-clause-measured c =
    entry-measured c.args.document.now c.args.measured.now c.requires.worked c.in-Nested.name c.in-Some.number c.index-measured-number.result
    (subst (λ a. opens_measured (document_view c.args.document.now) c.args.measured.now (activity_view a) ≡ true) c.in-Nested.is c.requires.opened) (sym c.in-Some.ensures.number) c.in-Some.ensures.below c.index-measured-number.is

pub returns-in-Some : goal.returns-in-Some
returns-in-Some c =
    c.fits_flow.ensures
    ∙ flow-there c.args.document.now (step_view c.args.step.now) c.as_slice.result.now c.in-Nested.name c.in-Some.number c.index-as_slice-number.result c.as_slice.ensures (sym c.in-Some.ensures.number)
    ∙ sym (ap (λ a. fits_activity (document_view c.args.document.now) (step_view c.args.step.now) (activity_view a)) c.in-Nested.is)

pub returns-in-None : goal.returns-in-None
returns-in-None c =
    flow-absent c.args.document.now (step_view c.args.step.now) c.in-Nested.name (sym c.in-None.ensures.number)
    ∙ sym (ap (λ a. fits_activity (document_view c.args.document.now) (step_view c.args.step.now) (activity_view a)) c.in-Nested.is)
