use Rattle.std.specs.Prelude.{◌+◌, ◌∷◌, drop, map}
use Rattle.std.proofs.Common.{ap, arith, subst, sym, ◌∙◌}
use Rattle.tv_flow.specs.Views.{activity_view}
use Rattle.tv_model.specs.Opening.{first_nested}
use Rattle.tv_run.specs.Looks.{OpensNumber}
use Rattle.tv_run.proofs.Looking.{first-so_far}
use Rattle.tv_run.proofs.plans.opened_by.Goals as goal

pub returns-in-Nested : goal.returns-in-Nested
returns-in-Nested c d are =
    let xs = c.args.activities.now in
    let k = c.loop-activity.activity-index in
    let is =
    first-so_far activity_view xs k c.activity-item.result (omega (arith, c.loop-activity-test.true)) c.activity-item.is
    c.loop-activity.invariant
    ∙ ap (λ x. first_nested (activity_view x ∷ map activity_view (drop (k + 1) xs))) c.in-Nested.is in
    subst (λ o. OpensNumber d o c.flow_number.result) (sym is) (c.flow_number.ensures d are)
