use Rattle.std.proofs.Common.{◌∙◌, subst}
use Rattle.std.proofs.lemmas.Bool.{eqb-true}
use Rattle.tv_flow.specs.Views.{flow_view}
use Rattle.tv_check.specs.Measured.{IsWorked}
use Rattle.tv_check.proofs.PlanLemmas.{planned-from}
use Rattle.tv_check.proofs.accepted.plan_of.Goals as goal

pub flow_plan-requires-clause-planned : goal.flow_plan-requires-clause-planned
flow_plan-requires-clause-planned c =
    let f = flow_view c.args.flow.now in
    let m = c.in-Some.measured in
    let measured = subst (IsWorked f) c.in-Some.is c.requires.worked in
    planned-from f m.levels.items m.outputs c.as_slice.result.now measured (eqb-true _ _ c.requires.whole) (c.as_slice.ensures.value ∙ c.in_ok-ranks-in-Some.ensures)
