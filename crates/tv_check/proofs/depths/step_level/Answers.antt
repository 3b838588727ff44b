use Rattle.std.proofs.lemmas.List.{length-map}
use Rattle.std.proofs.Common.{arith, length, ◌<◌}
use Rattle.tv_flow.specs.Views.{activity_view, step_view}
use Rattle.tv_naming.proofs.FormedParts.{step-activities}
use Rattle.tv_check.proofs.depths.step_level.Goals as goal

pub activities_fit-requires-clause-few : goal.activities_fit-requires-clause-few
activities_fit-requires-clause-few c =
    let few = step-activities (step_view c.args.step.now.1) c.requires.step.formed in
    let same = length-map c.args.step.now.1.activities activity_view in
    grind (arith, few, same)
