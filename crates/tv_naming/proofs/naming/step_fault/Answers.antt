use Rattle.std.proofs.Common.{◌≡◌, None, ap, sym, option_map, ◌∙◌, ◌++◌, arith, ◌<◌, length}
use Rattle.std.proofs.lemmas.List.{length-map}
use Rattle.tv_flow.specs.Views.{step_view, activity_view}
use Rattle.tv_naming.specs.FaultViews.{fault_view}
use Rattle.tv_naming.proofs.Firsts.{first-here, first-there}
use Rattle.tv_naming.proofs.FormedParts.{step-activities, step-after}
use Rattle.tv_naming.proofs.Kept.{flow-ascends}
use Rattle.tv_naming.proofs.naming.step_fault.Goals as goal

pub inputs_fault-requires : goal.inputs_fault-requires
inputs_fault-requires g c = flow-ascends c.args.flow.now c.requires.flow

pub activities_fault-requires-after_bounds : goal.activities_fault-requires-after_bounds
activities_fault-requires-after_bounds g c =
    let few = step-activities (step_view c.args.step.now) c.requires.step in
    let same = length-map c.args.step.now.activities activity_view in
    grind (arith, few, same)

pub returns-in-Some-4 : goal.returns-in-Some-4
returns-in-Some-4 g c =
    let fed = ap (option_map fault_view) (sym c.in_default.is) ∙ c.in_ok-fault.ensures in
    let joined = ap (option_map fault_view) (sym c.in_default-2.is) ∙ c.in_ok-fault-2.ensures in
    let done = ap (option_map fault_view) (sym c.in_default-3.is) ∙ c.in_ok-fault-3.ensures in
    let looping = ap (option_map fault_view) (sym c.in-Some-4.is) ∙ c.in_ok-fault-4.ensures in
    first-here _ _ _ (first-there _ _ _ (first-there _ _ _ (first-there _ _ _ fed joined) done) looping)

pub after_fault-requires-clause-ordered : goal.after_fault-requires-clause-ordered
after_fault-requires-clause-ordered g c = flow-ascends c.args.flow.now c.requires.flow

pub after_fault-requires-clause-few : goal.after_fault-requires-clause-few
after_fault-requires-clause-few g c =
    let few = step-after (step_view c.args.step.now) c.requires.step in
    grind (arith, few)
