use Rattle.std.proofs.Common.{◌∙◌, sym, ap}
use Rattle.std.specs.Option.{option_map_or}
use Rattle.std.specs.Prelude.{unwrap_or}
use Rattle.tv_value.specs.Orders.{named}
use Rattle.tv_check.proofs.Links.{form-at, entry-small, output-there, found-nothing}
use Rattle.tv_check.proofs.delivered.output_depth.Goals as goal
use Rattle.tv_naming.proofs.Kept.{flow-ascends}

pub number_of-requires : goal.number_of-requires
number_of-requires c = flow-ascends c.args.flow.now c.requires.formed

pub step_depth-requires-clause-step : goal.step_depth-requires-clause-step
step_depth-requires-clause-step c = form-at c.args.flow.now c.as_slice.result.now c.in-Some.number _ c.requires.formed c.as_slice.ensures c.in-Some.ensures.below

pub step_depth-requires-clause-level : goal.step_depth-requires-clause-level
step_depth-requires-clause-level c = entry-small c.args.flow.now c.args.levels.now c.requires c.in-Some.number c.in-Some.ensures.below

pub returns-in-Some-clause-depth : goal.returns-in-Some-clause-depth
returns-in-Some-clause-depth c =
    c.step_depth.ensures.depth
    ∙ output-there c.args.flow.now c.args.levels.now c.requires c.args.step.now c.args.port.now c.as_slice.result.now c.in-Some.number c.index-as_slice-number.result c.as_slice.ensures (sym c.in-Some.ensures.number)

pub returns-in-None-clause-depth : goal.returns-in-None-clause-depth
returns-in-None-clause-depth c =
    sym (ap (λ o. option_map_or (λ m. unwrap_or (named c.args.port.now m.outputs) 1) o 1) (found-nothing c.args.flow.now c.args.levels.now c.requires c.args.step.now (sym c.in-None.ensures.number)))
