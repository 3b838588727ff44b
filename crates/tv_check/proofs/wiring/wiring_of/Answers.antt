use Rattle.std.specs.List.{list_all}
use Rattle.std.proofs.Common.{◌∙◌, ap}
use Rattle.tv_flow.specs.Views.{flow_view}
use Rattle.tv_naming.proofs.Kept.{flow-ascends}
use Rattle.tv_check.specs.Turned.{are_counted}
use Rattle.tv_check.proofs.Counting.{all-counted}
use Rattle.tv_check.proofs.wiring.wiring_of.Goals as goal

pub after_by_steps-requires-clause-in_order : goal.after_by_steps-requires-clause-in_order
after_by_steps-requires-clause-in_order c = flow-ascends c.args.flow.now c.requires.flow

pub wires_of-requires-clause-counted : goal.wires_of-requires-clause-counted
wires_of-requires-clause-counted c =
    ap (list_all are_counted) (c.as_slice.ensures ∙ c.requires.ports) ∙ all-counted (flow_view c.args.flow.now) c.requires.flow
