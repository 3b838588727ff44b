use Rattle.std.specs.Prelude.{length}
use Rattle.std.proofs.Common.{sym, ap, ◌∙◌}
use Rattle.tv_binding.specs.Constants.{constants_view}
use Rattle.tv_binding.specs.Sourced.{known_by}
use Rattle.tv_frame.proofs.FirstOuts.{first-found, first-outs, outputs-counted}
use Rattle.tv_frame.proofs.TableLemmas.{as-many-steps}
use Rattle.tv_frame.proofs.frame.first_outs.Goals as goal

pub flow_outputs-requires-clause-counted : goal.flow_outputs-requires-clause-counted
flow_outputs-requires-clause-counted c = outputs-counted c.args.plan.now c.as_slice-feeds.result.now c.as_slice-feeds.ensures

pub flow_outputs-requires-clause-found : goal.flow_outputs-requires-clause-found
flow_outputs-requires-clause-found c =
    first-found c.args.plan.now (sym (as-many-steps c.args.plan.now) ∙ sym (ap length c.as_slice.ensures) ∙ c.if-as_slice-ne0.false)
    (known_by (record { inputs = c.args.inputs; outputs = c.args.outputs; pool = c.args.pool; firsts = c.as_slice-2.result }))
    (constants_view c.args.tables.now.constants) c.as_slice-feeds.result.now c.requires.tables.constants_are c.as_slice-feeds.ensures c.requires.can.0 c.requires.can.1

pub returns : goal.returns
returns c =
    first-outs c.args.plan.now (sym (as-many-steps c.args.plan.now) ∙ sym (ap length c.as_slice.ensures) ∙ c.if-as_slice-ne0.false)
    (known_by (record { inputs = c.args.inputs; outputs = c.args.outputs; pool = c.args.pool; firsts = c.as_slice-2.result }))
    (constants_view c.args.tables.now.constants) c.as_slice-feeds.result.now c.requires.tables.constants_are c.as_slice-feeds.ensures c.requires.can.0 c.requires.can.1
    c.in_ok-outs.outs c.in_ok-outs.ensures.sound c.in_ok-outs.ensures.values
