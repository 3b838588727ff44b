use Rattle.std.proofs.Common.{arith, length, refl, ap, ◌∙◌}
use Rattle.tv_binding.specs.Constants.{constants_view}
use Rattle.tv_frame.proofs.FirstOuts.{outputs-counted}
use Rattle.tv_frame.proofs.OutLemmas.{can-come, coming-of, delivered-where_ok, found-so, many-there, outputs-few, outputs-same}
use Rattle.tv_frame.proofs.frame.Frame.outs_with.Goals as goal

pub brought_by-brought-requires : goal.brought_by-brought-requires
brought_by-brought-requires c =
    let r = c.requires.over in
    many-there r.0 c.args.plan.now c.args.pool.now c.args.self.now r.1 r.5 r.2 r.3 c.args.over.now r.4 r.6 c.as_slice-outputs.result.now
    (c.as_slice-outputs.ensures ∙ outputs-same r.0 c.args.plan.now c.args.pool.now c.args.self.now r.1 r.5 c.args.over.now.step r.2 r.6.at c.as_slice.result.now c.as_slice.ensures c.index-as_slice-over.result)

pub overflow_cast-coming : goal.overflow_cast-coming
overflow_cast-coming c =
    let r = c.requires.over in
    let same = ap length (c.as_slice-outputs.ensures ∙ outputs-same r.0 c.args.plan.now c.args.pool.now c.args.self.now r.1 r.5 c.args.over.now.step r.2 r.6.at c.as_slice.result.now c.as_slice.ensures c.index-as_slice-over.result) in
    let few = outputs-few r.0 c.args.plan.now c.args.pool.now c.args.self.now r.1 r.5 c.args.over.now.step r.2 r.6.at in
    omega (arith, same, few)

pub flow_outputs_over-requires-clause-over : goal.flow_outputs_over-requires-clause-over
flow_outputs_over-requires-clause-over c =
    let r = c.requires.over in
    can-come r.0 c.args.plan.now c.args.pool.now c.args.self.now r.1 r.5 c.sources.result (record { inputs = c.sources.ensures.inputs; outputs = c.sources.ensures.outputs; nodes = c.sources.ensures.pool; firsts = c.sources.ensures.firsts }) r.2 r.3 c.args.over.now r.4 r.6 _
    (coming-of r.2 c.args.over.now _ c.as_slice-outputs.result.now
    (c.as_slice-outputs.ensures ∙ outputs-same r.0 c.args.plan.now c.args.pool.now c.args.self.now r.1 r.5 c.args.over.now.step r.2 r.6.at c.as_slice.result.now c.as_slice.ensures c.index-as_slice-over.result)
    refl refl refl c.brought_by-brought.ensures)

pub flow_outputs_over-requires-clause-counted : goal.flow_outputs_over-requires-clause-counted
flow_outputs_over-requires-clause-counted c = outputs-counted c.args.plan.now c.as_slice-2.result.now c.as_slice-2.ensures

pub flow_outputs_over-requires-clause-found : goal.flow_outputs_over-requires-clause-found
flow_outputs_over-requires-clause-found c =
    let r = c.requires.over in
    found-so r.0 c.args.plan.now c.args.pool.now c.args.self.now r.1 r.5 c.sources.result (record { inputs = c.sources.ensures.inputs; outputs = c.sources.ensures.outputs; nodes = c.sources.ensures.pool; firsts = c.sources.ensures.firsts }) r.2 r.3 c.args.over.now r.4 r.6
    (record { step = c.args.over.now.step; outputs = length c.as_slice-outputs.result.now; place = c.args.over.now.place; brought = c.brought_by-brought.result })
    (coming-of r.2 c.args.over.now _ c.as_slice-outputs.result.now
    (c.as_slice-outputs.ensures ∙ outputs-same r.0 c.args.plan.now c.args.pool.now c.args.self.now r.1 r.5 c.args.over.now.step r.2 r.6.at c.as_slice.result.now c.as_slice.ensures c.index-as_slice-over.result)
    refl refl refl c.brought_by-brought.ensures) r.7 _ c.as_slice-2.result.now (ap constants_view c.constants.ensures) c.as_slice-2.ensures

pub returns-clause-outputs : goal.returns-clause-outputs
returns-clause-outputs c =
    delivered-where_ok c.args.plan.now c.args.pool.now c.args.self.now c.args.over.now c.sources.result (record { inputs = c.sources.ensures.inputs; outputs = c.sources.ensures.outputs; nodes = c.sources.ensures.pool; firsts = c.sources.ensures.firsts })
    (record { step = c.args.over.now.step; outputs = length c.as_slice-outputs.result.now; place = c.args.over.now.place; brought = c.brought_by-brought.result })
    (λ flows v s keeps at.
    coming-of s c.args.over.now _ c.as_slice-outputs.result.now
    (c.as_slice-outputs.ensures ∙ outputs-same flows c.args.plan.now c.args.pool.now c.args.self.now v keeps c.args.over.now.step s at c.as_slice.result.now c.as_slice.ensures c.index-as_slice-over.result)
    refl refl refl c.brought_by-brought.ensures)
    _ c.as_slice-2.result.now (ap constants_view c.constants.ensures) c.as_slice-2.ensures c.flow_outputs_over.result c.flow_outputs_over.ensures.values
