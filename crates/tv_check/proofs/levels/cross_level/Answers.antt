use Rattle.std.proofs.Common.{◌≡◌, ◌≤◌, ◌∙◌, sym, ap, length, arith}
use Rattle.std.specs.Prelude.{◌<◌, ◌-◌}
use Rattle.tv_flow.specs.Flows.{StepInput}
use Rattle.tv_flow.specs.Formed.{is_step_input}
use Rattle.tv_flow.specs.Views.{each, flow_view, step_input_view}
use Rattle.tv_strategy.specs.Conditions.{number_of}
use Rattle.tv_check.specs.Tables.{table_depth, table_mismatch}
use Rattle.tv_naming.proofs.FormedParts.{few, ascending}
use Rattle.tv_check.proofs.Links.{length-each, each-get}
use Rattle.tv_check.proofs.LevelLemmas.{number-at, number-small, sum-next}
use Rattle.tv_naming.proofs.Told.{got-in}
use Rattle.tv_check.proofs.levels.cross_level.Goals as goal

-- the next port's mismatch is the listed one, at most 32
next : (c : goal.After-saturating_sub-level) → c.saturating_sub-level.result ≡ number_of (each (table_mismatch (flow_view c.args.flow.now) c.args.levels.now) (each step_input_view c.args.inputs.now)) c.loop-input-item.result.0
next c =
    let is = each step_input_view c.args.inputs.now in
    let x = c.loop-input-item.result in
    let lt : c.loop-input.input-index < length is = omega (arith, c.loop-input-test.true, length-each step_input_view c.args.inputs.now, ap length c.as_slice-input-items.ensures) in
    c.saturating_sub-level.ensures
    ∙ ap (λ d. d - x.1.depth) c.feed_depth.ensures
    ∙ sym (number-at (table_mismatch (flow_view c.args.flow.now) c.args.levels.now) is c.loop-input.input-index (x.0, step_input_view x.1) (ascending is_step_input 0 16 is c.requires.inputs) lt
    (each-get step_input_view c.args.inputs.now c.loop-input.input-index x (got-in _ _ c.loop-input.input-index x c.as_slice-input-items.ensures c.loop-input-test.true c.loop-input-item.is)))

small : (c : goal.After-saturating_sub-level) → c.saturating_sub-level.result ≤ 32
small c =
    let f = flow_view c.args.flow.now in
    let below : (i : StepInput) → table_mismatch f c.args.levels.now i ≤ table_depth f c.args.levels.now i.from = λ i. omega arith in
    omega (arith, next c, number-small (table_mismatch f c.args.levels.now) (table_depth f c.args.levels.now) below (each step_input_view c.args.inputs.now) c.requires.within c.loop-input-item.result.0)

pub overflow_add-level : goal.overflow_add-level
overflow_add-level c =
    let is = each step_input_view c.args.inputs.now in
    omega (arith, small c, few is_step_input 0 16 is c.requires.inputs, length-each step_input_view c.args.inputs.now, ap length c.as_slice-input-items.ensures)

pub loop-input-preserved : goal.loop-input-preserved
loop-input-preserved c =
    let is = each step_input_view c.args.inputs.now in
    let i = c.loop-input.input-index in
    let x = c.loop-input-item.result in
    let mismatch = number_of (each (table_mismatch (flow_view c.args.flow.now) c.args.levels.now) is) in
    let here = each-get step_input_view c.args.inputs.now i x (got-in _ _ i x c.as_slice-input-items.ensures c.loop-input-test.true c.loop-input-item.is) in
    record {
      sum = omega (arith, next c, c.loop-input.invariant.sum, sum-next mismatch is i (x.0, step_input_view x.1) here);
      small = omega (arith, small c, c.loop-input.invariant.small);
    }
