use Rattle.std.proofs.Common.{◌≤◌, ◌+◌, ◌∙◌, sym, ap, option_map, unwrap_or, arith}
use Rattle.tv_flow.specs.Formed.{is_depth}
use Rattle.tv_naming.proofs.FormedParts.{named-passes, all-pass, depth-small}
use Rattle.tv_check.proofs.Tables.{with_level-named}
use Rattle.tv_check.proofs.delivered.port_depth.Goals as goal

pub overflow_add-result : goal.overflow_add-result
overflow_add-result c =
    let small : c.in-Some.depth.now ≤ 32 = depth-small _ (named-passes is_depth c.args.port.now c.args.outputs.now c.in-Some.depth.now (all-pass is_depth 0 16 c.args.outputs.now c.requires.outputs) (sym c.in-Some.ensures)) in
    omega arith

pub returns-in-Some-clause-depth : goal.returns-in-Some-clause-depth
returns-in-Some-clause-depth c =
    sym (ap (λ o. unwrap_or o 1) (with_level-named c.args.level c.args.outputs.now c.args.port.now ∙ ap (option_map (λ d. c.args.level + d)) (sym c.in-Some.ensures)))

pub returns-in-Some-clause-small : goal.returns-in-Some-clause-small
returns-in-Some-clause-small c =
    let small : c.in-Some.depth.now ≤ 32 = depth-small _ (named-passes is_depth c.args.port.now c.args.outputs.now c.in-Some.depth.now (all-pass is_depth 0 16 c.args.outputs.now c.requires.outputs) (sym c.in-Some.ensures)) in
    omega arith

pub returns-in-None-clause-depth : goal.returns-in-None-clause-depth
returns-in-None-clause-depth c =
    sym (ap (λ o. unwrap_or o 1) (with_level-named c.args.level c.args.outputs.now c.args.port.now ∙ ap (option_map (λ d. c.args.level + d)) (sym c.in-None.ensures)))
