use Rattle.std.proofs.Common.{◌∙◌, ap, option_map, arith}
use Rattle.std.proofs.lemmas.Result.{IfOk-weaker}
use Rattle.tv_value.specs.Views.{strategy_view}
use Rattle.tv_flow.specs.Views.{flow_view, step_view}
use Rattle.tv_naming.specs.AtViews.{at_view}
use Rattle.tv_check.proofs.LevelLemmas.{given-suits, given-told, given-level, given-small, cross-told, cross-level}
use Rattle.tv_check.proofs.levels.step_level.Goals as goal

pub tree_level-requires-clause-suits : goal.tree_level-requires-clause-suits
tree_level-requires-clause-suits c = given-suits (flow_view c.args.flow.now) c.args.levels.now (step_view c.args.step.now) c.requires.step c.requires.within (strategy_view c.in-Some.tree) (ap (option_map strategy_view) c.in-Some.is)

pub returns-in-Some-clause-told : goal.returns-in-Some-clause-told
returns-in-Some-clause-told c = given-told (flow_view c.args.flow.now) c.args.levels.now (step_view c.args.step.now) c.requires.step c.requires.within (strategy_view c.in-Some.tree) (ap (option_map strategy_view) c.in-Some.is) (at_view c.args.at) c.tree_level.result c.tree_level.ensures.told

pub returns-in-Some-clause-level : goal.returns-in-Some-clause-level
returns-in-Some-clause-level c =
    IfOk-weaker c.tree_level.result _ _ (λ k h. h ∙ given-level (flow_view c.args.flow.now) c.args.levels.now (step_view c.args.step.now) c.requires.step c.requires.within (strategy_view c.in-Some.tree) (ap (option_map strategy_view) c.in-Some.is)) c.tree_level.ensures.level

pub returns-in-Some-clause-small : goal.returns-in-Some-clause-small
returns-in-Some-clause-small c =
    let f = flow_view c.args.flow.now in
    let s = step_view c.args.step.now in
    let t = strategy_view c.in-Some.tree in
    let small = given-small f c.args.levels.now s c.requires.step c.requires.within t (ap (option_map strategy_view) c.in-Some.is) in
    IfOk-weaker c.tree_level.result _ _ (λ k h. omega (arith, h, small)) c.tree_level.ensures.level

pub returns-in-None-clause-told : goal.returns-in-None-clause-told
returns-in-None-clause-told c = cross-told (flow_view c.args.flow.now) c.args.levels.now (step_view c.args.step.now) c.requires.step c.requires.within (ap (option_map strategy_view) c.in-None.is) (at_view c.args.at)

pub returns-in-None-clause-level : goal.returns-in-None-clause-level
returns-in-None-clause-level c = c.cross_level.ensures.level ∙ cross-level (flow_view c.args.flow.now) c.args.levels.now (step_view c.args.step.now) c.requires.step c.requires.within (ap (option_map strategy_view) c.in-None.is)
