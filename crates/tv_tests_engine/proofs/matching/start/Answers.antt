use Rattle.std.proofs.Common.{map}
use Rattle.std.proofs.lemmas.Result.{IfOk-weaker}
use Rattle.tv_value.specs.Views.{strategy_view}
use Rattle.tv_matching.specs.Matchers.{CanTellAll, Starts}
use Rattle.tv_match.specs.Seen.{told_view, NameLeaves, matching}
use Rattle.tv_match.proofs.Scripts.{script-names, can-script}
use Rattle.tv_tests_engine.proofs.matching.start.Goals as goal

pub returns-clause-leaves : goal.returns-clause-leaves
returns-clause-leaves c =
    let x = c.args.script.now in
    IfOk-weaker c.start.result (λ m. Starts (strategy_view x.tree) x.mismatch (matching m)) (λ m. NameLeaves (matching m).strategy x.tolds) (λ m h. script-names (strategy_view x.tree) x.mismatch x.tolds (matching m) c.requires h) c.start.ensures.ok

pub returns-clause-new : goal.returns-clause-new
returns-clause-new c =
    let x = c.args.script.now in
    IfOk-weaker c.start.result (λ m. Starts (strategy_view x.tree) x.mismatch (matching m)) (λ m. CanTellAll (matching m) (map (told_view (matching m).strategy) x.tolds)) (λ m h. can-script (strategy_view x.tree) x.mismatch x.tolds (matching m) c.requires h) c.start.ensures.ok
