use Rattle.std.proofs.Common.{◌∷◌, [], false}
use Rattle.tv_value.specs.Views.{strategy_view}
use Rattle.tv_value.specs.Strategies.{dot, no_strategies, port, strategy}
use Rattle.tv_match.specs.declared.told.Told as code
use Rattle.tv_match.proofs.Scripts.{script-of, shorter_beside_longer-is}
use Rattle.tv_tests_engine.proofs.matching.shorter_beside_longer.Goals as goal

pub returns : goal.returns
returns c = script-of (strategy_view c.in_ok-tree.tree) (dot (strategy (port (97 ∷ [])) (strategy (port (98 ∷ [])) no_strategies))) c.in_ok-mismatch.mismatch ((97 ∷ [], 1) ∷ (98 ∷ [], 1) ∷ []) c.in_ok-tolds.tolds (code.Told.Arrival 0 (0 ∷ []) false ∷ code.Told.Close 0 [] 2 ∷ code.Told.Faulty 1 (0 ∷ []) ∷ code.Told.Close 1 [] 1 ∷ code.Told.Arrival 0 (1 ∷ []) false ∷ []) c.in_ok-tree.ensures c.in_ok-mismatch.ensures c.in_ok-tolds.ensures shorter_beside_longer-is
