use Rattle.tv_pool.specs.Pool.{IsLive}
use Rattle.tv_tests_engine.proofs.pool.fill.Given as goal

abbrev pub invariant-puts : goal.invariant-puts
invariant-puts l = record { first : IsLive l.pool l.first; second : IsLive l.pool l.second }
