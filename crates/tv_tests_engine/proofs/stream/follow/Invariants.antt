use Rattle.tv_pool.specs.Pool.{IsLive}
use Rattle.tv_stream.specs.Stands.{Stands, IsIn}
use Rattle.tv_tests_engine.proofs.stream.follow.Given as goal

abbrev pub invariant-loop-next : goal.invariant-loop-next
invariant-loop-next l = record { live : IsLive l.pool l.region; in_region : IsIn l.tree l.region; stands : Stands l.pool l.tree }
