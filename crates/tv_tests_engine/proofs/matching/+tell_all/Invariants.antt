use Rattle.std.proofs.Common.{length}
use Rattle.tv_tests_engine.proofs.matching.+tell_all.Given as goal

abbrev pub decreases-tell_all : goal.decreases-tell_all
decreases-tell_all l = length l.tolds.now
