use Rattle.std.proofs.Common.{◌≡◌}
use Rattle.tv_match.specs.Seen.{matching, IsSound}
use Rattle.tv_tests_engine.proofs.matching.pass_all.Given as goal

abbrev pub invariant-loop : goal.invariant-loop
invariant-loop l = record {
  sound : IsSound l.matcher;
  strategy : (matching l.matcher).strategy ≡ (matching l.initial.matcher).strategy;
  mismatch : (matching l.matcher).mismatch ≡ (matching l.initial.matcher).mismatch;
  told : (matching l.matcher).told ≡ (matching l.initial.matcher).told;
}
