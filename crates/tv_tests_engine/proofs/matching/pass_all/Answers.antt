use Rattle.std.proofs.Common.{◌∙◌}
use Rattle.tv_tests_engine.proofs.matching.pass_all.Goals as goal

pub loop-preserved : goal.loop-preserved
loop-preserved c =
    let g = c.pass.ensures.gives in
    let i = c.loop.invariant in
    record {
      sound = c.pass.ensures.sound;
      strategy = g.strategy_is ∙ i.strategy;
      mismatch = g.mismatch_is ∙ i.mismatch;
      told = g.told_is ∙ i.told;
    }
