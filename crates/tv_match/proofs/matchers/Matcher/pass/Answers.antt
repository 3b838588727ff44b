use Rattle.std.proofs.Common.{length}
use Rattle.tv_value.specs.Views.{strategy_view}
use Rattle.tv_strategy.specs.Conditions.{number_of}
use Rattle.tv_strategy.specs.Measures.{strategy_depth}
use Rattle.tv_match.specs.Filed.{filed}
use Rattle.tv_match.proofs.Calls.{given-sound}
use Rattle.tv_match.proofs.Placing.{placed-next}
use Rattle.tv_match.proofs.matchers.Matcher.pass.Goals as goal

pub returns-then-self-len-clause-sound : goal.returns-then-self-len-clause-sound
returns-then-self-len-clause-sound c =
    let m = c.args.self.now in
    let s = strategy_view m.tree in
    let a = c.requires.sound in
    record {
      keeps = given-sound s m.mismatch (filed m.root) m.log m.out m.told m.given a.keeps c.requires.more.0 c.requires.more.1;
      placed = placed-next (strategy_depth (number_of m.mismatch) s) m.places m.out m.given a.placed;
    }
