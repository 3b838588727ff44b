use Rattle.tv_value.specs.Views.{strategy_view}
use Rattle.tv_match.specs.Filed.{filed}
use Rattle.tv_match.proofs.Faults.{given-first, given-long}
use Rattle.tv_match.proofs.matchers.Matcher.given.Goals as goal

pub returns-clause-count : goal.returns-clause-count
returns-clause-count c =
    let m = c.args.self.now in
    given-long (strategy_view m.tree) m.mismatch (filed m.root) m.log m.out m.told m.given c.requires.keeps

pub returns-clause-first : goal.returns-clause-first
returns-clause-first c =
    let m = c.args.self.now in
    given-first (strategy_view m.tree) m.mismatch (filed m.root) m.log m.out m.told m.given c.requires.keeps
