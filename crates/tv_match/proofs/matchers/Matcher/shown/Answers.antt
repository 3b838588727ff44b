use Rattle.tv_value.specs.Views.{strategy_view}
use Rattle.tv_match.specs.Filed.{filed}
use Rattle.tv_match.proofs.Faults.{all-in_order}
use Rattle.tv_match.proofs.matchers.Matcher.shown.Goals as goal

pub returns-clause-all : goal.returns-clause-all
returns-clause-all c =
    let m = c.args.self.now in
    all-in_order (strategy_view m.tree) m.mismatch (filed m.root) m.log m.out m.told m.given c.requires.keeps
