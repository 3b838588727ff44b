use Rattle.tv_value.specs.Views.{strategy_view}
use Rattle.tv_match.specs.Filed.{filed}
use Rattle.tv_match.proofs.Faults.{in-order_within, item-out, item-faulty}
use Rattle.tv_match.proofs.matchers.Matcher.item.Goals as goal

pub place-requires : goal.place-requires
place-requires c =
    let m = c.args.self.now in
    (in-order_within (strategy_view m.tree) m.mismatch (filed m.root) m.log m.out m.told m.given c.requires.sound.keeps c.args.at c.requires.within).1

pub kind-requires : goal.kind-requires
kind-requires c =
    let m = c.args.self.now in
    (in-order_within (strategy_view m.tree) m.mismatch (filed m.root) m.log m.out m.told m.given c.requires.sound.keeps c.args.at c.requires.within).1

pub returns-clause-item : goal.returns-clause-item
returns-clause-item c =
    let m = c.args.self.now in
    let s = strategy_view m.tree in
    item-out s m.mismatch (filed m.root) m.log m.out m.told m.given c.requires.sound.keeps c.args.at (in-order_within s m.mismatch (filed m.root) m.log m.out m.told m.given c.requires.sound.keeps c.args.at c.requires.within).0 c.kind.result c.place.result.now c.kind.ensures c.place.ensures

pub returns-clause-faulty : goal.returns-clause-faulty
returns-clause-faulty c =
    let m = c.args.self.now in
    let s = strategy_view m.tree in
    item-faulty s m.mismatch (filed m.root) m.log m.out m.told m.given c.requires.sound.keeps c.args.at (in-order_within s m.mismatch (filed m.root) m.log m.out m.told m.given c.requires.sound.keeps c.args.at c.requires.within).0 c.kind.result c.place.result.now c.kind.ensures c.place.ensures
