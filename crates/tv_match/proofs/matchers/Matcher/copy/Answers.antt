use Rattle.std.proofs.Common.{List, ap, sym, ◌∙◌}
use Rattle.tv_value.specs.Views.{strategy_view}
use Rattle.tv_strategy.specs.Conditions.{number_of}
use Rattle.tv_strategy.specs.Measures.{strategy_depth}
use Rattle.tv_match.specs.Entries.{Entry}
use Rattle.tv_match.specs.Filed.{filed}
use Rattle.tv_match.proofs.Placing.{placed-all, placed-equal, depth-equal}
use Rattle.tv_match.proofs.Unchanged.{sound-equal}
use Rattle.tv_match.proofs.matchers.Matcher.copy.Goals as goal

pub returns-clause-sound : goal.returns-clause-sound
returns-clause-sound c =
    let m = c.args.self.now in
    let s = strategy_view m.tree in
    let t = strategy_view c.in_ok-tree.tree in
    let nn = c.in_ok-mismatch.mismatch in
    let log = ap {A = List Entry × List Entry} (λ p. p.0) c.in_ok-bags.ensures in
    let out = ap {A = List Entry × List Entry} (λ p. p.1) c.in_ok-bags.ensures in
    let p = c.in_ok-places.places in
    let a = c.requires.placed in
    let made = c.in_ok-places.ensures in
    record {
      keeps = sound-equal s m.mismatch (filed m.root) m.log m.out m.told m.given t nn (filed c.in_ok-root.root) c.in_ok-bags.bags.0 c.in_ok-bags.bags.1 c.in_ok-tree.ensures c.in_ok-mismatch.ensures c.in_ok-root.ensures log out c.requires.keeps;
      placed =
          placed-equal (strategy_depth (number_of m.mismatch) s) (strategy_depth (number_of nn) t) p m.out c.in_ok-bags.bags.1 m.given
          (depth-equal s t m.mismatch nn c.in_ok-tree.ensures c.in_ok-mismatch.ensures)
          out
          (placed-all (strategy_depth (number_of m.mismatch) s) p m.out m.given (λ b. a.shallow (sym made.deep ∙ b)) made.made);
    }
