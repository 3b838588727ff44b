use Rattle.std.proofs.Common.{refl, sym, subst, ◌≤◌, ◌∙◌}
use Rattle.tv_value.specs.Views.{strategy_view}
use Rattle.tv_strategy.specs.Conditions.{number_of}
use Rattle.tv_strategy.specs.Measures.{strategy_depth}
use Rattle.tv_match.specs.Filed.{filed}
use Rattle.tv_match.proofs.Begins.{begun-at}
use Rattle.tv_match.proofs.Placing.{placed-all, placed-equal, depth-equal}
use Rattle.tv_match.proofs.matchers.Matcher.restart.Goals as goal

pub returns-clause-sound : goal.returns-clause-sound
returns-clause-sound c =
    let s = strategy_view c.args.tree.now in
    let built = c.rebuild.new.store in
    let out = c.begin.new.out in
    let t = strategy_view c.keep_tree.new.own in
    let nn = c.keep_depths.new.own in
    let mm = c.args.mismatch.now in
    record {
      keeps =
          begun-at s t mm nn (filed built) (filed c.begin.new.root) c.truncate-2.new.self c.truncate.new.self out c.in_ok-keep_tree.ensures c.in_ok-keep_depths.ensures c.truncate.ensures c.truncate-2.ensures
          (record { store = c.in_ok-rebuild.ensures.store; full = c.in_ok-rebuild.ensures.full; adds = c.begin.ensures.adds; more = c.begin.ensures.more; grown = c.in_ok-begin.ensures.store; put = c.in_ok-begin.ensures.items })
          c.requires.suits c.requires.agree;
      placed =
          placed-equal (strategy_depth (number_of mm) s) (strategy_depth (number_of nn) t) c.make.new.self out out 0
          (depth-equal s t mm nn c.in_ok-keep_tree.ensures c.in_ok-keep_depths.ensures)
          refl
          (placed-all (strategy_depth (number_of mm) s) c.make.new.self out 0 (λ b. subst (λ d. d ≤ 32) c.requires.deep (c.restart.ensures (sym c.make.ensures.deep ∙ b))) c.in_ok-make.ensures.ok);
    }
