use Rattle.std.proofs.Common.{refl, sym, ◌∙◌}
use Rattle.tv_value.specs.Views.{strategy_view}
use Rattle.tv_strategy.specs.Conditions.{number_of}
use Rattle.tv_strategy.specs.Measures.{strategy_depth}
use Rattle.tv_match.specs.Filed.{filed}
use Rattle.tv_match.proofs.Begins.{begun-at}
use Rattle.tv_match.proofs.Placing.{placed-all, placed-equal, depth-equal}
use Rattle.tv_match.proofs.matchers.Matcher.start.Goals as goal

pub returns-clause-sound : goal.returns-clause-sound
returns-clause-sound c =
    let s = strategy_view c.args.tree.now in
    let built = c.in_ok-built.built.store in
    let out = c.begin.new.out in
    let t = strategy_view c.in_ok-own.own in
    let nn = c.in_ok-numbers.numbers in
    let mm = c.args.mismatch.now in
    record {
      keeps =
          begun-at s t mm nn (filed built) (filed c.begin.new.root) c.new-out.result c.new.result out c.in_ok-own.ensures c.in_ok-numbers.ensures c.new.ensures c.new-out.ensures
          (record { store = c.in_ok-built.ensures.store; full = c.in_ok-built.ensures.full; adds = c.begin.ensures.adds; more = c.begin.ensures.more; grown = c.in_ok-begin.ensures.store; put = c.in_ok-begin.ensures.items })
          c.requires.suits c.requires.agree;
      placed =
          placed-equal (strategy_depth (number_of mm) s) (strategy_depth (number_of nn) t) c.make.new.self out out 0
          (depth-equal s t mm nn c.in_ok-own.ensures c.in_ok-numbers.ensures)
          refl
          (placed-all (strategy_depth (number_of mm) s) c.make.new.self out 0 (λ b. c.start-places.ensures (sym c.make.ensures.deep ∙ b)) c.in_ok-make.ensures.ok);
    }
