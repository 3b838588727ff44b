use Rattle.std.proofs.Common.{rules, ◌<◌, ◌≤◌, length, subst, arith}
use Rattle.tv_value.specs.Views.{strategy_view}
use Rattle.tv_match.specs.Entries.{front, entry_at}
use Rattle.tv_match.specs.Filed.{filed}
use Rattle.tv_match.proofs.Faults.{item-faulty}
use Rattle.tv_match.proofs.Fronts.{early-in_front, late-behind, front-short}
use Rattle.tv_match.proofs.Calls.{gave-all}
use Rattle.tv_match.proofs.matchers.Matcher.first.Goals as goal
use Rattle.tv_match.proofs.matchers.Matcher.first.Goals.{else-self-len-via-then-self-len+else-number-self, else-self-len-via-else-self-len}

pub returns-else-self-len-clause-none : goal.returns-else-self-len-clause-none
returns-else-self-len-clause-none c _ =
    let m = c.args.self.now in
    let short = front-short m.told m.out in
    let behind : length (front m.told m.out) ≤ m.given =
    elim c.else-self-len.branch [
      | else-self-len-via-then-self-len+else-number-self w ↦ late-behind m.told m.out m.given c.requires.keeps.done.rise (omega (arith, w.if-self-len.true, c.len.ensures)) (subst (λ k. m.told < k) w.number.ensures w.if-number-self.false)
      | else-self-len-via-else-self-len w ↦ omega (arith, short, w.if-self-len.false, c.len.ensures)
    ]
    in
    gave-all (strategy_view m.tree) m.mismatch (filed m.root) m.log m.out m.told m.given c.requires.keeps behind

pub returns-then-number-self-clause-faulty : goal.returns-then-number-self-clause-faulty
returns-then-number-self-clause-faulty c =
    let m = c.args.self.now in
    let within : m.given < length m.out = search rules in
    let early : (entry_at m.out m.given).number ≤ m.told = search rules in
    item-faulty (strategy_view m.tree) m.mismatch (filed m.root) m.log m.out m.told m.given c.requires.keeps m.given (early-in_front m.told m.out m.given within early) c.kind.result c.place.result.now c.kind.ensures c.place.ensures
