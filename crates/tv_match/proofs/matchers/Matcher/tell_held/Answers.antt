use Rattle.std.proofs.Common.{◌≡◌, ◌+◌, ◌-◌, length, sym, subst, arith}
use Rattle.tv_value.specs.Views.{strategy_view}
use Rattle.tv_match.specs.Filed.{filed}
use Rattle.tv_match.specs.Seen.{AreSound}
use Rattle.tv_match.proofs.AllMade.{all-made}
use Rattle.tv_match.proofs.matchers.Matcher.tell_held.Goals as goal

pub returns-clause-sound : goal.returns-clause-sound
returns-clause-sound c =
    let m = c.args.self.now in
    let s = strategy_view m.tree in
    let a = c.requires.sound.keeps in
    let d : m.told + (length m.log - m.told) ≡ length m.log = omega (arith, a.told_within) in
    let made = all-made s m.mismatch (filed m.root) m.log m.out m.given (length m.log - m.told) m.told d a c.requires.new in
    record {
      keeps = subst (λ k. AreSound s m.mismatch (filed m.root) m.log m.out k m.given) (sym c.len-self.ensures) made;
      placed = c.requires.sound.placed;
    }
