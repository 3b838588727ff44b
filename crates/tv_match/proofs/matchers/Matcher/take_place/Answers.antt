use Rattle.std.proofs.Common.{◌≤◌, length, subst, sym}
use Rattle.tv_value.specs.Views.{strategy_view}
use Rattle.tv_strategy.specs.Conditions.{number_of}
use Rattle.tv_strategy.specs.Measures.{strategy_depth}
use Rattle.tv_match.specs.Filed.{filed}
use Rattle.tv_match.proofs.Calls.{next-short, given-sound}
use Rattle.tv_match.proofs.Placing.{placed-at, placed-next, placed-out}
use Rattle.tv_match.proofs.matchers.Matcher.take_place.Goals as goal

pub take_out-requires : goal.take_out-requires
take_out-requires c =
    let m = c.args.self.now in
    let s = strategy_view m.tree in
    let d = strategy_depth (number_of m.mismatch) s in
    let more = c.requires.more in
    let short = next-short s m.mismatch (filed m.root) m.log m.out m.told m.given c.requires.sound.keeps more.0 more.1 in
    placed-at d m.places m.out m.given c.place.result.now c.requires.sound.placed more.0 c.place.ensures (subst (λ q. length q ≤ d) (sym c.place.ensures) short)

pub returns-clause-sound : goal.returns-clause-sound
returns-clause-sound c =
    let m = c.args.self.now in
    let s = strategy_view m.tree in
    let d = strategy_depth (number_of m.mismatch) s in
    record {
      keeps = given-sound s m.mismatch (filed m.root) m.log m.out m.told m.given c.requires.sound.keeps c.requires.more.0 c.requires.more.1;
      placed = placed-out d m.places c.take_out.new.self m.out m.given c.take_out.ensures.deep c.take_out.ensures.others (placed-next d m.places m.out m.given c.requires.sound.placed);
    }
