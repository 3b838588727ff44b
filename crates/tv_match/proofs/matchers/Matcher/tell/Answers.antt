use Rattle.std.proofs.Common.{refl, ◌≡◌, ◌+◌, ◌∷◌, [], drop, ap, ◌∙◌, arith}
use Rattle.std.proofs.lemmas.Result.{on_err_weaker}
use Rattle.std.proofs.lemmas.Bool.{both_ways}
use Rattle.tv_value.specs.Views.{strategy_view}
use Rattle.tv_match.specs.Entries.{entry}
use Rattle.tv_match.specs.Filed.{filed}
use Rattle.tv_match.specs.Seen.{telling_of, tellings_of}
use Rattle.tv_match.proofs.Calls.{next-sound, not-held}
use Rattle.tv_match.proofs.Faults.{order-stays}
use Rattle.tv_match.proofs.Putting.{from-next}
use Rattle.tv_match.proofs.Unchanged.{freed-unchanged}
use Rattle.tv_match.proofs.matchers.Matcher.tell.Goals as goal

pub overflow_add-self : goal.overflow_add-self
overflow_add-self c = let h = c.is_next.ensures.fits c.if-is_next.true in omega (arith, h)

pub returns-then-is_next-clause-sound : goal.returns-then-is_next-clause-sound
returns-then-is_next-clause-sound c =
    let m = c.args.self.now in
    let next = c.is_next.ensures.yes c.if-is_next.true in
    record {
      keeps = next-sound (strategy_view m.tree) m.mismatch (filed m.root) m.log m.out m.told m.given (entry c.args.leaf c.args.place.now c.args.kind) c.requires.sound.keeps next.0 next.1 c.requires.new;
      placed = c.requires.sound.placed;
    }

pub returns-then-is_next-clause-order : goal.returns-then-is_next-clause-order
returns-then-is_next-clause-order c =
    let m = c.args.self.now in
    order-stays m.told (m.told + 1) m.out m.out (omega arith) refl

pub returns-then-is_next-clause-let_go : goal.returns-then-is_next-clause-let_go
returns-then-is_next-clause-let_go c other =
    let m = c.args.self.now in
    let s = strategy_view m.tree in
    let next = c.is_next.ensures.yes c.if-is_next.true in
    let rest = tellings_of s (drop (m.told + 1) m.log) in
    absurd (other rest (ap (tellings_of s) (from-next m.log m.told next.0) ∙ ap (λ x. telling_of s x ∷ rest) next.1))

pub returns-in_err-other-clause-held : goal.returns-in_err-other-clause-held
returns-in_err-other-clause-held c rest h =
    let m = c.args.self.now in
    absurd (not-held (strategy_view m.tree) m.mismatch (filed m.root) m.log m.out m.told m.given (entry c.args.leaf c.args.place.now c.args.kind) c.requires.sound.keeps c.requires.proper (λ x. both_ways c.is_next.result c.if-is_next.false (c.is_next.ensures.no x)) rest h)

pub returns-in_err-tell_other-clause-held : goal.returns-in_err-tell_other-clause-held
returns-in_err-tell_other-clause-held c rest h =
    let m = c.args.self.now in
    absurd (not-held (strategy_view m.tree) m.mismatch (filed m.root) m.log m.out m.told m.given (entry c.args.leaf c.args.place.now c.args.kind) c.requires.sound.keeps c.requires.proper (λ x. both_ways c.is_next.result c.if-is_next.false (c.is_next.ensures.no x)) rest h)

pub returns-clause-held : goal.returns-clause-held
returns-clause-held c rest h =
    let m = c.args.self.now in
    absurd (not-held (strategy_view m.tree) m.mismatch (filed m.root) m.log m.out m.told m.given (entry c.args.leaf c.args.place.now c.args.kind) c.requires.sound.keeps c.requires.proper (λ x. both_ways c.is_next.result c.if-is_next.false (c.is_next.ensures.no x)) rest h)

pub returns-then-self-len-clause-refused : goal.returns-then-self-len-clause-refused
returns-then-self-len-clause-refused c =
    let nothing = c.if-self-len.true ∙ c.len.ensures in
    on_err_weaker c.tell_other.result
    (λ h. freed-unchanged c.args.self.now c.tell_other.new.self c.requires.sound c.tell_other.ensures.sound nothing h.1 h.0)
    c.tell_other.ensures.refused
