use Rattle.std.proofs.Common.{subst, sym, ap, ◌∙◌}
use Rattle.tv_matching.specs.Matchers.{Gives}
use Rattle.tv_match.specs.Seen.{matching, outcome_kind}
use Rattle.tv_match.proofs.matchers.Matcher.next.Goals as goal

pub returns-clause-some : goal.returns-clause-some
returns-clause-some c =
    let same = c.matched.ensures ∙ ap (λ q. outcome_kind q c.in-Some.kind) (c.take_place-place.ensures.place ∙ sym c.in-Some.ensures.place) ∙ sym c.in-Some.ensures.some.1 in
    subst (λ o. Gives o (matching c.args.self.now) (matching c.take_place-place.new.self)) (sym same) c.take_place-place.ensures.gives
