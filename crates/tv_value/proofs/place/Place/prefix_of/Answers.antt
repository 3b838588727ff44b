use Rattle.std.proofs.Common.{ap, sym, ◌∙◌}
use Rattle.std.proofs.lemmas.Bool.{lt-leb}
use Rattle.tv_value.specs.Orders.{is_prefix}
use Rattle.tv_value.proofs.Looking.{is_prefix-take, is_prefix-longer}
use Rattle.tv_value.proofs.place.Place.prefix_of.Goals as goal

pub returns-then-first-all : goal.returns-then-first-all
returns-then-first-all c =
    let all = c.as_slice-all.result.now in
    c.eq.ensures
    ∙ is_prefix-take c.as_slice-first.result.now all c.if-first-all.true
    ∙ ap (λ q. is_prefix q all) (c.as_slice-first.ensures ∙ c.self.view_is)
    ∙ ap (is_prefix c.args.self.now) (c.as_slice-all.ensures ∙ c.other.view_is)

pub returns-else-first-all : goal.returns-else-first-all
returns-else-first-all c =
    let all = c.as_slice-all.result.now in
    lt-leb _ _ c.if-first-all.false
    ∙ (sym (is_prefix-longer c.as_slice-first.result.now all c.if-first-all.false)
    ∙ ap (λ q. is_prefix q all) (c.as_slice-first.ensures ∙ c.self.view_is)
    ∙ ap (is_prefix c.args.self.now) (c.as_slice-all.ensures ∙ c.other.view_is))
