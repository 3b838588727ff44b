use Rattle.std.specs.Prelude.{is_some, option_map}
use Rattle.std.proofs.Common.{ap, sym, ◌∙◌}
use Rattle.tv_value.specs.Views.{view}
use Rattle.tv_top.specs.Answers.{given_at}
use Rattle.tv_top.proofs.Elements.{is-there, not-there}
use Rattle.tv_top.proofs.following.is_given.Goals as goal

pub returns-in-Some : goal.returns-in-Some
returns-in-Some c =
    c.is_some.ensures
    ∙ is-there view (λ r. view r.now) c.args.port.now c.args.place.now c.document.result.now.inputs c.in-Some.value.now
    (sym (ap (option_map (λ r. r.now)) c.in-Some.is) ∙ c.named.ensures) c.at.result c.at.ensures
    ∙ ap (λ d. is_some (given_at d c.args.port.now c.args.place.now)) c.document.ensures.view

pub returns-in-None : goal.returns-in-None
returns-in-None c =
    not-there view c.args.port.now c.args.place.now c.document.result.now.inputs
    (sym (ap (option_map (λ r. r.now)) c.in-None.is) ∙ c.named.ensures)
    ∙ ap (λ d. is_some (given_at d c.args.port.now c.args.place.now)) c.document.ensures.view
