use Rattle.std.proofs.Common.{◌≡◌, [], ◌∷◌, List, map, reverse, IfOk, ap, sym, subst, ◌∙◌}
use Rattle.tv_value.specs.Nested.{trees_of}
use Rattle.tv_value.specs.Values as spec
use Rattle.tv_value.specs.Values.{list_value, text_value}
use Rattle.tv_value.specs.Views.{view}
use Rattle.tv_gate.specs.Outcomes.{good}
use Rattle.tv_gate.specs.Views.{outcome_view}
use Rattle.tv_local.specs.Reading.{text_of, texts_of}
use Rattle.tv_local.proofs.Lists.{map-reverse}
use Rattle.tv_local.proofs.list.reverse.Goals as goal

pub returns : goal.returns
returns c =
    let ts = texts_of (view c.args.list.now) in
    let same : map view c.reverse.new.self.items ≡ map text_value (reverse ts) =
    ap (map view) c.reverse.ensures.items
    ∙ map-reverse view c.in_ok-texts.texts.items
    ∙ ap reverse (c.in_ok-texts.ensures ∙ ap (λ (us : List spec.Value). map text_value (map text_of us)) c.items_of.ensures)
    ∙ sym (map-reverse text_value ts) in
    subst (λ (us : List spec.Value). IfOk c.good_list.result (λ o. outcome_view o ≡ good (list_value (trees_of us) ∷ []))) same c.good_list.ensures
