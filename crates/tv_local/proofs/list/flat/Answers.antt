use Rattle.std.proofs.Common.{◌++◌, ◌∷◌, [], map, take, ap, sym, ◌∙◌}
use Rattle.std.proofs.lemmas.List.{map-append}
use Rattle.tv_value.specs.Values.{text_value}
use Rattle.tv_value.specs.Views.{view}
use Rattle.tv_local.specs.Lists.{flat}
use Rattle.tv_local.specs.Reading.{text_of, texts_of}
use Rattle.tv_local.proofs.Lists.{flat-push, lists_more}
use Rattle.tv_local.proofs.list.flat.Goals as goal

pub loop-list-preserved : goal.loop-list-preserved
loop-list-preserved c =
    let vs = c.args.lists.now in
    let i = c.loop-list.list-index in
    let tss = map texts_of (map view (take i vs)) in
    let ts = texts_of (view c.list-item.result) in
    c.in_ok-push_texts.ensures
    ∙ ap (λ b. b ++ map text_value (map text_of (map view c.items_of.result.now))) c.loop-list.invariant
    ∙ ap (λ (us : _). map text_value (flat tss) ++ map text_value (map text_of us)) c.items_of.ensures
    ∙ sym (map-append text_value (flat tss) ts)
    ∙ ap (map text_value) (sym (flat-push tss ts) ∙ ap (λ v. flat (tss ++ texts_of (view v) ∷ [])) c.list-item.is ∙ ap flat (sym (lists_more vs i c.list-item.result c.loop-list-test.true)))
