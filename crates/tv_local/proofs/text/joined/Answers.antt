use Rattle.std.proofs.Common.{◌++◌, ◌∷◌, [], map, take, ap, sym, ◌∙◌, append_assoc}
use Rattle.std.specs.String.{string_bytes}
use Rattle.tv_value.specs.Views.{view}
use Rattle.tv_local.specs.Reading.{text_of}
use Rattle.tv_local.specs.Texts.{joined}
use Rattle.tv_local.proofs.Texts.{joined-push}
use Rattle.tv_local.proofs.Lists.{texts_more}
use Rattle.tv_local.proofs.text.joined.Goals as goal

pub loop-value-preserved : goal.loop-value-preserved
loop-value-preserved c =
    let s = c.args.between.now in
    let vs = c.in-Some.others.now in
    let i = c.loop-value.value-index in
    let t = string_bytes c.in_ok-text.text in
    let us = map text_of (map view (take i vs)) in
    let u = text_of (view c.value-item.result) in
    c.in_ok-push_str-2.ensures.bytes
    ∙ ap (λ b. b ++ c.text_of-in-loop-value.result.now) (c.in_ok-push_str.ensures.bytes ∙ ap (λ b. b ++ s) c.loop-value.invariant)
    ∙ ap (λ b. (joined s (t ∷ us) ++ s) ++ b) c.text_of-in-loop-value.ensures
    ∙ append_assoc (joined s (t ∷ us)) s u
    ∙ sym (joined-push s t us u)
    ∙ ap (λ v. joined s (t ∷ (us ++ text_of (view v) ∷ []))) c.value-item.is
    ∙ ap (λ ts. joined s (t ∷ ts)) (sym (texts_more vs i c.value-item.result c.loop-value-test.true))
