use Rattle.std.proofs.Common.{◌≡◌, ◌++◌, ◌∷◌, [], ◌+ℤ◌, pos, map, ap, sym, ◌∙◌, arith}
use Rattle.std.proofs.lemmas.List.{map-append}
use Rattle.std.proofs.lemmas.Int.{ints}
use mir.Val.{to_z, of_z}
use mir.Syntax.{w64}
use Rattle.std.specs.Fmt.{signed_decimal}
use Rattle.std.specs.String.{string_bytes}
use Rattle.tv_value.specs.Values.{text_value}
use Rattle.tv_value.specs.Views.{view}
use Rattle.tv_local.specs.Numbers.{count_up}
use Rattle.tv_local.proofs.Lists.{count_up-push}
use Rattle.tv_local.proofs.arithmetic.numbers.Goals as goal

pub loop-step-preserved : goal.loop-step-preserved
loop-step-preserved c =
    let z = to_z w64 (of_z w64 c.args.first) in
    let n = c.loop-step.step in
    let told : string_bytes c.in_ok-text.text ≡ signed_decimal (z +ℤ pos n) = c.in_ok-text.ensures.ok ∙ ap signed_decimal (omega (arith, ints)) in
    let before : map view c.loop-step.texts.items ≡ map text_value (map signed_decimal (count_up z n)) = c.loop-step.invariant in
    c.in_ok-push_string.ensures
    ∙ ap (λ l. l ++ text_value (string_bytes c.in_ok-text.text) ∷ []) before
    ∙ ap (λ t. map text_value (map signed_decimal (count_up z n)) ++ text_value t ∷ []) told
    ∙ sym (ap (λ zs. map text_value (map signed_decimal zs)) (count_up-push z n)
    ∙ ap (map text_value) (map-append signed_decimal (count_up z n) ((z +ℤ pos n) ∷ []))
    ∙ map-append text_value (map signed_decimal (count_up z n)) (signed_decimal (z +ℤ pos n) ∷ []))
