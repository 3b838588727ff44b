use Rattle.std.proofs.Common.{ap, ap₂, arith, length, sym, ◌<◌, ◌∙◌, ◌≤◌, ◌≡◌}
use Rattle.std.proofs.lemmas.Bool.{eqb-false}
use Rattle.std.proofs.lemmas.List.{length-map}
use Rattle.std.proofs.lemmas.Result.{IfOk-weaker}
use Rattle.tv_value.specs.Values.{text_value}
use Rattle.tv_value.specs.Views.{view}
use Rattle.tv_local.specs.Table.{list_limit, split_by}
use Rattle.tv_local.specs.Texts.{parts}
use Rattle.tv_local.proofs.Splits.{split-long}
use Rattle.tv_local.proofs.text.split.Goals as goal

pub returns-then-len : goal.returns-then-len
returns-then-len c =
    let by = c.text_of-by.result.now in
    let t = c.text_of.result.now in
    let some : 0 < length by = omega (arith, eqb-false (length by) 0 (sym c.is_empty.ensures ∙ c.if-is_empty.false)) in
    let same : length c.in_ok-parts.parts.items ≡ length (parts by t) =
    sym (length-map c.in_ok-parts.parts.items view) ∙ ap length c.in_ok-parts.ensures ∙ length-map (parts by t) text_value in
    let many : list_limit ≤ length (parts by t) = omega (arith, same, c.len.ensures, c.if-len.true) in
    IfOk-weaker c.refused-then-len.result _ _
    (λ o e. e ∙ sym (split-long by t some many) ∙ ap₂ split_by c.text_of.ensures c.text_of-by.ensures)
    c.refused-then-len.ensures
