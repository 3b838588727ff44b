use Rattle.std.proofs.Common.{◌++◌, ◌∷◌, [], ap, ◌∙◌}
use Rattle.json.specs.Print.{print}
use Rattle.serde_json.proofs.Texts.{print-outline}
use Rattle.tv_flow.specs.Views.{each}
use Rattle.tv_value.specs.Views.{view}
use Rattle.tv_model.specs.TotalsViews.{totals_view}
use Rattle.tv_report.specs.ResultLines.{result_json}
use Rattle.tv_report.specs.Tokens.{tokens_of}
use Rattle.tv_report.proofs.results.result_line.Goals as goal

pub returns : goal.returns
returns c =
    let d = result_json (each view c.args.outputs.now) (totals_view c.args.totals.now) in
    c.of.ensures
    ∙ c.in_ok-push_str.ensures.bytes
    ∙ ap (λ s. s ++ 10 ∷ [])
    (c.text_of-line.ensures ∙ ap print (c.in_ok-put_result.ensures.1 ∙ ap (λ ts. ts ++ tokens_of d) c.new-out.ensures.tokens) ∙ print-outline d)
