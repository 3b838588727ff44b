use Rattle.std.specs.Prelude.{[], ◌∷◌, ◌++◌}
use Rattle.std.proofs.Common.{ap, ◌∙◌}
use Rattle.std.proofs.lemmas.Result.{IfOk-weaker}
use Rattle.serde_json.specs.Written.{has_float, compact_text}
use Rattle.tv_flow.specs.DocumentViews.{document_view}
use Rattle.tv_flow.specs.Flows.{upgraded}
use Rattle.tv_json.proofs.Floatless.{document-plain}
use Rattle.tv_report.proofs.upgrades.upgraded_line.Goals as goal

pub returns : goal.returns
returns c =
    let is = c.in_ok-json.ensures.json in
    let text = c.in_ok-text.ensures.text (ap has_float is ∙ document-plain (upgraded (document_view c.args.document.now))) ∙ ap compact_text is in
    IfOk-weaker c.line_of.result _ _ (λ t h. h ∙ ap (λ s. s ++ 10 ∷ []) (c.as_str.ensures ∙ text)) c.line_of.ensures
