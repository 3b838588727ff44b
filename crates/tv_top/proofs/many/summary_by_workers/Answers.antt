use Rattle.std.proofs.Common.{ap, ◌∙◌}
use Rattle.std.specs.Prelude.{length, ◌≡◌}
use Rattle.tv_value.specs.Values.{Text}
use Rattle.tv_check.specs.RunViews.{run_view}
use Rattle.tv_generator.specs.Summaries.{summary_text}
use Rattle.tv_model.specs.Meanings.{meaning}
use Rattle.tv_model.specs.Results.{result_line}
use Rattle.tv_model.specs.Totals.{totals}
use Rattle.tv_model.specs.TotalsViews.{totals_view}
use Rattle.tv_report.specs.ResultLines.{line_of_result}
use Rattle.tv_top.proofs.Plainly.{line-plain}
use Rattle.tv_top.proofs.many.summary_by_workers.Goals as goal

pub returns : goal.returns
returns g c =
    let m = meaning g.G.Services.Services.gives (run_view c.args.run) in
    let line : c.in_ok-line.line ≡ result_line m =
    c.in_ok-line.ensures
    ∙ ap (λ os. line_of_result os (totals_view c.in_ok-outputs.totals)) c.in_ok-outputs.ensures.run.0
    ∙ line-plain m.outputs (totals_view c.in_ok-outputs.totals)
    ∙ ap (line_of_result m.outputs) c.in_ok-outputs.ensures.run.1 in
    c.in_ok-summary.ensures
    ∙ ap (λ t. summary_text c.args.number t (length c.as_str.result.now)) c.in_ok-outputs.ensures.run.1
    ∙ ap (λ (t : Text). summary_text c.args.number (totals m.jobs) (length t)) (c.as_str.ensures ∙ line)
