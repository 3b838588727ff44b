use Rattle.std.proofs.Common.{subst}
use Rattle.tv_check.specs.Passes.{checked}
use Rattle.tv_flow.specs.DocumentViews.{document_view}
use Rattle.tv_top.specs.Answers.{unless_complaint}
use Rattle.tv_top.specs.Asked.{GivesRun}
use Rattle.tv_top.proofs.Given.{not-element, not-usage}
use Rattle.tv_top.proofs.top.run_generated.Goals as goal

pub returns-clause-run : goal.returns-clause-run
returns-clause-run g c =
    subst (λ d. GivesRun c.run_of_document.result (unless_complaint d (checked g.V.Services.knows d))) c.in_ok-document.ensures c.run_of_document.ensures

pub returns-clause-command : goal.returns-clause-command
returns-clause-command g c =
    let d = document_view c.in_ok-document.document in
    not-usage d (checked g.V.Services.knows d) c.run_of_document.result c.run_of_document.ensures

pub returns-clause-element : goal.returns-clause-element
returns-clause-element g c =
    let d = document_view c.in_ok-document.document in
    not-element d (checked g.V.Services.knows d) c.run_of_document.result c.run_of_document.ensures
