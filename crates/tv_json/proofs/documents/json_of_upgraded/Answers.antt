use Rattle.std.proofs.Common.{◌≤◌, ap, sym, subst, ◌∙◌}
use Rattle.tv_value.specs.Views.{view as value_view}
use Rattle.tv_flow.specs.DocumentViews.{document_view}
use Rattle.tv_flow.specs.Flows.{upgraded}
use Rattle.tv_flow.specs.Forms.{form_of}
use Rattle.tv_json.proofs.Printing.{length-each}
use Rattle.tv_json.proofs.Back.{document-back, upgraded-formed}
use Rattle.tv_json.proofs.documents.json_of_upgraded.Goals as goal

pub returns-clause-reads_back : goal.returns-clause-reads_back
returns-clause-reads_back c = λ few.
    ap form_of c.in_ok-json.ensures
    ∙ document-back (upgraded (document_view c.args.document.now)) (upgraded-formed (document_view c.args.document.now) c.args.document.now.formed) (subst (λ n. n ≤ 16) (sym (length-each value_view c.args.document.now.inputs)) few)
