-- The line that `upgrade` writes: the document as compact JSON, in the second format.
use Rattle.tv_value.specs.Values.{Text}
use Rattle.tv_flow.specs.Flows.{Document, upgraded}
use Rattle.tv_json.specs.DocumentLines.{document_line}

abbrev pub upgraded_text : Document → Text
upgraded_text d = document_line (upgraded d)
