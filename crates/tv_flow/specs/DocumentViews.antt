-- The document that a `Document` stands for.
use Rattle.tv_flow.specs.declared.document.Document.{Document}
use Rattle.tv_flow.specs.Flows as spec
use Rattle.tv_flow.specs.Views.{document_of}

abbrev pub document_view : Document → spec.Document
document_view d = document_of d.format d.main d.flows d.inputs
