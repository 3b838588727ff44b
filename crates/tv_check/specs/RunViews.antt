-- The document that a checked run stands for.
use Rattle.tv_flow.specs.Flows.{Document}
use Rattle.tv_flow.specs.DocumentViews.{document_view}
use Rattle.tv_check.specs.declared.run.CheckedRun.{CheckedRun}

abbrev pub run_view : CheckedRun → Document
run_view r = document_view r.document
