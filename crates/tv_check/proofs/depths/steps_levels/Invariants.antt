use Rattle.tv_flow.specs.DocumentViews.{document_view}
use Rattle.tv_flow.specs.Views.{flow_view}
use Rattle.tv_model.specs.instance.Ranks.{ranked}
use Rattle.tv_check.proofs.DepthLemmas.{StepsSo}
use Rattle.tv_check.proofs.depths.steps_levels.Given as goal

abbrev pub invariant-loop-number : goal.invariant-loop-number
invariant-loop-number l = StepsSo (document_view l.document) l.name (flow_view l.flow) (ranked (flow_view l.flow).steps) l.levels.items l.number-index
