use Rattle.std.proofs.Common.{ap, subst, ◌∙◌, [], map}
use Rattle.std.proofs.lemmas.Result.{IfOk-weaker}
use Rattle.tv_value.specs.Nested.{leaf}
use Rattle.tv_lineage.specs.Kept.{result}
use Rattle.tv_lineage.specs.Views.{mark_view}
use Rattle.tv_traces.specs.Building.{telling}
use Rattle.tv_traces.specs.OfNodes.{IsBuilt}
use Rattle.tv_traces.specs.Shapes.{passed_by}
use Rattle.tv_traces.specs.Views.{node_view}
use Rattle.tv_traces.proofs.Nodes.{passed-view}
use Rattle.tv_traces.proofs.RowLemmas.{no-outputs, walked-built, walked-rows}
use Rattle.tv_traces.proofs.stepping.walked.Goals as goal

pub returns-then-is_empty : goal.returns-then-is_empty
returns-then-is_empty c = λ s e.
    walked-rows (telling c.args.walk.now) s c.args.levels c.args.records.now c.note_jobs.new.records _ (e ∙ no-outputs c.args.outputs.now c.is_empty.result c.is_empty.ensures c.if-is_empty.true)
    (passed-view c.empty.result ∙ ap (λ ms. leaf (result []) (passed_by (map mark_view ms))) c.empty.ensures) c.in_ok-note_jobs.ensures

pub returns : goal.returns
returns c =
    IfOk-weaker c.node_below.result _ _ (λ u h s e.
    walked-built (telling c.args.walk.now) s c.args.levels c.args.records.now c.node_below.new.records (node_view u)
    (subst (λ p. IsBuilt (telling c.args.walk.now) c.args.levels p c.args.records.now c.node_below.new.records (node_view u)) c.top-top.ensures h)) c.node_below.ensures
