use Rattle.std.proofs.Common.{◌≡◌, map}
use Rattle.tv_gate.specs.Outcomes.{Giving}
use Rattle.tv_flow.specs.Flows.{Document}
use Rattle.tv_flow.specs.Views.{flow_view}
use Rattle.tv_cell.specs.PieceValues.{piece_values}
use Rattle.tv_lineage.specs.Views.{leaf_view}
use Rattle.tv_traces.specs.Traced.{AreTraces}
use Rattle.tv_traces.proofs.UsedLemmas.{leaves_until, plain_values}
use Rattle.tv_traces.proofs.traces.Traces.leaves.Given as goal

abbrev pub invariant-loop-number : goal.invariant-loop-number
invariant-loop-number l = (gives : Giving) (d : Document) (a : AreTraces gives d (flow_view l.plan.flow) l.self) → piece_values l.outs ≡ plain_values gives d → map leaf_view l.leaves.items ≡ leaves_until gives d l.plan l.self a l.number
