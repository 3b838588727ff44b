use Rattle.std.specs.Prelude.{IfOk}
use Rattle.std.proofs.Common.{subst}
use Rattle.tv_history.specs.Runs.{Run, meant, past_of}
use Rattle.tv_lineage.specs.Kept.{records_of}
use Rattle.tv_lineage.specs.Members.{HaveSame}
use Rattle.tv_traces.specs.Settled.{settled_records}
use Rattle.tv_board.proofs.board.Board.records.Goals as goal

pub records-requires : goal.records-requires
records-requires g c = (g.V.Services.gives, c.self.invariant)

pub returns : goal.returns
returns g c =
    let gives = g.V.Services.gives in
    subst (λ (r : Run). IfOk c.records.result (λ rs. HaveSame (records_of rs) (settled_records (past_of r) (meant gives r)))) c.self.view_is
    (c.records.ensures gives c.self.invariant)
