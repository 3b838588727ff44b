use Rattle.std.proofs.Common.{subst, sym}
use Rattle.tv_lineage.specs.Kept.{records_of}
use Rattle.tv_lineage.specs.Members.{HaveSame}
use Rattle.tv_model.specs.records.Recorded.{main_records}
use Rattle.tv_history.specs.Runs.{meant}
use Rattle.tv_board.proofs.TracedLemmas.{records-are}
use Rattle.tv_board.proofs.traced.Traced.records.Goals as goal

pub returns : goal.returns
returns g c =
    subst (λ k. HaveSame (records_of k) (main_records (meant g.V.Services.gives c.args.self.now))) (sym c.records.ensures)
    (records-are g.V.Services.gives c.self.inside.run c.args.self.now c.self.view_is c.self.inside.traces c.self.invariant)
