use Rattle.std.specs.Prelude.{map, ◌≡◌}
use Rattle.tv_lineage.specs.Views.{leaf_view}
use Rattle.tv_model.specs.records.Recorded.{leaves}
use Rattle.tv_history.specs.Runs.{meant}
use Rattle.tv_board.proofs.TracedLemmas.{told}
use Rattle.tv_board.proofs.traced.Traced.leaves.Goals as goal

pub returns : goal.returns
returns g c =
    told g.V.Services.gives c.self.inside.run c.args.self.now c.self.view_is c.self.inside.traces c.self.invariant
    (λ gives x ls. map leaf_view ls ≡ leaves (meant gives x)) c.leaves.result c.leaves.ensures
