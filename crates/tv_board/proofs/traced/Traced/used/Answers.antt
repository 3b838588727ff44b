use Rattle.std.specs.Prelude.{map, option_map, ◌≡◌}
use Rattle.tv_lineage.specs.Views.{mark_view}
use Rattle.tv_model.specs.records.Recorded.{marks_of, output_at}
use Rattle.tv_history.specs.Runs.{meant}
use Rattle.tv_board.proofs.TracedLemmas.{told}
use Rattle.tv_board.proofs.traced.Traced.used.Goals as goal

pub returns : goal.returns
returns g c =
    told g.V.Services.gives c.self.inside.run c.args.self.now c.self.view_is c.self.inside.traces c.self.invariant
    (λ gives x o. option_map (map mark_view) o ≡ option_map marks_of (output_at (meant gives x) c.args.port.now c.args.place.now))
    c.used.result c.used.ensures
