use Rattle.std.proofs.Common.{ap, map, sym, ◌∙◌}
use Rattle.std.proofs.lemmas.Result.{IfOk-weaker}
use Rattle.tv_value.specs.Nested.{items}
use Rattle.tv_value.specs.Views.{view}
use Rattle.tv_value.proofs.ItemLemmas.{items-trees_of}
use Rattle.tv_run.proofs.values.value_pieces.Goals as goal

pub returns-clause-values : goal.returns-clause-values
returns-clause-values c =
    IfOk-weaker c.pieces_of.result _ _
    (λ ps h. h ∙ sym (items-trees_of (map view c.into_vec.result.items)) ∙ ap items c.into_vec.ensures)
    c.pieces_of.ensures.values
