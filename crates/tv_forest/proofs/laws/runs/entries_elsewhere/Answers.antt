use Rattle.tv_forest.proofs.runs.Elsewhere.{elsewhere-tells_nothing, main-ends_elsewhere, others-are_elsewhere}
use Rattle.tv_forest.proofs.laws.runs.entries_elsewhere.Goals as goal

pub returns : goal.returns
returns c = record { others = others-are_elsewhere; main_end = main-ends_elsewhere; nothing = elsewhere-tells_nothing }
