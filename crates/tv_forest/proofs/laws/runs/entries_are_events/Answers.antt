use Rattle.tv_forest.proofs.runs.Entries.{closing-goes_on, first_try-goes_on, opening-goes_on, passing-goes_on}
use Rattle.tv_forest.proofs.laws.runs.entries_are_events.Goals as goal

pub returns : goal.returns
returns c = record { closing = closing-goes_on; passing = passing-goes_on; first_try = first_try-goes_on; opening = opening-goes_on }
