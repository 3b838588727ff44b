use Rattle.tv_forest.proofs.runs.Entries.{later_opening-tells_nothing, next_try-goes_on, other_tries-tell_nothing, recalls-tell_nothing}
use Rattle.tv_forest.proofs.laws.runs.entries_tell_nothing.Goals as goal

pub returns : goal.returns
returns c = record {
  next_try = next_try-goes_on;
  later_opening = later_opening-tells_nothing;
  other_tries = other_tries-tell_nothing;
  recalls = recalls-tell_nothing;
}
