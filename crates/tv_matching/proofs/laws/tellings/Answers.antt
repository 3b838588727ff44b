use Rattle.tv_matching.proofs.LawLemmas.{tellings-add, tellings-count, tellings-in_any_order}
use Rattle.tv_matching.proofs.laws.tellings.Goals as goal

pub returns : goal.returns
returns c = record { add = tellings-add; count = tellings-count; order = tellings-in_any_order }
