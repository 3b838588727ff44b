use Rattle.tv_framing.proofs.LawLemmas.{known_items-are_legal, legal-is_known_item}
use Rattle.tv_framing.proofs.laws.legal_events.Goals as goal

pub returns : goal.returns
returns c = record { known = known_items-are_legal; only = legal-is_known_item }
