use Rattle.tv_framing.proofs.matches.LawLemmas.{next-can_be_told, outcomes-come_in_any_order, steps-told_in_any_order}
use Rattle.tv_framing.proofs.laws.matches.tellings.Goals as goal

pub returns : goal.returns
returns c = record { next = next-can_be_told; order = steps-told_in_any_order; outcomes = outcomes-come_in_any_order }
