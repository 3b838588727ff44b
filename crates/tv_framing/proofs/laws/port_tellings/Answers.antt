use Rattle.tv_framing.proofs.LawLemmas.{known_values-are_told_whole, ports-are_told, unknown_values-are_not_told}
use Rattle.tv_framing.proofs.laws.port_tellings.Goals as goal

pub returns : goal.returns
returns c = record { start = known_values-are_told_whole; nothing = unknown_values-are_not_told; event = ports-are_told }
