use Rattle.tv_framing.proofs.matches.LawLemmas.{jobs-bind_parts, parts-are_inputs}
use Rattle.tv_framing.proofs.laws.matches.inputs.Goals as goal

pub returns : goal.returns
returns c = record { parts = jobs-bind_parts; answers = parts-are_inputs }
