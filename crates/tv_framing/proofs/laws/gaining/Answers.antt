use Rattle.tv_framing.proofs.LawLemmas.{known-is_before_and_gained, ports-gain_on_way}
use Rattle.tv_framing.proofs.laws.gaining.Goals as goal

pub returns : goal.returns
returns c = record { known = known-is_before_and_gained; way = ports-gain_on_way }
