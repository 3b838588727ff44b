use Rattle.tv_value.proofs.DepthLemmas.{test-decides, depths-those, least-least, ragged-none}
use Rattle.tv_value.proofs.laws.depths.Goals as goal

pub returns : goal.returns
returns c = record { test = test-decides; those = depths-those; least = least-least; ragged = ragged-none }
