use Rattle.tv_framing.proofs.engine.Steps.{all-have_ended, endings-are}
use Rattle.tv_framing.proofs.laws.engine.ended_steps.Goals as goal

pub returns : goal.returns
returns c = record { named = endings-are; all = all-have_ended }
