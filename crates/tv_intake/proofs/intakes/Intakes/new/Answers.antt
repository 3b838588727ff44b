use Rattle.tv_intake.proofs.IntakeLemmas.{none-sorted}
use Rattle.tv_intake.proofs.intakes.Intakes.new.Goals as goal

pub returns-clause-sound : goal.returns-clause-sound
returns-clause-sound c = none-sorted c.new.result.items c.new-2.result.items c.new-3.result.items c.new.ensures.items c.new-2.ensures.items c.new-3.ensures.items
