use Rattle.std.proofs.Common.{ap, ◌∙◌}
use Rattle.tv_intake.proofs.IntakeLemmas.{none-sorted}
use Rattle.tv_intake.proofs.intakes.Intakes.clear.Goals as goal

pub returns-clause-sound : goal.returns-clause-sound
returns-clause-sound c =
    none-sorted c.swap.new.x.items c.clear.new.self.items c.clear-2.new.self.items
    (ap (λ v. v.items) c.swap.ensures.x_after ∙ c.clear-3.ensures.items) c.clear.ensures.items c.clear-2.ensures.items
