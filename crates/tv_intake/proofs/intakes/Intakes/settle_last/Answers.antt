use Rattle.std.specs.Prelude.{option_to_list}
use Rattle.std.proofs.Common.{arith}
use Rattle.tv_intake.proofs.IntakeLemmas.{fewer-wait}
use Rattle.tv_intake.proofs.intakes.Intakes.settle_last.Goals as goal

pub returns-clause-sound : goal.returns-clause-sound
returns-clause-sound c =
    let i = c.args.self.now in
    fewer-wait i.matchers.items i.jobs.items i.waiting.items c.requires c.pop.new.self.items (option_to_list c.pop.result) c.pop.ensures.items

pub returns-clause-room : goal.returns-clause-room
returns-clause-room c = λ n h. (h.0, omega (arith, h.1, c.pop.ensures.len, c.pop.ensures.capacity))
