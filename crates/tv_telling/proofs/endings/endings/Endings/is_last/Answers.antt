use Rattle.tv_telling.proofs.WholePorts.{last-is}
use Rattle.tv_telling.proofs.endings.endings.Endings.is_last.Goals as goal

pub returns : goal.returns
returns c = last-is c.args.wiring.now.after c.args.self.now c.args.step c.requires.sound c.requires.step c.requires.growing
