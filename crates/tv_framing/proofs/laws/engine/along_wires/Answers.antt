use Rattle.tv_framing.proofs.engine.Told.{events-tell, feeds-whole, wires-tell}
use Rattle.tv_framing.proofs.laws.engine.along_wires.Goals as goal

pub returns : goal.returns
returns c = record { ways = wires-tell; theory = events-tell; feeds = feeds-whole }
