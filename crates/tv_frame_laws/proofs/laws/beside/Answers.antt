use Rattle.tv_frame_laws.proofs.Frames.{keeps-beside, ready-beside}
use Rattle.tv_frame_laws.proofs.laws.beside.Goals as goal

pub returns : goal.returns
returns c = record { keeps = keeps-beside; ready = ready-beside }
