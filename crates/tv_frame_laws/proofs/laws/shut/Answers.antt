use Rattle.tv_frame_laws.proofs.Theirs.{none-live}
use Rattle.tv_frame_laws.proofs.laws.shut.Goals as goal

pub returns : goal.returns
returns c = none-live
