use Rattle.tv_frame_laws.proofs.nodes.Room.{nodes-fit_steps}
use Rattle.tv_frame_laws.proofs.laws.nodes.room.Goals as goal

pub returns : goal.returns
returns c = nodes-fit_steps
