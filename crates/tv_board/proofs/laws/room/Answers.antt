use Rattle.tv_board.proofs.Room.{nodes-have_room}
use Rattle.tv_board.proofs.laws.room.Goals as goal

pub returns : goal.returns
returns c = nodes-have_room
