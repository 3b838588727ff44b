use Rattle.std.proofs.Common.{length}
use Rattle.tv_frame.proofs.rooms.+port_of.Given as goal

abbrev pub decreases-port_of : goal.decreases-port_of
decreases-port_of l = length l.ports.now
