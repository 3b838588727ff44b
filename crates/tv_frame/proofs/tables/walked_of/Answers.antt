use Rattle.tv_frame.proofs.Walked.{few-rows}
use Rattle.tv_frame.proofs.tables.walked_of.Goals as goal

pub walked_wires-requires : goal.walked_wires-requires
walked_wires-requires c = record { few = few-rows c.args.plan.now }
