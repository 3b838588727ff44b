use Rattle.tv_naming.proofs.Kept.{flow-ascends}
use Rattle.tv_naming.proofs.naming.flow_fault.Goals as goal

pub outputs_fault-requires : goal.outputs_fault-requires
outputs_fault-requires g c = flow-ascends c.args.flow.now c.requires
