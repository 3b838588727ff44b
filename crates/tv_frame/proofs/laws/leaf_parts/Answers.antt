use Rattle.tv_frame.proofs.Faults.{faults-stand}
use Rattle.tv_frame.proofs.StartLemmas.{places-split}
use Rattle.tv_frame.proofs.laws.leaf_parts.Goals as goal

pub returns : goal.returns
returns c = record { jobs = places-split; faults = faults-stand }
