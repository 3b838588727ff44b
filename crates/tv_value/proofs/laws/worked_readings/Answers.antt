use Rattle.tv_value.proofs.Computed.{reads_values, tells_first_complaint}
use Rattle.tv_value.proofs.laws.worked_readings.Goals as goal

pub returns : goal.returns
returns c = record { values = reads_values; complaints = tells_first_complaint }
