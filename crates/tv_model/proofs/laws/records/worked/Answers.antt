use Rattle.tv_model.proofs.records.Computed.{cross_by_records, flow_by_records}
use Rattle.tv_model.proofs.laws.records.worked.Goals as goal

pub returns : goal.returns
returns c = record { crossed = cross_by_records; opened = flow_by_records }
