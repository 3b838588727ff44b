-- The worked documents compute.
use Rattle.std.specs.Prelude.{refl}
use Rattle.std.specs.Fmt.{digits}
use Rattle.json.specs.Print.{escape_byte}
use Rattle.tv_model.specs.records.Rows.{CrossByRecords, FlowByRecords}

pub cross_by_records : CrossByRecords
unfolding digits escape_byte
cross_by_records = (refl, refl, refl, refl)

pub flow_by_records : FlowByRecords
unfolding digits escape_byte
flow_by_records = (refl, refl)
