use Rattle.tv_value.proofs.Computed.{prints_names, prints_values}
use Rattle.tv_value.proofs.laws.worked_texts.Goals as goal

pub returns : goal.returns
returns c = record { names = prints_names; printed = prints_values }
