use Rattle.tv_value.proofs.Computed.{measures_depths, looks_up, compares_places, orders_names}
use Rattle.tv_value.proofs.laws.worked_values.Goals as goal

pub returns : goal.returns
returns c = record { measured = measures_depths; found = looks_up; places = compares_places; names = orders_names }
