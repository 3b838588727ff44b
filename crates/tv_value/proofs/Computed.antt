-- The worked examples compute.
use Rattle.std.specs.Prelude.{refl}
use Rattle.std.specs.Fmt.{digits}
use Rattle.json.specs.Print.{escape_byte}
use Rattle.tv_value.specs.Worked.{ReadsValues, TellsFirstComplaint, MeasuresDepths, LooksUp, ComparesPlaces, OrdersNames, PrintsNames, PrintsValues}

pub reads_values : ReadsValues
unfolding digits
reads_values = (refl, refl, refl, refl)

pub tells_first_complaint : TellsFirstComplaint
tells_first_complaint = (refl, refl, refl, refl, refl)

pub measures_depths : MeasuresDepths
measures_depths = (refl, refl, refl, refl, refl, refl)

pub looks_up : LooksUp
looks_up = (refl, refl, refl, refl)

pub compares_places : ComparesPlaces
compares_places = (refl, refl, refl, refl, refl)

pub orders_names : OrdersNames
orders_names = refl

pub prints_names : PrintsNames
unfolding digits
prints_names = (refl, refl)

pub prints_values : PrintsValues
unfolding digits escape_byte
prints_values = (refl, refl)
