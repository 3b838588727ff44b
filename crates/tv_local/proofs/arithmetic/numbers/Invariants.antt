use Rattle.std.proofs.Common.{◌≡◌, map}
use Rattle.std.specs.Fmt.{signed_decimal}
use Rattle.tv_value.specs.Values.{text_value}
use Rattle.tv_value.specs.Views.{view}
use Rattle.tv_local.specs.Numbers.{count_up}
use Rattle.tv_local.proofs.arithmetic.numbers.Given as goal

abbrev pub invariant-loop-step : goal.invariant-loop-step
invariant-loop-step l = map view l.texts.items ≡ map text_value (map signed_decimal (count_up l.first l.step))
