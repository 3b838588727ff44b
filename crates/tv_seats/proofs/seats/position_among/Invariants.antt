use Rattle.std.proofs.Common.{◌≡◌, ◌<◌, Some, true}
use Rattle.std.specs.Prelude.{ℕ, slice_get}
use Rattle.tv_seats.specs.Nested.{is_before}
use Rattle.tv_seats.proofs.seats.position_among.Given as goal

abbrev pub invariant-loop-position : goal.invariant-loop-position
invariant-loop-position l = (i m : ℕ) → i < l.position → slice_get l.numbers i ≡ Some m → is_before l.table.seats m l.at ≡ true
