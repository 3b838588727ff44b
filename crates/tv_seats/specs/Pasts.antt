-- The seats of an ended instance as a contract sees them.
use Rattle.std.specs.Prelude.{ℕ, [], ◌∷◌}
use Rattle.tv_seats.specs.declared.past.Kept.{Kept}
use Rattle.tv_seats.specs.declared.past.Kept.TheVariants.{One, Many}
use Rattle.tv_seats.specs.declared.stage.Stage.{Stage}
use Rattle.tv_seats.specs.Tables.{Rows}

abbrev pub one_row : ℕ → Stage → Rows
one_row k x = record {
  seats = record { step = k; place = []; stage = x } ∷ [];
  widest = 0;
  room = 0;
}

abbrev pub kept_view : Kept → Rows
kept_view (One k x) = one_row k x
kept_view (Many t) = t
