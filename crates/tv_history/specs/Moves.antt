-- What a run does that goes on by itself: it settles something, or where nothing can be settled hands out the first try on offer.
use Rattle.std.specs.Prelude.{◌≡◌}
use Rattle.tv_gate.specs.Outcomes.{Giving}
use Rattle.tv_history.specs.Calls.{IsNothingOffered, NothingSettles, Settles, hands_out}
use Rattle.tv_history.specs.Runs.{Appends, Run}
use Rattle.tv_history.specs.declared.ticket.Ticket.{Ticket}
use Rattle.tv_history.specs.declared.told.Moved.{Moved}
use Rattle.tv_history.specs.declared.told.Moved.TheVariants as moved

-- nothing can be settled, and this is the first try on offer, now out
pub record IsHandingOut (gives : Giving) (r s : Run) (t : Ticket) : Type 0 where
  pub settled : NothingSettles gives r
  pub handed : Appends r s (hands_out t)
  pub names : s.names ≡ r.names

-- nothing can be settled, and nothing is on offer
pub record IsAtRest (gives : Giving) (r s : Run) : Type 0 where
  pub same : s ≡ r
  pub settled : NothingSettles gives r
  pub nothing_offered : IsNothingOffered gives r

abbrev pub IsMove : Giving → Run → Run → Moved → Type 0
IsMove gives r s moved.Settled = Settles r s
IsMove gives r s (moved.HandedOut t) = IsHandingOut gives r s t
IsMove gives r s moved.Nothing = IsAtRest gives r s
