-- Which entries totals count.
use Rattle.std.specs.Prelude.{Bool, false, true}
use Rattle.tv_history.specs.declared.entry.Entry.{Entry}
use Rattle.tv_history.specs.declared.entry.Entry.TheVariants as entry

abbrev pub is_acceptance : Entry → Bool
is_acceptance (entry.Accepted k a t r) = true
is_acceptance e = false

abbrev pub is_bounce : Entry → Bool
is_bounce (entry.Bounced k) = true
is_bounce e = false
