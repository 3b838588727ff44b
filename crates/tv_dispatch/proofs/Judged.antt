-- What is right is what was given.
use Rattle.std.specs.Prelude.{◌≡◌, ℕ, List, length, Bool, true, false, ◌==◌, if◌then◌else◌, Option, Some, None, Ok, Err, codes, decimal, ◌++◌}
use Rattle.tv_value.specs.Values.{Text, Value}
use Rattle.tv_gate.specs.Outcomes.{Outcome, good, bad}
use Rattle.tv_dispatch.specs.Jobs.{judged, ok_unless, first_complaint}

unless_given : (vs ws : List Value) (o : Option Text) → ok_unless vs o ≡ Ok ws → good vs ≡ good ws
unless_given vs ws None e = cc
unless_given vs ws (Some why) e = absurd cc

if_given : (b : Bool) (vs ws : List Value) (o : Option Text) (why : Text) → (if b then ok_unless vs o else Err why) ≡ Ok ws → good vs ≡ good ws
if_given true vs ws o why e = unless_given vs ws o e
if_given false vs ws o why e = absurd cc

pub right-given : (ds : List ℕ) (o : Outcome) (ws : List Value) → judged ds o ≡ Ok ws → o ≡ good ws
right-given ds (bad why) ws e = absurd cc
right-given ds (good vs) ws e = if_given (length vs == length ds) vs ws (first_complaint 1 ds vs) (codes "outcome has " ++ decimal (length vs) ++ codes " values") e
