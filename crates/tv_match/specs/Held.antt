-- What becomes of the room that is held.
use Rattle.std.specs.Prelude.{◌≡◌, List, [], ◌∷◌}
use Rattle.tv_matching.specs.Told.{Told}
use Rattle.tv_matching.specs.Matchers.{Matching}
use Rattle.tv_match.specs.declared.matchers.Matcher.{Matcher}
use Rattle.tv_match.specs.Seen.{in_order, matching}
use Rattle.tv_match.specs.Ahead.{in_order_ahead}

-- after a telling other than the next held one nothing is held
abbrev pub LetsGo : Told → Matching → Matching → Type 0
LetsGo t m n = ((rest : List Told) → m.held ≡ t ∷ rest → ⊥) → n.held ≡ []

-- a refused call leaves all that contracts see, what is held and what is ahead among it
pub record IsUnchanged (m n : Matcher) : Type 0 where
  pub seen : matching n ≡ matching m
  pub order : in_order n ≡ in_order m
  pub ahead : in_order_ahead n ≡ in_order_ahead m
