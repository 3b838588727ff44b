-- What each local service gives.
use Rattle.std.specs.Prelude.{ℕ, List, [], ◌∷◌, Bool, Option, Some, None, is_some}
use Rattle.tv_value.specs.Values.{Text, Name, Value}
use Rattle.tv_value.specs.Orders.{named}
use Rattle.tv_gate.specs.Outcomes.{Outcome, bad, Giving}
use Rattle.tv_local.specs.Reading.{complaint}
use Rattle.tv_local.specs.Table.{names, wants, with_one, with_two}
use Rattle.tv_local.specs.declared.row.Local.{Local}

-- by its own rule
abbrev pub by_rule : Local → List Value → ℕ → Outcome
by_rule k [] n = bad []
by_rule k (v ∷ []) n = with_one k v
by_rule k (v ∷ w ∷ []) n = with_two k v w n
by_rule k (v ∷ w ∷ u ∷ us) n = bad []

-- a complaint of the inputs comes before the service's own rule
abbrev pub unless : Option Text → Outcome → Outcome
unless None o = o
unless (Some why) o = bad why

abbrev pub local_outcome : Option Local → Name → List Value → ℕ → Outcome
local_outcome None name vs n = bad []
local_outcome (Some k) name vs n = unless (complaint name (wants k) vs) (by_rule k vs n)

-- a name that is none of the table's gives a refusal without text
abbrev pub local_gives : Giving
local_gives name vs n = local_outcome (named name names) name vs n

abbrev pub local_knows : Name → Bool
local_knows name = is_some (named name names)
