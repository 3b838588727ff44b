-- What a matcher is told of a port with an event at a place of the step that feeds it.
use Rattle.std.specs.Prelude.{ℕ, ◌-◌, true, if◌then◌else◌, nat_le, nat_lt, List, [], ◌∷◌, ◌++◌, Option, Some, None, length, take}
use Rattle.tv_value.specs.Nested.{Place}
use Rattle.tv_value.specs.Values.{Name, Value}
use Rattle.tv_matching.specs.Items.{if_so}
use Rattle.tv_matching.specs.Told.{Told, arrival, close}
use Rattle.tv_telling.specs.ValueTellings.{bound_told, value_told}

-- what happened at a place of a step's iteration, as one of the step's outputs has it: a job gave this value, a list has so many
-- items, a fault was passed
pub data Happening : Type 0 where
  gave : Value → Happening
  closed : ℕ → Happening
  passed : Happening

-- of what happened at q of the port's value, of which k more levels are walked
abbrev pub told_there : Name → ℕ → Place → Happening → List Told
told_there p k q (gave w) = value_told p k q w
told_there p k q (closed n) = close p q n ∷ []
told_there p k q passed = arrival p q true ∷ []

-- The output stands at q of the port's value, and the port walks k levels of it. It happened at r of the output. What stands at
-- prefixes of r is whole now, and wasn't before, from length `from` on; and it holds a fault at so many prefixes, the shortest ones.
-- Where r is no shorter than the walk, the port is told of the value where its walk ends, once it is whole; else of what happened.
abbrev pub told_on_way : Name → ℕ → Place → ℕ → ℕ → Place → Happening → List Told
told_on_way p k q from faults r h =
    if nat_le k (length r)
    then if_so (nat_le from k) (bound_told p (q ++ take k r) (nat_lt k faults))
    else told_there p (k - length r) (q ++ r) h

-- an item of a merge stands at its number, and any other value at the top
abbrev pub place_of_item : Option ℕ → Place
place_of_item None = []
place_of_item (Some i) = i ∷ []
