-- Things numbered by their positions in a list of names.
use Rattle.std.specs.Prelude.{ℕ, suc, List, [], ◌∷◌, Option, Some, None, if◌then◌else◌}
use Rattle.tv_value.specs.Values.{Name}
use Rattle.tv_value.specs.Orders.{same_name}
use Rattle.tv_naming.specs.Naming.{has_name}

-- the position of a name in a list, its length where the name isn't there
abbrev pub position : {A : Type 0} → Name → List (Name × A) → ℕ
position n [] = 0
position n (m ∷ ms) = if same_name n m.0 then 0 else suc (position n ms)

-- the position of a name, where it is there
abbrev pub number_in : {A : Type 0} → List (Name × A) → Name → Option ℕ
number_in xs n = if has_name xs n then Some (position n xs) else None
