-- How names begin, and which services begin so.
use Rattle.std.specs.Prelude.{Bool, List, [], false, filter, ℕ, ◌==◌, ◌∷◌}
use Rattle.tv_value.specs.Values.{Name}
use Rattle.tv_local.specs.Table.{names}
use Rattle.tv_local.specs.declared.row.Local.{Local}

-- the first byte of a name is this one
abbrev pub begins : ℕ → Name → Bool
begins b [] = false
begins b (c ∷ n) = b == c

-- the services whose names begin with this byte
abbrev pub from_byte : ℕ → List (Name × Local)
from_byte b = filter (λ r. begins b r.0) names

-- where they stand, for each byte from 97 on: from the first number to before the second
abbrev pub spans : List (ℕ × ℕ)
spans =
    (0, 1) ∷ (1, 1) ∷ (1, 3) ∷ (3, 4) ∷ (4, 5) ∷ (5, 8) ∷ (8, 8) ∷ (8, 8) ∷ (8, 9) ∷ (9, 10)
    ∷ (10, 10) ∷ (10, 12) ∷ (12, 12) ∷ (12, 12) ∷ (12, 12) ∷ (12, 12) ∷ (12, 12) ∷ (12, 14)
    ∷ (14, 16) ∷ (16, 17) ∷ (17, 18) ∷ []
