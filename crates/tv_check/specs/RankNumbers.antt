-- Steps by rank, and ranks, as numbers.
use Rattle.std.specs.Prelude.{ℕ, suc, List, [], ◌∷◌, map, ◌==◌, if◌then◌else◌}
use Rattle.tv_value.specs.Values.{Name}
use Rattle.tv_flow.specs.Flows.{Step}
use Rattle.tv_model.specs.instance.Ranks.{ranked}
use Rattle.tv_naming.specs.Numbers.{position}

-- the number of each step, in the order of ranks
abbrev pub numbers_by_rank : List (Name × Step) → List ℕ
numbers_by_rank steps = map (λ s. position s.0 steps) (ranked steps)

-- the rank of each step, in the order of names; the number of ranked steps where it has none
abbrev pub ranks_by_number : List (Name × Step) → List ℕ
ranks_by_number steps = map (λ s. position s.0 (ranked steps)) steps

-- where a number stands first in a list, the list's length where it doesn't
abbrev pub first_at : ℕ → List ℕ → ℕ
first_at v [] = 0
first_at v (u ∷ us) = if v == u then 0 else suc (first_at v us)
