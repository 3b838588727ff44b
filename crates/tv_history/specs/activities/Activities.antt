-- The activity that comes after the tries of a job.
use Rattle.std.specs.Prelude.{List, [], suc, ℕ, ◌∷◌}
use Rattle.tv_dispatch.specs.Jobs.{Ask}

-- an idle job whose tries are at an end goes on with the flow of the activity after the last
abbrev pub last_activity : List Ask → ℕ
last_activity [] = 0
last_activity (a ∷ []) = suc a.activity
last_activity (a ∷ b ∷ as') = last_activity (b ∷ as')
