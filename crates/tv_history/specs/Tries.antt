-- The accepted tries of a history, and the asks of a meaning as tries.
use Rattle.std.specs.Prelude.{Bool, List, [], if◌then◌else◌, is_ok, ℕ, ◌++◌, ◌∷◌}
use Rattle.tv_value.specs.Orders.{same_job}
use Rattle.tv_value.specs.Values.{JobName}
use Rattle.tv_gate.specs.Outcomes.{Giving}
use Rattle.tv_dispatch.specs.Jobs.{Ask, outcome_of}
use Rattle.tv_history.specs.Entries.{Entry, History, accepted}

-- a try as a history names it: activity, attempt, and whether its outcome was right
abbrev pub TryKey : Type 0
TryKey = ℕ × ℕ × Bool

abbrev pub key_of : Giving → Ask → TryKey
key_of gives a = (a.activity, a.attempt, is_ok (outcome_of gives a))

abbrev pub try_of : JobName → Entry → List TryKey
try_of n (accepted k c t r) = if same_job n k then (c, t, r) ∷ [] else []
try_of n _ = []

-- the accepted tries of a job, in order
abbrev pub tries_of : JobName → History → List TryKey
tries_of n [] = []
tries_of n (e ∷ past) = tries_of n past ++ try_of n e

abbrev pub NamedTry : Type 0
NamedTry = JobName × TryKey

abbrev pub entry_try : Entry → List NamedTry
entry_try (accepted n c t r) = (n, (c, t, r)) ∷ []
entry_try _ = []

-- all accepted tries, the oldest first
abbrev pub all_tries : History → List NamedTry
all_tries [] = []
all_tries (e ∷ past) = all_tries past ++ entry_try e

-- the try of an ask
abbrev pub ask_try : Giving → JobName × Ask → NamedTry
ask_try gives (n, a) = (n, key_of gives a)
