-- The entries of a history: what was handed out, accepted, bounced, closed, passed, opened, ended and recalled.
use Rattle.std.specs.Prelude.{Bool, List, None, Option, Some, [], false, if◌then◌else◌, true, ℕ, ◌∷◌}
use Rattle.tv_value.specs.Orders.{same_job}
use Rattle.tv_value.specs.Values.{JobName}

-- Jobs, and the lists and faults of iterations, by their names; an instance by the name of the job that opened it,
-- the main one by [].
pub data Entry : Type 0 where
  handed_out : JobName → ℕ → ℕ → Entry
  accepted : JobName → ℕ → ℕ → Bool → Entry
  bounced : JobName → Entry
  closed : JobName → ℕ → Entry
  fault_passed : JobName → Entry
  opened : JobName → Entry
  ended : JobName → Entry
  recalled : ℕ → Entry

-- a list that is closed with its length, or a fault that is passed
abbrev pub level_entry : JobName → Option ℕ → Entry
level_entry n (Some k) = closed n k
level_entry n None = fault_passed n

-- the entries so far, the newest first
abbrev pub History : Type 0
History = List Entry

abbrev pub is_accepted : JobName → Entry → Bool
is_accepted n (accepted m a t r) = same_job n m
is_accepted n _ = false

abbrev pub is_bounced_entry : JobName → Entry → Bool
is_bounced_entry n (bounced m) = same_job n m
is_bounced_entry n _ = false

abbrev pub is_level_entry : JobName → Entry → Bool
is_level_entry n (closed m k) = same_job n m
is_level_entry n (fault_passed m) = same_job n m
is_level_entry n _ = false

abbrev pub is_opened_entry : JobName → Entry → Bool
is_opened_entry n (opened m) = same_job n m
is_opened_entry n _ = false

abbrev pub is_ended_entry : JobName → Entry → Bool
is_ended_entry n (ended m) = same_job n m
is_ended_entry n _ = false

-- a job runs from one of these
abbrev pub is_begun_entry : JobName → Entry → Bool
is_begun_entry n (handed_out m a t) = same_job n m
is_begun_entry n (opened m) = same_job n m
is_begun_entry n _ = false

-- a try of the job was handed out, and neither accepted nor recalled after that
abbrev pub is_out : History → JobName → Bool
is_out [] n = false
is_out (handed_out m a t ∷ past) n = if same_job n m then true else is_out past n
is_out (accepted m a t r ∷ past) n = if same_job n m then false else is_out past n
is_out (recalled k ∷ past) n = false
is_out (e ∷ past) n = is_out past n
