-- What is settled next, or that there is nothing of a kind.
use Rattle.std.specs.Prelude.{Bool, false, true, ℕ, ◌≡◌}
use Rattle.tv_value.specs.Values.{JobName}
use Rattle.tv_gate.specs.Outcomes.{Giving}
use Rattle.tv_history.specs.Entries as history
use Rattle.tv_history.specs.Histories.{is_legal_after}
use Rattle.tv_history.specs.Calls.{NothingSettles, Settles}
use Rattle.tv_history.specs.Runs.{Run, meant, past_of}

-- whether one entry more settles something, or nothing is left to settle
abbrev pub IsSettling : Giving → Run → Run → Bool → Type 0
IsSettling gives r s true = Settles r s
IsSettling gives r s false = (s ≡ r) × NothingSettles gives r

module _ (gives : Giving) (r : Run) where
  abbrev pub is_next : history.Entry → Bool
  is_next e = is_legal_after gives (meant gives r) (past_of r) e

  -- no job can be bounced
  abbrev pub NothingBounces : Type 0
  NothingBounces = (n : JobName) → is_next (history.bounced n) ≡ false

  -- no list can be closed and no fault passed
  abbrev pub NoLevelSettles : Type 0
  NoLevelSettles =
      ((n : JobName) → (k : ℕ) → is_next (history.closed n k) ≡ false)
      × ((n : JobName) → is_next (history.fault_passed n) ≡ false)

  -- no instance can end, and none can be opened
  abbrev pub NothingEnds : Type 0
  NothingEnds =
      ((n : JobName) → is_next (history.ended n) ≡ false)
      × ((n : JobName) → is_next (history.opened n) ≡ false)
