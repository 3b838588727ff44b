-- What a recall says of the jobs of which a try was out.
use Rattle.std.specs.Prelude.{ℕ, ◌≡◌}
use Rattle.tv_gate.specs.Outcomes.{Giving}
use Rattle.tv_history.specs.Calls.{state_of}
use Rattle.tv_history.specs.Runs.{Run}
use Rattle.tv_history.specs.declared.ticket.JobState.TheVariants as state

-- every job that was out is idle, with the same try next
abbrev pub AreIdle : Giving → Run → Run → Type 0
AreIdle gives r s = (k a t : ℕ) → state_of gives r k ≡ state.Out a t
    → state_of gives s k ≡ state.Idle a t
