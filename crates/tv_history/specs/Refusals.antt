-- What becomes of an answer that is to be accepted.
use Rattle.std.specs.Option.{option_map_or}
use Rattle.std.specs.Prelude.{Bool, None, false, is_ok, map, true, ℕ, ◌≡◌}
use Rattle.tv_gate.specs.Outcomes.{Giving, Outcome}
use Rattle.tv_dispatch.specs.Jobs.{judged}
use Rattle.tv_history.specs.Histories.{is_settled}
use Rattle.tv_history.specs.Answers.{Question}
use Rattle.tv_history.specs.Calls.{IsOther, IsTask, job_of, state_of, try_if_out}
use Rattle.tv_history.specs.Runs.{Appends, Run, past_of}
use Rattle.tv_history.specs.declared.told.Accepted.{Accepted}
use Rattle.tv_history.specs.declared.told.Accepted.TheVariants as accepted
use Rattle.tv_history.specs.declared.told.Tested.{Tested}
use Rattle.tv_history.specs.declared.told.Tested.TheVariants as tested
use Rattle.tv_history.specs.declared.entry.Entry.{Entry}
use Rattle.tv_history.specs.declared.entry.Entry.TheVariants as entry
use Rattle.tv_history.specs.declared.ticket.JobState.{JobState}
use Rattle.tv_history.specs.declared.ticket.Ticket.{Ticket}

-- ---- whether it is asked

-- the try isn't out, and where its job stands
abbrev pub IsNotOut : Giving → Run → Ticket → JobState → Type 0
IsNotOut gives r t s = (try_if_out gives r t ≡ None) × (s ≡ state_of gives r t.job)

abbrev pub IsTested : Giving → Run → Question → Tested → Type 0
IsTested gives r q (tested.NotOut s) = IsNotOut gives r q.ticket s
IsTested gives r q tested.Other = IsOther gives r q
IsTested gives r q tested.Asked = IsTask gives r q

-- ---- acceptance

abbrev pub is_right : Question → Outcome → Bool
is_right q o = is_ok (judged (map (λ p. p.1) q.outputs) o)

abbrev pub accepts : Ticket → Bool → Entry
accepts t right = entry.Accepted t.job t.activity t.attempt right

-- the outcome of a task was accepted, and was right or not
pub record WasAccepted (gives : Giving) (old new : Run) (q : Question) (o : Outcome)
    (good : Bool) : Type 0 where
  pub task : IsTask gives old q
  pub right : good ≡ is_right q o
  pub appends : Appends old new (accepts q.ticket good)

-- the job of a number is settled
abbrev pub is_settled_job : Giving → Run → ℕ → Bool
is_settled_job gives r k = option_map_or (is_settled (past_of r)) (job_of gives r k) false

-- it goes on only where the outcome wasn't right
abbrev pub IsAccepting : Giving → Run → Run → Question → Outcome → Accepted → Type 0
IsAccepting gives old new q o accepted.Again =
    WasAccepted gives old new q o false × (is_settled_job gives new q.ticket.job ≡ false)
IsAccepting gives old new q o (accepted.Settled good) =
    WasAccepted gives old new q o good × (is_settled_job gives new q.ticket.job ≡ true)
