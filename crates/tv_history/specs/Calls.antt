-- What the calls of a board say of its run.
use Rattle.std.specs.List.{list_any}
use Rattle.std.specs.Option.{option_map_or}
use Rattle.std.specs.Prelude.{Bool, List, None, Option, Some, false, filter, find, if◌then◌else◌, is_some, map, option_and_then, slice_get, true, ℕ, ◌&&◌, ◌≡◌}
use Rattle.tv_value.specs.Orders.{same_job}
use Rattle.tv_value.specs.Values.{JobName}
use Rattle.tv_gate.specs.Outcomes.{Giving}
use Rattle.tv_dispatch.specs.Jobs.{Ask}
use Rattle.tv_model.specs.Jobs.{Job}
use Rattle.tv_model.specs.Made.{Meaning}
use Rattle.tv_model.specs.Totals as model
use Rattle.tv_history.specs.Entries as history
use Rattle.tv_history.specs.Entries.{History, is_out}
use Rattle.tv_history.specs.Histories as histories
use Rattle.tv_history.specs.Histories.{has_open_instance, is_ask, is_legal_after, is_offered, is_ready, is_running, is_settled, next_ask}
use Rattle.tv_history.specs.ReadOff.{read_totals}
use Rattle.tv_history.specs.activities.Activities.{last_activity}
use Rattle.tv_history.specs.Answers.{Question}
use Rattle.tv_history.specs.Runs.{Appends, Run, meant, past_of}
use Rattle.tv_history.specs.declared.told.TaskFault.{TaskFault}
use Rattle.tv_history.specs.declared.told.TaskFault.TheVariants as task_fault
use Rattle.tv_history.specs.declared.entry.Entry.{Entry}
use Rattle.tv_history.specs.declared.entry.Entry.TheVariants as entry
use Rattle.tv_history.specs.declared.ticket.JobState.{JobState}
use Rattle.tv_history.specs.declared.ticket.JobState.TheVariants as state
use Rattle.tv_history.specs.declared.ticket.Ticket.{Ticket}

-- ---- settling

abbrev pub is_settlement : history.Entry → Bool
is_settlement (history.bounced n) = true
is_settlement (history.closed n k) = true
is_settlement (history.fault_passed n) = true
is_settlement (history.opened n) = true
is_settlement (history.ended n) = true
is_settlement e = false

abbrev pub settles : Entry → Bool
settles (entry.Bounced k) = true
settles (entry.Closed i s q n) = true
settles (entry.Passed i s q) = true
settles (entry.Opened k i) = true
settles (entry.Ended i) = true
settles e = false

-- one entry more, which settles something
abbrev pub Settles : Run → Run → Type 0
Settles r s = (e : Entry) × Appends r s e × (settles e ≡ true)

-- no entry is legal next that settles something
abbrev pub NothingSettles : Giving → Run → Type 0
NothingSettles gives r =
    (e : history.Entry) → is_settlement e ≡ true
    → is_legal_after gives (meant gives r) (past_of r) e ≡ false

-- ---- handing out

abbrev pub hands_out : Ticket → Entry
hands_out t = entry.HandedOut t.job t.activity t.attempt

abbrev pub IsNothingOffered : Giving → Run → Type 0
IsNothingOffered gives r = list_any (is_offered (meant gives r) (past_of r)) (meant gives r).jobs
    ≡ false

-- ---- one job

-- the job of a number
abbrev pub job_at : Meaning → List JobName → ℕ → Option Job
job_at m names k = option_and_then (λ n. find (λ (j : Job). same_job n j.name) m.jobs)
    (slice_get names k)

abbrev pub job_of : Giving → Run → ℕ → Option Job
job_of gives r k = job_at (meant gives r) r.names k

module _ (past : History) where
  -- this try of the job, where it is out
  abbrev pub try_out : ℕ → ℕ → Job → Option Ask
  try_out a t j =
      if is_out past j.name && option_map_or (is_ask a t) (next_ask past j) false
      then next_ask past j else None

  -- a job of which a try is out: every such job has a next one
  abbrev pub out_state : Job → JobState
  out_state j = option_map_or (λ a. state.Out a.activity a.attempt) (next_ask past j) state.Waiting

  -- one that runs, of which nothing is out
  abbrev pub idle_state : Job → JobState
  idle_state j =
      option_map_or (λ a. state.Idle a.activity a.attempt) (next_ask past j)
      (state.Idle (last_activity j.asks) 0)

-- where the job stands
abbrev pub state_after : Meaning → History → Job → JobState
state_after m past j =
    if is_settled past j then state.Settled
    else (if is_out past j.name then out_state past j
    else (if has_open_instance past j then state.Nested
    else (if is_running past j then idle_state past j
    else (if is_ready m past j then state.Ready else state.Waiting))))

-- the try of a ticket, where it is out
abbrev pub try_if_out : Giving → Run → Ticket → Option Ask
try_if_out gives r t =
    option_and_then (try_out (past_of r) t.activity t.attempt)
    (job_of gives r t.job)

abbrev pub state_of : Giving → Run → ℕ → JobState
state_of gives r k = option_map_or (state_after (meant gives r) (past_of r))
    (job_of gives r k) state.Unknown

-- what the task of a ticket asks
pub record IsTask (gives : Giving) (r : Run) (q : Question) : Type 0 where
  pub asked : Ask
  pub out : try_if_out gives r q.ticket ≡ Some asked
  pub service : q.service ≡ asked.service
  pub inputs : q.inputs ≡ asked.inputs
  pub outputs : map (λ o. o.1) q.outputs ≡ asked.outputs

-- the try is out, and this isn't what it asks
pub record IsOther (gives : Giving) (r : Run) (q : Question) : Type 0 where
  pub asked : Ask
  pub out : try_if_out gives r q.ticket ≡ Some asked
  pub other :
      (q.service ≡ asked.service) × (q.inputs ≡ asked.inputs)
      × (map (λ o. o.1) q.outputs ≡ asked.outputs)
      → ⊥

-- ---- what is told

abbrev pub out_now : Giving → Run → ℕ
out_now gives r = histories.out_count (meant gives r) (past_of r)

abbrev pub totals_so_far : Giving → Run → model.Totals
totals_so_far gives r = read_totals (past_of r)
    (filter (is_settled (past_of r)) (meant gives r).jobs)

-- ---- tasks

-- why there is no task: the try isn't out, told before want of memory
abbrev pub IsTaskFault : Giving → Run → Ticket → TaskFault → Type 0
IsTaskFault gives r t (task_fault.NotOut s) = (try_if_out gives r t ≡ None)
    × (s ≡ state_of gives r t.job)
IsTaskFault gives r t task_fault.NoMemory = is_some (try_if_out gives r t) ≡ true
