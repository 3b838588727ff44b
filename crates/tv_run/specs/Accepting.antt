-- How an outcome of a try that is out is accepted: its job goes on, or is settled with what it gives.
use Rattle.tv_seats.specs.Stages.{is_out}
use Rattle.tv_instances.specs.FramingViews.{View}
use Rattle.tv_run.specs.Changes.{ChangesTo, IsOpenHere}
use Rattle.std.specs.Prelude.{Bool, Err, List, Some, map, option_map, suc, true, false, ℕ, ◌∷◌, ◌≡◌, ◌+◌, ◌<◌, [], length, slice_get, vec_capacity, ◌≤◌}
use Rattle.tv_value.specs.Values.{Text, Value}
use Rattle.tv_gate.specs.Outcomes.{Giving, Outcome}
use Rattle.tv_dispatch.specs.Jobs.{judged}
use Rattle.tv_dispatch.specs.Plans.{next_after}
use Rattle.tv_dispatch.specs.declared.plan.Next.{Next}
use Rattle.tv_dispatch.specs.declared.plan.Next.TheVariants as next
use Rattle.tv_model.specs.Jobs.{Job}
use Rattle.tv_history.specs.Entries.{accepted}
use Rattle.tv_history.specs.Histories.{is_legal_after, is_settled}
use Rattle.tv_seats.specs.Seats.{Seat, back_room, room_at}
use Rattle.tv_seats.specs.declared.stage.Stage.TheVariants as stage
use Rattle.tv_history.specs.Answers.{Question}
use Rattle.tv_instances.specs.Forest.{Instance, Instances}
use Rattle.tv_run.specs.Jobs.{step_of}
use Rattle.tv_run.specs.Walking.{IsNumber}
use Rattle.tv_history.specs.Runs.{Run, meant, past_of}
use Rattle.tv_history.specs.Calls.{IsOther, IsTask}
use Rattle.tv_run.specs.Looks.{tries_of}
use Rattle.tv_run.specs.Standing.{Stands, run_of, names_of}
use Rattle.tv_run.specs.Turns.{GoesTo}
use Rattle.tv_history.specs.declared.entry.Entry.{Entry}
use Rattle.tv_instances.specs.declared.open.Open.{Open}
use Rattle.tv_run.specs.declared.instances.Instance as code
use Rattle.tv_run.specs.declared.run.OpenRun.{OpenRun}
use Rattle.tv_history.specs.declared.ticket.Ticket.{Ticket}

-- it is what the try asks, or it isn't
abbrev pub IsAnswerTo : Giving → Run → Question → Bool → Type 0
IsAnswerTo gives r q true = IsTask gives r q
IsAnswerTo gives r q false = IsOther gives r q

-- the outcome isn't right, for this reason
abbrev pub IsWrongFor : Question → Outcome → Text → Type 0
IsWrongFor q o why = judged (map (λ p. p.1) q.outputs) o ≡ Err why

-- what the plan of the job's step says after this try came out wrong
abbrev pub is_next_after : OpenRun → Ticket → Next → Type 0
is_next_after r t x = option_map (λ s. next_after (tries_of s) t.activity t.attempt false)
    (step_of r t.job) ≡ Some x

-- then it goes on with this try
abbrev pub GoesOnWith : OpenRun → Ticket → ℕ → ℕ → Type 0
GoesOnWith r t a u = is_next_after r t (next.Ask a u)

-- then the flow of this activity is next
abbrev pub NestsThen : OpenRun → Ticket → ℕ → Type 0
NestsThen r t a = is_next_after r t (next.Nest a)

-- then no try is left
abbrev pub FailsThen : OpenRun → Ticket → Type 0
FailsThen r t = is_next_after r t next.Failed

-- the try of the ticket is out, and with its outcome, which is right or not, its job is settled and gives these
pub record SettlesWith (gives : Giving) (r : OpenRun) (t : Ticket) (right : Bool)
    (vs : List Value) : Type 0 where
  pub instances : Instances
  pub stands : Stands gives r instances
  pub outer : ℕ
  pub number : ℕ
  pub instance : Instance
  pub seat : Seat
  pub job : Job
  pub is_number : IsNumber gives r instances t.job outer number instance seat job
  pub out : seat.stage ≡ stage.Out t.activity t.attempt
  pub legal :
      is_legal_after gives (meant gives (run_of r)) (past_of (run_of r))
      (accepted job.name t.activity t.attempt right) ≡ true
  pub settled : is_settled (accepted job.name t.activity t.attempt right ∷ past_of (run_of r)) job
      ≡ true
  pub result : vs ≡ job.result

-- the run with another number of failed jobs
abbrev pub with_failed : ℕ → OpenRun → OpenRun
with_failed n r = record r { failed = n }

-- one entry more, with which its job is settled: it stands so with one failed job more, where the outcome wasn't right
abbrev pub GoesToBut : Giving → OpenRun → OpenRun → Entry → Bool → Type 0
GoesToBut gives r s e true = GoesTo gives r s e × (s.failed ≡ r.failed)
GoesToBut gives r s e false = GoesTo gives r (with_failed (suc r.failed) s) e
    × (s.failed ≡ r.failed)

-- ---- seats that move while nothing is told

-- s fits these, with the same names, and what was done is the same
pub record MovesTo (r s : OpenRun) (ys : Instances) : Type 0 where
  pub changes : ChangesTo r s ys
  pub names : names_of s ≡ names_of r

-- seat n of the open instance is s, and a try of it is out
pub record IsOutHere (r : OpenRun) (xs : Instances) (i : ℕ) (x : Instance) (v : View) (n : ℕ)
    (s : Seat) : Type 0 where
  pub here : IsOpenHere r xs i x v
  pub seat : slice_get x.seats n ≡ Some s
  pub out : is_out s.stage ≡ true

-- there is room for one more idle job of the step
pub record HasBackRoom (r : OpenRun) (i step : ℕ) : Type 0 where
  pub each :
      (c : code.Instance) (o : Open) → slice_get r.instances.items i ≡ Some c
      → c.open.items ≡ o ∷ []
      → 0 < back_room o.seats.back_rooms step

-- or for one that is put aside
pub record HasAsideRoom (r : OpenRun) (i step : ℕ) : Type 0 where
  pub each :
      (c : code.Instance) (o : Open) → slice_get r.instances.items i ≡ Some c
      → c.open.items ≡ o ∷ []
      → 0 < room_at o.seats.aside_rooms step

-- for an entry, and for one more due job
pub record HasEntryRoom (r : OpenRun) : Type 0 where
  pub entries : length r.entries.items + r.due + 1 + 1 ≤ vec_capacity r.entries
