-- What is known of a board that is found under a lock, and what a worker does to it there.
use Rattle.std.specs.List.{list_all}
use Rattle.std.specs.Prelude.{Bool, List, None, Option, Some, count_by, false, true, ℕ, ◌++◌, ◌+◌, ◌≡◌, ◌⊎◌}
use Rattle.tv_gate.specs.Outcomes.{Giving, Outcome}
use Rattle.tv_history.specs.Answers.{Question}
use Rattle.tv_history.specs.Calls.{IsNothingOffered, IsOther, NothingSettles, settles}
use Rattle.tv_history.specs.Counted.{is_acceptance}
use Rattle.tv_history.specs.Moves.{IsHandingOut}
use Rattle.tv_history.specs.Refusals.{IsNotOut, WasAccepted}
use Rattle.tv_history.specs.Runs.{IsLegalRun, Run}
use Rattle.tv_history.specs.declared.entry.Entry.{Entry}
use Rattle.tv_history.specs.declared.ticket.JobState.{JobState}
use Rattle.tv_history.specs.declared.ticket.Ticket.{Ticket}
use Rattle.tv_history.specs.Alone.{IsFirstPart}
use Rattle.tv_work.specs.Working.{GoesOn}

-- the locked value: its board, how many outcomes its ledger counts, and the stop flag
pub record Held : Type 0 where
  pub board : Run
  pub accepted : ℕ
  pub stopped : Bool

-- ---- what its type keeps

abbrev pub acceptances : Run → ℕ
acceptances r = count_by is_acceptance r.entries

-- a board of this run with a legal history that goes on from that one, since when so many outcomes were accepted
pub record IsSince (gives : Giving) (began : Run) (h : Held) : Type 0 where
  pub goes_on : GoesOn began h.board
  pub legal : IsLegalRun gives h.board
  pub counted : acceptances h.board ≡ acceptances began + h.accepted

-- ---- a turn

-- more entries, which all settle something
pub record OnlySettles (r s : Run) : Type 0 where
  pub document : s.document ≡ r.document
  pub names : IsFirstPart r.names s.names
  pub added : List Entry
  pub entries : s.entries ≡ r.entries ++ added
  pub settling : list_all settles added ≡ true

-- all that could be settled was, and then the first try on offer was handed out, or none was on offer
abbrev pub IsTurned : Giving → Run → Run → Option Ticket → Type 0
IsTurned gives r s None = OnlySettles r s × NothingSettles gives s × IsNothingOffered gives s
IsTurned gives r s (Some t) = (m : Run) × OnlySettles r m × IsHandingOut gives m s t

-- ---- an answer

-- its outcome was accepted, and counted; or nothing happened, since its try isn't out or asks something else
abbrev pub IsTaken : Giving → Held → Held → ℕ → ℕ → Question → Outcome → Bool → Type 0
IsTaken gives old new mine ours q o true =
    ((right : Bool) × WasAccepted gives old.board new.board q o right)
    × (new.accepted ≡ old.accepted + 1) × (new.stopped ≡ old.stopped) × (ours ≡ mine + 1)
IsTaken gives old new mine ours q o false =
    (((s : JobState) × IsNotOut gives old.board q.ticket s) ⊎ IsOther gives old.board q)
    × (new ≡ old) × (ours ≡ mine)
