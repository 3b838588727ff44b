-- One turn of a worker: what it settles, hands out and has accepted.
use Rattle.std.specs.Prelude.{Bool, false, true, ◌-◌, ◌<◌, ◌≡◌, ◌≤◌}
use Rattle.std.proofs.Common.{ap, arith, subst, sym}
use Rattle.tv_gate.specs.Outcomes.{Giving, Outcome}
use Rattle.tv_flow.specs.Formed.{is_formed}
use Rattle.tv_model.specs.Meanings.{meaning}
use Rattle.tv_history.specs.Going.{most_entries}
use Rattle.tv_history.specs.Answers.{Question}
use Rattle.tv_history.specs.Calls.{IsTask, out_now}
use Rattle.tv_history.specs.Refusals.{IsAccepting, accepts}
use Rattle.tv_history.specs.Runs.{Appends, IsLegalRun, Run, meant, past_of}
use Rattle.tv_history.specs.declared.told.Accepted.{Accepted}
use Rattle.tv_history.specs.declared.told.Accepted.TheVariants as accepted
use Rattle.tv_history.specs.declared.ticket.Ticket.{Ticket}
use Rattle.tv_work.specs.Working.{GoesOn, IsFree, IsOnlyOut, IsTurn, progress}
use Rattle.tv_work.proofs.Progress.{progress-bounded}
use Rattle.tv_work.proofs.Runs.{goes_on-one, progress-after, progress-grows, progress-past}
use Rattle.tv_work.proofs.Tickets.{accepted-none}

-- ---- the measure

progress-most : (gives : Giving) (r : Run) → IsLegalRun gives r → progress r ≤ most_entries (meant gives r)
progress-most gives r l = subst (λ n. n ≤ most_entries (meant gives r)) (progress-past r) (progress-bounded gives r.document (past_of r) l.legal)

pub less-to_go : (gives : Giving) (r s : Run) → IsLegalRun gives s → s.document ≡ r.document → progress r < progress s → most_entries (meant gives s) - progress s < most_entries (meant gives r) - progress r
less-to_go gives r s l e p = omega (arith, ap (λ d. most_entries (meaning gives d)) e, p, progress-most gives s l)

pub free-turn : (gives : Giving) (r s : Run) → IsFree gives r → GoesOn r s → IsLegalRun gives s → out_now gives s ≡ 0 → IsFree gives s
free-turn gives r s f g l z = record { formed = subst (λ d. is_formed d ≡ true) (sym g.document) f.formed; legal = l; none_out = z }

-- what was done before a turn counts too
pub turn-from : (gives : Giving) (r s t u : Run) → GoesOn r s → GoesOn s t → IsTurn gives t u true → IsTurn gives r u true
turn-from gives r s t u p q h = (h.0, (omega (arith, progress-grows r s p, progress-grows s t q, h.1)))

-- ---- accepting

accepts-one : (gives : Giving) (s u : Run) (q : Question) (o : Outcome) (a : Accepted) → IsAccepting gives s u q o a → (right : Bool) × Appends s u (accepts q.ticket right)
accepts-one gives s u q o accepted.Again h = (false, h.0.appends)
accepts-one gives s u q o (accepted.Settled good) h = (good, h.0.appends)

pub accepted-task : (gives : Giving) (s u : Run) (q : Question) (o : Outcome) (a : Accepted) → IsAccepting gives s u q o a → IsTask gives s q
accepted-task gives s u q o accepted.Again h = h.0.task
accepted-task gives s u q o (accepted.Settled good) h = h.0.task

module _ (gives : Giving) (s u : Run) (t : Ticket) (q : Question) (o : Outcome) (a : Accepted) (same : q.ticket ≡ t) (h : IsAccepting gives s u q o a) where
  pub its-entry : (right : Bool) × Appends s u (accepts t right)
  its-entry = let r = accepts-one gives s u q o a h in (r.0, subst (λ k. Appends s u (accepts k r.0)) same r.1)

  pub accepted-goes_on : GoesOn s u
  accepted-goes_on = goes_on-one s u (accepts t its-entry.0) its-entry.1

  pub accepted-turn : IsLegalRun gives s → IsOnlyOut gives s t → IsTurn gives s u true
  accepted-turn l only = (accepted-none gives s u t its-entry.0 l only its-entry.1, (omega (arith, progress-after s u (accepts t its-entry.0) its-entry.1)))
