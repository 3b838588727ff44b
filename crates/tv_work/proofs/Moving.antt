-- One move of a worker after which nothing is left to settle: the first try on offer is handed out, or there is none.
use Rattle.std.specs.Prelude.{◌≡◌, ◌≤◌, None, Option, Some, false}
use Rattle.std.proofs.Common.{ap, arith, subst, sym}
use Rattle.tv_gate.specs.Outcomes.{Giving}
use Rattle.tv_history.specs.Calls.{hands_out, out_now}
use Rattle.tv_history.specs.Runs.{IsLegalRun, Run}
use Rattle.tv_history.specs.declared.ticket.Ticket.{Ticket}
use Rattle.tv_work.specs.Asked.{accepted_tries}
use Rattle.tv_work.specs.ByOne.{AppendsByOne}
use Rattle.tv_work.specs.Working.{GoesOn, IsFree, IsHanded, IsMoving, IsWorkedOff}
use Rattle.tv_work.proofs.Asked.{handed-tries}
use Rattle.tv_work.proofs.ByOne.{handed-stays, stays-same}
use Rattle.tv_work.proofs.Ends.{worked-off}
use Rattle.tv_work.proofs.Runs.{goes_on-none, goes_on-one}
use Rattle.tv_work.proofs.Tickets.{handed-only}

-- where nothing is out, at most one is
pub few-free : (gives : Giving) (r s : Run) → IsFree gives r → s ≡ r → out_now gives s ≤ 1
few-free gives r s f e = omega (arith, f.none_out, ap (out_now gives) e)

module _ (gives : Giving) (r s : Run) (f : IsFree gives r) (l : IsLegalRun gives s) where
  pub moved-goes : (o : Option Ticket) → IsMoving gives r s o false → GoesOn r s
  moved-goes None h = subst (GoesOn r) (sym h.same) (goes_on-none r)
  moved-goes (Some t) h = goes_on-one r s (hands_out t) h.handed

  pub moved-is : (o : Option Ticket) → IsMoving gives r s o false → IsHanded gives s o
  moved-is None h = subst (IsWorkedOff gives) (sym h.same) (worked-off gives r f h.settled h.nothing_offered)
  moved-is (Some t) h = handed-only gives r s t l h.handed f.legal f.none_out

  pub moved-few : (o : Option Ticket) → IsMoving gives r s o false → out_now gives s ≤ 1
  moved-few None h = few-free gives r s f h.same
  moved-few (Some t) h = (handed-only gives r s t l h.handed f.legal f.none_out).few

  pub moved-tries : (o : Option Ticket) → IsMoving gives r s o false → accepted_tries s ≡ accepted_tries r
  moved-tries None h = ap accepted_tries h.same
  moved-tries (Some t) h = handed-tries gives r s t f.legal h.handed

  pub moved-by_one : (o : Option Ticket) → IsMoving gives r s o false → AppendsByOne gives r s
  moved-by_one None h = stays-same gives r s h.same
  moved-by_one (Some t) h = handed-stays gives r s t f h.settled l h.handed
