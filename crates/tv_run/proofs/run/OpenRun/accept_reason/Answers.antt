use Rattle.std.proofs.Common.{subst, sym}
use Rattle.tv_frame.proofs.FaultingRead.{ok-weaken}
use Rattle.tv_run.specs.Accepting.{IsWrongFor}
use Rattle.tv_run.proofs.run.OpenRun.accept_reason.Goals as goal

pub returns-clause-accepted : goal.returns-clause-accepted
returns-clause-accepted c =
    ok-weaken _ _ c.accept_wrong.result
    (λ a told gives q o so asked wrong.
    told gives q o so asked (subst (IsWrongFor q o) (sym c.in_ok-own.ensures) wrong))
    c.accept_wrong.ensures.accepted
