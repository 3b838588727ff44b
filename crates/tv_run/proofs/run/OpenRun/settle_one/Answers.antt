use Rattle.std.proofs.Common.{subst}
use Rattle.std.proofs.lemmas.Result.{IfOk-weaker, on_err_weaker}
use Rattle.tv_lemmas.proofs.Options.{on-err}
use Rattle.tv_gate.specs.Outcomes.{Giving}
use Rattle.tv_run.specs.Settlements.{IsQuietRun, SettlesBusy}
use Rattle.tv_run.specs.Standing.{StandsOpen}
use Rattle.tv_run.specs.Turns.{SettlesTo}
use Rattle.tv_run.proofs.Settled.{settles-from, stays-from}
use Rattle.tv_run.proofs.run.OpenRun.settle_one.Goals as goal

pub returns-in_err-settle_busy-clause-refused : goal.returns-in_err-settle_busy-clause-refused
returns-in_err-settle_busy-clause-refused c =
    on-err c.from_residual.result (λ gives so. c.in_err-settle_busy.ensures.refused gives so)

pub returns-then-branch-clause-settled : goal.returns-then-branch-clause-settled
returns-then-branch-clause-settled c = λ gives so.
    subst (SettlesBusy gives c.args.self.now c.settle_busy.new.self) c.if-branch.true
    (c.in_ok-settle_busy.ensures.settled gives so)

pub open_first-requires : goal.open_first-requires
open_first-requires c =
    let gives = c.requires.0 in
    let quiet =
    subst (SettlesBusy gives c.args.self.now c.settle_busy.new.self) c.if-branch.false
    (c.in_ok-settle_busy.ensures.settled gives c.requires.1) in
    (gives, quiet.0.stands, quiet.1)

pub returns-clause-settled : goal.returns-clause-settled
returns-clause-settled c =
    let r = c.args.self.now in
    let m = c.settle_busy.new.self in
    let s = c.open_first.new.self in
    IfOk-weaker c.open_first.result
    (λ b. (gives : Giving) → StandsOpen gives m → IsQuietRun gives m → SettlesTo gives m s b)
    (λ b. (gives : Giving) → StandsOpen gives r → SettlesTo gives r s b)
    (λ b h gives so.
    let quiet =
    subst (SettlesBusy gives r m) c.if-branch.false (c.in_ok-settle_busy.ensures.settled gives so) in
    settles-from gives r m s b quiet.0 (h gives quiet.0.stands quiet.1))
    c.open_first.ensures.settled

pub returns-clause-refused : goal.returns-clause-refused
returns-clause-refused c =
    on_err_weaker c.open_first.result
    (λ h gives so.
    let quiet =
    subst (SettlesBusy gives c.args.self.now c.settle_busy.new.self) c.if-branch.false
    (c.in_ok-settle_busy.ensures.settled gives so) in
    stays-from gives c.args.self.now c.settle_busy.new.self c.open_first.new.self quiet.0 (h gives quiet.0.stands))
    c.open_first.ensures.refused
