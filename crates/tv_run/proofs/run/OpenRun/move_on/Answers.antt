use Rattle.std.proofs.Common.{subst}
use Rattle.std.proofs.lemmas.Result.{IfOk-weaker, on_err_weaker}
use Rattle.tv_lemmas.proofs.Options.{on-err}
use Rattle.tv_gate.specs.Outcomes.{Giving}
use Rattle.tv_run.specs.Settlements.{IsQuietRun, SettlesBusy}
use Rattle.tv_run.specs.Standing.{StandsOpen}
use Rattle.tv_run.specs.Turns.{MovesTo}
use Rattle.tv_run.proofs.Moves.{moves-from}
use Rattle.tv_run.proofs.Settled.{stays-from}
use Rattle.tv_run.proofs.run.OpenRun.move_on.Goals as goal

pub returns-in_err-settle_busy-clause-refused : goal.returns-in_err-settle_busy-clause-refused
returns-in_err-settle_busy-clause-refused c =
    on-err c.from_residual.result (λ gives so. c.in_err-settle_busy.ensures.refused gives so)

pub returns-then-branch-clause-moved : goal.returns-then-branch-clause-moved
returns-then-branch-clause-moved c = λ gives so.
    subst (SettlesBusy gives c.args.self.now c.settle_busy.new.self) c.if-branch.true
    (c.in_ok-settle_busy.ensures.settled gives so)

pub open_or_hand_out-requires : goal.open_or_hand_out-requires
open_or_hand_out-requires c =
    let gives = c.requires.0 in
    let quiet =
    subst (SettlesBusy gives c.args.self.now c.settle_busy.new.self) c.if-branch.false
    (c.in_ok-settle_busy.ensures.settled gives c.requires.1) in
    (gives, quiet.0.stands, quiet.1)

pub returns-clause-moved : goal.returns-clause-moved
returns-clause-moved c =
    let r = c.args.self.now in
    let m = c.settle_busy.new.self in
    let s = c.open_or_hand_out.new.self in
    IfOk-weaker c.open_or_hand_out.result
    (λ o. (gives : Giving) → StandsOpen gives m → IsQuietRun gives m → MovesTo gives m s o)
    (λ o. (gives : Giving) → StandsOpen gives r → MovesTo gives r s o)
    (λ o h gives so.
    let quiet =
    subst (SettlesBusy gives r m) c.if-branch.false (c.in_ok-settle_busy.ensures.settled gives so) in
    moves-from gives r m s o quiet.0 (h gives quiet.0.stands quiet.1))
    c.open_or_hand_out.ensures.moved

pub returns-clause-refused : goal.returns-clause-refused
returns-clause-refused c =
    on_err_weaker c.open_or_hand_out.result
    (λ h gives so.
    let quiet =
    subst (SettlesBusy gives c.args.self.now c.settle_busy.new.self) c.if-branch.false
    (c.in_ok-settle_busy.ensures.settled gives so) in
    stays-from gives c.args.self.now c.settle_busy.new.self c.open_or_hand_out.new.self quiet.0
    (h gives quiet.0.stands))
    c.open_or_hand_out.ensures.refused
