use Rattle.std.proofs.Common.{subst}
use Rattle.tv_work.specs.Working.{IsMoving}
use Rattle.tv_work.proofs.Locks.{settles-more, settles-none, turned}
use Rattle.tv_work.proofs.Runs.{settled-progress}
use Rattle.tv_work.proofs.Turns.{less-to_go}
use Rattle.tv_work.proofs.locked.settle_and_hand_out.Goals as goal

pub settling-init : goal.settling-init
settling-init g c = (settles-none c.args.board.now, c.is_lawful.ensures.legal)

pub settling-smaller : goal.settling-smaller
settling-smaller g c =
    let r = c.settling.board in
    let s = c.move_on.new.board in
    let h = subst (IsMoving g.V.Services.gives r s c.move_on.new.handed) c.if-branch.true c.in_ok-move_on.ensures.moved in
    less-to_go g.V.Services.gives r s c.move_on.ensures.legal h.1.document (settled-progress r s h)

pub settling-preserved : goal.settling-preserved
settling-preserved g c =
    let r = c.settling.board in
    let s = c.move_on.new.board in
    let h = subst (IsMoving g.V.Services.gives r s c.move_on.new.handed) c.if-branch.true c.in_ok-move_on.ensures.moved in
    (settles-more _ r s c.settling.invariant.0 h, c.move_on.ensures.legal)

pub returns-clause-turned : goal.returns-clause-turned
returns-clause-turned g c =
    let r = c.settling.board in
    let s = c.move_on.new.board in
    let o = c.move_on.new.handed in
    turned g.V.Services.gives _ r s o c.settling.invariant.0 (subst (IsMoving g.V.Services.gives r s o) c.if-branch.false c.in_ok-move_on.ensures.moved)
