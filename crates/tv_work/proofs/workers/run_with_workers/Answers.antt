use Rattle.tv_work.proofs.Locks.{recalled-goes}
use Rattle.tv_work.proofs.Runs.{goes_on-then}
use Rattle.tv_work.proofs.workers.run_with_workers.Goals as goal

pub returns-clause-goes_on : goal.returns-clause-goes_on
returns-clause-goes_on g c =
    let b = c.in_ok-board.board in
    let r = c.recall_all.new.self in
    let s = c.run_alone.new.board in
    goes_on-then _ b s c.in_ok-board.ensures.goes_on (goes_on-then b r s (recalled-goes b r _ c.in_ok-recall_all.ensures.recalled) c.run_alone.ensures.goes_on)

pub returns-clause-legal : goal.returns-clause-legal
returns-clause-legal g c = c.run_alone.ensures.legal

pub returns-clause-worked_off : goal.returns-clause-worked_off
returns-clause-worked_off g c = c.in_ok-run_alone.ensures.worked_off
