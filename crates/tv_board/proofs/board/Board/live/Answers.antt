use Rattle.std.specs.Prelude.{◌≤◌}
use Rattle.std.proofs.Common.{ap, subst, sym, ◌∙◌}
use Rattle.tv_history.specs.Runs.{meant, past_of}
use Rattle.tv_history.specs.Histories.{is_done, kept_results, node_room}
use Rattle.tv_run.specs.Standing.{run_of}
use Rattle.tv_board.proofs.Lived.{results-have_nodes}
use Rattle.tv_board.proofs.Room.{nodes-have_room}
use Rattle.tv_board.proofs.board.Board.live.Goals as goal

-- src/board.rt
pub returns-clause-kept : goal.returns-clause-kept
returns-clause-kept g c =
    let gives = g.V.Services.gives in
    let r = c.self.inside.run in
    subst (λ s. kept_results (meant gives s) (past_of s) ≤ c.live.result) c.self.view_is
    (subst (λ n. kept_results (meant gives (run_of r)) (past_of (run_of r)) ≤ n) (sym c.live.ensures.counted)
    (results-have_nodes gives r c.self.invariant))

pub returns-clause-room : goal.returns-clause-room
returns-clause-room g c =
    let gives = g.V.Services.gives in
    let r = c.self.inside.run in
    subst (λ s. c.live.result ≤ node_room (meant gives s) (past_of s)) c.self.view_is
    (subst (λ n. n ≤ node_room (meant gives (run_of r)) (past_of (run_of r))) (sym c.live.ensures.counted)
    (nodes-have_room gives r c.self.invariant))

pub returns-clause-done : goal.returns-clause-done
returns-clause-done g c done =
    c.live.ensures.done g.V.Services.gives c.self.invariant
    (ap (λ r. is_done (past_of r)) c.self.view_is ∙ done)
