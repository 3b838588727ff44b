use Rattle.std.proofs.Common.{ap, inl, inr, subst, sym, ◌∙◌}
use Rattle.std.specs.Prelude.{refl}
use Rattle.tv_history.specs.Calls.{IsOther, state_of, try_if_out}
use Rattle.tv_run.specs.Standing.{run_of}
use Rattle.tv_board.specs.Refusals.{answered, outcome_for}
use Rattle.tv_board.proofs.Answers.{Alike, asked-of, comes-of, open-of, take-stands, take-stays, take-tells}
use Rattle.tv_board.proofs.Calls.{legal-now}
use Rattle.tv_board.proofs.board.Board.accept.Goals as goal
use Rattle.tv_board.proofs.board.Board.accept.Goals.{in-Ok+in-Long-1, in-Ok+in-Short-1, in-Err}

pub accept-requires-clause-asked : goal.accept-requires-clause-asked
accept-requires-clause-asked g c =
    let gives = g.V.Services.gives in
    let r = c.self.inside.run in
    let y = c.args.answer in
    let task = c.in-Asked.ensures gives c.self.invariant in
    (gives, answered y, outcome_for gives (answered y), open-of y r task c.self.invariant, asked-of y r task, comes-of y)

pub returns-in-NotOut-clause-refused : goal.returns-in-NotOut-clause-refused
returns-in-NotOut-clause-refused g c =
    let h = c.in-NotOut.ensures g.V.Services.gives c.self.invariant in
    ((refl, refl), (ap (λ r. try_if_out g.V.Services.gives r c.args.answer.ticket) (sym c.self.view_is) ∙ h.0, h.1 ∙ ap (λ r. state_of g.V.Services.gives r c.args.answer.ticket.job) c.self.view_is))

pub returns-in-NotOut-clause-legal : goal.returns-in-NotOut-clause-legal
returns-in-NotOut-clause-legal g c = legal-now g.V.Services.gives c.self.inside.run c.args.self.now c.self.view_is c.self.invariant

pub returns-in-Other-clause-refused : goal.returns-in-Other-clause-refused
returns-in-Other-clause-refused g c =
    ((refl, refl), subst (λ r. IsOther g.V.Services.gives r (answered c.args.answer)) c.self.view_is (c.in-Other.ensures g.V.Services.gives c.self.invariant))

pub returns-in-Other-clause-legal : goal.returns-in-Other-clause-legal
returns-in-Other-clause-legal g c = legal-now g.V.Services.gives c.self.inside.run c.args.self.now c.self.view_is c.self.invariant

pub invariant_of-self : goal.invariant_of-self
invariant_of-self g c =
    let gives = g.V.Services.gives in
    let r = c.self.inside.run in
    let y = c.args.answer in
    let task = c.in-Asked.ensures gives c.self.invariant in
    take-stands gives r c.accept.new.self c.args.self.now c.self.view_is (open-of y r task c.self.invariant) y.ticket (answered y)
    (outcome_for gives (answered y)) (asked-of y r task) y.judged (comes-of y) c.accept.result c.accept.ensures.accepted c.accept.ensures.refused

pub returns-after-accept-clause-accepted : goal.returns-after-accept-clause-accepted
returns-after-accept-clause-accepted g c =
    let gives = g.V.Services.gives in
    let r = c.self.inside.run in
    let y = c.args.answer in
    let task = c.in-Asked.ensures gives c.self.invariant in
    let same : Alike c.accept.result c.match-accept.result =
    elim c.match-accept.branch [
      | in-Ok+in-Long-1 w ↦ inl (w.in-Ok.accepted, w.in-Ok.is, w.result-is)
      | in-Ok+in-Short-1 w ↦ inl (w.in-Ok.accepted, w.in-Ok.is, w.result-is)
      | in-Err w ↦ inr (w.in-Err.failed, _, w.in-Err.is, w.result-is)
    ] in
    take-tells gives r c.accept.new.self c.args.self.now c.self.view_is (open-of y r task c.self.invariant) y.ticket (answered y)
    (outcome_for gives (answered y)) (asked-of y r task) y.judged (comes-of y) c.accept.result c.match-accept.result same c.accept.ensures.accepted

pub returns-after-accept-clause-unchanged : goal.returns-after-accept-clause-unchanged
returns-after-accept-clause-unchanged g c =
    let gives = g.V.Services.gives in
    let r = c.self.inside.run in
    let y = c.args.answer in
    let task = c.in-Asked.ensures gives c.self.invariant in
    let same : Alike c.accept.result c.match-accept.result =
    elim c.match-accept.branch [
      | in-Ok+in-Long-1 w ↦ inl (w.in-Ok.accepted, w.in-Ok.is, w.result-is)
      | in-Ok+in-Short-1 w ↦ inl (w.in-Ok.accepted, w.in-Ok.is, w.result-is)
      | in-Err w ↦ inr (w.in-Err.failed, _, w.in-Err.is, w.result-is)
    ] in
    take-stays gives r c.accept.new.self c.args.self.now c.self.view_is (open-of y r task c.self.invariant) y.ticket (answered y)
    (outcome_for gives (answered y)) (asked-of y r task) y.judged (comes-of y) c.accept.result c.match-accept.result same c.accept.ensures.refused

pub returns-after-accept-clause-legal : goal.returns-after-accept-clause-legal
returns-after-accept-clause-legal g c =
    legal-now g.V.Services.gives c.accept.new.self (run_of c.accept.new.self) refl (invariant_of-self g c)
