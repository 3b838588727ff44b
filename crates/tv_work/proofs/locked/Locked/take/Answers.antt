use Rattle.std.specs.Prelude.{refl, ◌+◌, ◌⊎◌}
use Rattle.std.proofs.Common.{ap, inl, subst, ◌∙◌}
use Rattle.tv_history.specs.Calls.{IsOther}
use Rattle.tv_history.specs.Refusals.{IsNotOut}
use Rattle.tv_history.specs.declared.ticket.JobState.{JobState}
use Rattle.tv_board.specs.Refusals.{IsRefused, answered, outcome_for}
use Rattle.tv_work.specs.Locking.{Held}
use Rattle.tv_work.proofs.Locks.{since-accepted}
use Rattle.tv_work.proofs.locked.Locked.take.Goals as goal

pub invariant_of-self : goal.invariant_of-self
invariant_of-self g c =
    since-accepted g.V.Services.gives _ c.self.inside.board c.accept.new.self c.self.inside.accepted.total _ c.self.inside.stopped (answered c.args.answer) (outcome_for g.V.Services.gives (answered c.args.answer)) c.in-Ok.field-0 c.self.invariant c.in-Ok.ensures.accepted c.in-Ok.ensures.legal (c.add.ensures.total ∙ ap (λ n. n + 1) c.audit.ensures.total)

pub returns-in-Err-NotOut-clause-taken : goal.returns-in-Err-NotOut-clause-taken
returns-in-Err-NotOut-clause-taken g c =
    let gives = g.V.Services.gives in
    let k = c.in-Err-NotOut in
    let h = subst (λ x. IsRefused gives c.self.inside.board (answered c.args.answer) c.args.answer.judged x) k.field-0-is k.ensures.refused in (
      subst (λ (v : Held). ((s : JobState) × IsNotOut gives v.board c.args.answer.ticket s) ⊎ IsOther gives v.board (answered c.args.answer)) c.self.view_is (inl (k.field-0-1, h.1)),
      ap (λ b. record { board = b; accepted = c.self.inside.accepted.total; stopped = c.self.inside.stopped }) k.ensures.unchanged ∙ c.self.view_is,
      refl,
    )
