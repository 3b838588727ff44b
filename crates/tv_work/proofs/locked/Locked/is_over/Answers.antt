use Rattle.std.specs.Prelude.{◌≡◌, ◌||◌}
use Rattle.std.proofs.Common.{ap, subst, sym, ◌∙◌}
use Rattle.tv_history.specs.Histories.{is_done}
use Rattle.tv_history.specs.Runs.{past_of}
use Rattle.tv_work.specs.Locking.{Held}
use Rattle.tv_work.proofs.locked.Locked.is_over.Goals as goal

pub returns-else-self : goal.returns-else-self
returns-else-self g c =
    let done = is_done (past_of c.self.inside.board) in
    subst (λ (v : Held). c.is_done.result ≡ (v.stopped || is_done (past_of v.board))) c.self.view_is
    (c.is_done.ensures ∙ ap (λ b. b || done) (sym c.if-self.false))
