use Rattle.std.proofs.Common.{◌∙◌, ap, sym}
use Rattle.tv_run.specs.Jobs.{is_at}
use Rattle.tv_run.proofs.States.{out-told}
use Rattle.tv_run.proofs.run.OpenRun.is_out.Goals as goal

pub returns-in-Some-clause-out : goal.returns-in-Some-clause-out
returns-in-Some-clause-out c = λ gives s.
    let t = c.args.ticket.now in
    c.is_try.ensures
    ∙ ap (λ o. is_at o t.activity t.attempt) (sym c.in-Some.is ∙ c.stage_of.ensures)
    ∙ out-told gives c.args.self.now s.0 s.1 t

pub returns-in-None-clause-out : goal.returns-in-None-clause-out
returns-in-None-clause-out c = λ gives s.
    let t = c.args.ticket.now in
    ap (λ o. is_at o t.activity t.attempt) (sym c.in-None.is ∙ c.stage_of.ensures)
    ∙ out-told gives c.args.self.now s.0 s.1 t
