use Rattle.std.proofs.Common.{Some, ◌∙◌, ap, sym}
use Rattle.tv_seats.specs.declared.stage.Stage.TheVariants as stage
use Rattle.tv_run.proofs.States.{state-at}
use Rattle.tv_run.proofs.run.OpenRun.state_at.Goals as goal

pub returns-in-Out : goal.returns-in-Out
returns-in-Out c = λ gives s.
    sym
    (state-at gives c.args.self.now s.0 s.1 c.args.job (stage.Out c.in-Out.activity c.in-Out.attempt)
    (c.requires.stage ∙ ap Some c.in-Out.is)).1

pub returns-in-Idle : goal.returns-in-Idle
returns-in-Idle c = λ gives s.
    sym
    (state-at gives c.args.self.now s.0 s.1 c.args.job (stage.Idle c.in-Idle.activity c.in-Idle.attempt)
    (c.requires.stage ∙ ap Some c.in-Idle.is)).1

pub returns-in-Aside : goal.returns-in-Aside
returns-in-Aside c = λ gives s.
    sym
    (state-at gives c.args.self.now s.0 s.1 c.args.job (stage.Aside c.in-Aside.activity)
    (c.requires.stage ∙ ap Some c.in-Aside.is)).1

pub returns-in-Nested : goal.returns-in-Nested
returns-in-Nested c = λ gives s.
    sym
    (state-at gives c.args.self.now s.0 s.1 c.args.job (stage.Nested c.in-Nested.instance)
    (c.requires.stage ∙ ap Some c.in-Nested.is)).1

pub returns-in-Settled : goal.returns-in-Settled
returns-in-Settled c = λ gives s.
    sym
    (state-at gives c.args.self.now s.0 s.1 c.args.job stage.Settled (c.requires.stage ∙ ap Some c.in-Settled.is)).1
