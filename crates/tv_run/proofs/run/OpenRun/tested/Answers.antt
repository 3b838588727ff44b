use Rattle.std.proofs.Common.{◌∙◌, subst, sym}
use Rattle.tv_lemmas.proofs.Options.{not_some-none}
use Rattle.tv_history.specs.Answers.{question}
use Rattle.tv_run.specs.Accepting.{IsAnswerTo}
use Rattle.tv_run.specs.Standing.{run_of}
use Rattle.tv_run.proofs.run.OpenRun.tested.Goals as goal

pub returns-then-not-is_out : goal.returns-then-not-is_out
returns-then-not-is_out c = λ gives s. (
  not_some-none _ (sym (c.is_out.ensures.out gives s) ∙ c.if-not-is_out.true),
  c.state_of.ensures gives s,
)

pub asks-requires : goal.asks-requires
asks-requires c =
    let w = c.requires in (w.0, w.1, sym (c.is_out.ensures.out w.0 w.1) ∙ c.if-not-is_out.false)

pub returns-then-asks : goal.returns-then-asks
returns-then-asks c = λ gives s.
    subst
    (IsAnswerTo gives (run_of c.args.self.now)
    (question c.args.ticket c.args.service.now c.args.inputs.now c.args.outputs.now))
    c.if-asks.true (c.asks.ensures gives s (sym (c.is_out.ensures.out gives s) ∙ c.if-not-is_out.false))

pub returns-else-asks : goal.returns-else-asks
returns-else-asks c = λ gives s.
    subst
    (IsAnswerTo gives (run_of c.args.self.now)
    (question c.args.ticket c.args.service.now c.args.inputs.now c.args.outputs.now))
    c.if-asks.false (c.asks.ensures gives s (sym (c.is_out.ensures.out gives s) ∙ c.if-not-is_out.false))
