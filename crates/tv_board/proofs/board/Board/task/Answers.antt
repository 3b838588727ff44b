use Rattle.std.proofs.Common.{ap, subst, sym, ◌∙◌}
use Rattle.std.specs.Prelude.{is_some}
use Rattle.tv_history.specs.Calls.{IsTask, state_of, try_if_out}
use Rattle.tv_history.specs.Declarations.{declared_for}
use Rattle.tv_history.specs.declared.ticket.Ticket.{Ticket}
use Rattle.tv_run.specs.Tasks.{asked}
use Rattle.tv_board.proofs.Answers.{none-is}
use Rattle.tv_board.proofs.board.Board.task.Goals as goal

pub returns-then-not-is_out-clause-fault : goal.returns-then-not-is_out-clause-fault
returns-then-not-is_out-clause-fault g c = (
  none-is (try_if_out g.V.Services.gives c.args.self.now c.args.ticket.now) c.is_out.result
      (c.is_out.ensures.out g.V.Services.gives c.self.invariant ∙ ap (λ r. is_some (try_if_out g.V.Services.gives r c.args.ticket.now)) c.self.view_is)
      c.if-not-is_out.true,
  c.state_of.ensures g.V.Services.gives c.self.invariant ∙ ap (λ r. state_of g.V.Services.gives r c.args.ticket.now.job) c.self.view_is,
)

pub task_of-requires : goal.task_of-requires
task_of-requires g c = (
  g.V.Services.gives,
  c.self.invariant,
  sym (c.is_out.ensures.out g.V.Services.gives c.self.invariant) ∙ c.if-not-is_out.false,
)

pub returns-in-Ok-clause-task : goal.returns-in-Ok-clause-task
returns-in-Ok-clause-task g c = (
  subst (λ r. IsTask g.V.Services.gives r (asked c.in-Ok.task.ticket c.in-Ok.task.service c.in-Ok.task.inputs c.in-Ok.task.outputs)) c.self.view_is
      (c.in-Ok.ensures.task g.V.Services.gives c.self.invariant (sym (c.is_out.ensures.out g.V.Services.gives c.self.invariant) ∙ c.if-not-is_out.false)).0,
  c.in-Ok.ensures.ticket,
)

pub returns-in-Ok-clause-outputs : goal.returns-in-Ok-clause-outputs
returns-in-Ok-clause-outputs g c =
    ap (λ (t : Ticket). declared_for g.V.Services.gives c.args.self.now t.job) c.in-Ok.ensures.ticket
    ∙ ap (λ r. declared_for g.V.Services.gives r c.args.ticket.now.job) (sym c.self.view_is)
    ∙ (c.in-Ok.ensures.task g.V.Services.gives c.self.invariant (sym (c.is_out.ensures.out g.V.Services.gives c.self.invariant) ∙ c.if-not-is_out.false)).1

pub returns-in-Err-clause-fault : goal.returns-in-Err-clause-fault
returns-in-Err-clause-fault g c =
    ap (λ r. is_some (try_if_out g.V.Services.gives r c.args.ticket.now)) (sym c.self.view_is)
    ∙ sym (c.is_out.ensures.out g.V.Services.gives c.self.invariant) ∙ c.if-not-is_out.false
