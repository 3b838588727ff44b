use Rattle.std.specs.Prelude.{refl}
use Rattle.std.proofs.Common.{◌∙◌}
use Rattle.tv_lemmas.proofs.Options.{on-err}
use Rattle.tv_value.specs.Views.{values_view}
use Rattle.tv_gate.specs.Views.{outcome_view}
use Rattle.tv_run.specs.Standing.{run_of}
use Rattle.tv_board.proofs.Answers.{accept-stands}
use Rattle.tv_board.proofs.Asking.{asks-none, asks-one, asks-same, found, is-out, its, its-asked, opens, own-stays, own-tells}
use Rattle.tv_board.proofs.Calls.{legal-now}
use Rattle.tv_board.proofs.board.Board.ask_and_accept.Goals as goal

pub asked_inputs-requires-clause-out : goal.asked_inputs-requires-clause-out
asked_inputs-requires-clause-out g c =
    (g.V.Services.gives, c.self.invariant, is-out g.V.Services.gives c.self.inside.run c.args.self.now c.self.view_is c.self.invariant c.args.ticket.now c.requires)

pub asked_service-requires : goal.asked_service-requires
asked_service-requires g c =
    (g.V.Services.gives, c.self.invariant, is-out g.V.Services.gives c.self.inside.run c.args.self.now c.self.view_is c.self.invariant c.args.ticket.now c.requires)

pub accept_own-requires : goal.accept_own-requires
accept_own-requires g c =
    let f = found g.V.Services.gives c.self.inside.run c.args.self.now c.self.view_is c.self.invariant c.args.ticket.now c.requires in
    let p = c.as_str-service.ensures ∙ c.asked_service.ensures g.V.Services.gives f.0 c.self.invariant f.1 in
    let h = c.in_ok-inputs.ensures g.V.Services.gives f.0 c.self.invariant f.1 in
    (g.V.Services.gives, its g.V.Services.gives c.self.inside.run c.args.self.now c.self.view_is c.self.invariant c.args.ticket.now c.requires, opens g.V.Services.gives c.self.inside.run c.args.self.now c.self.view_is c.self.invariant c.args.ticket.now c.requires c.as_str-service.result.now (values_view c.in_ok-inputs.inputs) (outcome_view c.in_ok-outcome.outcome) p h c.in_ok-outcome.ensures.answer, its-asked g.V.Services.gives c.self.inside.run c.args.self.now c.self.view_is c.self.invariant c.args.ticket.now c.requires c.as_str-service.result.now (values_view c.in_ok-inputs.inputs) (outcome_view c.in_ok-outcome.outcome) p h c.in_ok-outcome.ensures.answer)

pub invariant_of-self : goal.invariant_of-self
invariant_of-self g c = c.self.invariant

pub invariant_of-self-2 : goal.invariant_of-self-2
invariant_of-self-2 g c =
    let f = found g.V.Services.gives c.self.inside.run c.args.self.now c.self.view_is c.self.invariant c.args.ticket.now c.requires in
    let p = c.as_str-service.ensures ∙ c.asked_service.ensures g.V.Services.gives f.0 c.self.invariant f.1 in
    let h = c.in_ok-inputs.ensures g.V.Services.gives f.0 c.self.invariant f.1 in
    accept-stands g.V.Services.gives c.self.inside.run c.accept_own.new.self c.args.self.now c.self.view_is c.self.invariant c.args.ticket.now (its g.V.Services.gives c.self.inside.run c.args.self.now c.self.view_is c.self.invariant c.args.ticket.now c.requires) (outcome_view c.in_ok-outcome.outcome) (its-asked g.V.Services.gives c.self.inside.run c.args.self.now c.self.view_is c.self.invariant c.args.ticket.now c.requires c.as_str-service.result.now (values_view c.in_ok-inputs.inputs) (outcome_view c.in_ok-outcome.outcome) p h c.in_ok-outcome.ensures.answer) c.accept_own.result c.accept_own.ensures.accepted c.accept_own.ensures.refused

pub returns-clause-accepted : goal.returns-clause-accepted
returns-clause-accepted g c =
    let f = found g.V.Services.gives c.self.inside.run c.args.self.now c.self.view_is c.self.invariant c.args.ticket.now c.requires in
    let p = c.as_str-service.ensures ∙ c.asked_service.ensures g.V.Services.gives f.0 c.self.invariant f.1 in
    let h = c.in_ok-inputs.ensures g.V.Services.gives f.0 c.self.invariant f.1 in
    own-tells g.V.Services.gives c.self.inside.run c.args.self.now c.self.view_is c.self.invariant c.args.ticket.now c.requires c.as_str-service.result.now (values_view c.in_ok-inputs.inputs) (outcome_view c.in_ok-outcome.outcome) p h c.in_ok-outcome.ensures.answer c.accept_own.new.self (g.A.Asker.calls c.args.asker.now) (g.A.Asker.calls c.call.new.self) c.in_ok-outcome.ensures.told c.accept_own.result c.accept_own.ensures.accepted

pub returns-clause-refused : goal.returns-clause-refused
returns-clause-refused g c =
    let f = found g.V.Services.gives c.self.inside.run c.args.self.now c.self.view_is c.self.invariant c.args.ticket.now c.requires in
    let p = c.as_str-service.ensures ∙ c.asked_service.ensures g.V.Services.gives f.0 c.self.invariant f.1 in
    let h = c.in_ok-inputs.ensures g.V.Services.gives f.0 c.self.invariant f.1 in
    on-err c.accept_own.result (asks-one g.V.Services.gives c.self.inside.run c.args.self.now c.self.view_is c.self.invariant c.args.ticket.now c.requires c.as_str-service.result.now (values_view c.in_ok-inputs.inputs) (outcome_view c.in_ok-outcome.outcome) p h c.in_ok-outcome.ensures.answer (g.A.Asker.calls c.args.asker.now) (g.A.Asker.calls c.call.new.self) c.in_ok-outcome.ensures.told)

pub returns-clause-unchanged : goal.returns-clause-unchanged
returns-clause-unchanged g c =
    let f = found g.V.Services.gives c.self.inside.run c.args.self.now c.self.view_is c.self.invariant c.args.ticket.now c.requires in
    let p = c.as_str-service.ensures ∙ c.asked_service.ensures g.V.Services.gives f.0 c.self.invariant f.1 in
    let h = c.in_ok-inputs.ensures g.V.Services.gives f.0 c.self.invariant f.1 in
    own-stays g.V.Services.gives c.self.inside.run c.args.self.now c.self.view_is c.self.invariant c.args.ticket.now c.requires c.as_str-service.result.now (values_view c.in_ok-inputs.inputs) (outcome_view c.in_ok-outcome.outcome) p h c.in_ok-outcome.ensures.answer c.accept_own.new.self c.accept_own.result c.accept_own.ensures.refused

pub returns-clause-legal : goal.returns-clause-legal
returns-clause-legal g c =
    legal-now g.V.Services.gives c.accept_own.new.self (run_of c.accept_own.new.self) refl (invariant_of-self-2 g c)

pub returns-in_err-outcome-clause-refused : goal.returns-in_err-outcome-clause-refused
returns-in_err-outcome-clause-refused g c =
    on-err c.from_residual-in_err-outcome.result (asks-same g.V.Services.gives c.self.inside.run c.args.self.now c.self.view_is c.self.invariant c.args.ticket.now c.requires (g.A.Asker.calls c.args.asker.now) (g.A.Asker.calls c.call.new.self) c.in_err-outcome.ensures.refused)

pub returns-in_err-inputs-clause-refused : goal.returns-in_err-inputs-clause-refused
returns-in_err-inputs-clause-refused g c =
    on-err c.from_residual.result (asks-none g.V.Services.gives c.self.inside.run c.args.self.now c.self.view_is c.self.invariant c.args.ticket.now c.requires (g.A.Asker.calls c.args.asker.now))

pub returns-in_err-inputs-clause-legal : goal.returns-in_err-inputs-clause-legal
returns-in_err-inputs-clause-legal g c =
    legal-now g.V.Services.gives c.self.inside.run (run_of c.self.inside.run) refl c.self.invariant

pub returns-in_err-outcome-clause-legal : goal.returns-in_err-outcome-clause-legal
returns-in_err-outcome-clause-legal g c =
    legal-now g.V.Services.gives c.self.inside.run (run_of c.self.inside.run) refl c.self.invariant
