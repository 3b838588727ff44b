use Rattle.std.proofs.Common.{ap, option_map, refl, subst, sym, ◌∙◌}
use Rattle.std.proofs.lemmas.Result.{err_from_is_err_and}
use Rattle.std.specs.Prelude.{Err, Some}
use Rattle.tv_top.specs.Answers.{answer_of}
use Rattle.tv_top.specs.Asked.{texts_of}
use Rattle.tv_top.specs.Asking.{asks_of}
use Rattle.tv_top.specs.CommandViews.{command_view, request_view}
use Rattle.tv_top.specs.Headline.{source_told}
use Rattle.tv_top.specs.Lines.{fault_line}
use Rattle.tv_top.specs.Words.{command_of}
use Rattle.tv_top.specs.declared.refusal.Refusal.TheVariants.{Plain}
use Rattle.tv_top.specs.declared.status.Status.TheVariants.{Usage}
use Rattle.tv_top.proofs.Leaving.{IsAnswerTo, answered-by, asked-by, nothing-by, short-of-memory}
use Rattle.tv_top.proofs.top.answered.Goals as goal

pub returns-in_err-request-clause-answer : goal.returns-in_err-request-clause-answer
returns-in_err-request-clause-answer g c =
    let p = err_from_is_err_and c.from_residual.result c.from_residual.ensures.1 in
    rw (p.1, p.2)
    (short-of-memory (answer_of g.A.Services.Services.gives g.A.Services.Services.knows)
    (source_told g.S.Source c.args.source.now c.args.source.now) (command_of (texts_of c.args.words.now)))

pub returns-in-None-clause-answer : goal.returns-in-None-clause-answer
returns-in-None-clause-answer g c =
    let none = sym (ap (option_map request_view) c.in-None.is) ∙ c.in_ok-request.ensures.command in
    let answer = answer_of g.A.Services.Services.gives g.A.Services.Services.knows in
    let source = source_told g.S.Source c.args.source.now c.args.source.now in
    subst (IsAnswerTo answer source (Err (Plain Usage))) none (λ t same. ((λ bytes e. (fault_line Usage, refl)), refl))

pub returns-in-Some-clause-answer : goal.returns-in-Some-clause-answer
returns-in-Some-clause-answer g c =
    let told = ap Some c.alone.ensures ∙ sym (ap (option_map request_view) c.in-Some.is) ∙ c.in_ok-request.ensures.command in
    answered-by (answer_of g.A.Services.Services.gives g.A.Services.Services.knows)
    (source_told g.S.Source c.args.source.now c.carried_out.new.source) c.carried_out.result
    (Some (command_view c.alone.result)) (command_of (texts_of c.args.words.now)) told c.carried_out.ensures.answer

pub returns-in-Some-clause-unread : goal.returns-in-Some-clause-unread
returns-in-Some-clause-unread g c =
    let told = ap Some c.alone.ensures ∙ sym (ap (option_map request_view) c.in-Some.is) ∙ c.in_ok-request.ensures.command in
    nothing-by c.args.source.now c.carried_out.new.source (Some (command_view c.alone.result))
    (command_of (texts_of c.args.words.now)) told c.carried_out.ensures.unread

pub returns-in-Some-clause-asked : goal.returns-in-Some-clause-asked
returns-in-Some-clause-asked g c =
    let told = ap Some c.alone.ensures ∙ sym (ap (option_map request_view) c.in-Some.is) ∙ c.in_ok-request.ensures.command in
    asked-by (asks_of g.A.Services.Services.gives g.A.Services.Services.knows) (Some (command_view c.alone.result))
    (command_of (texts_of c.args.words.now)) (source_told g.S.Source c.args.source.now c.carried_out.new.source)
    (g.A.Asker.calls c.args.asker.now) (g.A.Asker.calls c.carried_out.new.asker) c.carried_out.result told
    c.carried_out.ensures.asked
