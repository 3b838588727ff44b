use Rattle.std.proofs.Common.{ap, option_map, refl, subst, sym, true≢false, ◌∙◌}
use Rattle.std.proofs.lemmas.Result.{err_from_is_err_and}
use Rattle.std.specs.Prelude.{Err, Some}
use Rattle.tv_top.specs.Answers.{answer_of}
use Rattle.tv_top.specs.Asked.{texts_of}
use Rattle.tv_top.specs.Asking.{asks_of}
use Rattle.tv_top.specs.CommandViews.{command_view, is_many, request_view}
use Rattle.tv_top.specs.Headline.{source_told}
use Rattle.tv_top.specs.Lines.{fault_line}
use Rattle.tv_top.specs.Words.{command_of, gen, run}
use Rattle.tv_top.specs.declared.refusal.Refusal.TheVariants.{Plain}
use Rattle.tv_top.specs.declared.status.Status.TheVariants.{Usage}
use Rattle.tv_top.proofs.Leaving.{IsAnswerTo, answered-by, asked-by, nothing-by, short-of-memory}
use Rattle.tv_top.proofs.top.answered_by_workers.Goals as goal

pub returns-in_err-command-clause-answer : goal.returns-in_err-command-clause-answer
returns-in_err-command-clause-answer g c =
    let p = err_from_is_err_and c.from_residual.result c.from_residual.ensures.1 in
    rw (p.1, p.2)
    (short-of-memory (answer_of g.G.Services.Services.gives g.G.Services.Services.knows)
    (source_told g.S.Source c.args.source.now c.args.source.now) (command_of (texts_of c.args.words.now)))

pub returns-in-None-clause-answer : goal.returns-in-None-clause-answer
returns-in-None-clause-answer g c =
    let none = sym (ap (option_map request_view) c.in-None.is) ∙ c.in_ok-command.ensures.command in
    let answer = answer_of g.G.Services.Services.gives g.G.Services.Services.knows in
    let source = source_told g.S.Source c.args.source.now c.args.source.now in
    subst (IsAnswerTo answer source (Err (Plain Usage))) none (λ t same. ((λ bytes e. (fault_line Usage, refl)), refl))

pub returns-in-Some-One-clause-answer : goal.returns-in-Some-One-clause-answer
returns-in-Some-One-clause-answer g c =
    let told = ap (λ r. Some (request_view r)) (sym c.in-Some-One.field-0-is) ∙ sym (ap (option_map request_view) c.in-Some-One.is) ∙ c.in_ok-command.ensures.command in
    answered-by (answer_of g.G.Services.Services.gives g.G.Services.Services.knows)
    (source_told g.S.Source c.args.source.now c.carried_out.new.source) c.carried_out.result
    (Some (command_view c.in-Some-One.command)) (command_of (texts_of c.args.words.now)) told c.carried_out.ensures.answer

pub returns-in-Some-One-clause-unread : goal.returns-in-Some-One-clause-unread
returns-in-Some-One-clause-unread g c =
    let told = ap (λ r. Some (request_view r)) (sym c.in-Some-One.field-0-is) ∙ sym (ap (option_map request_view) c.in-Some-One.is) ∙ c.in_ok-command.ensures.command in
    nothing-by c.args.source.now c.carried_out.new.source (Some (command_view c.in-Some-One.command))
    (command_of (texts_of c.args.words.now)) told c.carried_out.ensures.unread

pub returns-in-Some-One-clause-asked : goal.returns-in-Some-One-clause-asked
returns-in-Some-One-clause-asked g c = λ one.
    let told = ap (λ r. Some (request_view r)) (sym c.in-Some-One.field-0-is) ∙ sym (ap (option_map request_view) c.in-Some-One.is) ∙ c.in_ok-command.ensures.command in
    asked-by (asks_of g.G.Services.Services.gives g.G.Services.Services.knows) (Some (command_view c.in-Some-One.command))
    (command_of (texts_of c.args.words.now)) (source_told g.S.Source c.args.source.now c.carried_out.new.source)
    (g.A.Asker.calls c.args.asker.now) (g.A.Asker.calls c.carried_out.new.asker) c.carried_out.result told
    c.carried_out.ensures.asked

-- one worker is no more than one
pub returns-in-Some-One-clause-unasked : goal.returns-in-Some-One-clause-unasked
returns-in-Some-One-clause-unasked g c = λ many.
    absurd (true≢false (sym many ∙ sym c.in_ok-command.ensures.many ∙ ap is_many c.in-Some-One.is ∙ ap (λ r. is_many (Some r)) c.in-Some-One.field-0-is))

pub returns-in-Some-Run-clause-answer : goal.returns-in-Some-Run-clause-answer
returns-in-Some-Run-clause-answer g c =
    let told = ap (λ r. Some (request_view r)) (sym c.in-Some-Run.field-0-is) ∙ sym (ap (option_map request_view) c.in-Some-Run.is) ∙ c.in_ok-command.ensures.command in
    answered-by (answer_of g.G.Services.Services.gives g.G.Services.Services.knows)
    (source_told g.S.Source c.args.source.now c.read_and_run.new.source) c.read_and_run.result
    (Some run) (command_of (texts_of c.args.words.now)) told c.read_and_run.ensures.answer

pub returns-in-Some-Run-clause-unread : goal.returns-in-Some-Run-clause-unread
returns-in-Some-Run-clause-unread g c =
    let told = ap (λ r. Some (request_view r)) (sym c.in-Some-Run.field-0-is) ∙ sym (ap (option_map request_view) c.in-Some-Run.is) ∙ c.in_ok-command.ensures.command in
    nothing-by c.args.source.now c.read_and_run.new.source (Some run)
    (command_of (texts_of c.args.words.now)) told (λ h. absurd h)

pub returns-in-Some-Run-clause-asked : goal.returns-in-Some-Run-clause-asked
returns-in-Some-Run-clause-asked g c = λ one.
    absurd (true≢false (ap (λ r. is_many (Some r)) (sym c.in-Some-Run.field-0-is) ∙ sym (ap is_many c.in-Some-Run.is) ∙ c.in_ok-command.ensures.many ∙ one))

pub returns-in-Some-Gen-clause-answer : goal.returns-in-Some-Gen-clause-answer
returns-in-Some-Gen-clause-answer g c =
    let told = ap (λ r. Some (request_view r)) (sym c.in-Some-Gen.field-0-is) ∙ sym (ap (option_map request_view) c.in-Some-Gen.is) ∙ c.in_ok-command.ensures.command in
    answered-by (answer_of g.G.Services.Services.gives g.G.Services.Services.knows)
    (source_told g.S.Source c.args.source.now c.args.source.now) c.generated_and_run.result
    (Some (gen c.in-Some-Gen.number)) (command_of (texts_of c.args.words.now)) told c.generated_and_run.ensures.answer

pub returns-in-Some-Gen-clause-asked : goal.returns-in-Some-Gen-clause-asked
returns-in-Some-Gen-clause-asked g c = λ one.
    absurd (true≢false (ap (λ r. is_many (Some r)) (sym c.in-Some-Gen.field-0-is) ∙ sym (ap is_many c.in-Some-Gen.is) ∙ c.in_ok-command.ensures.many ∙ one))
