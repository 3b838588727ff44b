use Rattle.std.specs.Prelude.{Err, Ok, Some}
use Rattle.std.proofs.lemmas.Result.{err_from_is_err_and}
use Rattle.tv_top.specs.Answers.{reading_of}
use Rattle.tv_top.specs.Asked.{refusal_status}
use Rattle.tv_top.specs.Asking.{asks_of}
use Rattle.tv_top.specs.CommandViews.{reading_view}
use Rattle.tv_top.specs.Headline.{read_whole, source_told}
use Rattle.tv_top.proofs.Given.{answered-so, refused-so}
use Rattle.tv_top.proofs.Leaving.{read-for}
use Rattle.tv_top.proofs.Questions.{asked-so, unasked}
use Rattle.tv_top.proofs.top.read_and_answered.Goals as goal

pub returns-in_err-run-clause-answer : goal.returns-in_err-run-clause-answer
returns-in_err-run-clause-answer g c =
    let source = source_told g.S.Source c.args.source.now c.run_read.new.source in
    let p = err_from_is_err_and c.from_residual.result c.from_residual.ensures.1 in
    rw (p.1, p.2)
    (refused-so g.A.Services.Services.gives g.A.Services.Services.knows (reading_view c.args.command) read_whole source c.in_err-run.field-0.0
    (read-for g.A.Services.Services.knows source c.args.command (Err c.in_err-run.field-0.0) c.in_err-run.ensures.read))

pub returns-in_err-run-clause-asked : goal.returns-in_err-run-clause-asked
returns-in_err-run-clause-asked g c =
    let source = source_told g.S.Source c.args.source.now c.run_read.new.source in
    let p = err_from_is_err_and c.from_residual.result c.from_residual.ensures.1 in
    let calls = g.A.Asker.calls c.args.asker.now in
    rw (p.1, p.2)
    (unasked read_whole (reading_of g.A.Services.Services.knows)
    (asks_of g.A.Services.Services.gives g.A.Services.Services.knows (Some (reading_view c.args.command))) source calls calls
    (refusal_status c.in_err-run.field-0.0) c.in_err-run.ensures.read.0 c.in_err-run.ensures.element (λ cs e. e))

pub returns-clause-answer : goal.returns-clause-answer
returns-clause-answer g c =
    let source = source_told g.S.Source c.args.source.now c.run_read.new.source in
    answered-so g.A.Services.Services.gives g.A.Services.Services.knows (reading_view c.args.command) read_whole source c.in_ok-run.run'
    (read-for g.A.Services.Services.knows source c.args.command (Ok c.in_ok-run.run') c.in_ok-run.ensures.read)
    c.answer.result c.answer.ensures.answer

pub returns-clause-asked : goal.returns-clause-asked
returns-clause-asked g c =
    let source = source_told g.S.Source c.args.source.now c.run_read.new.source in
    asked-so g.A.Services.Services.gives g.A.Services.Services.knows (reading_view c.args.command) read_whole source c.in_ok-run.run'
    (read-for g.A.Services.Services.knows source c.args.command (Ok c.in_ok-run.run') c.in_ok-run.ensures.read)
    (g.A.Asker.calls c.args.asker.now) (g.A.Asker.calls c.answer.new.asker) c.answer.result c.answer.ensures.asked
