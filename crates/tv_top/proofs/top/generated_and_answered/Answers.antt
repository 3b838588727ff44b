use Rattle.std.specs.Prelude.{Err, Ok, Some, []}
use Rattle.std.proofs.lemmas.Result.{err_from_is_err_and}
use Rattle.tv_check.specs.Passes.{checked}
use Rattle.tv_model.specs.RowsOfSize.{generated}
use Rattle.tv_top.specs.Asking.{asks_of}
use Rattle.tv_top.specs.Headline.{Leaving, unread}
use Rattle.tv_top.specs.Words.{gen}
use Rattle.tv_top.proofs.Given.{answered-so, generated-so, refused-so}
use Rattle.tv_top.proofs.Questions.{asked-so, unasked-checked}
use Rattle.tv_top.proofs.top.generated_and_answered.Goals as goal

pub returns-in_err-run-clause-answer : goal.returns-in_err-run-clause-answer
returns-in_err-run-clause-answer g c = λ s same.
    let p = err_from_is_err_and c.from_residual.result c.from_residual.ensures.1 in
    rw (p.1, p.2)
    (refused-so g.A.Services.Services.gives g.A.Services.Services.knows (gen c.args.number) unread s c.in_err-run.field-0.0
    (generated-so g.A.Services.Services.knows c.args.number s same (Err c.in_err-run.field-0.0) c.in_err-run.ensures.run))

pub returns-clause-answer : goal.returns-clause-answer
returns-clause-answer g c = λ s same.
    answered-so g.A.Services.Services.gives g.A.Services.Services.knows (gen c.args.number) unread s c.in_ok-run.run'
    (generated-so g.A.Services.Services.knows c.args.number s same (Ok c.in_ok-run.run') c.in_ok-run.ensures.run)
    c.summary.result c.summary.ensures.answer

pub returns-in_err-run-clause-asked : goal.returns-in_err-run-clause-asked
returns-in_err-run-clause-asked g c = λ s.
    let p = err_from_is_err_and c.from_residual.result c.from_residual.ensures.1 in
    let calls = g.A.Asker.calls c.args.asker.now in
    let d = generated c.args.number in
    rw (p.1, p.2)
    (unasked-checked (asks_of g.A.Services.Services.gives g.A.Services.Services.knows (Some (gen c.args.number))) s calls calls
    (λ cs e. e) d (checked g.A.Services.Services.knows d) c.in_err-run.field-0.0 c.in_err-run.ensures.run)

-- what is asked is the same, however the source is left
abbrev anyhow : Leaving
anyhow s bytes = Unit {0}

pub returns-clause-asked : goal.returns-clause-asked
returns-clause-asked g c = λ s.
    asked-so g.A.Services.Services.gives g.A.Services.Services.knows (gen c.args.number) anyhow s c.in_ok-run.run'
    (([], c.in_ok-run.ensures.run), λ bytes e. (c.in_ok-run.ensures.run, tt))
    (g.A.Asker.calls c.args.asker.now) (g.A.Asker.calls c.summary.new.asker) c.summary.result c.summary.ensures.asked
