use Rattle.std.specs.Prelude.{Err, Ok}
use Rattle.std.proofs.Common.{ap, sym}
use Rattle.std.proofs.lemmas.Result.{err_from_is_err_and}
use Rattle.tv_top.specs.Headline.{unread}
use Rattle.tv_top.specs.Words.{gen}
use Rattle.tv_top.proofs.Given.{answered-so, generated-so, refused-so}
use Rattle.tv_top.proofs.many.generated_and_run.Goals as goal

pub returns-in_err-run-clause-answer : goal.returns-in_err-run-clause-answer
returns-in_err-run-clause-answer g c = λ s same.
    let p = err_from_is_err_and c.from_residual.result c.from_residual.ensures.1 in
    rw (p.1, p.2)
    (refused-so g.G.Services.Services.gives g.G.Services.Services.knows (gen c.args.number) unread s c.in_err-run.field-0.0
    (generated-so g.G.Services.Services.knows c.args.number s same (Err c.in_err-run.field-0.0) c.in_err-run.ensures.run))

pub returns-clause-answer : goal.returns-clause-answer
returns-clause-answer g c = λ s same.
    answered-so g.G.Services.Services.gives g.G.Services.Services.knows (gen c.args.number) unread s c.in_ok-run.run'
    (generated-so g.G.Services.Services.knows c.args.number s same (Ok c.in_ok-run.run') c.in_ok-run.ensures.run)
    (Ok c.in_ok-text.text) (ap Ok (sym c.in_ok-text.ensures))
