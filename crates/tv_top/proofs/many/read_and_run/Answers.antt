use Rattle.std.proofs.lemmas.Result.{err_from_is_err_and}
use Rattle.tv_top.specs.Headline.{read_whole, source_told}
use Rattle.tv_top.specs.Words.{run}
use Rattle.tv_top.proofs.Given.{answered-so, refused-so}
use Rattle.tv_top.proofs.many.read_and_run.Goals as goal

pub returns-in_err-run-clause-answer : goal.returns-in_err-run-clause-answer
returns-in_err-run-clause-answer g c =
    let source = source_told g.S.Source c.args.source.now c.run_read.new.source in
    let p = err_from_is_err_and c.from_residual.result c.from_residual.ensures.1 in
    rw (p.1, p.2)
    (refused-so g.G.Services.Services.gives g.G.Services.Services.knows run read_whole source c.in_err-run.field-0.0 c.in_err-run.ensures.read)

pub returns-clause-answer : goal.returns-clause-answer
returns-clause-answer g c =
    let source = source_told g.S.Source c.args.source.now c.run_read.new.source in
    answered-so g.G.Services.Services.gives g.G.Services.Services.knows run read_whole source c.in_ok-run.run' c.in_ok-run.ensures.read
    c.result_or_refusal.result c.result_or_refusal.ensures.answer
