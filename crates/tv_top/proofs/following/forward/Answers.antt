use Rattle.std.specs.Prelude.{[]}
use Rattle.std.proofs.Common.{subst, sym, ◌∙◌}
use Rattle.std.proofs.lemmas.Result.{err_from_is_err_and}
use Rattle.tv_check.specs.RunViews.{run_view}
use Rattle.tv_top.specs.Answers.{given_at}
use Rattle.tv_top.specs.Asking.{AsksThese, asks_of_run, asks_built}
use Rattle.tv_top.specs.Words.{forward}
use Rattle.tv_top.proofs.Elements.{where-there}
use Rattle.tv_top.proofs.Questions.{all-begin}
use Rattle.tv_top.proofs.following.forward.Goals as goal

-- all was asked, and the text found no memory
pub returns-in_err-label_lines-clause-asked : goal.returns-in_err-label_lines-clause-asked
returns-in_err-label_lines-clause-asked g c =
    let before = g.A.Asker.calls c.args.asker.now in
    let after = g.A.Asker.calls c.forward_of_run.new.asker in
    let d = run_view c.args.run in
    let p =
    err_from_is_err_and c.from_residual-in_err-label_lines.result c.from_residual-in_err-label_lines.ensures.1 in
    rw (p.1, p.2)
    (all-begin before after (asks_built g.A.Services.Services.gives (forward c.args.port.now c.args.place.now) d)
    (subst (AsksThese before after)
    (sym
    (where-there (given_at d c.args.port.now c.args.place.now) (asks_of_run g.A.Services.Services.gives d) []
    (sym c.is_given.ensures ∙ c.if-is_given.true)))
    c.in_ok-leaves.ensures.asked))
