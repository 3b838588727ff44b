use Rattle.std.proofs.lemmas.Result.{err_from_is_err_and}
use Rattle.tv_check.specs.RunViews.{run_view}
use Rattle.tv_top.specs.Asking.{asks_of_run}
use Rattle.tv_top.specs.Lines.{absent_line}
use Rattle.tv_top.proofs.Questions.{absent-asks, all-begin}
use Rattle.tv_top.proofs.following.lineage.Goals as goal

-- all was asked, and the text found no memory
pub returns-in_err-label_lines-in-Some-clause-asked : goal.returns-in_err-label_lines-in-Some-clause-asked
returns-in_err-label_lines-in-Some-clause-asked g c =
    let p =
    err_from_is_err_and c.from_residual-in_err-label_lines-in-Some.result
    c.from_residual-in_err-label_lines-in-Some.ensures.1 in
    rw (p.1, p.2)
    (all-begin (g.A.Asker.calls c.args.asker.now) (g.A.Asker.calls c.lineage_of_run.new.asker)
    (asks_of_run g.A.Services.Services.gives (run_view c.args.run)) c.in_ok-labels.ensures.asked)

-- all was asked, and there is no such element
pub returns-in-None-clause-asked : goal.returns-in-None-clause-asked
returns-in-None-clause-asked g c =
    absent-asks (g.A.Asker.calls c.args.asker.now) (g.A.Asker.calls c.lineage_of_run.new.asker)
    (asks_of_run g.A.Services.Services.gives (run_view c.args.run)) (absent_line c.args.port.now c.args.place.now)
    c.no_element.result c.no_element.ensures c.in_ok-labels.ensures.asked
