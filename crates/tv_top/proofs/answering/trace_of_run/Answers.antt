use Rattle.std.proofs.Common.{ap, map, ◌∙◌}
use Rattle.tv_lemmas.proofs.Options.{on-err}
use Rattle.tv_check.specs.RunViews.{run_view}
use Rattle.tv_model.specs.Meanings.{meaning}
use Rattle.tv_model.specs.Turns.{ask_order}
use Rattle.tv_report.specs.TraceLines.{trace_text}
use Rattle.tv_top.proofs.Traced.{jobs-in_order}
use Rattle.tv_work.specs.Asked.{call_of}
use Rattle.tv_top.proofs.Questions.{all-begin}
use Rattle.tv_top.proofs.answering.trace_of_run.Goals as goal

pub returns-clause-lines : goal.returns-clause-lines
returns-clause-lines g c =
    let b = c.in_ok-board.board in
    c.in_ok-lines.ensures ∙ ap trace_text (jobs-in_order g.A.Services.Services.gives (run_view c.args.run) b c.in_ok-board.ensures.board.document c.in_ok-board.ensures.board.in_order)

-- all was asked, and the text found no memory
pub returns-in_err-lines-clause-begun : goal.returns-in_err-lines-clause-begun
returns-in_err-lines-clause-begun g c =
    on-err c.from_residual-in_err-lines.result (all-begin (g.A.Asker.calls c.args.asker.now) (g.A.Asker.calls c.run_board.new.asker) (map call_of (ask_order (meaning g.A.Services.Services.gives (run_view c.args.run)))) c.in_ok-board.ensures.asked)
