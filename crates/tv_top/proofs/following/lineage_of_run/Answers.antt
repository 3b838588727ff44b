use Rattle.std.specs.Prelude.{Some, map, option_map}
use Rattle.std.proofs.Common.{ap, sym, ◌∙◌}
use Rattle.tv_lemmas.proofs.Options.{on-err}
use Rattle.tv_check.specs.RunViews.{run_view}
use Rattle.tv_work.specs.Runs.{Run}
use Rattle.tv_lineage.specs.Kept.{records_of}
use Rattle.tv_lineage.specs.Views.{mark_view}
use Rattle.tv_model.specs.Lineages.{lineage_of}
use Rattle.tv_model.specs.Meanings.{meaning}
use Rattle.tv_model.specs.Turns.{ask_order}
use Rattle.tv_work.specs.Asked.{call_of}
use Rattle.tv_top.proofs.Elements.{lineage-so, none-so}
use Rattle.tv_top.proofs.Questions.{all-begin}
use Rattle.tv_top.proofs.following.lineage_of_run.Goals as goal

pub traced-requires : goal.traced-requires
traced-requires g c = (c.type_bounds.send-V, (c.type_bounds.sync-V, c.in_ok-board.ensures.board.worked_off.done))

pub returns-in-Some-clause-labels : goal.returns-in-Some-clause-labels
returns-in-Some-clause-labels g c =
    let gives = g.V.Services.gives in
    let same = ap (λ (r : Run). r.document) c.in_ok-traced.ensures.traced ∙ c.in_ok-board.ensures.board.document in
    ap Some c.in_ok-labels-in-Some.ensures
    ∙ lineage-so gives c.in_ok-traced.traced.document (records_of c.records.result.now) c.records.ensures c.args.port.now
    c.args.place.now (map mark_view c.in-Some.used)
    (sym (ap (option_map (map mark_view)) c.in-Some.is) ∙ c.in_ok-found.ensures)
    ∙ ap (λ d. lineage_of (meaning gives d) c.args.port.now c.args.place.now) same

pub returns-clause-labels : goal.returns-clause-labels
returns-clause-labels g c =
    let gives = g.V.Services.gives in
    let same = ap (λ (r : Run). r.document) c.in_ok-traced.ensures.traced ∙ c.in_ok-board.ensures.board.document in
    none-so gives c.in_ok-traced.traced.document c.args.port.now c.args.place.now
    (sym (ap (option_map (map mark_view)) c.in-None.is) ∙ c.in_ok-found.ensures)
    ∙ ap (λ d. lineage_of (meaning gives d) c.args.port.now c.args.place.now) same

pub returns-in_err-traced-clause-begun : goal.returns-in_err-traced-clause-begun
returns-in_err-traced-clause-begun g c =
    on-err c.from_residual-in_err-traced.result
    (all-begin (g.A.Asker.calls c.args.asker.now) (g.A.Asker.calls c.run_board.new.asker)
    (map call_of (ask_order (meaning g.V.Services.gives (run_view c.args.run)))) c.in_ok-board.ensures.asked)

pub returns-in_err-found-clause-begun : goal.returns-in_err-found-clause-begun
returns-in_err-found-clause-begun g c =
    on-err c.from_residual-in_err-found.result
    (all-begin (g.A.Asker.calls c.args.asker.now) (g.A.Asker.calls c.run_board.new.asker)
    (map call_of (ask_order (meaning g.V.Services.gives (run_view c.args.run)))) c.in_ok-board.ensures.asked)

pub returns-in_err-labels-in-Some-clause-begun : goal.returns-in_err-labels-in-Some-clause-begun
returns-in_err-labels-in-Some-clause-begun g c =
    on-err c.from_residual-in_err-labels-in-Some.result
    (all-begin (g.A.Asker.calls c.args.asker.now) (g.A.Asker.calls c.run_board.new.asker)
    (map call_of (ask_order (meaning g.V.Services.gives (run_view c.args.run)))) c.in_ok-board.ensures.asked)
