use Rattle.std.specs.Prelude.{map}
use Rattle.std.proofs.Common.{ap, ◌∙◌}
use Rattle.tv_lemmas.proofs.Options.{on-err}
use Rattle.tv_check.specs.RunViews.{run_view}
use Rattle.tv_work.specs.Runs.{Run}
use Rattle.tv_lineage.specs.Kept.{records_of}
use Rattle.tv_lineage.specs.Views.{leaf_view}
use Rattle.tv_model.specs.Lineages.{forward}
use Rattle.tv_model.specs.Meanings.{meaning}
use Rattle.tv_model.specs.Turns.{ask_order}
use Rattle.tv_work.specs.Asked.{call_of}
use Rattle.tv_top.proofs.Elements.{forward-so}
use Rattle.tv_top.proofs.Questions.{all-begin}
use Rattle.tv_top.proofs.following.forward_of_run.Goals as goal

pub traced-requires : goal.traced-requires
traced-requires g c = (c.type_bounds.send-V, (c.type_bounds.sync-V, c.in_ok-board.ensures.board.worked_off.done))

pub returns-clause-leaves : goal.returns-clause-leaves
returns-clause-leaves g c =
    let gives = g.V.Services.gives in
    let same = ap (λ (r : Run). r.document) c.in_ok-traced.ensures.traced ∙ c.in_ok-board.ensures.board.document in
    c.in_ok-used_by.ensures
    ∙ forward-so gives c.in_ok-traced.traced.document (records_of c.records.result.now) c.records.ensures c.args.port.now
    c.args.place.now (map leaf_view c.in_ok-leaves.leaves) c.in_ok-leaves.ensures
    ∙ ap (λ d. forward (meaning gives d) c.args.port.now c.args.place.now) same

pub returns-in_err-traced-clause-begun : goal.returns-in_err-traced-clause-begun
returns-in_err-traced-clause-begun g c =
    on-err c.from_residual-in_err-traced.result
    (all-begin (g.A.Asker.calls c.args.asker.now) (g.A.Asker.calls c.run_board.new.asker)
    (map call_of (ask_order (meaning g.V.Services.gives (run_view c.args.run)))) c.in_ok-board.ensures.asked)

pub returns-in_err-leaves-clause-begun : goal.returns-in_err-leaves-clause-begun
returns-in_err-leaves-clause-begun g c =
    on-err c.from_residual-in_err-leaves.result
    (all-begin (g.A.Asker.calls c.args.asker.now) (g.A.Asker.calls c.run_board.new.asker)
    (map call_of (ask_order (meaning g.V.Services.gives (run_view c.args.run)))) c.in_ok-board.ensures.asked)

pub returns-in_err-used_by-clause-begun : goal.returns-in_err-used_by-clause-begun
returns-in_err-used_by-clause-begun g c =
    on-err c.from_residual-in_err-used_by.result
    (all-begin (g.A.Asker.calls c.args.asker.now) (g.A.Asker.calls c.run_board.new.asker)
    (map call_of (ask_order (meaning g.V.Services.gives (run_view c.args.run)))) c.in_ok-board.ensures.asked)
