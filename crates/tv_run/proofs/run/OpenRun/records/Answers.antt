use Rattle.std.specs.Prelude.{[], map}
use Rattle.std.proofs.Common.{ap, subst, sym, ◌∙◌}
use Rattle.tv_history.specs.Histories.{is_settled_name}
use Rattle.tv_check.specs.RunViews.{run_view}
use Rattle.tv_history.specs.Runs.{meant, past_of}
use Rattle.tv_model.specs.instance.Events.{known_by}
use Rattle.tv_lineage.specs.Kept.{records_of}
use Rattle.tv_lineage.specs.Members.{HaveSame}
use Rattle.tv_traces.specs.Settled.{settled_records}
use Rattle.tv_traces.specs.Sights.{job_view}
use Rattle.tv_run.specs.Standing.{run_of}
use Rattle.tv_run.proofs.Recording.{all-recorded, first-code, life, traced-so_far, view}
use Rattle.tv_run.proofs.TracingLemmas.{levels-traced}
use Rattle.tv_run.proofs.run.OpenRun.records.Goals as goal

pub opened-open-requires : goal.opened-open-requires
opened-open-requires c =
    let r = c.args.self.now in
    let gives = c.requires.0 in
    let st = c.requires.1 in
    let at = first-code gives r st in
    let open' = life gives r st c.in-None.is at.0 at.1 c.main.result c.flow-plan.result.now c.main.ensures.position c.flow-plan.ensures in
    (at.0, open'.itself, at.1, open'.there)

pub returns-in_ok-traces-in-Some : goal.returns-in_ok-traces-in-Some
returns-in_ok-traces-in-Some c = λ gives st.
    let r = c.args.self.now in
    let e = c.in-Some.ended in
    let is = c.in-Some.is in
    let levels =
    levels-traced gives r st c.main.result c.flow-plan.result.now c.main.ensures.position c.flow-plan.ensures e is c.as_slice.result.now c.as_slice.ensures.value
    in
    subst (λ rs. HaveSame (records_of rs) (settled_records (past_of (run_of r)) (meant gives (run_of r)))) (sym c.into_records.ensures)
    (all-recorded gives r st e is (records_of c.in_ok-traces-in-Some.traces.records)
    (c.in_ok-traces-in-Some.ensures gives (run_view r.run) levels).records)

pub returns-in_ok-jobs-in-None : goal.returns-in_ok-jobs-in-None
returns-in_ok-jobs-in-None c = λ gives st.
    let r = c.args.self.now in
    let d = run_view r.run in
    let at = first-code gives r st in
    let n = c.main.result in
    let plan = c.flow-plan.result.now in
    let main = c.main.ensures.position in
    let there = c.flow-plan.ensures in
    let first = c.opened-open.ensures at.0 at.1 in
    c.so_far.ensures (known_by [] (view gives r st c.in-None.is at.0 at.1 n plan main there).0.events) (is_settled_name (meant gives (run_of r)) (past_of (run_of r))) gives d
    (traced-so_far gives r st c.in-None.is at.0 at.1 n plan main there c.opened-open.result.now first.0 first.1 c.levels.result.now c.levels.ensures c.as_slice-in-None.result.now
    (ap (map job_view) c.as_slice-in-None.ensures.value ∙ c.in_ok-jobs-in-None.ensures))
