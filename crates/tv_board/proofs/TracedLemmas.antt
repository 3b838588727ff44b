-- What a run that is done tells of a board: its run is x.
use Rattle.std.specs.Prelude.{◌≡◌, IfOk, Result, true}
use Rattle.std.proofs.Common.{subst}
use Rattle.tv_gate.specs.Outcomes.{Giving}
use Rattle.tv_lineage.specs.Kept.{records_of}
use Rattle.tv_lineage.specs.Members.{HaveSame}
use Rattle.tv_model.specs.records.Recorded.{main_records}
use Rattle.tv_history.specs.Histories.{is_done}
use Rattle.tv_history.specs.Runs.{Run, meant, past_of}
use Rattle.tv_traces.specs.declared.traces.Traces.{Traces}
use Rattle.tv_run.specs.Standing.{StandsStill, run_of}
use Rattle.tv_run.specs.Tracing.{IsTracedBy, StandsTraced}
use Rattle.tv_run.specs.declared.run.OpenRun.{OpenRun}

module _ (gives : Giving) (r : OpenRun) (x : Run) (e : run_of r ≡ x) (t : Traces) (h : StandsTraced gives r t) where
  pub is-over : is_done (past_of x) ≡ true
  is-over = subst (λ y. is_done (past_of y) ≡ true) e h.1

  pub records-are : HaveSame (records_of t.records) (main_records (meant gives x))
  records-are = subst (λ y. HaveSame (records_of t.records) (main_records (meant gives y))) e h.2.1.records

  -- a fact of the meaning that is told of the run
  pub told : {A E : Type 0} (P : Giving → Run → A → Type 0) (o : Result A E)
      → ((gs : Giving) → StandsStill gs r → is_done (past_of (run_of r)) ≡ true → IsTracedBy gs r t → IfOk o (P gs (run_of r)))
      → IfOk o (P gives x)
  told P o f = subst (λ y. IfOk o (P gives y)) e (f gives h.0 h.1 h.2)
