-- The traces of a run that is done are those of what its document means.
use Rattle.std.specs.Prelude.{◌≡◌, ℕ, List, Some, is_none, map, slice_get}
use Rattle.std.proofs.Common.{ap, subst, sym, ◌∙◌}
use Rattle.std.proofs.lemmas.Option.{same_Some}
use Rattle.tv_value.specs.Orders.{named}
use Rattle.tv_gate.specs.Outcomes.{Giving}
use Rattle.tv_naming.specs.Numbers.{position}
use Rattle.tv_flow.specs.Flows.{Document, Flow}
use Rattle.tv_flow.specs.Views.{flow_view}
use Rattle.tv_strategy.specs.Origins.{plain}
use Rattle.tv_check.specs.FlowPlanViews.{flow_plan_view}
use Rattle.tv_check.specs.Plans.{flow_plans}
use Rattle.tv_check.specs.RunViews.{run_view}
use Rattle.tv_check.specs.declared.plans.FlowPlan.{FlowPlan}
use Rattle.tv_cell.specs.PieceValues.{piece_values}
use Rattle.tv_cell.specs.declared.piece.Piece.{Piece}
use Rattle.tv_frame.specs.Levels.{AreLevels}
use Rattle.tv_frame.specs.MainSteps.{main_steps}
use Rattle.tv_frame.specs.Views.{level_view}
use Rattle.tv_frame.specs.declared.level.Level.{Level}
use Rattle.tv_model.specs.Meanings.{meaning}
use Rattle.tv_traces.specs.Traced.{AreTraces, IsTraced}
use Rattle.tv_traces.specs.declared.traces.Traces.{Traces}
use Rattle.tv_run.specs.Standing.{OutsAre, StandsStill}
use Rattle.tv_run.specs.Tracing.{IsTracedBy}
use Rattle.tv_run.specs.declared.ended.Ended.{Ended}
use Rattle.tv_run.specs.declared.run.OpenRun.{OpenRun}
use Rattle.tv_run.proofs.OutputLemmas.{main-plan}

module _ (gives : Giving) (r : OpenRun) (st : StandsStill gives r) (n : ℕ) (plan : FlowPlan)
    (main : n ≡ position (run_view r.run).main (run_view r.run).flows)
    (there : slice_get (flow_plans (run_view r.run)) n ≡ Some (flow_plan_view plan)) where
  abbrev d : Document
  d = run_view r.run

  abbrev flow : Flow
  flow = flow_view plan.flow

  its-main : named d.main d.flows ≡ Some flow
  its-main = main-plan d n (flow_plan_view plan) main there

  -- traces are of the flow of the main plan
  pub of-main : (t : Traces) → IsTracedBy gives r t → AreTraces gives d flow t
  of-main t h = subst (λ f. AreTraces gives d f t) (same_Some h.0 flow (sym h.1.flow_is.is_main ∙ its-main)) h.1

  module _ (e : Ended) (are : r.outs ≡ Some e) where
    its : OutsAre gives d (Some e) (is_none st.1.stand.main.0.view)
    its =
        let x = st.1.stand.main in
        subst (λ o. OutsAre gives d o (is_none x.0.view)) are (st.1.outs_are x.0 x.1)

    -- what is kept of the main instance tells all of it
    pub levels-traced : (ls : List Level) → ls ≡ e.levels.items → IsTraced gives d flow (map level_view ls)
    levels-traced ls same = record {
      flow_is = record { formed = st.1.stand.formed; accepted = r.run.kept.0; is_main = its-main };
      levels_are =
          subst (λ l. AreLevels flow (main_steps (meaning gives d)) (map level_view l)) (sym same) (its.3 flow its-main);
    }

    pub outputs-traced : (ps : List Piece) → ps ≡ e.outs → piece_values ps ≡ map (λ o. plain o.1) (meaning gives d).outputs
    outputs-traced ps same = ap piece_values same ∙ its.2
