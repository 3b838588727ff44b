-- What a run gives once it is done is what its document means.
use Rattle.std.specs.List.{zip}
use Rattle.std.specs.Option.{option_map_or}
use Rattle.std.specs.Prelude.{◌≡◌, refl, ℕ, suc, Bool, true, false, if◌then◌else◌, List, [], ◌∷◌, None, Option, Some, is_none, is_some, length, map, option_map, slice_get}
use Rattle.std.proofs.Common.{ap, ap₂, subst, sym, ◌∙◌}
use Rattle.std.proofs.lemmas.Bool.{true≢false}
use Rattle.std.proofs.lemmas.List.{length-map}
use Rattle.std.proofs.lemmas.Option.{none-some}
use Rattle.std.proofs.lemmas.Simd.{map-map}
use Rattle.tv_value.specs.Orders.{named, same_name}
use Rattle.tv_value.specs.Values.{Name}
use Rattle.tv_gate.specs.Outcomes.{Giving}
use Rattle.tv_naming.specs.Numbers.{position}
use Rattle.tv_flow.specs.Flows.{Document, Feed, Flow}
use Rattle.tv_flow.specs.Views.{feed_view, flow_view}
use Rattle.tv_flow.specs.declared.document.Feed as code
use Rattle.tv_strategy.specs.Origins.{Traced, plain}
use Rattle.tv_check.specs.FlowPlanViews.{flow_plan_view}
use Rattle.tv_check.specs.Plans as plans
use Rattle.tv_check.specs.Plans.{flow_plan, flow_plans}
use Rattle.tv_check.specs.RunViews.{run_view}
use Rattle.tv_check.specs.declared.plans.FlowPlan.{FlowPlan}
use Rattle.tv_cell.specs.PieceValues.{piece_value, piece_values}
use Rattle.tv_cell.specs.Soundness.{AreSound}
use Rattle.tv_cell.specs.declared.piece.Piece.{Piece}
use Rattle.tv_model.specs.Instances.{given_of}
use Rattle.tv_model.specs.Made.{feed_value}
use Rattle.tv_model.specs.Meanings.{flow_meaning, instance_meaning, meaning, no_meaning}
use Rattle.tv_history.specs.Histories.{is_done}
use Rattle.tv_history.specs.order.Parts.{made_of}
use Rattle.tv_history.specs.Runs.{meant, past_of}
use Rattle.tv_frame.specs.Views.{level_view}
use Rattle.tv_run.specs.Ended.{AreMainLevels}
use Rattle.tv_run.specs.Standing.{OutsAre, StandsStill, run_of}
use Rattle.tv_run.specs.declared.ended.Ended.{Ended}
use Rattle.tv_run.specs.declared.run.OpenRun.{OpenRun}
use Rattle.tv_run.proofs.OverLemmas.{done-is}
use Rattle.tv_lemmas.proofs.Lists.{of-image}

-- ---- the main flow by its number

-- what stands at the number of a name has that name
pub named-at : {A : Type 0} (n : Name) (xs : List (Name × A)) (y : Name × A) → slice_get xs (position n xs) ≡ Some y
    → named n xs ≡ Some y.1
named-at n [] y e = absurd (none-some y e)
named-at {A = A} n (x ∷ xs) y e = by (same_name n x.0) (named-at n xs y) e
  where
    by : (b : Bool) → (slice_get xs (position n xs) ≡ Some y → named n xs ≡ Some y.1)
        → slice_get (x ∷ xs) (if b then 0 else suc (position n xs)) ≡ Some y → (if b then Some x.1 else named n xs) ≡ Some y.1
    by true r h = ap (option_map (λ (z : Name × A). z.1)) h
    by false r h = r h

-- the plan of the main flow's number is of the main flow
pub main-plan : (d : Document) (n : ℕ) (p : plans.FlowPlan) → n ≡ position d.main d.flows → slice_get (flow_plans d) n ≡ Some p
    → named d.main d.flows ≡ Some p.flow
main-plan d n p e h =
    let r = of-image (λ (f : Name × Flow). flow_plan f.1) d.flows n p h in
    named-at d.main d.flows r.0 (ap (slice_get d.flows) (sym e) ∙ r.1) ∙ ap (λ (q : plans.FlowPlan). Some q.flow) r.2

-- ---- names and values

-- the outputs that are meant have the names of the main flow's
output-names : (gives : Giving) (d : Document) (flow : Flow) → named d.main d.flows ≡ Some flow
    → map (λ o. o.0) (meaning gives d).outputs ≡ map (λ o. o.0) flow.outputs
output-names gives d flow e =
    ap (λ (o : Option Flow). map (λ (x : Name × Traced). x.0)
    (option_map_or (λ fl. instance_meaning gives (flow_meaning gives d.flows 7) [] fl d.inputs) o no_meaning).outputs) e
    ∙ map-map (λ (x : Name × Traced). x.0) (λ (o : Name × Feed).
    (o.0, (feed_value (given_of flow d.inputs) (made_of gives d.flows 7 flow [] d.inputs) o.1).value)) flow.outputs

-- as they stand in the plan
planned-names : (plan : FlowPlan) (ns : List (Name × code.Feed)) → ns ≡ plan.flow.outputs
    → map (λ n. n.0) ns ≡ map (λ o. o.0) (flow_view plan.flow).outputs
planned-names plan ns e =
    ap (map (λ (n : Name × code.Feed). n.0)) e
    ∙ sym (map-map (λ (o : Name × Feed). o.0) (λ (n : Name × code.Feed). (n.0, feed_view n.1)) plan.flow.outputs)

zip-pairs : {A B C : Type 0} (f : A → B) (g : A → C) (xs : List A) → zip (map f xs) (map g xs) ≡ map (λ x. (f x, g x)) xs
zip-pairs f g [] = refl
zip-pairs f g (x ∷ xs) = ap (λ l. (f x, g x) ∷ l) (zip-pairs f g xs)

-- ---- the run

module _ (gives : Giving) (r : OpenRun) (st : StandsStill gives r) where
  abbrev outs : List (Name × Traced)
  outs = (meant gives (run_of r)).outputs

  -- it has outputs where it is done
  pub none-missing : is_done (past_of (run_of r)) ≡ true → r.outs ≡ None → ⊥
  none-missing done none = true≢false (sym done ∙ sym (done-is gives r st) ∙ ap is_some none)

  module _ (ended : Ended) (are : r.outs ≡ Some ended) where
    abbrev ps : List Piece
    ps = ended.outs

    its : OutsAre gives (run_view r.run) (Some ended) (is_none st.1.stand.main.0.view)
    its =
        let x = st.1.stand.main in
        subst (λ o. OutsAre gives (run_view r.run) o (is_none x.0.view)) are (st.1.outs_are x.0 x.1)

    pub sound-outputs : AreSound ps
    sound-outputs = its.1

    output-values : piece_values ps ≡ map (λ o. plain o.1) outs
    output-values = its.2

    pub levels-meant : AreMainLevels gives (run_view r.run) (map level_view ended.levels.items)
    levels-meant = its.3

    module _ (n : ℕ) (plan : FlowPlan) (main : n ≡ position (run_view r.run).main (run_view r.run).flows)
        (there : slice_get (flow_plans (run_view r.run)) n ≡ Some (flow_plan_view plan))
        (ns : List (Name × code.Feed)) (own : ns ≡ plan.flow.outputs) where
      names-are : map (λ n. n.0) ns ≡ map (λ o. o.0) outs
      names-are =
          planned-names plan ns own
          ∙ sym
          (output-names gives (run_view r.run) (flow_view plan.flow)
          (main-plan (run_view r.run) n (flow_plan_view plan) main there))

      pub as-many-outputs : length ps ≡ length ns
      as-many-outputs =
          sym (length-map ps piece_value) ∙ ap length output-values ∙ length-map outs (λ (o : Name × Traced). plain o.1)
          ∙ sym (length-map outs (λ (o : Name × Traced). o.0)) ∙ sym (ap length names-are) ∙ length-map ns
          (λ (n : Name × code.Feed). n.0)

      pub outputs-meant : zip (map (λ n. n.0) ns) (piece_values ps) ≡ map (λ o. (o.0, plain o.1)) outs
      outputs-meant = ap₂ zip names-are output-values ∙ zip-pairs (λ (o : Name × Traced). o.0) (λ o. plain o.1) outs
