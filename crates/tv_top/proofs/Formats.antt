-- The check of a document doesn't look at its format.
use Rattle.std.specs.Prelude.{◌≡◌, ◌==◌, ◌+◌, ℕ, zero, suc, List, [], ◌∷◌, ◌++◌, filter, flat_map, length, nat_lt, not, refl, Bool}
use Rattle.std.proofs.Common.{ap, ◌∙◌}
use Rattle.tv_value.specs.Activities.{Activity, nested, service}
use Rattle.tv_value.specs.Values.{Name}
use Rattle.tv_flow.specs.Flows.{Document, Flow, Step, upgraded}
use Rattle.tv_strategy.specs.Measures.{first_difference, strategy_depth}
use Rattle.tv_model.specs.instance.CheckedDepths.{StepDepths, flow_depths, port_depth, step_depths}
use Rattle.tv_model.specs.instance.Nesting.{nesting_limit}
use Rattle.tv_model.specs.instance.Ranks.{ranked}
use Rattle.tv_model.specs.instance.Steps.{strategy_of}
use Rattle.tv_naming.specs.Faulty.{at_flow, at_flow_output, at_input, at_loop, at_main, at_output, at_step, first_of, no_such_flow, plainly, too_deep, with_numbers}
use Rattle.tv_naming.specs.Inputs.{given_complaints}
use Rattle.tv_naming.specs.Naming.{activity_complaints, after_complaints, complain_if, flow_naming, has_name, input_complaints, naming_complaints, numbered, output_complaints, step_naming, strategy_complaints}
use Rattle.tv_naming.specs.Naming as naming
use Rattle.tv_check.specs.Cycles.{cycle_complaints, flows_in, link_cycle_complaints, nesting, nesting_complaints}
use Rattle.tv_check.specs.Depthwise.{by_nesting, depth_complaints, fed_complaints, flow_complaints, loop_complaints, nested_complaints, node_complaints, past_limit, step_complaints, steps_complaints}
use Rattle.tv_check.specs.Passes.{checked}
use Rattle.tv_naming.specs.graphs.Graphs.{greatest}
use Rattle.tv_naming.proofs.Lists.{filter-same, map-same}

flat-same : {A B : Type 0} (f g : A → List B) → ((x : A) → f x ≡ g x) → (xs : List A) → flat_map f xs ≡ flat_map g xs
flat-same f g h [] = refl
flat-same f g h (x ∷ xs) = ap (λ ys. ys ++ flat_map f xs) (h x) ∙ ap (λ ys. g x ++ ys) (flat-same f g h xs)

module _ (d : Document) where
  abbrev second : Document
  second = upgraded d

  -- ---- names

  module _ (knows : Name → Bool) where
    activity-same : (f n : Name) (a : ℕ × Activity) → activity_complaints knows second f n a ≡ activity_complaints knows d f n a
    activity-same f n (k, service s) = refl
    activity-same f n (k, nested g) = refl

    step-naming-same : (f : Name) (flow : Flow) (s : Name × Step) → step_naming knows second f flow s ≡ step_naming knows d f flow s
    step-naming-same f flow s =
        ap (λ cs. flat_map (input_complaints f flow s.0) s.1.inputs ++ strategy_complaints f s ++ cs
        ++ naming.loop_complaints knows d f s ++ flat_map (after_complaints f flow s.0) (numbered 0 s.1.after))
        (flat-same (activity_complaints knows second f s.0) (activity_complaints knows d f s.0) (activity-same f s.0) (numbered 0 s.1.activities))

    flow-naming-same : (f : Name × Flow) → flow_naming knows second f ≡ flow_naming knows d f
    flow-naming-same f =
        ap (λ cs. cs ++ flat_map (output_complaints f.0 f.1) f.1.outputs)
        (flat-same (step_naming knows second f.0 f.1) (step_naming knows d f.0 f.1) (step-naming-same f.0 f.1) f.1.steps)

    naming-same : naming_complaints knows second ≡ naming_complaints knows d
    naming-same = ap (λ cs. complain_if (not (has_name d.flows d.main)) (plainly no_such_flow at_main) ++ cs)
        (flat-same (flow_naming knows second) (flow_naming knows d) flow-naming-same d.flows)

  -- ---- nesting

  nesting-same : (levels : ℕ) (f : Name) → nesting second levels f ≡ nesting d levels f
  nesting-same zero f = refl
  nesting-same (suc levels) f = ap (λ ns. suc (greatest ns)) (map-same (nesting second levels) (nesting d levels) (flows_in d f) (nesting-same levels))

  deep-same : nesting_complaints second ≡ nesting_complaints d
  deep-same =
      let told = λ (f : Name × Flow) (n : ℕ). complain_if (nat_lt nesting_limit n) (with_numbers too_deep (at_flow f.0) n nesting_limit) in
      flat-same (λ f. told f (nesting second (length d.flows) f.0)) (λ f. told f (nesting d (length d.flows) f.0))
      (λ f. ap (told f) (nesting-same (length d.flows) f.0)) d.flows

  -- ---- depths

  module _ (f : Name) (given : List (Name × ℕ)) where
    nested-same : (n : Name) (s : Step) (a : ℕ × Activity) → nested_complaints second f n s a ≡ nested_complaints d f n s a
    nested-same n s (k, service x) = refl
    nested-same n s (k, nested g) = refl

    step-same : (so_far : List StepDepths) (s : Name × Step) → step_complaints second f given so_far s ≡ step_complaints d f given so_far s
    step-same so_far s =
        let mismatch = port_depth given so_far s.1 in
        let levels = strategy_depth mismatch (strategy_of s.1) in
        ap (λ cs. flat_map (λ i. fed_complaints given so_far (at_input f s.0 i.0) i.1.from) s.1.inputs
        ++ node_complaints (at_step f s.0) (first_difference mismatch (strategy_of s.1))
        ++ flat_map (λ o. past_limit (at_output f s.0 o.0) (o.1 + levels)) s.1.outputs
        ++ cs ++ loop_complaints (at_loop f s.0) s.1)
        (flat-same (nested_complaints second f s.0 s.1) (nested_complaints d f s.0 s.1) (nested-same s.0 s.1) (numbered 0 s.1.activities))

    steps-same : (so_far : List StepDepths) (ss : List (Name × Step)) → steps_complaints second f given so_far ss ≡ steps_complaints d f given so_far ss
    steps-same so_far [] = refl
    steps-same so_far (s ∷ ss) =
        let later = step_depths given so_far s ∷ so_far in
        ap (λ cs. cs ++ steps_complaints second f given later ss) (step-same so_far s)
        ∙ ap (λ cs. step_complaints d f given so_far s ++ cs) (steps-same later ss)

  flow-same : (f : Name × Flow) → flow_complaints second f ≡ flow_complaints d f
  flow-same f =
      ap (λ cs. cs ++ flat_map (λ o. fed_complaints f.1.inputs (flow_depths f.1) (at_flow_output f.0 o.0) o.1) f.1.outputs)
      (steps-same f.0 f.1.inputs [] (ranked f.1.steps))

  order-same : (ns : List ℕ) → by_nesting second ns ≡ by_nesting d ns
  order-same ns =
      flat-same (λ n. filter (λ f. nesting second (length d.flows) f.0 == n) d.flows) (λ n. filter (λ f. nesting d (length d.flows) f.0 == n) d.flows)
      (λ n. filter-same (λ (f : Name × Flow). nesting second (length d.flows) f.0 == n) (λ (f : Name × Flow). nesting d (length d.flows) f.0 == n) d.flows
      (λ f. ap (λ m. m == n) (nesting-same (length d.flows) f.0))) ns

  depth-same : depth_complaints second ≡ depth_complaints d
  depth-same =
      let levels = 1 ∷ 2 ∷ 3 ∷ 4 ∷ 5 ∷ 6 ∷ 7 ∷ 8 ∷ [] in
      ap (flat_map (flow_complaints second)) (order-same levels) ∙ flat-same (flow_complaints second) (flow_complaints d) flow-same (by_nesting d levels)

  -- ---- all of them

  pub checked-same : (knows : Name → Bool) → checked knows second ≡ checked knows d
  checked-same knows =
      let rest = link_cycle_complaints d in
      ap first_of
      (ap (λ cs. cs ++ cycle_complaints d ++ nesting_complaints second ++ rest ++ depth_complaints second ++ given_complaints d) (naming-same knows)
      ∙ ap (λ cs. naming_complaints knows d ++ cycle_complaints d ++ cs ++ rest ++ depth_complaints second ++ given_complaints d) deep-same
      ∙ ap (λ cs. naming_complaints knows d ++ cycle_complaints d ++ nesting_complaints d ++ rest ++ cs ++ given_complaints d) depth-same)
