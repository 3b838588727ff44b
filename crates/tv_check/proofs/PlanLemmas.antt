-- The plans of flows that were measured.
use Rattle.std.proofs.Common.{◌≡◌, ◌∙◌, refl, sym, ap, subst, ℕ, zero, suc, ◌+◌, ◌-◌, List, [], ◌∷◌, ◌++◌, length, map, take, Option, Some, None, arith, get_or, slice_get}
use Rattle.std.proofs.lemmas.List.{map_push, length-map}
use Rattle.std.proofs.lemmas.Option.{get_or_from_slice_get}
use Rattle.tv_lemmas.proofs.Lists.{get-map, same-lists, of-get_map}
use Rattle.tv_value.specs.Values.{Name}
use Rattle.tv_value.specs.Strategies.{port, strategy}
use Rattle.tv_value.specs.Views.{strategies_of}
use Rattle.tv_flow.specs.Flows.{Feed, Step, Flow}
use Rattle.tv_flow.specs.Views.{each, step_input_view}
use Rattle.tv_flow.specs.declared.document.StepInput.{StepInput as CodeInput}
use Rattle.tv_strategy.specs.Measures.{strategy_depth}
use Rattle.tv_model.specs.instance.CheckedDepths.{feed_depth, port_depth, flow_depths, measured_outputs}
use Rattle.tv_model.specs.instance.Ranks.{ranked}
use Rattle.tv_model.specs.instance.Steps.{strategy_of, ports_of}
use Rattle.tv_naming.specs.Numbers.{position}
use Rattle.tv_check.specs.Wirings.{wiring}
use Rattle.tv_check.specs.declared.wiring.Wiring.{Wiring}
use Rattle.tv_check.specs.Plans as plan
use Rattle.tv_check.specs.Planned.{planned, IsPlanned}
use Rattle.tv_check.specs.Tables.{known_steps, IsMeasured, step_level, Agree}
use Rattle.tv_check.proofs.DepthLemmas.{feed-agree}
use Rattle.tv_naming.proofs.FormedParts.{steps-ascend}
use Rattle.tv_check.proofs.Ranked.{all-ranked}

-- the ports of a cross, one by one
pub ports-listed : (is : List (Name × CodeInput)) → strategies_of (map (λ i. port i.0) is) ≡ ports_of (each step_input_view is)
ports-listed [] = refl
ports-listed (i ∷ is) = ap (strategy (port i.0)) (ports-listed is)

-- a step's plan is the one by the table
pub planned-is : (f : Flow) (ls : List (Option ℕ)) → Agree (flow_depths f) (known_steps f.steps ls) → (s : Name × Step) (rank depth : ℕ) → rank ≡ position s.0 (ranked f.steps) → depth ≡ strategy_depth (port_depth f.inputs (flow_depths f) s.1) (strategy_of s.1) → planned f ls rank depth s.1 ≡ plan.step_plan f s
planned-is f ls same (n, s) rank depth r d =
    let whole : (Feed → ℕ) → ℕ → ℕ → plan.StepPlan =
    λ g k v. record { rank = k; tree = strategy_of s; depth = v; delivered = map (λ i. (i.0, g i.1.from)) s.inputs; mismatch = map (λ i. (i.0, g i.1.from - i.1.depth)) s.inputs }
    in
    ap (λ g. whole g rank depth) (sym (feed-agree f.inputs (flow_depths f) (known_steps f.steps ls) same)) ∙ ap (λ k. whole (feed_depth f.inputs (flow_depths f)) k depth) r ∙ ap (whole (feed_depth f.inputs (flow_depths f)) (position n (ranked f.steps))) d

module _ {A B C : Type 0} (v : A → B) (g : C → B) where
  next-mapped : (ys : List C) (j : ℕ) (y : C) → slice_get ys j ≡ Some y → map g (take (suc j) ys) ≡ map g (take j ys) ++ g y ∷ []
  next-mapped [] j y e = cc
  next-mapped (z ∷ ys) zero y e = let p : z ≡ y = cc in ap (λ w. g w ∷ []) p
  next-mapped (z ∷ ys) (suc j) y e = ap (λ bs. g z ∷ bs) (next-mapped ys j y e)

  -- one more thing, seen as the next of the others
  pub push-mapped : (xs zs : List A) (x : A) (ys : List C) (j : ℕ) (y : C) → zs ≡ xs ++ x ∷ [] → map v xs ≡ map g (take j ys) → slice_get ys j ≡ Some y → v x ≡ g y → map v zs ≡ map g (take (j + 1) ys)
  push-mapped xs zs x ys j y z e at h =
      let n : suc j ≡ j + 1 = omega arith in
      ap (map v) z ∙ map_push v xs x ∙ ap (λ bs. bs ++ v x ∷ []) e ∙ ap (λ b. map g (take j ys) ++ b ∷ []) h ∙ sym (next-mapped ys j y at) ∙ ap (λ k. map g (take k ys)) n

module _ (f : Flow) (ls : List (Option ℕ)) (os : List (Name × ℕ)) (rs : List ℕ) (h : IsPlanned f ls os rs) (j : ℕ) (s : Name × Step) (at : slice_get f.steps j ≡ Some s) where
  pub level-at : get_or ls j None ≡ Some (strategy_depth (port_depth f.inputs (flow_depths f) s.1) (strategy_of s.1))
  level-at = get_or_from_slice_get ls j _ None (ap (λ xs. slice_get xs j) h.levels_are ∙ get-map (λ (t : Name × Step). Some (strategy_depth (port_depth f.inputs (flow_depths f) t.1) (strategy_of t.1))) f.steps j s at)

  pub rank-at : get_or rs j 0 ≡ position s.0 (ranked f.steps)
  rank-at = get_or_from_slice_get rs j _ 0 (ap (λ xs. slice_get xs j) h.ranks_are ∙ get-map (λ (t : Name × Step). position t.0 (ranked f.steps)) f.steps j s at)

  pub plan-at : (depth : ℕ) → get_or ls j None ≡ Some depth → planned f ls (get_or rs j 0) depth s.1 ≡ plan.step_plan f s
  plan-at depth e =
      let d : depth ≡ strategy_depth (port_depth f.inputs (flow_depths f) s.1) (strategy_of s.1) = let p : Some depth ≡ Some (strategy_depth (port_depth f.inputs (flow_depths f) s.1) (strategy_of s.1)) = sym e ∙ level-at in cc in
      planned-is f ls h.measured.agree s (get_or rs j 0) depth rank-at d

pub plan-made : (f g : Flow) (ps : List plan.StepPlan) (os : List (Name × ℕ)) (w : Wiring) → g ≡ f → ps ≡ map (plan.step_plan f) f.steps → os ≡ measured_outputs f → w ≡ wiring f → let made : plan.FlowPlan = record { flow = g; steps = ps; outputs = os; wiring = w } in made ≡ plan.flow_plan g
plan-made f g ps os w e p o h =
    let made : Flow → List plan.StepPlan → List (Name × ℕ) → Wiring → plan.FlowPlan = λ x y z u. record { flow = x; steps = y; outputs = z; wiring = u } in
    subst (λ x. made x ps os w ≡ plan.flow_plan x) (sym e) (ap (λ y. made f y os w) p ∙ ap (λ z. made f (map (plan.step_plan f) f.steps) z w) o ∙ ap (made f (map (plan.step_plan f) f.steps) (measured_outputs f)) h)

-- ---- a measured flow all of whose steps have a rank

-- the table has the depth of each step's strategy
pub levels-are : (f : Flow) (ls : List (Option ℕ)) (os : List (Name × ℕ)) → IsMeasured f ls os → length (ranked f.steps) ≡ length f.steps → ls ≡ map (λ s. Some (step_level f s.1)) f.steps
levels-are f ls os m e =
    let level : Name × Step → Option ℕ = λ s. Some (step_level f s.1) in
    same-lists ls (map level f.steps) (m.table.entries ∙ sym (length-map f.steps level)) (λ k y g.
    let at = of-get_map level f.steps k y g in
    let rank = all-ranked f.steps (steps-ascend f m.table.formed) e at.0 (k, at.1.0) in
    m.levels rank.0 k at.0 rank.1 at.1.0 ∙ ap Some (sym at.1.1))

pub planned-from : (f : Flow) (ls : List (Option ℕ)) (os : List (Name × ℕ)) (rs : List ℕ) → IsMeasured f ls os → length (ranked f.steps) ≡ length f.steps → rs ≡ map (λ s. position s.0 (ranked f.steps)) f.steps → IsPlanned f ls os rs
planned-from f ls os rs m e r = record { measured = m; levels_are = levels-are f ls os m e; ranks_are = r }
