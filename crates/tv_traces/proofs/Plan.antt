-- What a plan has for the step of a number.
use Rattle.std.specs.Prelude.{◌≡◌, ℕ, zero, suc, ◌<◌, List, [], ◌∷◌, length, map, Some, slice_get}
use Rattle.std.proofs.Common.{sym, ap, ap₂, subst, ◌∙◌, get_or}
use Rattle.std.proofs.lemmas.List.{length-map}
use Rattle.std.proofs.lemmas.Option.{same_Some}
use Rattle.tv_lemmas.proofs.Lists.{get-map_read, get-read}
use Rattle.tv_value.specs.Values.{Name}
use Rattle.tv_value.specs.Views.{strategy_view}
use Rattle.tv_flow.specs.Flows as spec
use Rattle.tv_flow.specs.Views.{flow_view, step_view}
use Rattle.tv_flow.specs.declared.document.Step.{Step}
use Rattle.tv_strategy.specs.Conditions.{number_of}
use Rattle.tv_strategy.specs.Measures.{strategy_depth}
use Rattle.tv_frame.specs.Starts.{starts}
use Rattle.tv_model.specs.instance.Steps.{strategy_of}
use Rattle.tv_check.specs.Ports.{mismatches, ports_of}
use Rattle.tv_check.specs.declared.ports.Port.{Port}
use Rattle.tv_check.specs.declared.wiring.Wiring.{Wiring}
use Rattle.tv_check.specs.Plans as plan
use Rattle.tv_check.specs.PlanViews.{step_plan_view}
use Rattle.tv_check.specs.declared.plans.FlowPlan.{FlowPlan}
use Rattle.tv_check.specs.declared.plans.StepPlan.{StepPlan}
use Rattle.tv_frame.proofs.Plans.{numbers-are}
use Rattle.tv_frame.proofs.TableLemmas.{as-many-code, as-many-steps, step-of, wiring-is}
use Rattle.tv_traces.specs.Walking.{begins_of}

-- the plan of step s
pub record IsPlanOf (f : spec.Flow) (s : Name × spec.Step) (q : StepPlan) : Type 0 where
  pub depth : q.depth ≡ strategy_depth (number_of (mismatches f s.1)) (strategy_of s.1)
  pub begins : map (λ x. x.1) (starts (number_of q.mismatch) 0 (strategy_view q.tree)) ≡ begins_of f s.1

plan-of : (f : spec.Flow) (s : Name × spec.Step) (q : StepPlan) → step_plan_view q ≡ plan.step_plan f s → IsPlanOf f s q
plan-of f (n, s) q e = record {
  depth = ap (λ (r : plan.StepPlan). r.depth) e ∙ ap (λ (g : Name → ℕ). strategy_depth g (strategy_of s)) (sym (numbers-are f s));
  begins = ap₂ (λ ms t. map (λ (x : Name × ℕ). x.1) (starts (number_of ms) 0 t)) (ap (λ (r : plan.StepPlan). r.mismatch) e) (ap (λ (r : plan.StepPlan). r.tree) e);
}

module _ (p : FlowPlan) (k : ℕ) (lt : k < length p.steps) where
  pub in-code : k < length p.flow.steps
  in-code = subst (λ n. k < n) (as-many-code p) lt

  pub in-ports : (xs : List (List Port)) → xs ≡ p.wiring.ports → k < length xs
  in-ports xs e = subst (λ n. k < n) (sym (ap length (e ∙ ap (λ (w : Wiring). w.ports) (wiring-is p)) ∙ length-map (flow_view p.flow).steps (λ s. ports_of (flow_view p.flow) s.1) ∙ sym (as-many-steps p))) lt

  module _ (s : Name × spec.Step) (here : slice_get (flow_view p.flow).steps k ≡ Some s) where
    pub step-plan : (xs : List StepPlan) → xs ≡ p.steps → (q : StepPlan) → q ≡ get_or xs k q → IsPlanOf (flow_view p.flow) s q
    step-plan xs e q is =
        let r = step-of p k q (get-read p.steps k q lt (is ∙ ap (λ l. get_or l k q) e)) in
        plan-of (flow_view p.flow) s q (r.1.1 ∙ ap (plan.step_plan (flow_view p.flow)) (same_Some r.0 s (sym r.1.0 ∙ here)))

    pub step-entry : (xs : List (Name × Step)) → xs ≡ p.flow.steps → (x : Name × Step) → x ≡ get_or xs k x → (x.0, step_view x.1) ≡ s
    step-entry xs e x is = same_Some (x.0, step_view x.1) s (sym (get-map_read (λ (y : Name × Step). (y.0, step_view y.1)) p.flow.steps k x in-code (is ∙ ap (λ l. get_or l k x) e)) ∙ here)

    pub step-ports : (xs : List (List Port)) → xs ≡ p.wiring.ports → (x : List Port) → x ≡ get_or xs k x → x ≡ ports_of (flow_view p.flow) s.1
    step-ports xs e x is =
        same_Some x (ports_of (flow_view p.flow) s.1)
        (sym (get-read xs k x (in-ports xs e) is) ∙ ap (λ l. slice_get l k) (e ∙ ap (λ (w : Wiring). w.ports) (wiring-is p)) ∙ get-map (λ y. ports_of (flow_view p.flow) y.1) (flow_view p.flow).steps k s here)
      where
        get-map : {A B : Type 0} (f : A → B) (xs : List A) (k : ℕ) (x : A) → slice_get xs k ≡ Some x → slice_get (map f xs) k ≡ Some (f x)
        get-map f [] k x e = absurd (Rattle.std.proofs.lemmas.Option.none-some x e)
        get-map f (y ∷ xs) zero x e = ap (λ z. Some (f z)) (same_Some y x e)
        get-map f (y ∷ xs) (suc k) x e = get-map f xs k x e
