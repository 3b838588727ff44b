-- The tables of a flow, step by step.
use Rattle.std.specs.List.{range_with_len}
use Rattle.std.specs.Prelude.{◌≡◌, refl, ℕ, zero, suc, ◌+◌, ◌<◌, ◌≤◌, ◌^◌, List, [], ◌∷◌, ◌++◌, flat_map, length, map, replicate, Some, slice_get, take}
use Rattle.std.proofs.Common.{arith, sym, ap, subst, ◌∙◌, append-nil, append_assoc, get_or}
use Rattle.std.proofs.lemmas.List.{length-map, take_all}
use Rattle.std.proofs.lemmas.List.FromFn.{map-range_with_len_more}
use Rattle.std.proofs.lemmas.Simd.{map-map}
use Rattle.tv_lemmas.proofs.Lists.{get-map, get-within, of-get_map}
use Rattle.tv_value.specs.Values.{Name}
use Rattle.tv_value.specs.Views.{strategy_view}
use Rattle.tv_flow.specs.Flows.{Flow, Step}
use Rattle.tv_flow.specs.Views.{flow_view, step_view}
use Rattle.tv_flow.specs.declared.document.Flow.{Flow as CodeFlow}
use Rattle.tv_flow.specs.declared.document.Step.{Step as CodeStep}
use Rattle.tv_strategy.specs.Conditions.{number_of, sum_over}
use Rattle.tv_strategy.specs.Measures.{leaf_names}
use Rattle.tv_naming.proofs.Told.{got-in}
use Rattle.tv_check.specs.declared.plans.FlowPlan.{FlowPlan}
use Rattle.tv_check.specs.declared.plans.StepPlan.{StepPlan}
use Rattle.tv_check.specs.Plans as plan
use Rattle.tv_check.specs.PlanViews.{IsOfDocument, step_plan_view}
use Rattle.tv_check.specs.Wirings.{wiring}
use Rattle.tv_frame.specs.Starts.{starts}
use Rattle.tv_framing.specs.engine.WiredFlows.{IsWired}
use Rattle.tv_framing.proofs.engine.Accepted.{accepted-wired}
use Rattle.tv_frame.specs.Tables.{first_tree, step_starts, trees_of}
use Rattle.tv_check.specs.Tables.{step_level}
use Rattle.tv_frame.proofs.Plans.{step-suits}

-- ---- lists

pub flat-next : {A B : Type 0} (g : A → List B) (xs : List A) (k : ℕ) (x : A) → slice_get xs k ≡ Some x → flat_map g (take (k + 1) xs) ≡ flat_map g (take k xs) ++ g x
flat-next {A = A} g xs k x e = let n : suc k ≡ k + 1 = omega arith in ap (λ j. flat_map g (take j xs)) (sym n) ∙ by-suc xs k e
  where
    by-suc : (ys : List A) (j : ℕ) → slice_get ys j ≡ Some x → flat_map g (take (suc j) ys) ≡ flat_map g (take j ys) ++ g x
    by-suc [] j f = cc
    by-suc (y ∷ ys) zero f = let p : y ≡ x = cc in append-nil (g y) ∙ ap g p
    by-suc (y ∷ ys) (suc j) f = ap (λ l. g y ++ l) (by-suc ys j f) ∙ sym (append_assoc (g y) (flat_map g (take j ys)) (g x))

-- ---- a plan and its flow

module _ (p : FlowPlan) where
  pub steps-are : map step_plan_view p.steps ≡ map (plan.step_plan (flow_view p.flow)) (flow_view p.flow).steps
  steps-are = ap (λ (q : plan.FlowPlan). q.steps) p.kept.0

  pub wiring-is : p.wiring ≡ wiring (flow_view p.flow)
  wiring-is = ap (λ (q : plan.FlowPlan). q.wiring) p.kept.0

  pub of-document : IsOfDocument (flow_view p.flow)
  of-document = p.kept.1

  pub plan-wired : IsWired (flow_view p.flow)
  plan-wired = accepted-wired (flow_view p.flow) p.kept.1

  pub as-many-steps : length p.steps ≡ length (flow_view p.flow).steps
  as-many-steps =
      sym (length-map p.steps step_plan_view) ∙ ap length steps-are ∙ length-map (flow_view p.flow).steps (plan.step_plan (flow_view p.flow))

  pub as-many-code : length p.steps ≡ length p.flow.steps
  as-many-code = as-many-steps ∙ length-map p.flow.steps (λ (s : Name × CodeStep). (s.0, step_view s.1))

  -- the plan of a step is what the check worked out for it
  pub step-of : (k : ℕ) (q : StepPlan) → slice_get p.steps k ≡ Some q → (s : Name × Step) × ((slice_get (flow_view p.flow).steps k ≡ Some s) × (step_plan_view q ≡ plan.step_plan (flow_view p.flow) s))
  step-of k q e =
      of-get_map (plan.step_plan (flow_view p.flow)) (flow_view p.flow).steps k (step_plan_view q) (ap (λ l. slice_get l k) (sym steps-are) ∙ get-map step_plan_view p.steps k q e)

-- the depth of a step's plan
pub planned-depth : (f : Flow) (q : StepPlan) (s : Name × Step) → step_plan_view q ≡ plan.step_plan f s → q.depth ≡ step_level f s.1
planned-depth f q (n, s) e = ap (λ (r : plan.StepPlan). r.depth) e

-- ---- trees

first-zero : (ss : List (Name × Step)) → first_tree ss 0 ≡ 0
first-zero [] = refl
first-zero (s ∷ ss) = refl

-- the trees of a step follow those of the step before
pub first-next : (ss : List (Name × Step)) (k : ℕ) (s : Name × Step) → slice_get ss k ≡ Some s → first_tree ss (k + 1) ≡ first_tree ss k + trees_of s
first-next ss k s e = let n : suc k ≡ k + 1 = omega arith in ap (first_tree ss) (sym n) ∙ by-suc ss k e
  where
    by-suc : (ts : List (Name × Step)) (j : ℕ) → slice_get ts j ≡ Some s → first_tree ts (suc j) ≡ first_tree ts j + trees_of s
    by-suc [] j f = cc
    by-suc (t ∷ ts) zero f = let p : t ≡ s = cc in let q = ap trees_of p in omega (arith, q, first-zero ts)
    by-suc (t ∷ ts) (suc j) f = omega (arith, by-suc ts j f)

-- ---- where leaves begin

abbrev pub begins : StepPlan → List ℕ
begins q = map (λ x. x.1) (starts (number_of q.mismatch) 0 (strategy_view q.tree))

abbrev begins_of : plan.StepPlan → List ℕ
begins_of q = map (λ x. x.1) (starts (number_of q.mismatch) 0 q.tree)

begins-are : (f : Flow) (ss : List (Name × Step)) → map begins_of (map (plan.step_plan f) ss) ≡ map (λ s. map (λ x. x.1) (step_starts f s)) ss
begins-are f [] = refl
begins-are f ((n, s) ∷ ss) = ap (λ l. map (λ x. x.1) (step_starts f (n, s)) ∷ l) (begins-are f ss)

pub all-begin : (p : FlowPlan) → map begins p.steps ≡ map (λ s. map (λ x. x.1) (step_starts (flow_view p.flow) s)) (flow_view p.flow).steps
all-begin p = sym (map-map begins_of step_plan_view p.steps) ∙ ap (map begins_of) (steps-are p) ∙ begins-are (flow_view p.flow) (flow_view p.flow).steps

small-by : (f : Flow) (q : plan.StepPlan) (s : Name × Step) → IsOfDocument f → (k : ℕ) → slice_get f.steps k ≡ Some s → q ≡ plan.step_plan f s → sum_over (number_of q.mismatch) (leaf_names q.tree) < 2 ^ 32
small-by f q (n, s) of k at e = subst (λ (r : plan.StepPlan). sum_over (number_of r.mismatch) (leaf_names r.tree) < 2 ^ 32) (sym e) (step-suits f of k (n, s) at).sum_is_small

-- the levels of a step's ports have a small sum
pub levels-small : (p : FlowPlan) (k : ℕ) (q : StepPlan) → slice_get p.steps k ≡ Some q → sum_over (number_of q.mismatch) (leaf_names (strategy_view q.tree)) < 2 ^ 32
levels-small p k q e = let s = step-of p k q e in small-by (flow_view p.flow) (step_plan_view q) s.0 (of-document p) k s.1.0 s.1.1

-- ---- loops

pub firsts-next : (ss : List (Name × Step)) (k : ℕ) (before after : List ℕ) (next n more : ℕ) → k < length ss → ((s : Name × Step) → slice_get ss k ≡ Some s → n ≡ trees_of s) → before ≡ map (first_tree ss) (range_with_len 0 k) → next ≡ first_tree ss k → after ≡ before ++ next ∷ [] → more ≡ next + n → (after ≡ map (first_tree ss) (range_with_len 0 (k + 1))) × (more ≡ first_tree ss (k + 1))
firsts-next ss k before after next n more lt told h g e m =
    let s = get-within ss k lt in
    let here : next + n ≡ first_tree ss k + trees_of s.0 = let t = told s.0 s.1 in omega (arith, g, t) in
    let k_is : 0 + k ≡ k = omega arith in
    (e ∙ ap (λ l. l ++ next ∷ []) h ∙ ap (λ j. map (first_tree ss) (range_with_len 0 k) ++ j ∷ []) g ∙ sym (map-range_with_len_more (first_tree ss) 0 k k k_is), m ∙ here ∙ sym (first-next ss k s.0 s.1))

pub first-none : (ss : List (Name × Step)) → 0 ≡ first_tree ss 0
first-none ss = sym (first-zero ss)

pub within-flow : (f : CodeFlow) (xs : List (Name × CodeStep)) (k : ℕ) → xs ≡ f.steps → k < length xs → k < length (flow_view f).steps
within-flow f xs k e lt =
    let m : length (flow_view f).steps ≡ length f.steps = length-map f.steps (λ (s : Name × CodeStep). (s.0, step_view s.1)) in
    let n = ap length e in
    omega (arith, lt, m, n)

pub depths-next : (p : FlowPlan) (xs : List StepPlan) (k : ℕ) (q : StepPlan) (n : ℕ) (before after : List ℕ) → xs ≡ p.steps → k < length xs → q ≡ get_or xs k q → ((s : Name × Step) → slice_get (flow_view p.flow).steps k ≡ Some s → n ≡ trees_of s) → before ≡ flat_map (λ s. replicate (trees_of s) (step_level (flow_view p.flow) s.1)) (take k (flow_view p.flow).steps) → after ≡ before ++ replicate n q.depth → after ≡ flat_map (λ s. replicate (trees_of s) (step_level (flow_view p.flow) s.1)) (take (k + 1) (flow_view p.flow).steps)
depths-next p xs k q n before after same lt is told h e =
    let s = step-of p k q (got-in xs p.steps k q same lt is) in
    let here : replicate n q.depth ≡ replicate (trees_of s.0) (step_level (flow_view p.flow) s.0.1) = ap (λ m. replicate m q.depth) (told s.0 s.1.0) ∙ ap (replicate (trees_of s.0)) (planned-depth (flow_view p.flow) q s.0 s.1.1) in
    e ∙ ap (λ l. l ++ replicate n q.depth) h ∙ ap (λ l. flat_map (λ s. replicate (trees_of s) (step_level (flow_view p.flow) s.1)) (take k (flow_view p.flow).steps) ++ l) here
    ∙ sym (flat-next (λ s. replicate (trees_of s) (step_level (flow_view p.flow) s.1)) (flow_view p.flow).steps k s.0 s.1.0)

pub take-same : {A : Type 0} (xs ys : List A) (k : ℕ) → xs ≡ ys → length xs ≤ k → take k ys ≡ ys
take-same xs ys k e le = ap (take k) (sym e) ∙ take_all k xs le ∙ e
