-- The lines of plans are the lines of their flows; pairs of lists at an index.
use Rattle.std.specs.Prelude.{◌≡◌, ℕ, zero, suc, ◌+◌, ◌<◌, ◌≤◌, take, slice_get, Option, Some, None, ◌∷◌, ◌++◌, codes, List, [], length, map, flat_map, get_or, refl, min}
use Rattle.std.specs.List.{zip}
use Rattle.std.proofs.Common.{ap, ◌∙◌, sym, arith}
use Rattle.std.proofs.lemmas.Slice.Zip.{length-zip, get_or-zip}
use Rattle.std.proofs.lemmas.List.Folds.{flat_map-map}
use Rattle.tv_value.specs.Values.{Text, Name}
use Rattle.tv_flow.specs.Flows.{Step, Flow, Document}
use Rattle.tv_check.specs.Plans.{FlowPlan, flow_plan, flow_plans, step_plan}
use Rattle.tv_report.proofs.Growing.{grown-more, grown-all}
use Rattle.tv_report.specs.DepthLines.{flow_lines, step_lines, port_line, fed_depth}
use Rattle.tv_report.specs.PlanLines.{planned_flow, planned_step, planned_input, planned_output, planned_end}

-- a list beside what a function makes of it
beside : {X Y A : Type 0} (f : X × Y → List A) (g : X → Y) (h : X → List A) → ((x : X) → f (x, g x) ≡ h x) → (xs : List X) → flat_map f (zip xs (map g xs)) ≡ flat_map h xs
beside f g h e [] = refl
beside f g h e (x ∷ xs) = ap (λ s. s ++ flat_map f (zip xs (map g xs))) (e x) ∙ ap (λ s. h x ++ s) (beside f g h e xs)

step-plan : (n : Name) (f : Flow) (s : Name × Step) → planned_step n (s, step_plan f s) ≡ step_lines n f s
step-plan n f s =
    ap (λ t. t ++ flat_map (planned_output n s.0 (step_plan f s).depth) s.1.outputs)
    (beside (planned_input n s.0) (λ i. (i.0, fed_depth f i.1.from)) (λ i. port_line (codes "in") n s.0 i.0 i.1.depth (fed_depth f i.1.from)) (λ i. refl) s.1.inputs)

-- the lines of a flow's plan
pub flow-plan : (n : Name) (f : Flow) → planned_flow n (flow_plan f) ≡ flow_lines (n, f)
flow-plan n f =
    ap (λ t. t ++ flat_map (planned_end n) (flow_plan f).outputs) (beside (planned_step n) (step_plan f) (step_lines n f) (step-plan n f) f.steps)
    ∙ ap (λ t. flat_map (step_lines n f) f.steps ++ t) (flat_map-map (planned_end n) (λ o. (o.0, fed_depth f o.1)) f.outputs)

below : (i l m n : ℕ) → n ≡ min l m → i < l → i < m → i < n
below i l m n e h k = omega arith

-- a text grown by what stands at an index of two lists
pub grown-pair : {A B C : Type 0} (f : A × B → List C) (a t u : List C) (xs : List A) (ys : List B) (i : ℕ) (x : A) (y : B) → i < length xs → i < length ys → x ≡ get_or xs i x → y ≡ get_or ys i y → t ≡ a ++ flat_map f (take i (zip xs ys)) → u ≡ t ++ f (x, y) → u ≡ a ++ flat_map f (take (i + 1) (zip xs ys))
grown-pair f a t u xs ys i x y h k e g p q =
    grown-more f a t u (zip xs ys) i (x, y) (below i (length xs) (length ys) (length (zip xs ys)) (length-zip xs ys) h k)
    (ap (λ z. (z, y)) e ∙ ap (λ z. (get_or xs i x, z)) g ∙ sym (get_or-zip xs ys i (x, y) h k)) p q

-- all pairs
pub grown-pairs : {A B C : Type 0} (f : A × B → List C) (a t : List C) (xs : List A) (ys : List B) (i n : ℕ) → n ≡ min (length xs) (length ys) → n ≤ i → t ≡ a ++ flat_map f (take i (zip xs ys)) → t ≡ a ++ flat_map f (zip xs ys)
grown-pairs f a t xs ys i n e h p = grown-all f a t (zip xs ys) i (within i n (length (zip xs ys)) (length-zip xs ys ∙ sym e) h) p
  where
    within : (i n m : ℕ) → m ≡ n → n ≤ i → m ≤ i
    within i n m e h = omega arith

-- the plan at a number is that of the flow there
planned : (fs : List (Name × Flow)) (i : ℕ) (x : Name × Flow) → i < length fs → slice_get (map (λ f. flow_plan f.1) fs) i ≡ Some (flow_plan (get_or fs i x).1)
planned [] i x h = absurd (none i h)
  where
    none : (i : ℕ) → i < 0 → ⊥
    none i h = omega arith
planned (f ∷ fs) zero x h = refl
planned (f ∷ fs) (suc i) x h = planned fs i x (omega arith)

abbrev inside : {A : Type 0} → A → Option A → A
inside a None = a
inside a (Some b) = b

-- a text grown by the lines of the flow at a number, from its plan
pub grown-flow : (t u : Text) (d : Document) (i : ℕ) (p : FlowPlan) (x : Name × Flow) → i < length d.flows → x ≡ get_or d.flows i x → slice_get (flow_plans d) i ≡ Some p → t ≡ flat_map flow_lines (take i d.flows) → u ≡ t ++ planned_flow x.0 p → u ≡ flat_map flow_lines (take (i + 1) d.flows)
grown-flow t u d i p x h e g q r =
    let same : p ≡ flow_plan x.1 = ap (inside p) (sym g ∙ planned d.flows i x h) ∙ ap (λ y. flow_plan y.1) (sym e) in
    grown-more flow_lines [] t u d.flows i x h e q (r ∙ ap (λ s. t ++ s) (ap (planned_flow x.0) same ∙ flow-plan x.0 x.1))
