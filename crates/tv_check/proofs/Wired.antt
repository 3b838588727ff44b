-- What the plans of a flow's steps have for its wiring.
use Rattle.std.specs.Prelude.{◌≡◌, ℕ, zero, suc, ◌<◌, ◌≤◌, ◌^◌, List, [], ◌∷◌, length, map, Bool, true, false, if◌then◌else◌, Option, Some, None, unwrap_or, slice_get, refl}
use Rattle.std.specs.List.{list_all}
use Rattle.std.specs.Option.{option_map_or}
use Rattle.std.specs.Coded.{Coded-set, coded_bool}
use Rattle.std.proofs.Common.{arith, get_or, ap, sym, ◌∙◌}
use Rattle.std.proofs.Math.Logic.{∥∥₁_elim}
use Rattle.std.proofs.lemmas.Bool.{eqb-true, and_parts}
use Rattle.std.proofs.lemmas.List.{length-map}
use Rattle.tv_lemmas.proofs.Options.{is_none-none}
use Rattle.tv_value.specs.Values.{Name}
use Rattle.tv_value.specs.Orders.{named, same_name}
use Rattle.tv_value.specs.Strategies.{Strategy, cross}
use Rattle.tv_flow.specs.Flows.{Flow, Step, StepInput}
use Rattle.tv_flow.specs.Formed.{is_flow, is_step_input}
use Rattle.tv_strategy.specs.Measures.{all_leaf_names, leaf_names}
use Rattle.tv_naming.specs.Naming.{fits_ports, naming_complaints}
use Rattle.tv_naming.specs.Inputs.{given_complaints}
use Rattle.tv_naming.proofs.FormedParts.{few, passes, step-at, step-inputs}
use Rattle.tv_check.specs.Cycles.{cycle_complaints, link_cycle_complaints, nesting_complaints}
use Rattle.tv_check.specs.Depthwise.{depth_complaints}
use Rattle.tv_model.specs.instance.Steps.{ports_of, strategy_of}
use Rattle.tv_check.specs.Tables.{has_fitting}
use Rattle.tv_check.specs.Passes.{checked, complaints}
use Rattle.tv_check.specs.Plans.{IsAccepted}
use Rattle.tv_check.specs.PlanViews.{IsOfDocument}
use Rattle.tv_flow.specs.Flows as flows
use Rattle.tv_check.proofs.Accepting.{first-none, left-nil}
use Rattle.tv_check.proofs.Prepared.{all-fit}

-- ---- the strategies of a flow in an accepted document fit their ports

named-all : {A : Type 0} (test : A → Bool) (n : Name) (xs : List (Name × A)) (x : A) → list_all (λ e. test e.1) xs ≡ true → named n xs ≡ Some x → test x ≡ true
named-all test n [] x h e = cc
named-all test n (y ∷ ys) x h e =
    let b = and_parts (test y.1) (list_all (λ e. test e.1) ys) h in
    cases (same_name n y.0) b.0 (named-all test n ys x b.1) e
  where
    cases : (b : Bool) → test y.1 ≡ true → (named n ys ≡ Some x → test x ≡ true) → (if b then Some y.1 else named n ys) ≡ Some x → test x ≡ true
    cases true p later k = let f : y.1 ≡ x = cc in ap test (sym f) ∙ p
    cases false p later k = later k

named-silent : (d : flows.Document) → IsAccepted d → naming_complaints (λ n. true) d ≡ []
named-silent d h =
    let ns = naming_complaints (λ n. true) d in
    let c = cycle_complaints d in
    let n = nesting_complaints d in
    let l = link_cycle_complaints d in
    let p = depth_complaints d in
    left-nil ns c (left-nil _ n (left-nil _ l (left-nil _ p (left-nil _ (given_complaints d) (first-none (complaints (λ n. true) d) (is_none-none (checked (λ n. true) d) h))))))

pub fitting : (f : Flow) → IsOfDocument f → list_all (λ s. has_fitting s.1) f.steps ≡ true
fitting f h =
    ∥∥₁_elim h (Coded-set coded_bool _ _)
    (λ x. named-all (λ g. list_all (λ s. has_fitting s.1) g.steps) x.1.0 x.0.flows f (all-fit (λ n. true) x.0 (named-silent x.0 x.1.2)) x.1.3)

-- ---- few enough leaves to be counted

ports-leaves : (is : List (Name × StepInput)) → length (all_leaf_names (ports_of is)) ≡ length is
ports-leaves [] = refl
ports-leaves (i ∷ is) = ap suc (ports-leaves is)

leaves-by : (s : Step) (o : Option Strategy) → length s.inputs ≤ 16 → option_map_or (fits_ports s) o true ≡ true → length (leaf_names (unwrap_or o (cross (ports_of s.inputs)))) ≤ 16
leaves-by s None le h = let e = ports-leaves s.inputs in omega (arith, le, e)
leaves-by s (Some t) le h =
    let e : length (map (λ (i : Name × StepInput). i.0) s.inputs) ≡ length (leaf_names t) = eqb-true _ _ (and_parts _ _ (and_parts _ _ h).0).0 in
    let many : length (map (λ (i : Name × StepInput). i.0) s.inputs) ≡ length s.inputs = length-map s.inputs (λ (i : Name × StepInput). i.0) in
    omega (arith, le, e, many)

module _ (f : Flow) (formed : is_flow f ≡ true) (of : IsOfDocument f) (j : ℕ) (s : Name × Step) (at : slice_get f.steps j ≡ Some s) where
  pub leaves-few : length (leaf_names (strategy_of s.1)) < 2 ^ 32
  leaves-few =
      let le = few is_step_input 0 16 s.1.inputs (step-inputs s.1 (step-at f formed j s at)) in
      let m = leaves-by s.1 s.1.strategy le (passes (λ (s : Name × Step). has_fitting s.1) f.steps j s (fitting f of) at) in
      omega (arith, m)

-- what stands at a place of two lists with the same images
pub same-at : {A B C : Type 0} (v : A → C) (g : B → C) (xs : List A) (ys : List B) → map v xs ≡ map g ys → (j : ℕ) (x : A) (y : B) → x ≡ get_or xs j x → slice_get ys j ≡ Some y → v x ≡ g y
same-at v g [] [] e j x y is at = cc
same-at v g [] (z ∷ zs) e j x y is at = cc
same-at v g (w ∷ ws) [] e j x y is at = cc
same-at v g (w ∷ ws) (z ∷ zs) e zero x y is at =
    let p : v w ≡ g z = cc in
    let q : z ≡ y = cc in
    ap v is ∙ p ∙ ap g q
same-at v g (w ∷ ws) (z ∷ zs) e (suc j) x y is at =
    let p : map v ws ≡ map g zs = cc in
    same-at v g ws zs p j x y is at
