-- What is looked up of the document, one after another.
use Rattle.std.specs.Prelude.{◌≡◌, refl, ℕ, zero, suc, ◌+◌, ◌<◌, ◌≤◌, ◌&&◌, ◌++◌, true, false, Bool, if◌then◌else◌, List, [], ◌∷◌, None, Option, Some, drop, get_or, length, map, slice_get}
use Rattle.std.proofs.Common.{ap, arith, length-append, subst, sym, ◌∙◌}
use Rattle.std.proofs.lemmas.List.{drop_more, length-map}
use Rattle.std.proofs.lemmas.Option.{get_or_from_slice_get, none-some, same_Some, slice_get-get_or}
use Rattle.std.specs.Cmp.{first_so, second_so}
use Rattle.tv_lemmas.proofs.Cases.{on_either}
use Rattle.tv_lemmas.proofs.Lists.{of-image, get-map}
use Rattle.tv_value.specs.Activities.{Activity}
use Rattle.tv_value.specs.Orders.{named, same_name}
use Rattle.tv_value.specs.Values.{Name}
use Rattle.tv_value.proofs.NameLemmas.{same_name-refl}
use Rattle.tv_naming.specs.Numbers.{number_in}
use Rattle.tv_naming.proofs.ByPosition.{number-absent, number-found}
use Rattle.tv_naming.proofs.FormedParts.{ascending, each-names, few}
use Rattle.tv_flow.specs.Formed.{are_entries, are_named, is_ascending, are_of_format, is_between, is_flow, is_formed, is_value}
use Rattle.tv_flow.specs.DocumentViews.{document_view}
use Rattle.tv_flow.specs.Flows.{Document, Flow, Step}
use Rattle.tv_flow.specs.Forms.{is_name}
use Rattle.tv_flow.specs.Views.{each, flow_view, step_view}
use Rattle.tv_flow.specs.declared.document.Document as code_document
use Rattle.tv_flow.specs.declared.document.Flow as code_flow
use Rattle.tv_flow.specs.declared.document.Step as code_step
use Rattle.tv_model.proofs.Tests.{true≠false}
use Rattle.tv_model.specs.Opening.{first_nested}
use Rattle.tv_check.specs.RunViews.{run_view}
use Rattle.tv_check.specs.declared.run.CheckedRun.{CheckedRun}
use Rattle.tv_run.specs.Looks.{AreFlowsOf, AreLooks, AreStepLooks, IsFlowNumber, IsLook, IsStepLook}
use Rattle.tv_run.specs.declared.plans.FlowLook.{FlowLook}
use Rattle.tv_run.specs.declared.plans.StepLook.{StepLook}
use Rattle.tv_run.proofs.Grown.{get-either}

-- ---- the number of a flow

module _ (d : Document) (flows : List (Name × code_flow.Flow)) (are : AreFlowsOf d flows) (n : Name) where
  pub number-is : (k : ℕ) → number_in flows n ≡ Some k → IsFlowNumber d n k
  number-is k e =
      let w = number-found flows n k e in
      let x = within flows k w.below in
      let is : get_or flows k x.0 ≡ x.0 = get_or_from_slice_get flows k x.0 x.0 x.1 in
      let name : x.0.0 ≡ n = sym (ap (λ (y : Name × code_flow.Flow). y.0) is) ∙ w.name x.0 in
      record {
        flow = flow_view x.0.1;
        there =
            ap (λ l. slice_get l k) are.same
            ∙ get-map (λ (y : Name × code_flow.Flow). (y.0, flow_view y.1)) flows k x.0 x.1
            ∙ ap (λ m. Some (m, flow_view x.0.1)) name;
      }
    where
      within : {A : Type 0} (xs : List A) (k : ℕ) → k < length xs → (x : A) × (slice_get xs k ≡ Some x)
      within [] k l = absurd (omega (arith, l))
      within (x ∷ xs) zero l = (x, refl)
      within (x ∷ xs) (suc k) l = within xs k (omega (arith, l))

  pub number-low : (k : ℕ) → number_in flows n ≡ Some k → k < 256
  number-low k e =
      let below = (number-found flows n k e).below in
      let most = are.few in
      omega (arith, below, most)

  pub no-number : number_in flows n ≡ None → (k : ℕ) → IsFlowNumber d n k → ⊥
  no-number e k is =
      let w =
      of-image (λ (y : Name × code_flow.Flow). (y.0, flow_view y.1)) flows k (n, is.flow)
      (ap (λ l. slice_get l k) (sym are.same) ∙ is.there) in
      not-there flows k w.0 w.1 (ap (λ (y : Name × Flow). y.0) w.2) (number-absent flows n e)
    where
      by : {A : Type 0} (b : Bool) (x : A) (o : Option A) → b ≡ true → (if b then Some x else o) ≡ None → ⊥
      by true x o e h = none-some x (sym h)
      by false x o e h = absurd (true≠false (sym e))

      later : {A : Type 0} (b : Bool) (x : A) (o : Option A) → (if b then Some x else o) ≡ None → o ≡ None
      later true x o h = absurd (none-some x (sym h))
      later false x o h = h

      not-there : {A : Type 0} (xs : List (Name × A)) (k : ℕ) (x : Name × A) → slice_get xs k ≡ Some x → x.0 ≡ n
          → named n xs ≡ None → ⊥
      not-there [] k x at name none = absurd (none-some x at)
      not-there {A = A} (y ∷ xs) zero x at name none =
          by (same_name n y.0) y.1 (named n xs)
          (ap (same_name n) (ap (λ (z : Name × A). z.0) (same_Some y x at) ∙ name) ∙ same_name-refl n) none
      not-there (y ∷ xs) (suc k) x at name none =
          not-there xs k x at name (later (same_name n y.0) y.1 (named n xs) none)

-- ---- the first flow among activities

-- those before this one are services
pub first-so_far : {A : Type 0} (view : A → Activity) (xs : List A) (k : ℕ) (x : A) → k < length xs → x ≡ get_or xs k x
    → first_nested (map view xs) ≡ first_nested (map view (drop k xs))
    → first_nested (map view xs) ≡ first_nested (view x ∷ map view (drop (k + 1) xs))
first-so_far view xs k x low is e =
    e
    ∙ ap (λ l. first_nested (map view l)) (drop_more xs k x low)
    ∙ ap (λ y. first_nested (view y ∷ map view (drop (k + 1) xs))) (sym is)

-- ---- looks of steps

module _ (d : Document) (steps : List (Name × code_step.Step)) where
  pub record AreStepsSoFar (looks : List StepLook) (n : ℕ) : Type 0 where
    pub as_many : length looks ≡ n
    pub low : n ≤ length steps
    pub each :
        (k : ℕ) (s : Name × code_step.Step) (x : StepLook) → slice_get steps k ≡ Some s → slice_get looks k ≡ Some x
        → IsStepLook d (step_view s.1) x

  pub no-steps : AreStepsSoFar [] 0
  no-steps = record { as_many = refl; low = omega arith; each = λ k s x at e. absurd (none-some x e) }

  pub one-step : (looks : List StepLook) (n : ℕ) (s : Name × code_step.Step) (x : StepLook) → n < length steps
      → s ≡ get_or steps n s → IsStepLook d (step_view s.1) x → AreStepsSoFar looks n → AreStepsSoFar (looks ++ x ∷ []) (n + 1)
  one-step looks n s x low is look so_far = record {
    as_many = length-append looks (x ∷ []) ∙ ap (λ k. k + 1) so_far.as_many;
    low = omega (arith, low);
    each = λ k t y at e.
        on_either (get-either looks (x ∷ []) k y e)
        (λ h. so_far.each k t y at h.0)
        (λ h. last k t y at h.0 h.1 h.2);
  }
    where
      here : slice_get steps n ≡ Some s
      here = slice_get-get_or steps n s low ∙ ap Some (sym is)

      last : (k : ℕ) (t : Name × code_step.Step) (y : StepLook) → slice_get steps k ≡ Some t → (p : ℕ)
          → k ≡ length looks + p → slice_get (x ∷ []) p ≡ Some y → IsStepLook d (step_view t.1) y
      last k t y at zero e h =
          let same : k ≡ n = let many = so_far.as_many in omega (arith, e, many) in
          let one : s ≡ t = same_Some s t (sym here ∙ ap (slice_get steps) (sym same) ∙ at) in
          subst (λ (u : Name × code_step.Step). IsStepLook d (step_view u.1) y) one
          (subst (IsStepLook d (step_view s.1)) (same_Some x y h) look)
      last k t y at (suc p) e h = absurd (none-some y h)

  -- all of a flow
  pub all-steps : (f : Flow) → f.steps ≡ each step_view steps → (looks : List StepLook) (n : ℕ)
      → length steps ≤ n → AreStepsSoFar looks n → AreStepLooks d f looks
  all-steps f are looks n most so_far = record {
    as_many =
        let many = so_far.as_many in
        let low = so_far.low in
        let long = ap length are ∙ length-map steps (λ (y : Name × code_step.Step). (y.0, step_view y.1)) in
        omega (arith, many, low, long, most);
    each = λ k s x at e.
        let w =
        of-image (λ (y : Name × code_step.Step). (y.0, step_view y.1)) steps k s (ap (λ l. slice_get l k) (sym are) ∙ at) in
        subst (λ (t : Name × Step). IsStepLook d t.1 x) w.2 (so_far.each k w.0 x w.1 e);
  }

-- ---- looks of flows

pub record AreFlowsSoFar (d : Document) (looks : List FlowLook) (n : ℕ) : Type 0 where
  pub as_many : length looks ≡ n
  pub low : n ≤ length d.flows
  pub each :
      (k : ℕ) (f : Name × Flow) (x : FlowLook) → slice_get d.flows k ≡ Some f → slice_get looks k ≡ Some x
      → IsLook d f.1 x

module _ (d : Document) where
  pub no-flows : AreFlowsSoFar d [] 0
  no-flows = record { as_many = refl; low = omega arith; each = λ k f x at e. absurd (none-some x e) }

  pub one-flow : (looks : List FlowLook) (n : ℕ) (x : FlowLook) → n < length d.flows
      → ((f : Name × Flow) → slice_get d.flows n ≡ Some f → IsLook d f.1 x) → AreFlowsSoFar d looks n
      → AreFlowsSoFar d (looks ++ x ∷ []) (n + 1)
  one-flow looks n x low look so_far = record {
    as_many = length-append looks (x ∷ []) ∙ ap (λ k. k + 1) so_far.as_many;
    low = omega (arith, low);
    each = λ k f y at e.
        on_either (get-either looks (x ∷ []) k y e)
        (λ h. so_far.each k f y at h.0)
        (λ h. last k f y at h.0 h.1 h.2);
  }
    where
      last : (k : ℕ) (f : Name × Flow) (y : FlowLook) → slice_get d.flows k ≡ Some f → (p : ℕ) → k ≡ length looks + p
          → slice_get (x ∷ []) p ≡ Some y → IsLook d f.1 y
      last k f y at zero e h =
          let same : k ≡ n = let many = so_far.as_many in omega (arith, e, many) in
          subst (IsLook d f.1) (same_Some x y h) (look f (ap (slice_get d.flows) (sym same) ∙ at))
      last k f y at (suc p) e h = absurd (none-some y h)

  pub all-flows : (looks : List FlowLook) (n : ℕ) → length d.flows ≤ n → AreFlowsSoFar d looks n → AreLooks d looks
  all-flows looks n most so_far = record {
    as_many = let many = so_far.as_many in let low = so_far.low in omega (arith, many, low, most);
    each = so_far.each;
  }

-- ---- the flows of a run that was read

pub flows-are : (run : CheckedRun) (doc : code_document.Document) → document_view doc ≡ run_view run
    → AreFlowsOf (run_view run) doc.flows
flows-are run doc is = record {
  ascending = sym (ap is_ascending (each-names flow_view doc.flows)) ∙ ap is_ascending names ∙ ascending is_flow 1 256 d.flows named-so;
  few =
      let most = few is_flow 1 256 d.flows named-so in
      let long = sym (length-map doc.flows (λ (f : Name × code_flow.Flow). (f.0, flow_view f.1))) ∙ ap length same in
      omega (arith, most, long);
  same = sym same;
}
  where
    d : Document
    d = run_view run

    same : each flow_view doc.flows ≡ d.flows
    same = ap (λ (q : Document). q.flows) is

    names : map (λ e. e.0) (each flow_view doc.flows) ≡ map (λ e. e.0) d.flows
    names = ap (map (λ (e : Name × Flow). e.0)) same

    formed : is_formed d ≡ true
    formed = run.document.formed

    named-so : are_named is_flow 1 256 d.flows ≡ true
    named-so =
        second_so (are_of_format d.format d.flows && is_name d.main) (are_named is_flow 1 256 d.flows)
        (first_so (are_of_format d.format d.flows && is_name d.main && are_named is_flow 1 256 d.flows) (are_entries is_value d.inputs) formed)
