-- A document that the check accepts for some services is accepted where all are there, and then each pass says nothing.
use Rattle.std.proofs.Common.{◌≡◌, ◌∙◌, refl, sym, ap, ℕ, List, [], ◌∷◌, ◌++◌, flat_map, Bool, true, not, Option, Some, None}
use Rattle.std.specs.List.{list_any}
use Rattle.std.specs.Option.{is_none, option_map_or}
use Rattle.tv_value.specs.Values.{Name}
use Rattle.tv_value.specs.Activities.{Activity, Repeat, service, nested}
use Rattle.tv_flow.specs.Flows.{Feed, Step, Flow, Document}
use Rattle.tv_naming.specs.Faulty.{CheckComplaint, plainly, strategy_ports, no_such_port, no_such_flow, at_main, at_step, at_input, at_after, at_flow_output, first_of, no_such_service, loop_nested, at_loop, Where}
use Rattle.tv_naming.specs.Naming.{complain_if, has_name, fits_ports, link_complaints, numbered, is_nested, activity_complaints, repeat_complaints, loop_complaints, step_naming, flow_naming, naming_complaints}
use Rattle.tv_check.specs.Cycles.{cycle_complaints, nesting_complaints, link_cycle_complaints}
use Rattle.tv_check.specs.Depthwise.{depth_complaints}
use Rattle.tv_naming.specs.Inputs.{given_complaints}
use Rattle.tv_check.specs.Passes.{complaints, checked}
use Rattle.tv_check.specs.Plans.{IsAccepted}

-- ---- lists that say nothing

pub first-none : (cs : List CheckComplaint) → first_of cs ≡ None → cs ≡ []
first-none [] e = refl
first-none (c ∷ cs) e = cc

pub left-nil : {A : Type 0} (xs ys : List A) → xs ++ ys ≡ [] → xs ≡ []
left-nil [] ys e = refl
left-nil (x ∷ xs) ys e = cc

pub right-nil : {A : Type 0} (xs ys : List A) → xs ++ ys ≡ [] → ys ≡ []
right-nil [] ys e = e
right-nil (x ∷ xs) ys e = cc

both-nil : {A : Type 0} (xs ys : List A) → xs ≡ [] → ys ≡ [] → xs ++ ys ≡ []
both-nil xs ys p q = ap (λ zs. zs ++ ys) p ∙ q

-- where each element's silence in f is its silence in g
flat-nil : {A B : Type 0} (f g : A → List B) → ((x : A) → f x ≡ [] → g x ≡ []) → (xs : List A) → flat_map f xs ≡ [] → flat_map g xs ≡ []
flat-nil f g h [] e = refl
flat-nil f g h (x ∷ xs) e = both-nil (g x) (flat_map g xs) (h x (left-nil (f x) (flat_map f xs) e)) (flat-nil f g h xs (right-nil (f x) (flat_map f xs) e))

-- in the third and the fourth of five
middle-nil : {A : Type 0} (xs ys zs us vs ts ws : List A) → (zs ≡ [] → us ≡ []) → (vs ≡ [] → ts ≡ []) → xs ++ ys ++ zs ++ vs ++ ws ≡ [] → xs ++ ys ++ us ++ ts ++ ws ≡ []
middle-nil xs ys zs us vs ts ws h k e =
    let e4 = left-nil (xs ++ ys ++ zs ++ vs) ws e in
    let e3 = left-nil (xs ++ ys ++ zs) vs e4 in
    both-nil (xs ++ ys ++ us ++ ts) ws
    (both-nil (xs ++ ys ++ us) ts (both-nil (xs ++ ys) us (left-nil (xs ++ ys) zs e3) (h (right-nil (xs ++ ys) zs e3))) (k (right-nil (xs ++ ys ++ zs) vs e4)))
    (right-nil (xs ++ ys ++ zs ++ vs) ws e)

module _ (knows : Name → Bool) (d : Document) where
  activity-nil : (f s : Name) (a : ℕ × Activity) → activity_complaints knows d f s a ≡ [] → activity_complaints (λ n. true) d f s a ≡ []
  activity-nil f s (k, service n) e = refl
  activity-nil f s (k, nested g) e = e

  loop-nil : (w : Where) (acts : List Activity) (o : Option Repeat) → option_map_or (repeat_complaints knows d w acts) o [] ≡ [] → option_map_or (repeat_complaints (λ n. true) d w acts) o [] ≡ []
  loop-nil w acts None e = refl
  loop-nil w acts (Some r) e = right-nil (complain_if (not (knows r.service)) (plainly no_such_service w)) (complain_if (list_any is_nested acts) (plainly loop_nested w)) e

  step-nil : (f : Name) (flow : Flow) (s : Name × Step) → step_naming knows d f flow s ≡ [] → step_naming (λ n. true) d f flow s ≡ []
  step-nil f flow (n, s) e =
      middle-nil (flat_map (λ i. link_complaints flow (at_input f n i.0) i.1.from) s.inputs) (option_map_or (λ t. complain_if (not (fits_ports s t)) (plainly strategy_ports (at_step f n))) s.strategy [])
      (flat_map (activity_complaints knows d f n) (numbered 0 s.activities)) (flat_map (activity_complaints (λ m. true) d f n) (numbered 0 s.activities))
      (loop_complaints knows d f (n, s)) (loop_complaints (λ m. true) d f (n, s))
      (flat_map (λ a. complain_if (not (has_name flow.steps a.1)) (plainly no_such_port (at_after f n a.0))) (numbered 0 s.after))
      (flat-nil (activity_complaints knows d f n) (activity_complaints (λ m. true) d f n) (activity-nil f n) (numbered 0 s.activities))
      (loop-nil (at_loop f n) s.activities s.repeat) e

  flow-nil : (f : Name × Flow) → flow_naming knows d f ≡ [] → flow_naming (λ n. true) d f ≡ []
  flow-nil (f, flow) e =
      let outputs = flat_map (λ (o : Name × Feed). link_complaints flow (at_flow_output f o.0) o.1) flow.outputs in
      let steps = flat_map (step_naming knows d f flow) flow.steps in
      both-nil (flat_map (step_naming (λ n. true) d f flow) flow.steps) outputs (flat-nil (step_naming knows d f flow) (step_naming (λ n. true) d f flow) (step-nil f flow) flow.steps (left-nil steps outputs e)) (right-nil steps outputs e)

  naming-nil : naming_complaints knows d ≡ [] → naming_complaints (λ n. true) d ≡ []
  naming-nil e =
      let main = complain_if (not (has_name d.flows d.main)) (plainly no_such_flow at_main) in
      let flows = flat_map (flow_naming knows d) d.flows in
      both-nil main (flat_map (flow_naming (λ n. true) d) d.flows) (left-nil main flows e) (flat-nil (flow_naming knows d) (flow_naming (λ n. true) d) flow-nil d.flows (right-nil main flows e))

  -- what the last five passes say
  abbrev after_names : List CheckComplaint → List CheckComplaint
  after_names ns = ns ++ cycle_complaints d ++ nesting_complaints d ++ link_cycle_complaints d ++ depth_complaints d ++ given_complaints d

  names-only : (ns : List CheckComplaint) → after_names ns ≡ [] → ns ≡ []
  names-only ns e =
      let c = ns ++ cycle_complaints d in
      let n = c ++ nesting_complaints d in
      let l = n ++ link_cycle_complaints d in
      let p = l ++ depth_complaints d in
      left-nil ns (cycle_complaints d) (left-nil c (nesting_complaints d) (left-nil n (link_cycle_complaints d) (left-nil l (depth_complaints d) (left-nil p (given_complaints d) e))))

  -- accepted for some services, accepted
  pub accepted : checked knows d ≡ None → IsAccepted d
  accepted e =
      let all : after_names (naming_complaints knows d) ≡ [] = first-none (complaints knows d) e in
      let names : naming_complaints knows d ≡ [] = names-only (naming_complaints knows d) all in
      let same : naming_complaints (λ n. true) d ≡ naming_complaints knows d = naming-nil names ∙ sym names in
      let rest : complaints (λ n. true) d ≡ [] = ap after_names same ∙ all in
      ap (λ cs. is_none (first_of cs)) rest
