-- Where the passes on nesting and depths say nothing, the pass on depths spoke of each flow, and a flow that a step opens nests less deep.
use Rattle.std.specs.Prelude.{◌≡◌, refl, ℕ, zero, suc, ◌<◌, ◌≤◌, List, [], ◌∷◌, length, filter, flat_map, filter_map, Bool, true, false, not, ◌||◌, ◌==◌, nat_lt}
use Rattle.std.specs.List.{list_all}
use Rattle.std.proofs.Common.{arith, sym, ◌∙◌}
use Rattle.std.proofs.lemmas.Bool.{eq-eqb, ltb-true, and_parts}
use Rattle.std.proofs.lemmas.Bool.Decides.{nat_tests}
use Rattle.std.proofs.lemmas.List.Folds.{list_all-append}
use Rattle.tv_lemmas.specs.Members.{Each}
use Rattle.tv_lemmas.proofs.Options.{is_some-some}
use Rattle.tv_value.specs.Values.{Name}
use Rattle.tv_value.specs.Orders.{named}
use Rattle.tv_value.specs.Activities.{Activity, service, nested}
use Rattle.tv_flow.specs.Flows.{Step, Flow, Document}
use Rattle.tv_naming.specs.Faulty.{CheckComplaint, with_numbers, too_deep, at_flow}
use Rattle.tv_naming.specs.Naming.{has_name, complain_if}
use Rattle.tv_check.specs.Cycles.{nesting, opened_flow, opened_flows, nesting_complaints}
use Rattle.tv_model.specs.instance.Nesting.{nesting_limit}
use Rattle.tv_check.specs.Depthwise.{flow_complaints, by_nesting, depth_complaints}
use Rattle.tv_check.specs.Measured.{flow_nesting, opens_lower}
use Rattle.tv_check.proofs.Inside.{nil-each}
use Rattle.tv_model.specs.Agreeing.{ActivitiesNest, StepsNest, NestsWithin}
use Rattle.tv_history.proofs.Lists.{named-each, of-filter, split-each}

-- ---- how deep flows nest

pub at-least-one : (d : Document) (levels : ℕ) (f : Name) → 1 ≤ nesting d levels f
at-least-one d zero f = omega arith
at-least-one d (suc levels) f = omega arith

pub not-more : (n : ℕ) (c : CheckComplaint) → complain_if (nat_lt nesting_limit n) c ≡ [] → n ≤ 8
not-more n c h = cases (nat_lt 8 n) refl h
  where
    cases : (b : Bool) → nat_lt 8 n ≡ b → complain_if b c ≡ [] → n ≤ 8
    cases true e k = cc
    cases false e k = grind (arith, nat_tests)

-- one of eight numbers
pub pick : (R : ℕ → Type 0) → Each R (1 ∷ 2 ∷ 3 ∷ 4 ∷ 5 ∷ 6 ∷ 7 ∷ 8 ∷ []) → (n : ℕ) → 1 ≤ n → n ≤ 8 → R n
pick R e zero a b = absurd (none a)
  where
    none : 1 ≤ 0 → ⊥
    none a = omega (arith, a)
pick R e (suc zero) a b = e.0
pick R e (suc (suc zero)) a b = e.1.0
pick R e (suc (suc (suc zero))) a b = e.1.1.0
pick R e (suc (suc (suc (suc zero)))) a b = e.1.1.1.0
pick R e (suc (suc (suc (suc (suc zero))))) a b = e.1.1.1.1.0
pick R e (suc (suc (suc (suc (suc (suc zero)))))) a b = e.1.1.1.1.1.0
pick R e (suc (suc (suc (suc (suc (suc (suc zero))))))) a b = e.1.1.1.1.1.1.0
pick R e (suc (suc (suc (suc (suc (suc (suc (suc zero)))))))) a b = e.1.1.1.1.1.1.1.0
pick R e (suc (suc (suc (suc (suc (suc (suc (suc (suc n))))))))) a b = absurd (beyond n b)
  where
    beyond : (n : ℕ) → suc (suc (suc (suc (suc (suc (suc (suc (suc n)))))))) ≤ 8 → ⊥
    beyond n b = omega (arith, b)

abbrev pub nest : Document → Name → ℕ
nest d f = nesting d (length d.flows) f

abbrev pub Silent : Document → Name × Flow → Type 0
Silent d f = flow_complaints d f ≡ []

abbrev pub deep_told : Document → Name × Flow → List CheckComplaint
deep_told d f = let n = nesting d (length d.flows) f.0 in complain_if (nat_lt nesting_limit n) (with_numbers too_deep (at_flow f.0) n nesting_limit)

pub each-silent : (d : Document) (fs : List (Name × Flow)) → Each (λ f. deep_told d f ≡ []) fs → ((n : ℕ) → 1 ≤ n → n ≤ 8 → Each (λ f. (nest d f.0 == n) ≡ true → Silent d f) fs) → Each (Silent d) fs
each-silent d [] few g = tt
each-silent d (f ∷ fs) few g =
    ((g (nest d f.0) (at-least-one d (length d.flows) f.0) (not-more (nest d f.0) _ few.0)).0 (eq-eqb (nest d f.0) (nest d f.0) refl), each-silent d fs few.1 (λ n a b. (g n a b).1))

abbrev pub eight : List ℕ
eight = 1 ∷ 2 ∷ 3 ∷ 4 ∷ 5 ∷ 6 ∷ 7 ∷ 8 ∷ []

-- where flows nest at most eight levels, the pass on depths speaks of each
pub all-silent : (d : Document) → nesting_complaints d ≡ [] → depth_complaints d ≡ [] → Each (Silent d) d.flows
all-silent d few h =
    let by_number = split-each (Silent d) (λ n. filter (λ f. nesting d (length d.flows) f.0 == n) d.flows) eight (nil-each (flow_complaints d) (by_nesting d eight) h) in
    each-silent d d.flows (nil-each (deep_told d) d.flows few)
    (λ n a b. of-filter (Silent d) (λ f. nesting d (length d.flows) f.0 == n) d.flows (pick (λ n. Each (Silent d) (filter (λ f. nesting d (length d.flows) f.0 == n) d.flows)) by_number n a b))

-- a flow that an activity opens is there, and nests less deep
module _ (d : Document) (k : ℕ) (deeper : (g : Name) → has_name d.flows g ≡ true → flow_nesting d g ≤ k → NestsWithin d.flows k g) (n : ℕ) (few : n ≤ suc k) where
  activities-nest : (acts : List Activity) → list_all (opens_lower d n) acts ≡ true → list_all (has_name d.flows) (filter_map opened_flow acts) ≡ true → ActivitiesNest (NestsWithin d.flows k) acts
  activities-nest [] l h = tt
  activities-nest (service m ∷ acts) l h = activities-nest acts l h
  activities-nest (nested g ∷ acts) l h =
      let a = and_parts (opens_lower d n (nested g)) (list_all (opens_lower d n) acts) l in
      let b = and_parts (has_name d.flows g) (list_all (has_name d.flows) (filter_map opened_flow acts)) h in
      (deeper g b.0 (less g (has_name d.flows g) b.0 a.0), activities-nest acts a.1 b.1)
    where
      less : (g : Name) (c : Bool) → c ≡ true → (not c || nat_lt (flow_nesting d g) n) ≡ true → flow_nesting d g ≤ k
      less g true e l = let lt : flow_nesting d g < n = ltb-true (flow_nesting d g) n l in omega (arith, lt, few)
      less g false e l = cc

  steps-nest : (ss : List (Name × Step)) → list_all (λ s. list_all (opens_lower d n) s.1.activities) ss ≡ true → list_all (has_name d.flows) (flat_map (λ s. filter_map opened_flow s.1.activities) ss) ≡ true → StepsNest (NestsWithin d.flows k) ss
  steps-nest [] l h = tt
  steps-nest (s ∷ ss) l h =
      let a = and_parts (list_all (opens_lower d n) s.1.activities) _ l in
      let b = and_parts (list_all (has_name d.flows) (filter_map opened_flow s.1.activities)) (list_all (has_name d.flows) (flat_map (λ (s : Name × Step). filter_map opened_flow s.1.activities) ss)) (sym (list_all-append (has_name d.flows) (filter_map opened_flow s.1.activities) (flat_map (λ (s : Name × Step). filter_map opened_flow s.1.activities) ss)) ∙ h) in
      (activities-nest s.1.activities a.0 b.0, steps-nest ss a.1 b.1)

abbrev pub Lower : Document → Name × Flow → Type 0
Lower d f = list_all (λ s. list_all (opens_lower d (flow_nesting d f.0)) s.1.activities) f.1.steps ≡ true

abbrev pub OpensThere : Document → Name × Flow → Type 0
OpensThere d f = list_all (has_name d.flows) (opened_flows f.1) ≡ true

pub nests : (d : Document) → Each (Lower d) d.flows → Each (OpensThere d) d.flows → (k : ℕ) (f : Name) → has_name d.flows f ≡ true → flow_nesting d f ≤ k → NestsWithin d.flows k f
nests d l o zero f h few = absurd (none (flow_nesting d f) (at-least-one d (length d.flows) f) few)
  where
    none : (n : ℕ) → 1 ≤ n → n ≤ 0 → ⊥
    none n a b = omega (arith, a, b)
nests d l o (suc k) f h few =
    let found = is_some-some (named f d.flows) h in
    (found.0, found.1, steps-nest d k (nests d l o k) (flow_nesting d f) few found.0.steps (named-each (Lower d) f d.flows found.0 l found.1) (named-each (OpensThere d) f d.flows found.0 o found.1))
