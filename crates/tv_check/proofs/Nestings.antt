-- Nestings of flows, by the heights of their numbers.
use Rattle.std.specs.Prelude.{◌≡◌, ℕ, zero, suc, ◌+◌, ◌<◌, List, [], ◌∷◌, ◌++◌, length, map, Bool, true, false, Option, Some, None, option_map, refl, find, flat_map, cond, if◌then◌else◌}
use Rattle.std.specs.List.{list_all, position_from}
use Rattle.std.specs.List as std
use Rattle.std.specs.Option.{option_map_or}
use Rattle.std.proofs.Common.{arith, get_or, ap, sym, subst, ◌∙◌}
use Rattle.std.proofs.lemmas.List.{length-map}
use Rattle.tv_value.specs.Values.{Name}
use Rattle.std.proofs.lemmas.Iterator.Adapters.{position_from-zero}
use Rattle.std.proofs.lemmas.Bool.{and_parts}
use Rattle.std.proofs.lemmas.Simd.{map-map}
use Rattle.tv_value.specs.Orders.{named, same_name}
use Rattle.tv_flow.specs.Flows.{Flow, Document}
use Rattle.tv_flow.specs.Formed.{is_ascending}
use Rattle.tv_naming.specs.graphs.Graphs.{Graph, first_on_cycle, greatest, height, heights}
use Rattle.tv_naming.specs.Naming.{complain_if}
use Rattle.tv_naming.specs.Faulty.{CheckComplaint, first_of}
use Rattle.tv_check.specs.Cycles.{opened_flows, flows_in, nesting, nestings, cycle_complaints}
use Rattle.tv_naming.specs.Faulty.{at_flow, flow_cycle, plainly}
use Rattle.tv_check.specs.NamedGraphs.{numbers_of, leads_inside}
use Rattle.tv_naming.proofs.Lists.{map-same}
use Rattle.tv_naming.proofs.ByPosition.{names_of}
use Rattle.tv_check.proofs.GraphLemmas.{graph, at, before-next}
use Rattle.tv_check.proofs.CycleLemmas.{vertices-are, first-reaching, first-told, on_cycle}
use Rattle.tv_check.proofs.Ranks.{numbers-all, all_there}

module _ (d : Document) (rises : is_ascending (names_of d.flows) ≡ true) (inside : leads_inside opened_flows d.flows ≡ true) where
  abbrev g : Graph
  g = graph opened_flows d.flows

  -- what a flow opens is there
  pub opened-there : (n : Name) → all_there d.flows (flows_in d n) ≡ true
  opened-there n = go d.flows inside
    where
      step : (f : Name × Flow) (fs : List (Name × Flow)) (b : Bool) → all_there d.flows (opened_flows f.1) ≡ true → all_there d.flows (option_map_or opened_flows (named n fs) []) ≡ true → all_there d.flows (option_map_or opened_flows (if b then Some f.1 else named n fs) []) ≡ true
      step f fs true h t = h
      step f fs false h t = t

      go : (fs : List (Name × Flow)) → list_all (λ f. all_there d.flows (opened_flows f.1)) fs ≡ true → all_there d.flows (option_map_or opened_flows (named n fs) []) ≡ true
      go [] h = refl
      go (f ∷ fs) h =
          let b = and_parts (all_there d.flows (opened_flows f.1)) (list_all (λ f. all_there d.flows (opened_flows f.1)) fs) h in
          step f fs (same_name n f.0) b.0 (go fs b.1)

  pub nest : (k : ℕ) (n : Name) → height g k (at opened_flows d.flows n) ≡ nesting d k n
  nest zero n = refl
  nest (suc k) n =
      ap (λ us. suc (greatest (map (height g k) us))) (before-next opened_flows d.flows n ∙ numbers-all d.flows (flows_in d n) (opened-there n))
      ∙ ap (λ us. suc (greatest us)) (map-map (height g k) (at opened_flows d.flows) (flows_in d n) ∙ map-same (λ m. height g k (at opened_flows d.flows m)) (nesting d k) (flows_in d n) (nest k))

  pub nestings-are : heights g ≡ nestings d
  nestings-are =
      ap (map (height g (length g))) (vertices-are opened_flows d.flows rises)
      ∙ map-map (height g (length g)) (λ f. at opened_flows d.flows f.0) d.flows
      ∙ ap (λ k. map (λ f. height g k (at opened_flows d.flows f.0)) d.flows) (length-map d.flows (λ f. numbers_of d.flows (opened_flows f.1)))
      ∙ map-same _ _ d.flows (λ f. nest (length d.flows) f.0)

-- where no flow is told to open itself, no vertex is on a cycle
pub cycle-free : (d : Document) (rises : is_ascending (names_of d.flows) ≡ true) → first_of (cycle_complaints d) ≡ None → first_on_cycle (graph opened_flows d.flows) ≡ None
cycle-free d rises e =
    first-reaching opened_flows d.flows rises
    ∙ cases (find (on_cycle opened_flows d.flows rises) d.flows) (sym (first-told (on_cycle opened_flows d.flows rises) (λ f. plainly flow_cycle (at_flow f.0)) d.flows) ∙ e)
  where
    cases : (o : Option (Name × Flow)) → option_map (λ f. plainly flow_cycle (at_flow f.0)) o ≡ None → option_map (λ f. at opened_flows d.flows f.0) o ≡ None
    cases None h = refl
    cases (Some f) h = cc

-- ---- the first complaint about numbers

module _ {X : Type 0} (p : ℕ → Bool) (h : X → ℕ) (c : X → CheckComplaint) where
  abbrev told : List X → Option CheckComplaint
  told xs = first_of (flat_map (λ x. complain_if (p (h x)) (c x)) xs)

  pub record IsToldAt (xs : List X) (k : ℕ) : Type 0 where
    pub inside : k < length xs
    pub is : (d : X) → told xs ≡ Some (c (get_or xs k d))

  told-more : (x : X) (xs : List X) → p (h x) ≡ false → told (x ∷ xs) ≡ told xs
  told-more x xs e = ap (λ b. first_of (complain_if b (c x) ++ flat_map (λ x. complain_if (p (h x)) (c x)) xs)) e

  told-now : (x : X) (xs : List X) → p (h x) ≡ true → told (x ∷ xs) ≡ Some (c x)
  told-now x xs e = ap (λ b. first_of (complain_if b (c x) ++ flat_map (λ x. complain_if (p (h x)) (c x)) xs)) e

  from-None : (i : ℕ) (xs : List X) → position_from p i (map h xs) ≡ None → told xs ≡ None
  from-None i [] e = refl
  from-None i (x ∷ xs) e = cases (p (h x)) refl e (from-None (i + 1) xs)
    where
      cases : (b : Bool) → p (h x) ≡ b → cond b (Some i) (position_from p (i + 1) (map h xs)) ≡ None → (position_from p (i + 1) (map h xs) ≡ None → told xs ≡ None) → told (x ∷ xs) ≡ None
      cases true q e t = cc
      cases false q e t = told-more x xs q ∙ t e

  from-Some : (i : ℕ) (xs : List X) (k : ℕ) → position_from p i (map h xs) ≡ Some k → (j : ℕ) × (i + j ≡ k) × IsToldAt xs j
  from-Some i [] k e = cc
  from-Some i (x ∷ xs) k e = cases (p (h x)) refl e (from-Some (i + 1) xs k)
    where
      later : (j : ℕ) → p (h x) ≡ false → IsToldAt xs j → IsToldAt (x ∷ xs) (suc j)
      later j q t = record { inside = omega (arith, t.inside); is = λ d. told-more x xs q ∙ t.is d }

      cases : (b : Bool) → p (h x) ≡ b → cond b (Some i) (position_from p (i + 1) (map h xs)) ≡ Some k → (position_from p (i + 1) (map h xs) ≡ Some k → (j : ℕ) × (i + 1 + j ≡ k) × IsToldAt xs j) → (j : ℕ) × (i + j ≡ k) × IsToldAt (x ∷ xs) j
      cases true q e t = let same : i ≡ k = cc in (0, (let z : i + 0 ≡ k = omega (arith, same) in z), record { inside = omega arith; is = λ d. told-now x xs q })
      cases false q e t = let r = t e in (suc r.0, (let z : i + suc r.0 ≡ k = omega (arith, r.1) in z), later r.0 q r.2)

  pub no-position : (xs : List X) → std.position p (map h xs) ≡ None → told xs ≡ None
  no-position xs e = from-None 0 xs (sym (position_from-zero p (map h xs)) ∙ e)

  pub a-position : (xs : List X) (k : ℕ) → std.position p (map h xs) ≡ Some k → IsToldAt xs k
  a-position xs k e =
      let r = from-Some 0 xs k (sym (position_from-zero p (map h xs)) ∙ e) in
      let same : r.0 ≡ k = omega (arith, r.1) in
      subst (IsToldAt xs) same r.2

  pub number-at : (xs : List X) (k : ℕ) (d : X) → k < length xs → get_or (map h xs) k 0 ≡ h (get_or xs k d)
  number-at [] k d lt = absurd (omega arith)
  number-at (x ∷ xs) zero d lt = refl
  number-at (x ∷ xs) (suc k) d lt = number-at xs k d (omega arith)
