-- The flows of a document, by nesting, each with what was measured of it.
use Rattle.std.proofs.Common.{◌≡◌, ◌∙◌, refl, sym, ap, subst, ℕ, zero, suc, ◌<◌, ◌≤◌, ◌+◌, ◌-◌, List, [], ◌∷◌, ◌++◌, length, flat_map, Bool, true, false, not, ◌||◌, Option, Some, None, unwrap_or, arith, get_or, set, slice_get, replicate, if◌then◌else◌, ◌⊎◌, inl, inr, Vec, Global}
use Rattle.std.proofs.lemmas.Bool.{ltb-true, cases_eq}
use Rattle.std.proofs.lemmas.Bool.Decides.{nat_tests}
use Rattle.std.proofs.lemmas.Option.{slice_get-get_or, slice_get_within}
use Rattle.std.specs.Prelude.{◌==◌, nat_lt, filter, is_some}
use Rattle.std.specs.List.{list_all}
use Rattle.std.specs.Option.{option_map_or}
use Rattle.std.proofs.lemmas.List.{length-map}
use Rattle.tv_lemmas.proofs.Lists.{get-map, flat-flat, all-weaken}
use Rattle.tv_lemmas.proofs.Numbers.{none-below}
use Rattle.tv_value.specs.Values.{Name}
use Rattle.tv_value.specs.Orders.{named}
use Rattle.tv_value.specs.Activities.{Activity, service, nested}
use Rattle.tv_flow.specs.Flows.{Step, Flow, Document}
use Rattle.tv_flow.specs.Formed.{is_flow, is_formed}
use Rattle.tv_model.specs.instance.Ranks.{ranked}
use Rattle.tv_naming.specs.Naming.{has_name}
use Rattle.tv_check.specs.Cycles.{nesting}
use Rattle.tv_naming.specs.Numbers.{number_in, position}
use Rattle.tv_check.specs.Depthwise.{flow_complaints, depth_complaints}
use Rattle.tv_check.specs.Tables.{IsMeasured, AreAt, has_fitting}
use Rattle.tv_check.specs.Measured.{AreWorked, IsReady, IsPrepared, IsProgress, AreOrders, is_measured, opens_measured, opens_lower, step_opens, flow_nesting, nesting_told}
use Rattle.tv_check.specs.declared.measured.Measured.{Measured}
use Rattle.tv_naming.proofs.ByPosition.{IsAt, number-found}
use Rattle.tv_naming.proofs.FormedParts.{passes, entries-passes, all-pass, document-flows}
use Rattle.tv_check.proofs.NestedLemmas.{worked-length}
use Rattle.tv_check.proofs.Ranked.{get-set-same, get-set-other}

-- ---- what is said, flow by flow

module _ {A B : Type 0} (p : A → Bool) (g : A → List B) where
  -- what is said of those that pass
  abbrev pub only : A → List B
  only x = if p x then g x else []

  pub filtered : (xs : List A) → flat_map g (filter p xs) ≡ flat_map only xs
  filtered [] = refl
  filtered (x ∷ xs) = by_test (p x) (filtered xs)
    where
      by_test : (b : Bool) → flat_map g (filter p xs) ≡ flat_map only xs → flat_map g (if b then x ∷ filter p xs else filter p xs) ≡ (if b then g x else []) ++ flat_map only xs
      by_test true e = ap (λ ys. g x ++ ys) e
      by_test false e = e

  pub only-not : (x : A) → p x ≡ false → only x ≡ []
  only-not x e = ap (λ b. if b then g x else []) e

  pub only-is : (x : A) → p x ≡ true → g x ≡ only x
  only-is x e = sym (ap (λ b. if b then g x else []) e)

-- the nestings, least first
abbrev pub all_nestings : List ℕ
all_nestings = 1 ∷ 2 ∷ 3 ∷ 4 ∷ 5 ∷ 6 ∷ 7 ∷ 8 ∷ []

pub by-nestings : (d : Document) → depth_complaints d ≡ flat_map (nesting_told d) all_nestings
by-nestings d = flat-flat (flow_complaints d) (λ n. filter (λ f. flow_nesting d f.0 == n) d.flows) all_nestings

nesting-at : (k : ℕ) → k < 8 → slice_get all_nestings k ≡ Some (suc k)
nesting-at zero h = refl
nesting-at (suc zero) h = refl
nesting-at (suc (suc zero)) h = refl
nesting-at (suc (suc (suc zero))) h = refl
nesting-at (suc (suc (suc (suc zero)))) h = refl
nesting-at (suc (suc (suc (suc (suc zero))))) h = refl
nesting-at (suc (suc (suc (suc (suc (suc zero)))))) h = refl
nesting-at (suc (suc (suc (suc (suc (suc (suc zero))))))) h = refl
nesting-at (suc (suc (suc (suc (suc (suc (suc (suc k)))))))) h = absurd (omega arith)

pub nesting-get : (n : ℕ) → 1 ≤ n → n < 9 → slice_get all_nestings (n - 1) ≡ Some n
nesting-get n low high = let e : suc (n - 1) ≡ n = omega arith in nesting-at (n - 1) (omega arith) ∙ ap Some e

-- ---- what is measured

worked-set : (fs : List (Name × Flow)) (ws : List (Option Measured)) (i : ℕ) (f : Name × Flow) (w : Measured) → AreWorked fs ws → slice_get fs i ≡ Some f → IsMeasured f.1 w.levels.items w.outputs → AreWorked fs (set ws i (Some w))
worked-set [] ws i f w h e m = cc
worked-set (x ∷ fs) [] i f w h e m = absurd h
worked-set (x ∷ fs) (y ∷ ws) zero f w h e m =
    let p : f ≡ x = cc in
    (subst (λ (u : Name × Flow). IsMeasured u.1 w.levels.items w.outputs) p m, h.1)
worked-set (x ∷ fs) (y ∷ ws) (suc i) f w h e m = (h.0, worked-set fs ws i f w h.1 e m)

worked-none : (fs : List (Name × Flow)) → AreWorked fs (replicate (length fs) None)
worked-none [] = tt
worked-none (f ∷ fs) = (tt, worked-none fs)

module _ (d : Document) where
  pub nesting-positive : (k : ℕ) (f : Name) → 1 ≤ nesting d k f
  nesting-positive zero f = omega arith
  nesting-positive (suc k) f = omega arith

  pub progress-start : (ws : List (Option Measured)) → ws ≡ replicate (length d.flows) None → IsProgress d ws 1 0
  progress-start ws e =
      record {
        worked = subst (AreWorked d.flows) (sym e) (worked-none d.flows);
        done = λ i f g h. elim h [ inl p ↦ absurd (omega (arith, p, nesting-positive (length d.flows) f.0)) | inr q ↦ none-below i q.1 ];
      }

  module _ (ws : List (Option Measured)) (n j : ℕ) (so : IsProgress d ws n j) where
    pub progress-put : (f : Name × Flow) (w : Measured) → slice_get d.flows j ≡ Some f → IsMeasured f.1 w.levels.items w.outputs → IsProgress d (set ws j (Some w)) n (j + 1)
    progress-put f w e m =
        record {
          worked = worked-set d.flows ws j f w so.worked e m;
          done = λ i g h b. by_place i g h b (cases_eq j i);
        }
      where
        by_place : (i : ℕ) (g : Name × Flow) → slice_get d.flows i ≡ Some g → (flow_nesting d g.0 < n) ⊎ ((flow_nesting d g.0 ≡ n) × (i < j + 1)) → (j ≡ i) ⊎ (j ≡ i → ⊥) → is_measured (set ws j (Some w)) i ≡ true
        by_place i g h b (inl q) =
            let lt : j < length ws = omega (arith, slice_get_within d.flows j f e, worked-length d.flows ws so.worked) in
            subst (λ k. is_measured (set ws j (Some w)) k ≡ true) q (ap (λ o. is_some (unwrap_or o None)) (get-set-same ws j (Some w) lt))
        by_place i g h b (inr q) =
            let before : (flow_nesting d g.0 < n) ⊎ ((flow_nesting d g.0 ≡ n) × (i < j)) = elim b [ inl p ↦ inl p | inr p ↦ inr (p.0, let lt : i < j + 1 = p.1 in apart i lt q) ] in
            ap (λ o. is_some (unwrap_or o None)) (get-set-other ws j i (Some w) q) ∙ so.done i g h before
          where
            apart : (k : ℕ) → k < j + 1 → (j ≡ k → ⊥) → k < j
            apart k lt r = omega arith

    pub progress-skip : (f : Name × Flow) → slice_get d.flows j ≡ Some f → (flow_nesting d f.0 ≡ n → ⊥) → IsProgress d ws n (j + 1)
    progress-skip f e h = record { worked = so.worked; done = λ i g k b. so.done i g k (before i g k b) }
      where
        before : (i : ℕ) (g : Name × Flow) → slice_get d.flows i ≡ Some g → (flow_nesting d g.0 < n) ⊎ ((flow_nesting d g.0 ≡ n) × (i < j + 1)) → (flow_nesting d g.0 < n) ⊎ ((flow_nesting d g.0 ≡ n) × (i < j))
        before i g k (inl p) = inl p
        before i g k (inr p) = inr (p.0, nearer (cases_eq j i))
          where
            nearer : (j ≡ i) ⊎ (j ≡ i → ⊥) → i < j
            nearer (inl q) =
                let s : Some f ≡ Some g = sym e ∙ (ap (slice_get d.flows) q ∙ k) in
                let t : g ≡ f = cc in
                absurd (h (ap (λ (u : Name × Flow). flow_nesting d u.0) (sym t) ∙ p.0))
            nearer (inr q) = let lt : i < j + 1 = p.1 in omega arith

    pub progress-next : length d.flows ≤ j → IsProgress d ws (n + 1) 0
    progress-next all =
        record {
          worked = so.worked;
          done = λ i g k b. so.done i g k (elim b [ inl p ↦ earlier i g k p | inr q ↦ none-below i q.1 ]);
        }
      where
        earlier : (i : ℕ) (g : Name × Flow) → slice_get d.flows i ≡ Some g → flow_nesting d g.0 < n + 1 → (flow_nesting d g.0 < n) ⊎ ((flow_nesting d g.0 ≡ n) × (i < j))
        earlier i g k p = by_test (nat_lt (flow_nesting d g.0) n) refl
          where
            by_test : (b : Bool) → nat_lt (flow_nesting d g.0) n ≡ b → (flow_nesting d g.0 < n) ⊎ ((flow_nesting d g.0 ≡ n) × (i < j))
            by_test true e = inl (ltb-true _ _ e)
            by_test false e = inr (at-most (flow_nesting d g.0) n p e, omega (arith, slice_get_within d.flows i g k, all))
              where
                at-most : (a b : ℕ) → a < b + 1 → nat_lt a b ≡ false → a ≡ b
                at-most a b lt f = grind (arith, nat_tests)

-- ---- what is ready

module _ (d : Document) (ws : List (Option Measured)) (n j : ℕ) (so : IsProgress d ws n j) (e : Name × Flow) where
  -- a flow that nests less deep is measured
  lower-measured : (a : Activity) → opens_lower d n a ≡ true → opens_measured d ws a ≡ true
  lower-measured (service s) h = refl
  lower-measured (nested g) h = by_number (number_in d.flows g) refl
    where
      there : (k : ℕ) → number_in d.flows g ≡ Some k → (b : Bool) → has_name d.flows g ≡ b → is_measured ws k ≡ true
      there k p false q = let r : None ≡ Some k = ap (λ b. if b then Some (position g d.flows) else None) (sym q) ∙ p in cc
      there k p true q =
          let at : IsAt g d.flows k (named g d.flows) = number-found d.flows g k p in
          let test : nat_lt (flow_nesting d g) n ≡ true = subst (λ b. (not b || nat_lt (flow_nesting d g) n) ≡ true) q h in
          let lt : flow_nesting d (get_or d.flows k e).0 < n = subst (λ m. flow_nesting d m < n) (sym (at.name e)) (ltb-true _ _ test) in
          so.done k (get_or d.flows k e) (slice_get-get_or d.flows k e at.below) (inl lt)

      by_number : (o : Option ℕ) → number_in d.flows g ≡ o → option_map_or (is_measured ws) (number_in d.flows g) true ≡ true
      by_number None p = ap (λ o. option_map_or (is_measured ws) o true) p
      by_number (Some k) p = ap (λ o. option_map_or (is_measured ws) o true) p ∙ there k p (has_name d.flows g) refl

  pub ready : (orders : List (Vec ℕ Global)) (ns : List ℕ) → IsPrepared d orders ns → is_formed d ≡ true → (f : Name × Flow) → slice_get d.flows j ≡ Some f → flow_nesting d f.0 ≡ n → IsReady d ws f.1
  ready orders ns prepared formed f at level =
      let flows = document-flows d formed in
      let low = passes (λ (g : Name × Flow). list_all (λ s. list_all (opens_lower d (flow_nesting d g.0)) s.1.activities) g.1.steps) d.flows j f prepared.lower at in
      record {
        formed = entries-passes is_flow d.flows j f (all-pass is_flow 1 256 d.flows flows) at;
        fitting = passes (λ (g : Name × Flow). list_all (λ s. has_fitting s.1) g.1.steps) d.flows j f prepared.fitting at;
        opening = all-weaken (λ (s : Name × Step). list_all (opens_lower d (flow_nesting d f.0)) s.1.activities) (λ (s : Name × Step). step_opens d ws s.1) (λ s h. all-weaken (opens_lower d (flow_nesting d f.0)) (opens_measured d ws) (λ a p. lower-measured a (subst (λ m. opens_lower d m a ≡ true) level p)) s.1.activities h) f.1.steps low;
      }

pub orders-at : (fs : List (Name × Flow)) (os : List (Vec ℕ Global)) (j : ℕ) (f : Name × Flow) (o : Vec ℕ Global) → AreOrders fs os → slice_get fs j ≡ Some f → slice_get os j ≡ Some o → AreAt f.1.steps o.items (ranked f.1.steps)
orders-at [] os j f o h e g = cc
orders-at (x ∷ fs) [] j f o h e g = absurd h
orders-at (x ∷ fs) (y ∷ os) zero f o h e g =
    let a : x ≡ f = cc in
    let b : y ≡ o = cc in
    subst (λ (u : Name × Flow). AreAt u.1.steps o.items (ranked u.1.steps)) a (subst (λ (v : Vec ℕ Global). AreAt x.1.steps v.items (ranked x.1.steps)) b h.0)
orders-at (x ∷ fs) (y ∷ os) (suc j) f o h e g = orders-at fs os j f o h.1 e g

pub orders-length : (fs : List (Name × Flow)) (os : List (Vec ℕ Global)) → AreOrders fs os → length os ≡ length fs
orders-length [] [] h = refl
orders-length [] (o ∷ os) h = absurd h
orders-length (f ∷ fs) [] h = absurd h
orders-length (f ∷ fs) (o ∷ os) h = ap suc (orders-length fs os h.1)

module _ (d : Document) (orders : List (Vec ℕ Global)) (ns : List ℕ) (prepared : IsPrepared d orders ns) where
  pub nestings-length : length ns ≡ length d.flows
  nestings-length = ap length prepared.nestings_are ∙ length-map d.flows (λ (f : Name × Flow). flow_nesting d f.0)

  pub nesting-is : (j : ℕ) (f : Name × Flow) → slice_get d.flows j ≡ Some f → get_or ns j 0 ≡ flow_nesting d f.0
  nesting-is j f e =
      let lt : j < length ns = omega (arith, slice_get_within d.flows j f e, nestings-length) in
      let p : Some (get_or ns j 0) ≡ Some (flow_nesting d f.0) = sym (slice_get-get_or ns j 0 lt) ∙ (ap (λ xs. slice_get xs j) prepared.nestings_are ∙ get-map (λ (g : Name × Flow). flow_nesting d g.0) d.flows j f e) in
      cc
