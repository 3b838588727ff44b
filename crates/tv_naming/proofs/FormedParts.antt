-- What the form of a document says of its parts.
use Rattle.std.proofs.Common.{◌≡◌, refl, ap, subst, ℕ, zero, suc, ◌≤◌, List, [], ◌∷◌, length, Bool, true, false, ◌&&◌, Some, slice_get, if◌then◌else◌}
use Rattle.std.specs.List.{list_all}
use Rattle.std.specs.Prelude.{nat_le}
use Rattle.std.proofs.lemmas.Bool.{leb-true, and_parts}
use Rattle.tv_value.specs.Values.{Name}
use Rattle.tv_value.specs.Orders.{same_name, named}
use Rattle.tv_flow.specs.Flows.{Step, Flow, Document}
use Rattle.tv_flow.specs.Formed.{is_ascending, is_activity, is_depth, are_listed, are_named, are_names, is_step_input, is_step, is_feed, is_flow, is_formed}
use Rattle.tv_flow.specs.Forms.{is_name}
use Rattle.tv_flow.specs.Views.{each}
use Rattle.tv_naming.proofs.ByPosition.{names_of}

-- ---- lists that pass a test

module _ {A : Type 0} (p : A → Bool) where
  pub passes : (xs : List A) (i : ℕ) (x : A) → list_all p xs ≡ true → slice_get xs i ≡ Some x → p x ≡ true
  passes [] i x h e = cc
  passes (y ∷ ys) zero x h e = let f : y ≡ x = cc in subst (λ z. p z ≡ true) f (and_parts _ _ h).0
  passes (y ∷ ys) (suc i) x h e = passes ys i x (and_parts _ _ h).1 e

module _ {A : Type 0} (test : A → Bool) where
  pub entries-passes : (xs : List (Name × A)) (i : ℕ) (x : Name × A) → list_all (λ e. is_name e.0 && test e.1) xs ≡ true → slice_get xs i ≡ Some x → test x.1 ≡ true
  entries-passes xs i x h e = (and_parts _ _ (passes (λ (y : Name × A). is_name y.0 && test y.1) xs i x h e)).1

  named-passes-by : (n : Name) (y : Name × A) (ys : List (Name × A)) (x : A) (b : Bool) → test y.1 ≡ true → (named n ys ≡ Some x → test x ≡ true) → (if b then Some y.1 else named n ys) ≡ Some x → test x ≡ true
  named-passes-by n y ys x true t k e = let f : y.1 ≡ x = cc in subst (λ z. test z ≡ true) f t
  named-passes-by n y ys x false t k e = k e

  pub named-passes : (n : Name) (xs : List (Name × A)) (x : A) → list_all (λ e. is_name e.0 && test e.1) xs ≡ true → named n xs ≡ Some x → test x ≡ true
  named-passes n [] x h e = cc
  named-passes n (y ∷ ys) x h e = named-passes-by n y ys x (same_name n y.0) (and_parts _ _ (and_parts _ _ h).0).1 (named-passes n ys x (and_parts _ _ h).1) e

-- ---- the parts of a list of names with things

module _ {A : Type 0} (test : A → Bool) (least most : ℕ) (xs : List (Name × A)) (h : are_named test least most xs ≡ true) where
  pub ascending : is_ascending (names_of xs) ≡ true
  ascending = (and_parts _ _ (and_parts _ _ h).1).0

  pub all-pass : list_all (λ e. is_name e.0 && test e.1) xs ≡ true
  all-pass = (and_parts _ _ (and_parts _ _ h).1).1

  pub few : length xs ≤ most
  few = let e : nat_le (length xs) most ≡ true = (and_parts _ _ (and_parts _ _ h).0).1 in leb-true _ _ e

-- the names stay where things are seen otherwise
pub each-names : {A B : Type 0} (g : A → B) (xs : List (Name × A)) → names_of (each g xs) ≡ names_of xs
each-names g [] = refl
each-names g (x ∷ xs) = ap (λ ns. x.0 ∷ ns) (each-names g xs)

-- ---- depths

pub depth-small : (d : ℕ) → is_depth d ≡ true → d ≤ 32
depth-small d h = let e : nat_le d 32 ≡ true = (and_parts _ _ h).1 in leb-true _ _ e

-- ---- flows and steps

module _ (f : Flow) (h : is_flow f ≡ true) where
  pub flow-inputs : are_named is_depth 0 16 f.inputs ≡ true
  flow-inputs = (and_parts _ _ (and_parts _ _ h).0).0

  pub flow-steps : are_named is_step 0 1000 f.steps ≡ true
  flow-steps = (and_parts _ _ (and_parts _ _ h).0).1

  pub flow-outputs : are_named is_feed 0 16 f.outputs ≡ true
  flow-outputs = (and_parts _ _ h).1

  pub steps-ascend : is_ascending (names_of f.steps) ≡ true
  steps-ascend = ascending is_step 0 1000 f.steps flow-steps

  pub step-at : (i : ℕ) (s : Name × Step) → slice_get f.steps i ≡ Some s → is_step s.1 ≡ true
  step-at i s e = entries-passes is_step f.steps i s (all-pass is_step 0 1000 f.steps flow-steps) e

module _ (s : Step) (h : is_step s ≡ true) where
  step-ports : (are_named is_step_input 0 16 s.inputs ≡ true) × (are_named is_depth 0 16 s.outputs ≡ true)
  step-ports = and_parts _ _ (and_parts _ _ (and_parts _ _ (and_parts _ _ (and_parts _ _ (and_parts _ _ (and_parts _ _ h).0).0).0).0).0).0

  pub step-activities : length s.activities ≤ 8
  step-activities =
      let l : are_listed is_activity 1 8 s.activities ≡ true = (and_parts _ _ (and_parts _ _ (and_parts _ _ (and_parts _ _ (and_parts _ _ h).0).0).0).0).1 in
      let e : nat_le (length s.activities) 8 ≡ true = (and_parts _ _ (and_parts _ _ l).0).1 in
      leb-true _ _ e

  pub step-after : length s.after ≤ 16
  step-after =
      let l : are_names s.after ≡ true = (and_parts _ _ (and_parts _ _ h).0).1 in
      let e : nat_le (length s.after) 16 ≡ true = (and_parts _ _ (and_parts _ _ l).0).0 in
      leb-true _ _ e

  pub step-inputs : are_named is_step_input 0 16 s.inputs ≡ true
  step-inputs = step-ports.0

  pub step-outputs : are_named is_depth 0 16 s.outputs ≡ true
  step-outputs = step-ports.1

-- ---- documents

pub document-flows : (d : Document) → is_formed d ≡ true → are_named is_flow 1 256 d.flows ≡ true
document-flows d h = (and_parts _ _ (and_parts _ _ h).0).1
