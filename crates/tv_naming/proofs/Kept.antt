-- What a document that was read keeps, at each of its parts; and look-ups in the lists that views give.
use Rattle.std.specs.Prelude.{◌≡◌, ℕ, zero, suc, ◌<◌, ◌≤◌, List, [], ◌∷◌, length, map, Bool, true, false, ◌&&◌, if◌then◌else◌, Option, Some, None, is_some, option_map, refl}
use Rattle.std.proofs.Common.{arith, get_or, ap, sym, ◌∙◌}
use Rattle.std.specs.List.{list_all}
use Rattle.std.proofs.lemmas.Bool.{leb-true, and_parts}
use Rattle.tv_lemmas.proofs.Numbers.{none-below}
use Rattle.tv_lemmas.proofs.Options.{is_some-map}
use Rattle.tv_value.specs.Values.{Name}
use Rattle.tv_value.specs.Orders.{same_name, named}
use Rattle.tv_value.specs.Views.{view as value_view}
use Rattle.tv_flow.specs.Forms.{is_name}
use Rattle.tv_flow.specs.Formed.{is_ascending, is_between, are_entries, is_step, is_flow, is_value}
use Rattle.tv_flow.specs.Views.{each, flow_view, step_view}
use Rattle.tv_flow.specs.declared.document.Document.{Document}
use Rattle.tv_flow.specs.declared.document.Flow.{Flow}
use Rattle.tv_flow.specs.declared.document.Step.{Step}
use Rattle.tv_naming.specs.Naming.{has_name}
use Rattle.tv_naming.proofs.ByPosition.{names_of}
use Rattle.tv_naming.proofs.FormedParts.{each-names}

-- ---- look-ups

pub named-each : {A B : Type 0} (v : A → B) (n : Name) (xs : List (Name × A)) → named n (each v xs) ≡ option_map v (named n xs)
named-each v n [] = refl
named-each v n (x ∷ xs) = cases (same_name n x.0) (named-each v n xs)
  where
    cases : (b : Bool) → named n (each v xs) ≡ option_map v (named n xs) → (if b then Some (v x.1) else named n (each v xs)) ≡ option_map v (if b then Some x.1 else named n xs)
    cases true h = refl
    cases false h = h

map-twice : {A B C : Type 0} (v : A → B) (now : C → A) (o : Option C) → option_map (λ x. v (now x)) o ≡ option_map v (option_map now o)
map-twice v now None = refl
map-twice v now (Some x) = refl

-- what was found in the list of the code, seen by what it stands for
pub named-found : {A B C : Type 0} (v : A → B) (now : C → A) (o : Option C) (n : Name) (xs : List (Name × A)) → option_map now o ≡ named n xs → option_map (λ x. v (now x)) o ≡ named n (each v xs)
named-found v now o n xs h = map-twice v now o ∙ ap (option_map v) h ∙ sym (named-each v n xs)

pub has-found : {A B C : Type 0} (v : A → B) (now : C → A) (o : Option C) (n : Name) (xs : List (Name × A)) → option_map now o ≡ named n xs → is_some o ≡ has_name (each v xs) n
has-found v now o n xs h = sym (is_some-map (λ x. v (now x)) o) ∙ ap is_some (named-found v now o n xs h)

pub has-each : {A B : Type 0} (v : A → B) (n : Name) (xs : List (Name × A)) → has_name (each v xs) n ≡ is_some (named n xs)
has-each v n xs = ap is_some (named-each v n xs) ∙ is_some-map v (named n xs)

-- ---- what tests of lists say of their things

pub all-at : {A B : Type 0} (test : B → Bool) (v : A → B) (xs : List A) (i : ℕ) (d : A) → list_all test (map v xs) ≡ true → i < length xs → test (v (get_or xs i d)) ≡ true
all-at test v [] i d h lt = none-below i lt
all-at test v (x ∷ xs) zero d h lt = (and_parts _ _ h).0
all-at test v (x ∷ xs) (suc i) d h lt = all-at test v xs i d (and_parts _ _ h).1 (omega arith)

module _ {A B : Type 0} (test : B → Bool) (v : A → B) where
  pub entries-ascend : (xs : List (Name × A)) → are_entries test (each v xs) ≡ true → is_ascending (names_of xs) ≡ true
  entries-ascend xs h = ap is_ascending (sym (each-names v xs)) ∙ (and_parts _ _ h).0

  pub entry-at : (xs : List (Name × A)) (i : ℕ) (d : Name × A) → are_entries test (each v xs) ≡ true → i < length xs → test (v (get_or xs i d).1) ≡ true
  entry-at xs i d h lt = (and_parts _ _ (all-at (λ (e : Name × B). is_name e.0 && test e.1) (λ e. (e.0, v e.1)) xs i d (and_parts _ _ h).1 lt)).1

pub at-most : (least most n : ℕ) → is_between least most n ≡ true → n ≤ most
at-most least most n h = leb-true n most (and_parts _ _ h).1

-- ---- steps, flows and documents

pub flow-steps : (f : Flow) → is_flow (flow_view f) ≡ true → are_entries is_step (each step_view f.steps) ≡ true
flow-steps f h = (and_parts _ _ (and_parts _ _ (and_parts _ _ h).0).1).1

pub flow-ascends : (f : Flow) → is_flow (flow_view f) ≡ true → is_ascending (names_of f.steps) ≡ true
flow-ascends f h = entries-ascend is_step step_view f.steps (flow-steps f h)

pub step-at : (f : Flow) (i : ℕ) (d : Name × Step) → is_flow (flow_view f) ≡ true → i < length f.steps → is_step (step_view (get_or f.steps i d).1) ≡ true
step-at f i d h lt = entry-at is_step step_view f.steps i d (flow-steps f h) lt

pub document-flows : (d : Document) → are_entries is_flow (each flow_view d.flows) ≡ true
document-flows d = (and_parts _ _ (and_parts _ _ (and_parts _ _ d.formed).0).1).1

pub flows-ascend : (d : Document) → is_ascending (names_of d.flows) ≡ true
flows-ascend d = entries-ascend is_flow flow_view d.flows (document-flows d)

pub flow-at : (d : Document) (i : ℕ) (x : Name × Flow) → i < length d.flows → is_flow (flow_view (get_or d.flows i x).1) ≡ true
flow-at d i x lt = entry-at is_flow flow_view d.flows i x (document-flows d) lt

pub values-ascend : (d : Document) → is_ascending (names_of d.inputs) ≡ true
values-ascend d = entries-ascend is_value value_view d.inputs (and_parts _ _ d.formed).1
