-- What the form of a document says of its lists of names.
use Rattle.std.specs.Prelude.{◌≡◌, ℕ, zero, suc, refl, ◌<◌, ◌≤◌, ◌&&◌, List, [], ◌∷◌, length, Bool, true, nat_le}
use Rattle.std.specs.List.{list_all}
use Rattle.std.proofs.Common.{arith, get_or, ap, sym, subst, ◌∙◌}
use Rattle.std.proofs.lemmas.Bool.Decides.{nat_tests}
use Rattle.std.proofs.lemmas.List.{length-map}
use Rattle.std.proofs.lemmas.Bool.{and_parts}
use Rattle.std.proofs.lemmas.Simd.{map-map}
use Rattle.tv_value.specs.Values.{Name}
use Rattle.tv_flow.specs.Flows.{Flow, Document}
use Rattle.tv_flow.specs.Forms.{is_name}
use Rattle.tv_flow.specs.Formed.{is_ascending, is_between, are_of_format, are_entries, are_named, is_depth, is_value, is_step, is_feed, is_flow, is_formed}
use Rattle.tv_flow.specs.declared.document.Flow as code
use Rattle.tv_flow.specs.Views.{each, flow_view}
use Rattle.tv_naming.proofs.Lists.{list_all-at}
use Rattle.tv_naming.proofs.ByPosition.{names_of}

pub record AreNamed {A : Type 0} (test : A → Bool) (most : ℕ) (xs : List (Name × A)) : Type 0 where
  pub few : length xs ≤ most
  pub rise : is_ascending (names_of xs) ≡ true
  pub pass : (k : ℕ) (d : Name × A) → k < length xs → test (get_or xs k d).1 ≡ true

at-most : (m n : ℕ) → nat_le m n ≡ true → m ≤ n
at-most m n h = grind (arith, nat_tests)

pub named-rightly : {A : Type 0} (test : A → Bool) (least most : ℕ) (xs : List (Name × A)) → are_named test least most xs ≡ true → AreNamed test most xs
named-rightly test least most xs h =
    let p = and_parts (is_between least most (length xs)) (are_entries test xs) h in
    let q = and_parts (is_ascending (names_of xs)) (list_all (λ e. is_name e.0 && test e.1) xs) p.1 in
    record {
      few = at-most (length xs) most (and_parts (nat_le least (length xs)) (nat_le (length xs) most) p.0).1;
      rise = q.0;
      pass = λ k d lt. (and_parts (is_name (get_or xs k d).0) (test (get_or xs k d).1) (list_all-at (λ e. is_name e.0 && test e.1) xs k d q.1 lt)).1;
    }

pub flows-named : (d : Document) → is_formed d ≡ true → AreNamed is_flow 256 d.flows
flows-named d h =
    let p = and_parts (are_of_format d.format d.flows && is_name d.main && are_named is_flow 1 256 d.flows) (are_entries is_value d.inputs) h in
    named-rightly is_flow 1 256 d.flows (and_parts (are_of_format d.format d.flows && is_name d.main) (are_named is_flow 1 256 d.flows) p.0).1

pub steps-named : (f : Flow) → is_flow f ≡ true → AreNamed is_step 1000 f.steps
steps-named f h =
    let p = and_parts (are_named is_depth 0 16 f.inputs && are_named is_step 0 1000 f.steps) (are_named is_feed 0 16 f.outputs) h in
    named-rightly is_step 0 1000 f.steps (and_parts (are_named is_depth 0 16 f.inputs) (are_named is_step 0 1000 f.steps) p.0).1

-- ---- of the code's lists

module _ {A B : Type 0} (v : A → B) (xs : List (Name × A)) where
  pub names-each : names_of (each v xs) ≡ names_of xs
  names-each = map-map (λ e. e.0) (λ e. (e.0, v e.1)) xs

  pub rise-each : is_ascending (names_of (each v xs)) ≡ true → is_ascending (names_of xs) ≡ true
  rise-each h = ap is_ascending (sym names-each) ∙ h

  pub length-each : length (each v xs) ≡ length xs
  length-each = length-map xs (λ e. (e.0, v e.1))

module _ {A B : Type 0} (v : A → B) where
  pub entry-each : (xs : List (Name × A)) (k : ℕ) (d : Name × A) → get_or (each v xs) k (d.0, v d.1) ≡ ((get_or xs k d).0, v (get_or xs k d).1)
  entry-each [] k d = refl
  entry-each (x ∷ xs) zero d = refl
  entry-each (x ∷ xs) (suc k) d = entry-each xs k d

-- what passes of each thing that a list stands for, of the code's thing at an index
pub passes-at : {A B : Type 0} (v : A → B) (test : B → Bool) (xs items : List (Name × A)) → items ≡ xs → ((k : ℕ) (d : Name × B) → k < length (each v xs) → test (get_or (each v xs) k d).1 ≡ true) → (k : ℕ) (x : Name × A) → k < length items → x ≡ get_or items k x → test (v x.1) ≡ true
passes-at v test xs items are pass k x lt is =
    let inside : k < length (each v xs) = subst (λ n. k < n) (ap length are ∙ sym (length-each v xs)) lt in
    ap (λ y. test (v y.1)) (is ∙ ap (λ ys. get_or ys k x) are) ∙ ap (λ y. test y.1) (sym (entry-each v xs k x)) ∙ pass k (x.0, v x.1) inside

-- each flow of a document that was read
pub flow-at : (flows items : List (Name × code.Flow)) (d : Document) → is_formed d ≡ true → d.flows ≡ each flow_view flows → items ≡ flows → (k : ℕ) (x : Name × code.Flow) → k < length items → x ≡ get_or items k x → is_flow (flow_view x.1) ≡ true
flow-at flows items d formed same are =
    passes-at flow_view is_flow flows items are (λ k y lt. ap (λ fs. is_flow (get_or fs k y).1) (sym same) ∙ (flows-named d formed).pass k y (subst (λ fs. k < length fs) (sym same) lt))
