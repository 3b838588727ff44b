-- Elements that are given, and elements that were made, by what the board tells.
use Rattle.std.specs.Prelude.{Bool, List, None, Option, Some, [], false, if◌then◌else◌, is_some, map, option_and_then, option_map, true, ◌≡◌, ◌∷◌, refl}
use Rattle.std.specs.Option.{option_map_or}
use Rattle.std.proofs.Common.{ap, inr, sym, ◌∙◌}
use Rattle.tv_lemmas.proofs.Options.{is_some-map, and_then-map}
use Rattle.tv_value.specs.Nested.{Place, at}
use Rattle.tv_value.specs.Orders.{named, same_name}
use Rattle.tv_value.specs.Values.{Name, Value}
use Rattle.tv_flow.specs.Flows.{Document}
use Rattle.tv_gate.specs.Outcomes.{Giving}
use Rattle.tv_lineage.specs.Lineages.{Leaf, Record, backward, forward}
use Rattle.tv_lineage.specs.Members.{HaveSame}
use Rattle.tv_lineage.specs.Touching.{Mark}
use Rattle.tv_strategy.specs.Origins.{Traced}
use Rattle.tv_model.specs.Lineages as model
use Rattle.tv_model.specs.Meanings.{meaning}
use Rattle.tv_model.specs.records.Recorded.{leaves, main_records, marks_of, output_at}
use Rattle.tv_model.proofs.records.Meant.{meaning-backward, meaning-forward}

-- ---- what is given

-- a name in a list of which each thing is seen otherwise
named-each : {A B : Type 0} (f : A → B) (n : Name) (xs : List (Name × A)) → named n (map (λ x. (x.0, f x.1)) xs) ≡ option_map f (named n xs)
named-each f n [] = refl
named-each {A} {B} f n (x ∷ xs) = by (same_name n x.0) (named-each f n xs)
  where
    by : (b : Bool) → named n (map (λ (z : Name × A). (z.0, f z.1)) xs) ≡ option_map f (named n xs)
        → (if b then Some (f x.1) else named n (map (λ (z : Name × A). (z.0, f z.1)) xs)) ≡ option_map f (if b then Some x.1 else named n xs)
    by true h = refl
    by false h = h

-- what stands in the value of an input, by the one that was found
pub given-so : {A : Type 0} (f : A → Value) (p : Name) (q : Place) (xs : List (Name × A)) (o : Option A) → o ≡ named p xs
    → option_and_then (λ v. at v q) (named p (map (λ x. (x.0, f x.1)) xs)) ≡ option_and_then (λ a. at (f a) q) o
given-so f p q xs o e = ap (option_and_then (λ v. at v q)) (named-each f p xs ∙ ap (option_map f) (sym e)) ∙ and_then-map f (λ u. at u q) o

-- it is there where something stands in what was found
pub is-there : {A B : Type 0} (f : A → Value) (g : B → Value) (p : Name) (q : Place) (xs : List (Name × A)) (a : A) → Some a ≡ named p xs
    → (o : Option B) → option_map g o ≡ at (f a) q
    → is_some o ≡ is_some (option_and_then (λ v. at v q) (named p (map (λ x. (x.0, f x.1)) xs)))
is-there f g p q xs a e o h = sym (is_some-map g o) ∙ ap is_some (h ∙ sym (given-so f p q xs (Some a) e))

pub not-there : {A : Type 0} (f : A → Value) (p : Name) (q : Place) (xs : List (Name × A)) → None ≡ named p xs
    → false ≡ is_some (option_and_then (λ v. at v q) (named p (map (λ x. (x.0, f x.1)) xs)))
not-there f p q xs e = sym (ap is_some (given-so f p q xs None e))

-- what is said of an element that is there
pub where-there : {A B : Type 0} (o : Option A) (b n : B) → is_some o ≡ true → option_map_or (λ v. b) o n ≡ b
where-there None b n h = absurd (cc h)
where-there (Some a) b n h = refl

-- ---- what was made

module _ (gives : Giving) (d : Document) (rs : List Record) (are : HaveSame rs (main_records (meaning gives d))) (p : Name) (q : Place) where
  lead : (o : Option Traced) → output_at (meaning gives d) p q ≡ o → (u : List Mark) → Some u ≡ option_map marks_of o
      → Some (backward rs u) ≡ option_map (model.lineage (meaning gives d)) o
  lead None e u h = absurd (cc h)
  lead (Some v) e u h =
      ap Some (ap (λ ms. backward rs (option_map_or (λ m. m) ms u)) h ∙ meaning-backward gives d rs (inr are) p q v e)

  -- what an element used leads to its lineage
  pub lineage-so : (u : List Mark) → Some u ≡ option_map marks_of (output_at (meaning gives d) p q)
      → Some (backward rs u) ≡ model.lineage_of (meaning gives d) p q
  lineage-so u h = lead (output_at (meaning gives d) p q) refl u h

  -- the leaves that were made from an element are its forward use
  pub forward-so : (fs : List Leaf) → fs ≡ leaves (meaning gives d) → forward rs fs p q ≡ model.forward (meaning gives d) p q
  forward-so fs h = ap (λ ls. forward rs ls p q) h ∙ meaning-forward gives d rs (inr are) p q

-- where nothing stands there is no lineage
module _ (gives : Giving) (d : Document) (p : Name) (q : Place) where
  nothing : (o : Option Traced) → None ≡ option_map marks_of o → None ≡ option_map (model.lineage (meaning gives d)) o
  nothing None h = refl
  nothing (Some v) h = absurd (cc h)

  pub none-so : None ≡ option_map marks_of (output_at (meaning gives d) p q) → None ≡ model.lineage_of (meaning gives d) p q
  none-so h = nothing (output_at (meaning gives d) p q) h
