-- Partial trees below a value: what is known of a place is below what stands there, and holds a fault where that does once it is whole.
use Rattle.std.specs.List.{list_any}
use Rattle.std.specs.Prelude.{◌≡◌, refl, ℕ, zero, suc, Bool, true, false, ◌||◌, if◌then◌else◌, [], ◌∷◌, Option, Some, None, option_and_then}
use Rattle.std.proofs.Common.{sym, ap, ap₂, subst, ◌∙◌}
use Rattle.std.proofs.lemmas.Bool.{and_parts, true≢false}
use Rattle.std.proofs.lemmas.List.Folds.{list_any-append}
use Rattle.std.proofs.lemmas.Option.{none-some, same_Some}
use Rattle.tv_value.specs.Nested.{Place, all_leaves, at, children, item_at, leaf, leaves, list, no_trees, tree}
use Rattle.tv_value.specs.Values.{Value, holds_fault, is_fault}
use Rattle.tv_parts.specs.Below.{Below, EachBelow, FirstBelow, Values, value_in, values_in}
use Rattle.tv_parts.specs.Partials.{Partial, Parts, all_whole, closed, growing, holds_some, item, known_at, no_parts, part, part_at, part_of, some_holds, wanting, whole}
use Rattle.tv_parts.proofs.Wholeness.{whole-is}

-- ---- below

first-part : (ps : Parts Value) (vs : Values) → FirstBelow ps vs → (i : ℕ) (w : Value) → item_at vs i ≡ Some w → Below (part_of ps i) w
first-part no_parts vs h i w e = tt
first-part (part p ps) no_trees h i w e = absurd h
first-part (part p ps) (tree v vs) h zero w e = subst (Below p) (same_Some v w e) h.0
first-part (part p ps) (tree v vs) h (suc i) w e = first-part ps vs h.1 i w e

each-part : (ps : Parts Value) (vs : Values) → EachBelow ps vs → (i : ℕ) (w : Value) → item_at vs i ≡ Some w → Below (part_of ps i) w
each-part no_parts no_trees h i w e = tt
each-part no_parts (tree v vs) h i w e = absurd h
each-part (part p ps) no_trees h i w e = absurd h
each-part (part p ps) (tree v vs) h zero w e = subst (Below p) (same_Some v w e) h.0
each-part (part p ps) (tree v vs) h (suc i) w e = each-part ps vs h.1 i w e

part-below : (r : Partial Value) (v : Value) → Below r v → (i : ℕ) (w : Value) → item_at (children v) i ≡ Some w → Below (part_at r i) w
part-below wanting v h i w e = tt
part-below (item u) v h i w e = tt
part-below (growing ps) (leaf n a) h i w e = absurd h
part-below (growing ps) (list n vs) h i w e = first-part ps vs h i w e
part-below (closed ps) (leaf n a) h i w e = absurd h
part-below (closed ps) (list n vs) h i w e = each-part ps vs h i w e

pub known-below : (q : Place) (r : Partial Value) (v w : Value) → Below r v → at v q ≡ Some w → Below (known_at q r) w
known-below [] r v w h e = subst (Below r) (same_Some v w e) h
known-below (i ∷ q) r v w h e = by (item_at (children v) i) refl e (λ u b k. known-below q (part_at r i) u w b k)
  where
    by : (o : Option Value) → item_at (children v) i ≡ o → option_and_then (λ u. at u q) o ≡ Some w → ((u : Value) → Below (part_at r i) u → at u q ≡ Some w → Below (known_at q (part_at r i)) w) → Below (known_at q (part_at r i)) w
    by None g k rec = absurd (none-some w k)
    by (Some u) g k rec = rec u (part-below r v h i u g) k

-- ---- faults

mutual
  value-holds : (r : Partial Value) → whole r ≡ true → holds_some holds_fault r ≡ holds_fault (value_in r)
  value-holds wanting h = absurd (true≢false (sym h))
  value-holds (item w) h = refl
  value-holds (growing ps) h = absurd (true≢false (sym h))
  value-holds (closed ps) h = values-hold ps h

  values-hold : (ps : Parts Value) → all_whole ps ≡ true → some_holds holds_fault ps ≡ list_any is_fault (all_leaves (values_in ps))
  values-hold no_parts h = refl
  values-hold (part p ps) h =
      let b = and_parts (whole p) (all_whole ps) h in
      ap₂ (λ a c. if a then true else c) (value-holds p b.0) (values-hold ps b.1)
      ∙ either (holds_fault (value_in p)) (list_any is_fault (all_leaves (values_in ps)))
      ∙ sym (list_any-append is_fault (leaves (value_in p)) (all_leaves (values_in ps)))
    where
      either : (a c : Bool) → (if a then true else c) ≡ (a || c)
      either true c = refl
      either false c = refl

-- THE FAULTS: a whole tree below a value holds one where the value does
pub whole-holds : (r : Partial Value) (v : Value) → Below r v → whole r ≡ true → holds_some holds_fault r ≡ holds_fault v
whole-holds r v b h = value-holds r h ∙ ap holds_fault (whole-is r v b h)
