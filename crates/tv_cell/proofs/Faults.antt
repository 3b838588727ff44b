-- What stands inside a value without faults has none.
use Rattle.std.specs.List.{list_any}
use Rattle.std.specs.Prelude.{◌≡◌, ℕ, zero, suc, [], ◌∷◌, false, Option, option_and_then}
use Rattle.std.proofs.Common.{sym, ◌∙◌, refl}
use Rattle.std.proofs.lemmas.Bool.{or_parts}
use Rattle.std.proofs.lemmas.List.Folds.{list_any-append}
use Rattle.tv_value.specs.Nested.{Place, Trees, all_leaves, at, item_at, leaf, leaves, list, no_trees, tree}
use Rattle.tv_value.specs.Values.{Scalar, Value, holds_fault, is_fault}
use Rattle.tv_cell.specs.Found.{found_value}

abbrev none_in : Trees (Unit {0}) Scalar → Type 0
none_in ts = list_any is_fault (all_leaves ts) ≡ false

parts-of : (t : Value) (ts : Trees (Unit {0}) Scalar) → none_in (tree t ts) → (holds_fault t ≡ false) × none_in ts
parts-of t ts h = or_parts (holds_fault t) (list_any is_fault (all_leaves ts)) (sym (list_any-append is_fault (leaves t) (all_leaves ts)) ∙ h)

abbrev Finds : Place → Option Value → Type 0
Finds q o = holds_fault (found_value (option_and_then (λ u. at u q) o)) ≡ false

mutual
  inside-item : (ts : Trees (Unit {0}) Scalar) (i : ℕ) (q : Place) → none_in ts → Finds q (item_at ts i)
  inside-item no_trees i q h = refl
  inside-item (tree t ts) zero q h = no-fault-inside t q (parts-of t ts h).0
  inside-item (tree t ts) (suc i) q h = inside-item ts i q (parts-of t ts h).1

  pub no-fault-inside : (v : Value) (q : Place) → holds_fault v ≡ false → holds_fault (found_value (at v q)) ≡ false
  no-fault-inside v [] h = h
  no-fault-inside (leaf n a) (i ∷ q) h = refl
  no-fault-inside (list n ts) (i ∷ q) h = inside-item ts i q h
