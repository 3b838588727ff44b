-- Whether what is found in a tree is a value, as the calls tell it.
use Rattle.std.proofs.Common.{◌≡◌, ◌<◌, ◌+◌, ℕ, zero, suc, Bool, true, false, List, [], ◌∷◌, length, map, get_or, Option, Some, None, refl, sym, ap, ◌∙◌, subst, true≢false, arith, inl, inr}
use Rattle.std.specs.Prelude.{◌↔◌, IsTrue, slice_get, if◌then◌else◌}
use Rattle.std.specs.Option.{option_map, option_map_or}
use Rattle.std.proofs.lemmas.Bool.{cases_eq, and_from}
use Rattle.std.proofs.lemmas.Option.{none-some, same_Some, slice_get-map, slice_get_read}
use Rattle.tv_value.specs.Nested.{Place, Tree, Trees, at, children, items, leaf, list, no_trees, tree, trees_of}
use Rattle.tv_value.specs.Values.{Scalar, Value, fault, list_value, text}
use Rattle.tv_value.specs.Views.{error_view, items_step, items_view, value_step, view}
use Rattle.tv_value.specs.declared.value.Items.{Items}
use Rattle.tv_value.specs.declared.value.Value.{Value as CodeValue}
use Rattle.tv_value.specs.declared.value.Value.TheVariants as plain
use Rattle.tv_value.specs.declared.value.Value.TheViews as held
use Rattle.tv_value.specs.declared.value.Value.TheFolds.{fold-roll-Value}
use Rattle.tv_value.specs.declared.value.Value.TheOpen.{Value-F}
use Rattle.tv_value.proofs.ItemLemmas.{items-trees_of}
use Rattle.tv_parts.specs.Partials.{Partial, wanting, item, growing, closed, Parts, no_parts, part, part_count, part_of, part_at, whole, all_whole}
use Rattle.tv_parts.specs.Below.{value_in, values_in}
use Rattle.tv_stream.specs.declared.held.PartKind.TheVariants.{Closed}
use Rattle.tv_stream.specs.Trees.{Marked}
use Rattle.tv_stream.specs.Answers.{kind_of, item_of}
use Rattle.tv_stream.proofs.Mapped.{map-part_at}
use Rattle.tv_cell.specs.declared.piece.Piece.{Piece}
use Rattle.tv_cell.specs.PieceValues.{piece_value}
use Rattle.tv_value.specs.Sameness.{same_value}
use Rattle.tv_cell.specs.Sameness.{is_at}
use Rattle.tv_cell.proofs.PieceLemmas.{list-view}
use Rattle.tv_value.proofs.Sameness.{test-decides}
use Rattle.tv_outputs.specs.Known.{item_value, value_tree}
use Rattle.tv_outputs.specs.FoundIn.{found_in}
use Rattle.tv_outputs.specs.PartValues.{part_values, list_values, AreParts}
use Rattle.tv_outputs.proofs.Building.{Closes, closes-whole, value-there, values-count, values-listed}
use Rattle.tv_outputs.proofs.PieceLemmas.{inside-found, part-found, whole-kinds}

-- ---- answers

-- a refusal is right where it can't be
pub told-no : {P : Type 0} → (P → ⊥) → IsTrue false ↔ P
told-no f = (λ h. absurd (true≢false (sym h)), λ p. absurd (f p))

pub told-yes : {P : Type 0} → P → IsTrue true ↔ P
told-yes p = (λ h. p, λ q. refl)

by-option : (o : Option Value) (u : Value) → IsTrue (option_map_or (λ w. same_value w u) o false) ↔ (o ≡ Some u)
by-option None u = told-no (λ e. none-some u e)
by-option (Some w) u = let d = test-decides w u in (λ h. ap Some (d.0 h), λ e. d.1 (same_Some w u e))

pub told-of : (o p : Option Value) (u : Value) (b : Bool) → b ≡ option_map_or (λ w. same_value w u) o false → p ≡ o → IsTrue b ↔ (p ≡ Some u)
told-of o p u b e f = subst (λ t. IsTrue b ↔ (t ≡ Some u)) (sym f) (subst (λ c. IsTrue c ↔ (o ≡ Some u)) (sym e) (by-option o u))

-- ---- what is whole

-- of nothing nothing is found
pub found-none : (q : Place) (u : Value) → found_in q wanting ≡ Some u → ⊥
found-none [] u h = none-some u h
found-none (i ∷ q) u h = none-some u h

pub found-whole : (r : Partial Value) (u : Value) → found_in [] r ≡ Some u → (whole r ≡ true) × (value_in r ≡ u)
found-whole r u h = by (whole r) refl h
  where
    by : (b : Bool) → whole r ≡ b → (if b then Some (value_in r) else None) ≡ Some u → (whole r ≡ true) × (value_in r ≡ u)
    by true e k = (e, same_Some (value_in r) u k)
    by false e k = absurd (none-some u k)

pub whole-found : (r : Partial Value) → whole r ≡ true → found_in [] r ≡ Some (value_in r)
whole-found r e = ap (λ b. if b then Some (value_in r) else None) e

-- ---- at a node

module _ (r : Partial (Marked Piece)) where
  -- an item
  item-whole : (p : Piece) → item_of r ≡ Some p → found_in [] (value_tree r) ≡ Some (piece_value p)
  item-whole p h = by r h
    where
      by : (t : Partial (Marked Piece)) → item_of t ≡ Some p → found_in [] (value_tree t) ≡ Some (piece_value p)
      by wanting e = absurd (none-some p e)
      by (item x) e = ap (λ y. Some (piece_value y)) (same_Some x.value p e)
      by (growing ps) e = absurd (none-some p e)
      by (closed ps) e = absurd (none-some p e)

  pub item-told : (p : Piece) → item_of r ≡ Some p → (u : Value) (b : Bool) → b ≡ same_value (piece_value p) u → IsTrue b ↔ (found_in [] (value_tree r) ≡ Some u)
  item-told p h u b e = told-of (Some (piece_value p)) (found_in [] (value_tree r)) u b e (item-whole p h)

  pub part-told : (p : Piece) → item_of r ≡ Some p → (q : Place) (i : ℕ) (o : Place) → q ≡ i ∷ o → (u : Value) (b : Bool) → b ≡ is_at (piece_value p) q u → IsTrue b ↔ (found_in q (value_tree r) ≡ Some u)
  part-told p h q i o e u b g =
      told-of (at (piece_value p) q) (found_in q (value_tree r)) u b g (part-found r q i o e p h)

  -- inside, where no item stands
  module _ (none : item_of r ≡ None) (q : Place) (i : ℕ) (o : Place) (e : q ≡ i ∷ o) (u : Value) where
    inside : found_in q (value_tree r) ≡ found_in o (value_tree (part_at r i))
    inside = inside-found r q i o e none

    pub inner-told : (b : Bool) → IsTrue b ↔ (found_in o (value_tree (part_at r i)) ≡ Some u) → IsTrue b ↔ (found_in q (value_tree r) ≡ Some u)
    inner-told b h = subst (λ t. IsTrue b ↔ (t ≡ Some u)) (sym inside) h

    pub none-told : part_at r i ≡ wanting → IsTrue false ↔ (found_in q (value_tree r) ≡ Some u)
    none-told h = told-no (λ k. found-none o u (ap (λ t. found_in o (value_tree t)) (sym h) ∙ sym inside ∙ k))

  -- nothing is whole but an item or a closed list
  pub open-told : (u : Value) → item_of r ≡ None → ((n : ℕ) → kind_of r ≡ Closed n → ⊥) → IsTrue false ↔ (found_in [] (value_tree r) ≡ Some u)
  open-told u none k = told-no (λ e. whole-kinds r (found-whole (value_tree r) u e).0 none k)

-- ---- a closed list

all-parts : (ps : Parts Value) (vs : List Value) → length vs ≡ part_count ps → ((i : ℕ) → i < part_count ps → found_in [] (part_of ps i) ≡ slice_get vs i) → (all_whole ps ≡ true) × (part_values ps ≡ vs)
all-parts no_parts [] e h = (refl, refl)
all-parts no_parts (v ∷ vs) e h = absurd (never (length vs) e)
  where
    never : (n : ℕ) → suc n ≡ 0 → ⊥
    never n e = omega arith
all-parts (part p ps) [] e h = absurd (never (part_count ps) e)
  where
    never : (n : ℕ) → 0 ≡ suc n → ⊥
    never n e = omega arith
all-parts (part p ps) (v ∷ vs) e h =
    let first = found-whole p v (h 0 (positive (part_count ps))) in
    let rest = all-parts ps vs (down (length vs) (part_count ps) e) (λ i lt. h (suc i) (up i (part_count ps) lt)) in
    (and_from (whole p) (all_whole ps) first.0 rest.0, (λ i. first.1 i ∷ rest.1 i))
  where
    positive : (n : ℕ) → 0 < suc n
    positive n = omega arith

    down : (n m : ℕ) → suc n ≡ suc m → n ≡ m
    down n m e = omega arith

    up : (n m : ℕ) → n < m → suc n < suc m
    up n m h = omega arith

pub same-items : (us vs : List Value) → list_value (trees_of us) ≡ list_value (trees_of vs) → us ≡ vs
same-items us vs e = sym (items-trees_of us) ∙ ap (λ t. items (children t)) e ∙ items-trees_of vs

module _ (r : Partial Value) (n : ℕ) (c : Closes r n) where
  list-is : value_in r ≡ list_value (trees_of (list_values r))
  list-is = subst (λ t. value_in t ≡ list_value (trees_of (list_values t))) (sym c.is) (ap list_value (values-listed c.parts))

  values-many : length (list_values r) ≡ n
  values-many = ap (λ t. length (list_values t)) c.is ∙ values-count c.parts ∙ c.count

  parts-found : (vs : List Value) → AreParts r n vs → found_in [] r ≡ Some (list_value (trees_of vs))
  parts-found vs a =
      let all = all-parts c.parts vs (a.many ∙ sym c.count) (λ i lt. sym (ap (λ t. found_in [] (part_at t i)) c.is) ∙ a.each i (subst (λ m. i < m) c.count lt)) in
      whole-found r (ap whole c.is ∙ all.0) ∙ ap Some (list-is ∙ ap (λ us. list_value (trees_of us)) (ap list_values c.is ∙ all.1))

  found-parts : (vs : List Value) → found_in [] r ≡ Some (list_value (trees_of vs)) → AreParts r n vs
  found-parts vs h =
      let w = found-whole r (list_value (trees_of vs)) h in
      let same : list_values r ≡ vs = same-items (list_values r) vs (sym list-is ∙ w.1) in
      record {
        many = ap length (sym same) ∙ values-many;
        each = λ i lt.
            let there = closes-whole r n c w.0 i lt in
            whole-found (part_at r i) there ∙ sym (value-there r i there) ∙ ap (λ us. slice_get us i) same;
      }

  pub list-told : (u : Value) (vs : List Value) → u ≡ list_value (trees_of vs) → (b : Bool) → IsTrue b ↔ AreParts r n vs → IsTrue b ↔ (found_in [] r ≡ Some u)
  list-told u vs e b h =
      subst (λ x. IsTrue b ↔ (found_in [] r ≡ Some x)) (sym e) (λ t. parts-found vs (h.0 t), λ f. h.1 (found-parts vs f))

  pub leaf-told : (u : Value) (a : Scalar) → u ≡ leaf tt a → IsTrue false ↔ (found_in [] r ≡ Some u)
  leaf-told u a e = told-no (λ h. no-list (list_values r) (sym list-is ∙ (found-whole r u h).1 ∙ e))
    where
      no-list : (vs : List Value) → list_value (trees_of vs) ≡ leaf tt a → ⊥
      no-list vs h = cc

-- ---- part by part

module _ (r : Partial (Marked Piece)) (vs : List Value) where
  abbrev pub AreFound : ℕ → Type 0
  AreFound n = (i : ℕ) → i < n → found_in [] (part_at (value_tree r) i) ≡ slice_get vs i

  pub more-found : (n : ℕ) (v : Value) → AreFound n → found_in [] (value_tree (part_at r n)) ≡ Some v → slice_get vs n ≡ Some v → AreFound (n + 1)
  more-found n v h e g i lt = elim (cases_eq i n) [
    | inl same ↦ ap (λ j. found_in [] (part_at (value_tree r) j)) same ∙ ap (found_in []) (map-part_at item_value r n) ∙ e ∙ sym g ∙ ap (slice_get vs) (sym same)
    | inr ne ↦ h i (below i n lt ne)
  ]
    where
      below : (i n : ℕ) → i < n + 1 → (i ≡ n → ⊥) → i < n
      below i n h ne = omega arith

  -- where one part isn't found, they are not all
  pub one-other : (n i : ℕ) (v : Value) → i < n → slice_get vs i ≡ Some v → (found_in [] (value_tree (part_at r i)) ≡ Some v → ⊥) → IsTrue false ↔ AreParts (value_tree r) n vs
  one-other n i v lt g never = told-no (λ a. never (sym (ap (found_in []) (map-part_at item_value r i)) ∙ a.each i lt ∙ g))

-- ---- how large a value is

abbrev mutual
  pub size : Value → ℕ
  size (leaf n a) = 0
  size (list n ts) = suc (sizes ts)

  pub sizes : Trees (Unit {0}) Scalar → ℕ
  sizes no_trees = 0
  sizes (tree t ts) = suc (size t + sizes ts)

pub list-smaller : (u : Value) (vs : List Value) → u ≡ list_value (trees_of vs) → sizes (trees_of vs) < size u
list-smaller u vs e = subst (λ x. sizes (trees_of vs) < size x) (sym e) (below (sizes (trees_of vs)))
  where
    below : (n : ℕ) → n < suc n
    below n = omega arith

pub item-smaller : (vs : List Value) (i : ℕ) (v : Value) → slice_get vs i ≡ Some v → size v < sizes (trees_of vs)
item-smaller [] i v e = absurd (none-some v e)
item-smaller (u ∷ vs) zero v e = subst (λ x. size x < sizes (trees_of (u ∷ vs))) (same_Some u v e) (first (size u) (sizes (trees_of vs)))
  where
    first : (a b : ℕ) → a < suc (a + b)
    first a b = omega arith
item-smaller (u ∷ vs) (suc i) v e = later (size v) (size u) (sizes (trees_of vs)) (item-smaller vs i v e)
  where
    later : (n a b : ℕ) → n < b → n < suc (a + b)
    later n a b h = omega arith

-- ---- values as the code has them

pub text-view : (t : _) → view (plain.Text t) ≡ leaf tt (text t)
text-view t = ap view (sym (plain.rolls-Text t)) ∙ fold-roll-Value _ _ value_step items_step (Value-F.Text t)

pub fault-view : (b : _) → view (plain.Fault b) ≡ leaf tt (fault (error_view b.value))
fault-view b = ap view (sym (plain.rolls-Fault b)) ∙ fold-roll-Value _ _ value_step items_step (Value-F.Fault b)

pub list_of-view : (v : CodeValue) (vs : Items) (us : List CodeValue) → v ≡ held.List vs → trees_of (map view us) ≡ items_view vs → view v ≡ list_value (trees_of (map view us))
list_of-view v vs us e f = ap view e ∙ list-view vs ∙ ap list_value (sym f)

pub value-at : (vs : List CodeValue) (i : ℕ) (v : CodeValue) → i < length vs → v ≡ get_or vs i v → slice_get (map view vs) i ≡ Some (view v)
value-at vs i v lt e = slice_get-map view vs i ∙ ap (option_map view) (slice_get_read vs (length vs) i v refl lt e)
