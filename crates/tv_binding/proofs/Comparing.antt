-- Whether what is found is what is given, as the calls tell it.
use Rattle.std.proofs.Common.{◌≡◌, ◌≤◌, ◌<◌, ◌+◌, ◌-◌, ℕ, zero, suc, Bool, false, List, [], ◌∷◌, length, map, drop, take, get_or, Option, Some, None, inl, inr, refl, sym, ap, ◌∙◌, subst, arith, true≢false}
use Rattle.std.specs.Prelude.{◌↔◌, IsTrue, MatchOption, option_and_then, option_map, slice_get, slice_index_or}
use Rattle.std.proofs.lemmas.Bool.{cases_eq}
use Rattle.std.proofs.lemmas.List.{length-map}
use Rattle.std.proofs.lemmas.Option.{none-some, same_Some, slice_get_read}
use Rattle.tv_lemmas.specs.Members.{Each}
use Rattle.tv_value.specs.Nested.{Place, children, item_at, items, no_trees, tree, trees_of}
use Rattle.tv_value.specs.Values.{Name, Value, list_value}
use Rattle.tv_value.specs.Views.{strategy_view, view}
use Rattle.tv_value.specs.declared.value.Value.{Value as CodeValue}
use Rattle.tv_value.proofs.ItemLemmas.{items-trees_of}
use Rattle.tv_strategy.specs.Conditions.{number_of}
use Rattle.tv_strategy.specs.Splits.{split}
use Rattle.tv_check.specs.declared.ports.Port.{Port}
use Rattle.tv_outputs.proofs.Comparing.{same-items, told-no}
use Rattle.tv_binding.specs.Delivered.{wrapped_value}
use Rattle.tv_binding.specs.Constants.{FlowConstants, constant_of_port}
use Rattle.tv_binding.specs.Found.{Known, all_found, feed_found}
use Rattle.tv_binding.specs.Jobs.{port_found, wraps}
use Rattle.tv_binding.specs.Parts.{IsPartOf}
use Rattle.tv_binding.specs.declared.jobs.StepPorts.{StepPorts}
use Rattle.tv_binding.proofs.Binding.{all-each}
use Rattle.tv_binding.proofs.SourceLemmas.{found-all}

-- ---- all of some

some-at : (vs : List Value) (i : ℕ) → slice_index_or (map Some vs) i None ≡ slice_get vs i
some-at [] i = refl
some-at (v ∷ vs) zero = refl
some-at (v ∷ vs) (suc i) = some-at vs i

all-some : (os : List (Option Value)) (vs : List Value) → length vs ≡ length os → ((i : ℕ) → i < length os → slice_index_or os i None ≡ slice_get vs i) → map Some vs ≡ os
all-some [] [] e h = refl
all-some [] (v ∷ vs) e h = absurd (never (length vs) e)
  where
    never : (n : ℕ) → suc n ≡ 0 → ⊥
    never n e = omega arith
all-some (o ∷ os) [] e h = absurd (never (length os) e)
  where
    never : (n : ℕ) → 0 ≡ suc n → ⊥
    never n e = omega arith
all-some (o ∷ os) (v ∷ vs) e h =
    let rest = all-some os vs (down (length vs) (length os) e) (λ i lt. h (suc i) (up i (length os) lt)) in
    λ i. sym (h 0 (positive (length os))) i ∷ rest i
  where
    positive : (n : ℕ) → 0 < suc n
    positive n = omega arith

    down : (n m : ℕ) → suc n ≡ suc m → n ≡ m
    down n m e = omega arith

    up : (n m : ℕ) → n < m → suc n < suc m
    up n m h = omega arith

module _ (os : List (Option Value)) (vs : List Value) where
  -- so many are found, and are these values
  abbrev pub AreEach : ℕ → Type 0
  AreEach n = (i : ℕ) → i < n → slice_index_or os i None ≡ slice_get vs i

  pub each-more : (n : ℕ) (v : Value) → AreEach n → slice_index_or os n None ≡ Some v → slice_get vs n ≡ Some v → AreEach (n + 1)
  each-more n v h e g i lt = elim (cases_eq i n) [
    | inl same ↦ ap (λ j. slice_index_or os j None) same ∙ e ∙ sym g ∙ ap (slice_get vs) (sym same)
    | inr ne ↦ h i (below i n lt ne)
  ]
    where
      below : (i n : ℕ) → i < n + 1 → (i ≡ n → ⊥) → i < n
      below i n h ne = omega arith

  pub each-all : length vs ≡ length os → (n : ℕ) → length os ≤ n → AreEach n → all_found os ≡ Some vs
  each-all e n le h = found-all os vs (all-some os vs e (λ i lt. h i (below i (length os) n lt le)))
    where
      below : (i m n : ℕ) → i < m → m ≤ n → i < n
      below i m n h k = omega arith

  pub all-many : all_found os ≡ Some vs → length vs ≡ length os
  all-many h = sym (length-map vs Some) ∙ ap length (all-each os vs h)

  pub all-at : all_found os ≡ Some vs → (i : ℕ) → slice_index_or os i None ≡ slice_get vs i
  all-at h i = ap (λ xs. slice_index_or xs i None) (sym (all-each os vs h)) ∙ some-at vs i

  -- where one is another, they are not all
  pub one-other : (i : ℕ) (o : Option Value) (v : Value) → slice_index_or os i None ≡ o → slice_get vs i ≡ Some v → IsTrue false ↔ (o ≡ Some v) → IsTrue false ↔ (all_found os ≡ Some vs)
  one-other i o v e g h = told-no (λ a. true≢false (sym (h.1 (sym e ∙ all-at a i ∙ g))))

-- ---- one-item lists

pub unwrapped : (k : ℕ) (x y : Value) → wrapped_value k x ≡ wrapped_value k y → x ≡ y
unwrapped zero x y e = e
unwrapped (suc k) x y e = unwrapped k x y (same_Some (wrapped_value k x) (wrapped_value k y) (ap (λ t. item_at (children t) 0) e))

pub wrapped-told : (k : ℕ) (o : Option Value) (x u : Value) → wrapped_value k x ≡ u → (b : Bool) → IsTrue b ↔ (o ≡ Some x) → IsTrue b ↔ (option_map (wrapped_value k) o ≡ Some u)
wrapped-told k o x u e b h = (λ t. ap (option_map (wrapped_value k)) (h.0 t) ∙ ap Some e, λ g. h.1 (back o g))
  where
    back : (p : Option Value) → option_map (wrapped_value k) p ≡ Some u → p ≡ Some x
    back None g = absurd (none-some u g)
    back (Some y) g = ap Some (unwrapped k y x (same_Some (wrapped_value k y) u g ∙ sym e))

pub not_wrapped-told : (k : ℕ) (o : Option Value) (u : Value) → ((v : Value) → wrapped_value k v ≡ u → ⊥) → IsTrue false ↔ (option_map (wrapped_value k) o ≡ Some u)
not_wrapped-told k o u never = told-no (by o)
  where
    by : (p : Option Value) → option_map (wrapped_value k) p ≡ Some u → ⊥
    by None g = none-some u g
    by (Some y) g = never y (same_Some (wrapped_value k y) u g)

-- a list of one value, in so many lists less one
pub wrapped-once : (k : ℕ) (x v : Value) → wrapped_value k x ≡ v → wrapped_value (k + 1) x ≡ list_value (trees_of (v ∷ []))
wrapped-once k x v e = ap (λ n. wrapped_value n x) (one k) ∙ ap (λ y. list_value (tree y no_trees)) e
  where
    one : (k : ℕ) → k + 1 ≡ suc k
    one k = omega arith

pub once-unwrapped : (k : ℕ) (x v : Value) → wrapped_value (k + 1) x ≡ list_value (trees_of (v ∷ [])) → wrapped_value k x ≡ v
once-unwrapped k x v e =
    same_Some (wrapped_value k x) v (ap (λ t. item_at (children t) 0) (ap (λ n. wrapped_value n x) (sym (one k)) ∙ e))
  where
    one : (k : ℕ) → k + 1 ≡ suc k
    one k = omega arith

pub others-unwrapped : (k : ℕ) (x : Value) (vs : List Value) → (length vs ≡ 1 → ⊥) → wrapped_value (k + 1) x ≡ list_value (trees_of vs) → ⊥
others-unwrapped k x vs never e =
    never (ap length (sym (items-trees_of vs) ∙ ap (λ t. items (children t)) (sym e ∙ ap (λ n. wrapped_value n x) (one k))))
  where
    one : (k : ℕ) → k + 1 ≡ suc k
    one k = omega arith

-- where an answer is, so is what it is mapped to
pub answer-mapped : {A : Type 0} {P Q : Type 0} {R S : A → Type 0} (o : Option A) → (P → Q) → ((x : A) → R x → S x) → MatchOption o P R → MatchOption o Q S
answer-mapped None f g h = f h
answer-mapped (Some x) f g h = g x h

-- ---- merged links

pub merged-told : (o : Option (List Value)) (u : Value) (vs : List Value) → u ≡ list_value (trees_of vs) → (b : Bool) → IsTrue b ↔ (o ≡ Some vs) → IsTrue b ↔ (option_map (λ ws. list_value (trees_of ws)) o ≡ Some u)
merged-told o u vs e b h = (λ t. ap (option_map (λ ws. list_value (trees_of ws))) (h.0 t) ∙ ap Some (sym e), λ g. h.1 (back o g))
  where
    back : (p : Option (List Value)) → option_map (λ ws. list_value (trees_of ws)) p ≡ Some u → p ≡ Some vs
    back None g = absurd (none-some u g)
    back (Some ws) g = ap Some (same-items ws vs (same_Some (list_value (trees_of ws)) u g ∙ e))

-- ---- by position

pub each-at : {A : Type 0} (P : A → Type 0) (xs : List A) (i : ℕ) (x : A) → Each P xs → i < length xs → x ≡ get_or xs i x → P x
each-at P xs i x h lt e = by xs i h (slice_get_read xs (length xs) i x refl lt e)
  where
    by : (ys : List _) (j : ℕ) → Each P ys → slice_get ys j ≡ Some x → P x
    by [] j g k = absurd (none-some x k)
    by (y ∷ ys) zero g k = subst P (same_Some y x k) g.0
    by (y ∷ ys) (suc j) g k = by ys j g.1 k

-- what a port binds is found at its part of the place
pub port-at : (k : Known) (cs : FlowConstants) (s : StepPorts) (q : Place) (begins : List ℕ) (n : ℕ) (p : Port) (r : IsPartOf s q begins p) → port_found k cs s (split (number_of s.mismatch.now) (strategy_view s.tree.now) q) (n, p) ≡ option_map (wrapped_value (wraps s.inputs.now s.delivered.now n)) (feed_found k p.feed (constant_of_port cs s.number n) (take p.levels (drop r.start q)))
port-at k cs s q begins n p r =
    ap (option_and_then (λ (x : Name × Place). option_map (wrapped_value (wraps s.inputs.now s.delivered.now n)) (feed_found k p.feed (constant_of_port cs s.number n) x.1))) r.part

-- ---- values as the code has them

-- a list of one
pub single : (vs : List CodeValue) (v : CodeValue) → length vs ≡ 1 → v ≡ get_or vs 0 v → map view vs ≡ view v ∷ []
single [] v e f = absurd (never 0 e refl)
  where
    never : (n : ℕ) → n ≡ 1 → n ≡ 0 → ⊥
    never n e g = omega arith
single (w ∷ []) v e f = ap (λ x. view x ∷ []) (sym f)
single (w ∷ x ∷ ws) v e f = absurd (never (length ws) e)
  where
    never : (n : ℕ) → suc (suc n) ≡ 1 → ⊥
    never n e = omega arith

-- one less and one more
pub less-more : (n : ℕ) → (n ≡ 0 → ⊥) → (n - 1) + 1 ≡ n
less-more zero h = absurd (h refl)
less-more (suc n) h = omega arith
