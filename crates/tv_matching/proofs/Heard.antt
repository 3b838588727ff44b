-- Where what was told is true of the delivered values, each place once, what is matched is what stands in their iteration with all its sources told.
use Rattle.std.specs.Prelude.{◌≡◌, refl, ℕ, zero, suc, ◌+◌, ◌-◌, ◌≤◌, ◌<◌, Bool, true, false, ◌&&◌, List, [], ◌∷◌, ◌++◌, map, length, take, Option, Some, None, option_map, option_and_then, IsPermutation}
use Rattle.std.proofs.Common.{arith, sym, ap, subst, ◌∙◌, inl, inr, append_assoc, append-nil, length-append}
use Rattle.std.proofs.lemmas.List.Sorted.{IsPermutation-refl, IsPermutation-sym, IsPermutation-trans, IsPermutation-cons, IsPermutation-middle}
use Rattle.std.proofs.lemmas.List.{length-map}
use Rattle.std.proofs.lemmas.Option.{same_Some}
use Rattle.std.proofs.lemmas.List.Folds.{flat_map-map}
use Rattle.tv_lemmas.specs.Members.{Each, In}
use Rattle.tv_lemmas.proofs.Members.{each_in, in-flat, in-map, of-flat, of-map}
use Rattle.tv_value.specs.Nested.{leaf, list, Trees, no_trees, tree, Place, count, note, notes, all_notes, at, item_at}
use Rattle.tv_value.specs.Values.{Name, Scalar, text, fault, Value}
use Rattle.tv_value.specs.Orders.{same_name}
use Rattle.tv_value.specs.Strategies.{Strategy}
use Rattle.tv_strategy.specs.Origins.{Origin, Traced, from_input, input_value, input_values}
use Rattle.tv_strategy.specs.Iterations.{passed, Iteration, walk, walk_each, walks, iteration}
use Rattle.tv_strategy.specs.Levels.{HasLevels}
use Rattle.tv_strategy.specs.Measures.{DotsAgree}
use Rattle.tv_strategy.specs.Splits.{same_place}
use Rattle.tv_strategy.proofs.Ends.{item_at-walk_each}
use Rattle.tv_strategy.proofs.PlaceLemmas.{same-equal, same-itself}
use Rattle.tv_matching.specs.Items.{ends, closes, passes, Item, item, if_so, kind_of, Node, node_at, all_known, known_items}
use Rattle.tv_matching.specs.Members.{at_place, Once}
use Rattle.tv_matching.specs.Tellings.{Telling}
use Rattle.tv_matching.specs.Told.{Spot, Told, arrival, faulty, close, told_leaf, told_place, telling, tellings, told_to, matched_after, value_there, stop_of, item_there, bound_there, stop_there, IsTrueOf, IsThere, IsFaultThere, IsListThere, labelled, some, is_told, node_told}
use Rattle.tv_matching.proofs.Lists.{flat-same, map-flat, map-if}
use Rattle.tv_matching.proofs.Members.{in-if, of-if, in-permutes}
use Rattle.tv_matching.proofs.FromScratch.{WalkItem, known-more}
use Rattle.tv_matching.proofs.Nodes.{of-known, in-known, IsNodeOf, node-stands, node-in}
use Rattle.tv_matching.proofs.Onces.{known-once, once-permutes}
use Rattle.tv_matching.proofs.Natural.{matched-maps}
use Rattle.tv_matching.proofs.Matches.{matched-known}

-- ---- lists with no place twice that have the same items

pub some-long : {A : Type 0} (x : A) (xs : List A) → In x xs → 1 ≤ length xs
some-long x [] h = absurd h
some-long x (y ∷ xs) h = omega arith

module _ {X F : Type 0} where
  taken-out : (x : Item X F) (ys : List (Item X F)) → In x ys → (zs : List (Item X F)) × IsPermutation ys (x ∷ zs)
  taken-out x [] h = absurd h
  taken-out x (y ∷ ys) (inl p) = (ys, subst (λ z. IsPermutation (y ∷ ys) (z ∷ ys)) (sym p) (IsPermutation-refl (y ∷ ys)))
  taken-out x (y ∷ ys) (inr h) =
      let r = taken-out x ys h in
      (y ∷ r.0, IsPermutation-trans _ _ _ (IsPermutation-cons y ys (x ∷ r.0) r.1) (IsPermutation-middle (y ∷ []) x r.0))

  once-rest : (x : Item X F) (xs : List (Item X F)) → Once (x ∷ xs) → Once xs
  once-rest x xs o q = less (length (if_so (same_place q x.place) x)) (length (at_place q xs)) (subst (λ n. n ≤ 1) (length-append (if_so (same_place q x.place) x) (at_place q xs)) (o q))
    where
      less : (a b : ℕ) → a + b ≤ 1 → b ≤ 1
      less a b h = omega arith

  no-again : (x y : Item X F) (xs : List (Item X F)) → Once (x ∷ xs) → In y xs → y ≡ x → ⊥
  no-again x y xs o h e =
      two (length (if_so (same_place x.place x.place) x)) (length (at_place x.place xs)) (subst (λ n. n ≤ 1) (length-append (if_so (same_place x.place x.place) x) (at_place x.place xs)) (o x.place))
      (subst (λ b. 1 ≤ length (if_so b x)) (sym (same-itself x.place)) (omega arith))
      (some-long y (at_place x.place xs) (in-flat (λ z. if_so (same_place x.place z.place) z) y y xs h (in-if (same_place x.place y.place) y (subst (λ z. same_place x.place z.place ≡ true) (sym e) (same-itself x.place)))))
    where
      two : (a b : ℕ) → a + b ≤ 1 → 1 ≤ a → 1 ≤ b → ⊥
      two a b h k l = omega arith

  pub once-members : (xs ys : List (Item X F)) → Once xs → Once ys → ((y : Item X F) → In y xs → In y ys) → ((y : Item X F) → In y ys → In y xs) → IsPermutation xs ys
  once-members [] [] o u f g = IsPermutation-refl []
  once-members [] (y ∷ ys) o u f g = absurd (g y (inl refl))
  once-members (x ∷ xs) ys o u f g =
      let r = taken-out x ys (f x (inl refl)) in
      let w = once-permutes ys (x ∷ r.0) r.1 u in
      IsPermutation-trans _ _ _ (IsPermutation-cons x xs r.0 (once-members xs r.0 (once-rest x xs o) (once-rest x r.0 w)
      (λ y h. other r.0 y h (no-again x y xs o h) (in-permutes y (x ∷ r.0) ys (IsPermutation-sym _ _ r.1) (f y (inr h))))
      (λ y h. back y (no-again x y r.0 w h) (g y (in-permutes y ys (x ∷ r.0) r.1 (inr h))))))
      (IsPermutation-sym _ _ r.1)
    where
      other : (zs : List (Item X F)) (y : Item X F) → In y xs → (y ≡ x → ⊥) → In y (x ∷ zs) → In y zs
      other zs y h n (inl e) = absurd (n e)
      other zs y h n (inr k) = k

      back : (y : Item X F) → (y ≡ x → ⊥) → In y (x ∷ xs) → In y xs
      back y n (inl e) = absurd (n e)
      back y n (inr k) = k

-- ---- where a walk leads

reaches-item : (p : Name) (k m : ℕ) (q : Place) (u : Traced) → ((v : Traced) → at v q ≡ Some u → at (walk p k v) q ≡ Some (walk p m u)) → (o : Option Traced) → option_and_then (λ v. at v q) o ≡ Some u → option_and_then (λ t. at t q) (option_map (walk p k) o) ≡ Some (walk p m u)
reaches-item p k m q u rec None h = absurd (cc)
reaches-item p k m q u rec (Some v) h = rec v h

pub walk-reaches : (p : Name) (q : Place) (k m : ℕ) (v u : Traced) → k ≡ length q + m → at v q ≡ Some u → at (walk p k v) q ≡ Some (walk p m u)
walk-reaches p [] k m v u e h = ap (λ n. Some (walk p n v)) (same k m e) ∙ ap (λ w. Some (walk p m w)) (same_Some v u h)
  where
    same : (k m : ℕ) → k ≡ 0 + m → k ≡ m
    same k m e = omega arith
walk-reaches p (i ∷ q) zero m v u e h = absurd (none (length q) m e)
  where
    none : (n m : ℕ) → 0 ≡ suc n + m → ⊥
    none n m e = omega arith
walk-reaches p (i ∷ q) (suc k) m (leaf o a) u e h = absurd (cc)
walk-reaches p (i ∷ q) (suc k) m (list o vs) u e h =
    ap (option_and_then (λ t. at t q)) (item_at-walk_each p k vs i) ∙ reaches-item p k m q u (λ v j. walk-reaches p q k m v u (omega arith) j) (item_at vs i) h

-- what stands at a place of a walk
pub record Reached (p : Name) (k : ℕ) (q : Place) (o : Option Traced) (w : Iteration) : Type 0 where
  pub value : Traced
  pub left : ℕ
  pub levels : k ≡ length q + left
  pub there : o ≡ Some value
  pub is : w ≡ walk p left value

reached-item : (p : Name) (k : ℕ) (i : ℕ) (q : Place) (w : Iteration) → ((v : Traced) → at (walk p k v) q ≡ Some w → Reached p k q (at v q) w) → (o : Option Traced) → option_and_then (λ t. at t q) (option_map (walk p k) o) ≡ Some w → Reached p (suc k) (i ∷ q) (option_and_then (λ v. at v q) o) w
reached-item p k i q w rec None h = absurd (cc)
reached-item p k i q w rec (Some v) h = let r = rec v h in record { value = r.value; left = r.left; levels = more k (length q) r.left r.levels; there = r.there; is = r.is }
  where
    more : (k n m : ℕ) → k ≡ n + m → suc k ≡ suc n + m
    more k n m e = omega arith

pub walk-comes : (p : Name) (q : Place) (k : ℕ) (v : Traced) (w : Iteration) → at (walk p k v) q ≡ Some w → Reached p k q (at v q) w
walk-comes p [] k v w h = record { value = v; left = k; levels = from_zero k; there = refl; is = sym (same_Some (walk p k v) w h) }
  where
    from_zero : (k : ℕ) → k ≡ 0 + k
    from_zero k = omega arith
walk-comes p (i ∷ q) zero v w h = absurd (cc)
walk-comes p (i ∷ q) (suc k) (leaf o a) w h = absurd (cc)
walk-comes p (i ∷ q) (suc k) (list o vs) w h =
    reached-item p k i q w (λ v j. walk-comes p q k v w j) (item_at vs i) (sym (ap (option_and_then (λ t. at t q)) (item_at-walk_each p k vs i)) ∙ h)

-- ---- values whose nodes are named by port and place

item_at-inputs : (p : Name) (r : Place) (i j n : ℕ) (vs : Trees (Unit {0}) Scalar) → n ≡ i + j → item_at (input_values p r i vs) j ≡ option_map (input_value p (r ++ n ∷ [])) (item_at vs j)
item_at-inputs p r i j n no_trees e = refl
item_at-inputs p r i zero n (tree v vs) e = ap (λ m. Some (input_value p (r ++ m ∷ []) v)) (same i n e)
  where
    same : (i n : ℕ) → n ≡ i + 0 → i ≡ n
    same i n e = omega arith
item_at-inputs p r i (suc j) n (tree v vs) e = item_at-inputs p r (suc i) j n vs (later i j n e)
  where
    later : (i j n : ℕ) → n ≡ i + suc j → n ≡ suc i + j
    later i j n e = omega arith

pub at-input : (p : Name) (q r : Place) (v : Value) → at (input_value p r v) q ≡ option_map (input_value p (r ++ q)) (at v q)
at-input p [] r v = ap (λ s. Some (input_value p s v)) (sym (append-nil r))
at-input p (i ∷ q) r (leaf n a) = refl
at-input p (i ∷ q) r (list n vs) =
    ap (option_and_then (λ u. at u q)) (item_at-inputs p r 0 i i vs (from_zero i)) ∙ by (item_at vs i) (λ v. at-input p q (r ++ i ∷ []) v)
  where
    from_zero : (k : ℕ) → k ≡ 0 + k
    from_zero k = omega arith

    by : (o : Option Value) → ((v : Value) → at (input_value p (r ++ i ∷ []) v) q ≡ option_map (input_value p ((r ++ i ∷ []) ++ q)) (at v q)) → option_and_then (λ u. at u q) (option_map (input_value p (r ++ i ∷ [])) o) ≡ option_map (input_value p (r ++ i ∷ q)) (option_and_then (λ v. at v q) o)
    by None rec = refl
    by (Some v) rec = rec v ∙ ap (λ s. option_map (input_value p s) (at v q)) (append_assoc r (i ∷ []) q)

input-there : (p : Name) (q : Place) (o : Option Value) (u : Traced) → option_map (input_value p q) o ≡ Some u → (v : Value) × (u ≡ input_value p q v)
input-there p q None u h = absurd (cc)
input-there p q (Some v) u h = (v, sym (same_Some (input_value p q v) u h))

take-front : (q s : Place) (k : ℕ) → k ≡ length q + 0 → take k (q ++ s) ≡ q
take-front [] s zero e = refl
take-front [] s (suc k) e = absurd (none k e)
  where
    none : (k : ℕ) → suc k ≡ 0 + 0 → ⊥
    none k e = omega arith
take-front (i ∷ q) s zero e = absurd (none (length q) e)
  where
    none : (n : ℕ) → 0 ≡ suc n + 0 → ⊥
    none n e = omega arith
take-front (i ∷ q) s (suc k) e = ap (λ r. i ∷ r) (take-front q s k (omega arith))

take-whole : (q : Place) (k m : ℕ) → k ≡ length q + m → take k q ≡ q
take-whole [] zero m e = refl
take-whole [] (suc k) m e = refl
take-whole (i ∷ q) zero m e = absurd (none (length q) m e)
  where
    none : (n m : ℕ) → 0 ≡ suc n + m → ⊥
    none n m e = omega arith
take-whole (i ∷ q) (suc k) m e = ap (λ r. i ∷ r) (take-whole q k m (omega arith))

module _ (mismatch : Name → ℕ) (ts : List Told) where
  module _ (p : Name) (q : Place) (ends_here : mismatch p ≡ length q + 0) where
    abbrev told_here : Bool
    told_here = is_told ts p q

    one-told : (s : Place) → node_told mismatch ts (from_input p (q ++ s)) ≡ told_here
    one-told s = ap (λ r. is_told ts p r) (take-front q s (mismatch p) ends_here)

    twice : (b c : Bool) → (b && c) ≡ b → (b && (b && c)) ≡ b
    twice true c h = h
    twice false c h = refl

    mutual
      notes-told : (s : Place) (v : Value) → all_known (node_told mismatch ts) (notes (input_value p (q ++ s) v)) ≡ told_here
      notes-told s (leaf n a) = ap (λ b. b && true) (one-told s) ∙ last told_here
        where
          last : (b : Bool) → (b && true) ≡ b
          last true = refl
          last false = refl
      notes-told s (list n vs) = ap (λ b. b && all_known (node_told mismatch ts) (all_notes (input_values p (q ++ s) 0 vs))) (one-told s) ∙ all_notes-told s 0 vs

      all_notes-told : (s : Place) (i : ℕ) (vs : Trees (Unit {0}) Scalar) → (told_here && all_known (node_told mismatch ts) (all_notes (input_values p (q ++ s) i vs))) ≡ told_here
      all_notes-told s i no_trees = last told_here
        where
          last : (b : Bool) → (b && true) ≡ b
          last true = refl
          last false = refl
      all_notes-told s i (tree v vs) =
          ap (λ b. told_here && b) (known-more (node_told mismatch ts) (notes (input_value p ((q ++ s) ++ i ∷ []) v)) (all_notes (input_values p (q ++ s) (suc i) vs)) ∙ ap (λ b. b && all_known (node_told mismatch ts) (all_notes (input_values p (q ++ s) (suc i) vs))) (ap (λ r. all_known (node_told mismatch ts) (notes (input_value p r v))) (append_assoc q s (i ∷ [])) ∙ notes-told (s ++ i ∷ []) v))
          ∙ twice told_here (all_known (node_told mismatch ts) (all_notes (input_values p (q ++ s) (suc i) vs))) (all_notes-told s (suc i) vs)

  walked-told : (p : Name) (q : Place) (m : ℕ) → mismatch p ≡ length q + suc m → (node_told mismatch ts (from_input p q) && true) ≡ is_told ts p q
  walked-told p q m e = ap (λ r. is_told ts p r && true) (take-whole q (mismatch p) (suc m) e) ∙ last (is_told ts p q)
    where
      last : (b : Bool) → (b && true) ≡ b
      last true = refl
      last false = refl

  -- the sources of what stands at a place of a walk are told where something was told of that place
  pub note-told : (p : Name) (q : Place) (m : ℕ) (v : Value) → mismatch p ≡ length q + m → all_known (node_told mismatch ts) (note (walk p m (input_value p q v))) ≡ is_told ts p q
  note-told p q zero v e = ap (λ r. all_known (node_told mismatch ts) (notes (input_value p r v))) (sym (append-nil q)) ∙ notes-told p q e [] v
  note-told p q (suc m) (leaf n a) e = walked-told p q m e
  note-told p q (suc m) (list n vs) e = walked-told p q m e

-- ---- what is told of a place is what stands there

count-walked : (p : Name) (k : ℕ) (vs : Trees Origin Scalar) → count (walk_each p k vs) ≡ count vs
count-walked p k no_trees = refl
count-walked p k (tree v vs) = ap suc (count-walked p k vs)

gap : (n k : ℕ) → n < k → k ≡ n + suc (k - suc n)
gap n k h = omega arith

module _ (values : Name → Traced) (mismatch : Name → ℕ) where
  -- what stands at that place of the walk, as it was told
  pub record Stands (t : Told) : Type 0 where
    pub found : Iteration
    pub there : at (walks mismatch values (told_leaf t)) (told_place t) ≡ Some found
    pub as_told : item_there values (telling t).item ≡ item (told_place t) (kind_of found)

  value-stands : (p : Name) (q : Place) (o : Option Traced) → at (values p) q ≡ o → length q ≡ mismatch p → IsThere o → Stands (arrival p q false)
  value-stands p q None e l h = absurd h
  value-stands p q (Some u) e l h =
      record { found = walk p 0 u; there = walk-reaches p q (mismatch p) 0 (values p) u (plus (length q) (mismatch p) l) e; as_told = ap (λ o. item q (ends ((p, value_there (values p) o) ∷ []))) e }
    where
      plus : (n k : ℕ) → n ≡ k → k ≡ n + 0
      plus n k e = omega arith

  fault-stands : (p : Name) (q : Place) (o : Option Traced) → at (values p) q ≡ o → length q < mismatch p → IsFaultThere o → Stands (arrival p q true)
  fault-stands p q None e l h = absurd h
  fault-stands p q (Some (leaf o (text t))) e l h = absurd h
  fault-stands p q (Some (list o vs)) e l h = absurd h
  fault-stands p q (Some (leaf o (fault d))) e l h =
      record { found = leaf (o ∷ []) (passed o.mark d); there = walk-reaches p q (mismatch p) (suc (mismatch p - suc (length q))) (values p) (leaf o (fault d)) (gap (length q) (mismatch p) l) e; as_told = ap (λ o. item q (passes (stop_of o))) e }

  list-stands : (p : Name) (q : Place) (n : ℕ) (o : Option Traced) → at (values p) q ≡ o → length q < mismatch p → IsListThere n o → Stands (close p q n)
  list-stands p q n None e l h = absurd h
  list-stands p q n (Some (leaf o a)) e l h = absurd h
  list-stands p q n (Some (list o vs)) e l h =
      record { found = list (o ∷ []) (walk_each p (mismatch p - suc (length q)) vs); there = walk-reaches p q (mismatch p) (suc (mismatch p - suc (length q))) (values p) (list o vs) (gap (length q) (mismatch p) l) e; as_told = ap (λ m. item q (closes m)) (sym h ∙ sym (count-walked p (mismatch p - suc (length q)) vs)) }

  pub told-stands : (t : Told) → IsTrueOf values mismatch t → Stands t
  told-stands (arrival p q false) h = value-stands p q (at (values p) q) refl h.0 h.1
  told-stands (arrival p q true) h = fault-stands p q (at (values p) q) refl h.0 h.1
  told-stands (faulty p q) h = let r = value-stands p q (at (values p) q) refl h.0 h.1 in record { found = r.found; there = r.there; as_told = r.as_told }
  told-stands (close p q n) h = list-stands p q n (at (values p) q) refl h.0 h.1

-- ---- the items of one leaf

some-in : {A : Type 0} (x : A) (xs : List A) → In x xs → some xs ≡ true
some-in x [] h = absurd h
some-in x (y ∷ xs) h = refl

of-some : {A : Type 0} (xs : List A) → some xs ≡ true → (x : A) × In x xs
of-some [] h = absurd (cc)
of-some (x ∷ xs) h = (x, inl refl)

module _ (values : Name → Value) (mismatch : Name → ℕ) (ts : List Told) (true_of : Each (IsTrueOf (labelled values) mismatch) ts) where
  -- an item that was told of a leaf is one of these tellings
  record Source (p : Name) (x : Item Spot Spot) : Type 0 where
    pub t : Told
    pub holds : IsTrueOf (labelled values) mismatch t
    pub leaf_is : told_leaf t ≡ p
    pub is : x ≡ (telling t).item

  source : (p : Name) (x : Item Spot Spot) → In x (told_to ts p) → Source p x
  source p x h =
      let r = of-flat (λ t. if_so (same_name p t.leaf) t.item) x (tellings ts) h in
      let m = of-map telling r.0 ts r.1 in
      let k = of-if (same_name p r.0.leaf) r.0.item x r.2 in
      record { t = m.0; holds = each_in (IsTrueOf (labelled values) mismatch) ts true_of m.0 m.1; leaf_is = sym (same-equal p r.0.leaf k.0 ∙ ap (λ (u : Telling Spot Spot). u.leaf) m.2); is = k.1 ∙ ap (λ (u : Telling Spot Spot). u.item) m.2 }

  -- what stands where an item was told
  record Placed (p : Name) (x : Item Spot Spot) : Type 0 where
    pub found : Iteration
    pub there : at (walks mismatch (labelled values) p) x.place ≡ Some found
    pub as_told : item_there (labelled values) x ≡ item x.place (kind_of found)

  placed : (p : Name) (x : Item Spot Spot) → In x (told_to ts p) → Placed p x
  placed p x h =
      let s = source p x h in
      let w = told-stands (labelled values) mismatch s.t s.holds in
      subst (λ y. Placed p y) (sym s.is) (subst (λ r. Placed r (telling s.t).item) s.leaf_is (record { found = w.found; there = w.there; as_told = w.as_told }))

  -- the sources of what stands at a place
  sources-told : (p : Name) (q : Place) (w : Iteration) → at (walks mismatch (labelled values) p) q ≡ Some w → all_known (node_told mismatch ts) (note w) ≡ is_told ts p q
  sources-told p q w h =
      let r = walk-comes p q (mismatch p) (labelled values p) w h in
      let v = input-there p q (at (values p) q) r.value (sym (at-input p q [] (values p)) ∙ r.there) in
      ap (λ t. all_known (node_told mismatch ts) (note t)) (r.is ∙ ap (walk p r.left) v.1) ∙ note-told mismatch ts p q r.left v.0 r.levels

  seen-known : (p : Name) (y : WalkItem) → In y (map (item_there (labelled values)) (told_to ts p)) → In y (known_items (node_told mismatch ts) (walks mismatch (labelled values) p))
  seen-known p y h =
      let x = of-map (item_there (labelled values)) y (told_to ts p) h in
      let w = placed p x.0 x.1 in
      subst (λ z. In z (known_items (node_told mismatch ts) (walks mismatch (labelled values) p))) (sym w.as_told ∙ sym x.2)
      (in-known (node_told mismatch ts) (walks mismatch (labelled values) p) (node_at x.0.place w.found) (node-in x.0.place (walks mismatch (labelled values) p) w.found w.there)
      (sources-told p x.0.place w.found w.there ∙ some-in x.0 (at_place x.0.place (told_to ts p)) (in-flat (λ z. if_so (same_place x.0.place z.place) z) x.0 x.0 (told_to ts p) x.1 (in-if (same_place x.0.place x.0.place) x.0 (same-itself x.0.place)))))

  known-seen_at : (p : Name) (n : Node) (o : Option Iteration) → at (walks mismatch (labelled values) p) n.item.place ≡ o → IsNodeOf o n → all_known (node_told mismatch ts) n.sources ≡ true → In n.item (map (item_there (labelled values)) (told_to ts p))
  known-seen_at p n None e i k = absurd i
  known-seen_at p n (Some w) e i k =
      let told = sym (sources-told p n.item.place w e) ∙ ap (λ (m : Node). all_known (node_told mismatch ts) m.sources) (sym i) ∙ k in
      let x = of-some (at_place n.item.place (told_to ts p)) told in
      let r = of-flat (λ z. if_so (same_place n.item.place z.place) z) x.0 (told_to ts p) x.1 in
      let s = of-if (same_place n.item.place r.0.place) r.0 x.0 r.2 in
      let place : n.item.place ≡ r.0.place = same-equal n.item.place r.0.place s.0 in
      let d = placed p r.0 r.1 in
      let found : d.found ≡ w = same_Some d.found w (sym d.there ∙ ap (at (walks mismatch (labelled values) p)) (sym place) ∙ e) in
      subst (λ z. In z (map (item_there (labelled values)) (told_to ts p))) (d.as_told ∙ ap (λ q. item q (kind_of d.found)) (sym place) ∙ ap (λ u. item n.item.place (kind_of u)) found ∙ sym (ap (λ (m : Node). m.item) i)) (in-map (item_there (labelled values)) r.0 (told_to ts p) r.1)

  known-seen : (p : Name) (y : WalkItem) → In y (known_items (node_told mismatch ts) (walks mismatch (labelled values) p)) → In y (map (item_there (labelled values)) (told_to ts p))
  known-seen p y h =
      let n = of-known (node_told mismatch ts) (walks mismatch (labelled values) p) y h in
      subst (λ z. In z (map (item_there (labelled values)) (told_to ts p))) n.2 (known-seen_at p n.0 (at (walks mismatch (labelled values) p) n.0.item.place) refl (node-stands n.0.item.place (walks mismatch (labelled values) p) n.0 refl n.1) n.3)

  seen-once : (xs : List (Item Spot Spot)) → Once xs → Once (map (item_there (labelled values)) xs)
  seen-once xs o q =
      subst (λ l. length l ≤ 1) (sym (flat_map-map (λ x. if_so (same_place q x.place) x) (item_there (labelled values)) xs ∙ flat-same (λ x. if_so (same_place q x.place) (item_there (labelled values) x)) (λ x. map (item_there (labelled values)) (if_so (same_place q x.place) x)) (λ x. sym (map-if (item_there (labelled values)) (same_place q x.place) x)) xs ∙ sym (map-flat (item_there (labelled values)) (λ x. if_so (same_place q x.place) x) xs)))
      (subst (λ n. n ≤ 1) (sym (length-map (at_place q xs) (item_there (labelled values)))) (o q))

  module _ (once : (p : Name) → Once (told_to ts p)) where
    pub leaf-agrees : (p : Name) → IsPermutation (map (item_there (labelled values)) (told_to ts p)) (known_items (node_told mismatch ts) (walks mismatch (labelled values) p))
    leaf-agrees p =
        once-members (map (item_there (labelled values)) (told_to ts p)) (known_items (node_told mismatch ts) (walks mismatch (labelled values) p)) (seen-once (told_to ts p) (once p)) (λ q. known-once (node_told mismatch ts) q (walks mismatch (labelled values) p)) (λ y h. seen-known p y h) (λ y h. known-seen p y h)

    -- what is matched is what stands in the iteration of these values with all its sources told
    pub matched-told : ((p : Name) → HasLevels (walks mismatch (labelled values) p) (mismatch p)) → (s : Strategy) → DotsAgree mismatch s → IsPermutation (map (item_there (labelled values)) (matched_after s ts)) (known_items (node_told mismatch ts) (iteration (walks mismatch (labelled values)) s))
    matched-told levels s a =
        subst (λ l. IsPermutation l (known_items (node_told mismatch ts) (iteration (walks mismatch (labelled values)) s))) (matched-maps (bound_there (labelled values)) (stop_there (labelled values)) (told_to ts) s)
        (matched-known (node_told mismatch ts) (walks mismatch (labelled values)) mismatch levels (λ p. map (item_there (labelled values)) (told_to ts p)) leaf-agrees s a)
