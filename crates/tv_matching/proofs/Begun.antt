-- A prefix node is a join by the first indices of places, as many as its left child is deep.
use Rattle.std.specs.Prelude.{◌≡◌, refl, ℕ, zero, suc, ◌≤◌, ◌<◌, Bool, true, false, ◌&&◌, ◌==◌, List, [], ◌∷◌, ◌++◌, map, flat_map, length, take}
use Rattle.std.proofs.Common.{arith, sym, ap, subst, ◌∙◌}
use Rattle.tv_lemmas.specs.Members.{Each}
use Rattle.tv_value.specs.Nested.{leaf, list, no_trees, tree, Place, count}
use Rattle.tv_value.specs.Orders.{is_prefix}
use Rattle.tv_strategy.specs.Origins.{Origin}
use Rattle.tv_strategy.specs.Iterations.{End, job, passed, Iteration, Iterations}
use Rattle.tv_strategy.specs.Levels.{HasLevels, AllHaveLevels, EndHasLevels}
use Rattle.tv_strategy.specs.Splits.{same_place}
use Rattle.tv_strategy.proofs.PlaceLemmas.{same-equal}
use Rattle.tv_strategy.proofs.Sources.{each-append}
use Rattle.tv_strategy.proofs.Each.{each-weaken}
use Rattle.tv_matching.specs.Items.{Kind, ends, closes, passes, Item, item, Bound, Stopped, end_kind, within, here, if_so, all_known, known_items, known_from}
use Rattle.tv_matching.specs.Levels.{KindAt, AreLeveled}
use Rattle.tv_matching.specs.Matched.{bound, meet_kinds, meet, met_by, joined_items, reaches, meet_below, prefixed_items}
use Rattle.tv_matching.proofs.Lists.{flat-same, flat-each, each-map, each-if}

-- ---- a place that is shorter than the left child is deep meets the same place alone

short-meets : (p : ℕ) (q r : Place) → length q < p → same_place q (take p r) ≡ same_place q r
short-meets zero q r h = absurd (none (length q) h)
  where
    none : (n : ℕ) → n < 0 → ⊥
    none n h = omega arith
short-meets (suc p) [] [] h = refl
short-meets (suc p) [] (j ∷ r) h = refl
short-meets (suc p) (i ∷ q) [] h = refl
short-meets (suc p) (i ∷ q) (j ∷ r) h = ap (λ b. (i == j) && b) (short-meets p q r (omega arith))

-- a whole place meets all that go on inside of it
all-first : (q r : Place) → same_place q (take (length q) r) ≡ is_prefix q r
all-first [] r = refl
all-first (i ∷ q) [] = refl
all-first (i ∷ q) (j ∷ r) = ap (λ b. (i == j) && b) (all-first q r)

pub each-flat : {A B : Type 0} (P : B → Type 0) (f : A → List B) (xs : List A) → Each (λ x. Each P (f x)) xs → Each P (flat_map f xs)
each-flat P f [] h = tt
each-flat P f (x ∷ xs) h = each-append P (f x) (flat_map f xs) h.0 (each-flat P f xs h.1)

module _ {X F : Type 0} where
  reaches-first : (p : ℕ) (q r : Place) (k : Kind X F) → KindAt p q k → same_place q (take p r) ≡ reaches k q r
  reaches-first p q r (ends b) h = ap (λ n. same_place q (take n r)) (sym h) ∙ all-first q r
  reaches-first p q r (closes n) h = short-meets p q r h
  reaches-first p q r (passes f) h = short-meets p q r h

  pub prefixed-joined : (p : ℕ) (xs ys : List (Item X F)) → AreLeveled p xs → joined_items (take p) xs ys ≡ prefixed_items xs ys
  prefixed-joined p xs ys h =
      flat-each (λ x. flat_map (meet (take p) x) ys) (λ x. flat_map (meet_below x) ys) xs
      (each-weaken (λ x. KindAt p x.place x.kind) (λ x. flat_map (meet (take p) x) ys ≡ flat_map (meet_below x) ys)
      (λ x k. flat-same (meet (take p) x) (meet_below x) (λ y. ap (λ b. if_so b (item y.place (meet_kinds x.kind y.kind))) (reaches-first p x.place y.place x.kind k)) ys) xs h)

  -- ---- it is as deep as the right child

  pub bound-level : (d : ℕ) (q : Place) (b : List X) (k : Kind X F) → KindAt d q k → KindAt d q (bound b k)
  bound-level d q b (ends c) h = h
  bound-level d q b (closes n) h = h
  bound-level d q b (passes f) h = h

  prefix-level : (p d : ℕ) (q r : Place) (k l : Kind X F) → p ≤ d → reaches k q r ≡ true → KindAt p q k → KindAt d r l → KindAt d r (meet_kinds k l)
  prefix-level p d q r (ends b) l w e h m = bound-level d r b l m
  prefix-level p d q r (passes f) l w e h m = subst (λ s. length s < d) (same-equal q r e) (less (length q) h)
    where
      less : (n : ℕ) → n < p → n < d
      less n h = omega arith
  prefix-level p d q r (closes n) (ends c) w e h m = m
  prefix-level p d q r (closes n) (closes o) w e h m = m
  prefix-level p d q r (closes n) (passes f) w e h m = m

  pub prefixed-leveled : (p d : ℕ) (xs ys : List (Item X F)) → p ≤ d → AreLeveled p xs → AreLeveled d ys → AreLeveled d (prefixed_items xs ys)
  prefixed-leveled p d xs ys w h k =
      each-flat (λ y. KindAt d y.place y.kind) (λ x. flat_map (meet_below x) ys) xs (each-weaken (λ x. KindAt p x.place x.kind) (λ x. AreLeveled d (flat_map (meet_below x) ys)) (λ x l. each-flat (λ y. KindAt d y.place y.kind) (meet_below x) ys (each-weaken (λ y. KindAt d y.place y.kind) (λ y. AreLeveled d (meet_below x y)) (λ y m. one x y (reaches x.kind x.place y.place) refl l m) ys k)) xs h)
    where
      one : (x y : Item X F) (b : Bool) → reaches x.kind x.place y.place ≡ b → KindAt p x.place x.kind → KindAt d y.place y.kind → AreLeveled d (if_so b (item y.place (meet_kinds x.kind y.kind)))
      one x y false e l m = tt
      one x y true e l m = (prefix-level p d x.place y.place x.kind y.kind w e l m, tt)

-- ---- what is known of an iteration stands at its levels

module _ (known : Origin → Bool) where
  end-level : (e : End) (d : ℕ) → EndHasLevels e d → KindAt d [] (end_kind e)
  end-level (job b) d h = sym h
  end-level (passed m e) d h = h

  within-level : (i d : ℕ) (q : Place) (k : Kind Bound Stopped) → KindAt d q k → KindAt (suc d) (i ∷ q) k
  within-level i d q (ends b) h = ap suc h
  within-level i d q (closes n) h = omega arith
  within-level i d q (passes f) h = omega arith

  mutual
    pub known-leveled : (t : Iteration) (d : ℕ) → HasLevels t d → AreLeveled d (known_items known t)
    known-leveled (leaf s e) d h = each-if (λ (x : Item Bound Stopped). KindAt d x.place x.kind) (all_known known s) (here (end_kind e)) (end-level e d h)
    known-leveled (list s ts) zero h = absurd h
    known-leveled (list s ts) (suc d) h =
        each-append (λ (x : Item Bound Stopped). KindAt (suc d) x.place x.kind) (if_so (all_known known s) (here (closes (count ts)))) (known_from known 0 ts)
        (each-if (λ (x : Item Bound Stopped). KindAt (suc d) x.place x.kind) (all_known known s) (here (closes (count ts))) (omega arith)) (from-leveled 0 ts d h)

    from-leveled : (i : ℕ) (ts : Iterations) (d : ℕ) → AllHaveLevels ts d → AreLeveled (suc d) (known_from known i ts)
    from-leveled i no_trees d h = tt
    from-leveled i (tree t ts) d h =
        each-append (λ (x : Item Bound Stopped). KindAt (suc d) x.place x.kind) (map (within i) (known_items known t)) (known_from known (suc i) ts)
        (each-map (λ (x : Item Bound Stopped). KindAt (suc d) x.place x.kind) (within i) (known_items known t) (each-weaken (λ (x : Item Bound Stopped). KindAt d x.place x.kind) (λ (x : Item Bound Stopped). KindAt (suc d) (i ∷ x.place) x.kind) (λ x k. within-level i d x.place x.kind k) (known_items known t) (known-leveled t d h.0)))
        (from-leveled (suc i) ts d h.1)
