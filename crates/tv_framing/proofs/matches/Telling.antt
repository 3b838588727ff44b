-- What a port is told fits the levels that it walks, and no place of it is told twice.
use Rattle.std.specs.Prelude.{◌≡◌, refl, ℕ, zero, suc, ◌+◌, ◌≤◌, ◌<◌, Bool, true, false, flat_map, List, [], ◌∷◌, ◌++◌, length, map, IsPermutation}
use Rattle.std.proofs.Common.{arith, sym, ap, subst, ◌∙◌, append_assoc, inl, length-append}
use Rattle.std.proofs.lemmas.List.{length-map, map-append}
use Rattle.std.proofs.lemmas.List.Sorted.{IsPermutation-sym}
use Rattle.std.proofs.lemmas.List.Folds.{flat_map-map}
use Rattle.tv_lemmas.specs.Members.{Each, In}
use Rattle.tv_lemmas.proofs.Members.{each_in, in-flat, in-map, in_each}
use Rattle.tv_value.specs.Nested.{leaf, list, no_trees, tree, Place, count}
use Rattle.tv_value.specs.Orders.{same_name}
use Rattle.tv_value.specs.Values.{Name}
use Rattle.tv_strategy.specs.Conditions.{number_of}
use Rattle.tv_strategy.specs.Iterations.{End, Iteration, Iterations, job, passed}
use Rattle.tv_strategy.specs.Levels.{AllHaveLevels, EndHasLevels, HasLevels}
use Rattle.tv_strategy.specs.Origins.{Origin, Traced}
use Rattle.tv_strategy.specs.Splits.{same_place}
use Rattle.tv_strategy.proofs.PlaceLemmas.{same-itself}
use Rattle.tv_strategy.proofs.Sources.{each-append}
use Rattle.tv_strategy.proofs.Each.{each-weaken}
use Rattle.tv_matching.specs.Items.{Bound, Item, Kind, Stopped, all_known, closes, end_kind, ends, here, if_so, known_from, known_items, passes, within}
use Rattle.tv_matching.specs.Levels.{AreLeveled, KindAt}
use Rattle.tv_matching.specs.Matchers.{CanTellAll, Matching}
use Rattle.tv_matching.specs.Members.{Once, at_place}
use Rattle.tv_matching.specs.Tellings.{Telling}
use Rattle.tv_matching.specs.Told.{IsFit, IsNew, Spot, Told, arrival, bound_there, close, faulty, map_kind, item_there, stop_there, telling, tellings, told_kind, told_leaf, told_place, told_to}
use Rattle.tv_matching.proofs.Gains.{told-append}
use Rattle.tv_matching.proofs.Lists.{each-if, each-map, flat-append, flat-same, map-flat, map-if}
use Rattle.tv_matching.proofs.Members.{each-permutes, in-if}
use Rattle.tv_matching.proofs.Onces.{known-once, once-permutes}
use Rattle.tv_matching.proofs.Heard.{some-long}

-- ---- known items stand at the levels of their iteration

at-end : (e : End) (d : ℕ) → EndHasLevels e d → KindAt d [] (end_kind e)
at-end (job b) d h = sym h
at-end (passed m e) d h = h

deeper : {X F : Type 0} (d i : ℕ) (q : Place) (k : Kind X F) → KindAt d q k → KindAt (suc d) (i ∷ q) k
deeper d i q (ends b) h = ap suc h
deeper d i q (closes n) h = more (length q) d h
  where
    more : (a b : ℕ) → a < b → suc a < suc b
    more a b h = omega arith
deeper d i q (passes f) h = more (length q) d h
  where
    more : (a b : ℕ) → a < b → suc a < suc b
    more a b h = omega arith

module _ (known : Origin → Bool) where
  abbrev StandsAt : ℕ → Item Bound Stopped → Type 0
  StandsAt d x = KindAt d x.place x.kind

  mutual
    pub known-leveled : (t : Iteration) (d : ℕ) → HasLevels t d → AreLeveled d (known_items known t)
    known-leveled (leaf s e) d h = each-if (StandsAt d) (all_known known s) (here (end_kind e)) (at-end e d h)
    known-leveled (list s ts) zero h = absurd h
    known-leveled (list s ts) (suc d) h =
        each-append (StandsAt (suc d)) (if_so (all_known known s) (here (closes (count ts)))) (known_from known 0 ts)
        (each-if (StandsAt (suc d)) (all_known known s) (here (closes (count ts))) (some d))
        (from-leveled 0 ts d h)
      where
        some : (n : ℕ) → 0 < suc n
        some n = omega arith

    from-leveled : (i : ℕ) (ts : Iterations) (d : ℕ) → AllHaveLevels ts d → AreLeveled (suc d) (known_from known i ts)
    from-leveled i no_trees d h = tt
    from-leveled i (tree t ts) d h =
        each-append (StandsAt (suc d)) (map (within i) (known_items known t)) (known_from known (suc i) ts)
        (each-map (StandsAt (suc d)) (within i) (known_items known t)
        (each-weaken (StandsAt d) (λ x. StandsAt (suc d) (within i x)) (λ x k. deeper d i x.place x.kind k) (known_items known t) (known-leveled t d h.0)))
        (from-leveled (suc i) ts d h.1)

-- ---- and so do the tellings that are seen as these

seen-level : {X F Y G : Type 0} (f : X → Y) (g : F → G) (d : ℕ) (q : Place) (k : Kind X F) → KindAt d q (map_kind f g k) → KindAt d q k
seen-level f g d q (ends b) h = h
seen-level f g d q (closes n) h = h
seen-level f g d q (passes e) h = h

module _ (values : Name → Traced) where
  at-seen : (q : Place) (xs : List (Item Spot Spot)) → at_place q (map (item_there values) xs) ≡ map (item_there values) (at_place q xs)
  at-seen q xs =
      flat_map-map (λ x. if_so (same_place q x.place) x) (item_there values) xs
      ∙ flat-same (λ x. if_so (same_place q x.place) (item_there values x)) (λ x. map (item_there values) (if_so (same_place q x.place) x)) (λ x. sym (map-if (item_there values) (same_place q x.place) x)) xs
      ∙ sym (map-flat (item_there values) (λ x. if_so (same_place q x.place) x) xs)

  unseen-once : (xs : List (Item Spot Spot)) → Once (map (item_there values) xs) → Once xs
  unseen-once xs h q = subst (λ n. n ≤ 1) (ap length (at-seen q xs) ∙ length-map (at_place q xs) (item_there values)) (h q)

  module _ (known : Origin → Bool) (xs : List (Item Spot Spot)) (t : Iteration) (agree : IsPermutation (map (item_there values) xs) (known_items known t)) where
    pub seen-leveled : (d : ℕ) → HasLevels t d → AreLeveled d xs
    seen-leveled d h =
        in_each (λ (x : Item Spot Spot). KindAt d x.place x.kind) xs
        (λ x i. seen-level (bound_there values) (stop_there values) d x.place x.kind
        (each_in (λ (y : Item Bound Stopped). KindAt d y.place y.kind) (map (item_there values) xs) (each-permutes (λ (y : Item Bound Stopped). KindAt d y.place y.kind) (known_items known t) (map (item_there values) xs) (IsPermutation-sym _ _ agree) (known-leveled known t d h)) (item_there values x) (in-map (item_there values) x xs i)))

    pub seen-once : Once xs
    seen-once = unseen-once xs (once-permutes (known_items known t) (map (item_there values) xs) (IsPermutation-sym _ _ agree) (λ q. known-once known q t))

-- ---- what can be told

pub in-told : (t : Told) (ts : List Told) → In t ts → In (telling t).item (told_to ts (told_leaf t))
in-told t ts i =
    in-flat (λ (u : Telling Spot Spot). if_so (same_name (told_leaf t) u.leaf) u.item) (telling t) (telling t).item (tellings ts) (in-map telling t ts i)
    (in-if (same_name (told_leaf t) (told_leaf t)) (telling t).item (same-itself (told_leaf t)))

pub fit-of_level : (mismatch : Name → ℕ) (t : Told) → KindAt (mismatch (told_leaf t)) (told_place t) (told_kind t) → IsFit mismatch t
fit-of_level mismatch (arrival p q false) h = h
fit-of_level mismatch (arrival p q true) h = h
fit-of_level mismatch (faulty p q) h = h
fit-of_level mismatch (close p q n) h = h

-- nothing of the place was told before, where it isn't told twice
new-of_once : (ts : List Told) (t : Told) (rest : List Told) → Once (told_to (ts ++ t ∷ rest) (told_leaf t)) → IsNew ts t
new-of_once ts t rest once =
    empty (at_place q (told_to ts p))
    (less (length (at_place q (told_to ts p))) (length (at_place q (told_to (t ∷ rest) p)))
    (subst (λ n. n ≤ 1) (ap length (ap (at_place q) parts ∙ flat-append (λ x. if_so (same_place q x.place) x) (told_to ts p) (told_to (t ∷ rest) p)) ∙ length-append (at_place q (told_to ts p)) (at_place q (told_to (t ∷ rest) p))) (once q))
    (some-long (telling t).item (at_place q (told_to (t ∷ rest) p))
    (in-flat (λ x. if_so (same_place q x.place) x) (telling t).item (telling t).item (told_to (t ∷ rest) p) (in-told t (t ∷ rest) (inl refl)) (in-if (same_place q q) (telling t).item (same-itself q)))))
  where
    p : Name
    p = told_leaf t

    q : Place
    q = told_place t

    parts : told_to (ts ++ t ∷ rest) p ≡ told_to ts p ++ told_to (t ∷ rest) p
    parts = ap (λ l. flat_map (λ (u : Telling Spot Spot). if_so (same_name p u.leaf) u.item) l) (map-append telling ts (t ∷ rest)) ∙ told-append (tellings ts) (tellings (t ∷ rest)) p

    less : (a b : ℕ) → a + b ≤ 1 → 1 ≤ b → a ≡ 0
    less a b h k = omega arith

    empty : (xs : List (Item Spot Spot)) → length xs ≡ 0 → xs ≡ []
    empty [] e = refl
    empty (x ∷ xs) e = absurd (omega (arith, e))

pub all-tell : (m : Matching) (ts more : List Told) → Each (IsFit (number_of m.mismatch)) more → Each (λ t. Once (told_to (ts ++ more) (told_leaf t))) more → CanTellAll (record m { told = ts }) more
all-tell m ts [] fit once = tt
all-tell m ts (t ∷ more) fit once = (
  (fit.0, new-of_once ts t more once.0),
  all-tell m (ts ++ t ∷ []) more fit.1 (subst (λ l. Each (λ u. Once (told_to l (told_leaf u))) more) (sym (append_assoc ts (t ∷ []) more)) once.1),
)
