-- No place has two items: in an iteration, and in what is matched of leaves of which this is so.
use Rattle.std.specs.Prelude.{◌≡◌, refl, ℕ, zero, suc, ◌+◌, ◌≤◌, ◌<◌, Bool, true, false, ◌&&◌, ◌==◌, List, [], ◌∷◌, ◌++◌, map, flat_map, length, take, drop, IsPermutation}
use Rattle.std.proofs.Common.{arith, sym, ap, subst, ◌∙◌, length-append, append-nil}
use Rattle.std.proofs.lemmas.Bool.{eqb-true, eq-eqb}
use Rattle.std.proofs.lemmas.List.Sorted.{length_permutation}
use Rattle.std.proofs.lemmas.List.{length-map}
use Rattle.std.proofs.lemmas.List.Folds.{flat_map-map}
use Rattle.tv_lemmas.specs.Members.{Each}
use Rattle.tv_lemmas.proofs.Lists.{flat-flat}
use Rattle.tv_lemmas.proofs.Numbers.{less-unequal}
use Rattle.tv_value.specs.Nested.{leaf, list, no_trees, tree, Place, count}
use Rattle.tv_value.specs.Values.{Name}
use Rattle.tv_value.specs.Strategies.{Strategy, port, cross, dot, prefix, Strategies, no_strategies, strategy}
use Rattle.tv_strategy.specs.Origins.{Origin}
use Rattle.tv_strategy.specs.Iterations.{Iteration, Iterations}
use Rattle.tv_strategy.specs.Measures.{strategy_depth, sum_of_depths, first_depth, DotsAgree, AllDotsAgree, HaveOneDepth}
use Rattle.tv_strategy.specs.Splits.{same_place}
use Rattle.tv_strategy.proofs.PlaceLemmas.{same-equal, same-itself}
use Rattle.tv_strategy.proofs.Sources.{each-append}
use Rattle.tv_strategy.proofs.Each.{each-all, each-weaken}
use Rattle.tv_matching.specs.Items.{Kind, ends, closes, passes, Item, item, Bound, Stopped, end_kind, within, here, if_so, all_known, known_items, known_from}
use Rattle.tv_matching.specs.Members.{at_place, Once}
use Rattle.tv_matching.specs.Levels.{KindAt, AreLeveled}
use Rattle.tv_matching.specs.Matched.{bound, below, replaced, crossed_items, meet_kinds, meet, joined_items, same, prefixed_items, one_end, matched, matched_cross, matched_dot}
pub use Rattle.tv_matching.proofs.Begun.{each-flat}
use Rattle.tv_matching.proofs.Begun.{bound-level, prefixed-joined, prefixed-leveled}
use Rattle.tv_matching.proofs.Lists.{flat-append, flat-same, map-flat, flat-nothing, map-if, each-map}
use Rattle.tv_matching.proofs.Permutes.{flat-permutes}
use Rattle.tv_matching.proofs.FromScratch.{StartsFrom, from-starts}

flat-shorter : {A B C : Type 0} (f : A → List B) (g : A → List C) (xs : List A) → Each (λ x. length (f x) ≤ length (g x)) xs → length (flat_map f xs) ≤ length (flat_map g xs)
flat-shorter f g [] h = omega arith
flat-shorter f g (x ∷ xs) h =
    subst (λ m. m ≤ length (g x ++ flat_map g xs)) (sym (length-append (f x) (flat_map f xs)))
    (subst (λ n. length (f x) + length (flat_map f xs) ≤ n) (sym (length-append (g x) (flat_map g xs)))
    (sums (length (f x)) (length (flat_map f xs)) (length (g x)) (length (flat_map g xs)) h.0 (flat-shorter f g xs h.1)))
  where
    sums : (a b c d : ℕ) → a ≤ c → b ≤ d → a + b ≤ c + d
    sums a b c d h k = omega arith

-- a permutation has as many items at each place
pub once-permutes : {X F : Type 0} (xs ys : List (Item X F)) → IsPermutation xs ys → Once xs → Once ys
once-permutes xs ys h o q = subst (λ n. n ≤ 1) (sym (length_permutation (at_place q xs) (at_place q ys) (flat-permutes (λ x. if_so (same_place q x.place) x) xs ys h))) (o q)

-- ---- an iteration

module _ {X F : Type 0} where
  at-if : (q : Place) (b : Bool) (x : Item X F) → length (at_place q (if_so b x)) ≤ 1
  at-if q false x = omega arith
  at-if q true x = by (same_place q x.place)
    where
      by : (b : Bool) → length (if_so b x ++ []) ≤ 1
      by true = omega arith
      by false = omega arith

  at-within : (i : ℕ) (q : Place) (xs : List (Item X F)) → at_place (i ∷ q) (map (within i) xs) ≡ map (within i) (at_place q xs)
  at-within i q xs =
      flat_map-map (λ x. if_so (same_place (i ∷ q) x.place) x) (within i) xs
      ∙ flat-same (λ x. if_so ((i == i) && same_place q x.place) (within i x)) (λ x. map (within i) (if_so (same_place q x.place) x)) (λ x. ap (λ b. if_so (b && same_place q x.place) (within i x)) (eq-eqb i i refl) ∙ sym (map-if (within i) (same_place q x.place) x)) xs
      ∙ sym (map-flat (within i) (λ x. if_so (same_place q x.place) x) xs)

  at-other : (i j : ℕ) (q : Place) (xs : List (Item X F)) → (j == i) ≡ false → at_place (j ∷ q) (map (within i) xs) ≡ []
  at-other i j q xs h =
      flat_map-map (λ x. if_so (same_place (j ∷ q) x.place) x) (within i) xs
      ∙ flat-nothing (λ x. if_so ((j == i) && same_place q x.place) (within i x)) xs (each-all (λ x. if_so ((j == i) && same_place q x.place) (within i x) ≡ []) (λ x. ap (λ b. if_so (b && same_place q x.place) (within i x)) h) xs)

  at-none : (q : Place) (xs : List (Item X F)) → Each (λ x. same_place q x.place ≡ false) xs → at_place q xs ≡ []
  at-none q xs h = flat-nothing (λ x. if_so (same_place q x.place) x) xs (each-weaken (λ x. same_place q x.place ≡ false) (λ x. if_so (same_place q x.place) x ≡ []) (λ x e. ap (λ b. if_so b x) e) xs h)

starts-other : (q p : Place) (i : ℕ) → StartsFrom (suc i) p → same_place (i ∷ q) p ≡ false
starts-other q [] i h = refl
starts-other q (j ∷ p) i h = ap (λ b. b && same_place q p) (less-unequal i j h)

starts-not_top : (p : Place) (i : ℕ) → StartsFrom i p → same_place [] p ≡ false
starts-not_top [] i h = absurd h
starts-not_top (j ∷ p) i h = refl

module _ (known : Origin → Bool) where
  mutual
    pub known-once : (q : Place) (t : Iteration) → length (at_place q (known_items known t)) ≤ 1
    known-once q (leaf s e) = at-if q (all_known known s) (here (end_kind e))
    known-once [] (list s ts) =
        subst (λ l. length l ≤ 1) (sym (flat-append (λ x. if_so (same_place [] x.place) x) (if_so (all_known known s) (here (closes (count ts)))) (known_from known 0 ts)))
        (subst (λ l. length (at_place [] (if_so (all_known known s) (here (closes (count ts)))) ++ l) ≤ 1) (sym (at-none [] (known_from known 0 ts) (each-weaken (λ x. StartsFrom 0 x.place) (λ x. same_place [] x.place ≡ false) (λ x h. starts-not_top x.place 0 h) (known_from known 0 ts) (from-starts known 0 ts))))
        (subst (λ l. length l ≤ 1) (sym (append-nil (at_place [] (if_so (all_known known s) (here (closes (count ts))))))) (at-if [] (all_known known s) (here (closes (count ts))))))
    known-once (j ∷ q) (list s ts) =
        subst (λ l. length l ≤ 1) (sym (flat-append (λ x. if_so (same_place (j ∷ q) x.place) x) (if_so (all_known known s) (here (closes (count ts)))) (known_from known 0 ts)))
        (subst (λ l. length (l ++ at_place (j ∷ q) (known_from known 0 ts)) ≤ 1) (sym (none (all_known known s))) (from-once j q 0 ts))
      where
        none : (b : Bool) → at_place {X = Bound} {F = Stopped} (j ∷ q) (if_so b (here (closes (count ts)))) ≡ []
        none true = refl
        none false = refl

    from-once : (j : ℕ) (q : Place) (i : ℕ) (ts : Iterations) → length (at_place (j ∷ q) (known_from known i ts)) ≤ 1
    from-once j q i no_trees = omega arith
    from-once j q i (tree t ts) =
        subst (λ l. length l ≤ 1) (sym (flat-append (λ x. if_so (same_place (j ∷ q) x.place) x) (map (within i) (known_items known t)) (known_from known (suc i) ts)))
        (by (j == i) refl (known-once q t) (from-once j q (suc i) ts))
      where
        by : (b : Bool) → (j == i) ≡ b → length (at_place q (known_items known t)) ≤ 1 → length (at_place (j ∷ q) (known_from known (suc i) ts)) ≤ 1 → length (at_place (j ∷ q) (map (within i) (known_items known t)) ++ at_place (j ∷ q) (known_from known (suc i) ts)) ≤ 1
        by false e h k = subst (λ l. length (l ++ at_place (j ∷ q) (known_from known (suc i) ts)) ≤ 1) (sym (at-other i j q (known_items known t) e)) k
        by true e h k =
            subst (λ m. length (at_place (m ∷ q) (map (within i) (known_items known t)) ++ at_place (m ∷ q) (known_from known (suc i) ts)) ≤ 1) (sym (eqb-true j i e))
            (subst (λ l. length (at_place (i ∷ q) (map (within i) (known_items known t)) ++ l) ≤ 1) (sym (at-none (i ∷ q) (known_from known (suc i) ts) (each-weaken (λ x. StartsFrom (suc i) x.place) (λ x. same_place (i ∷ q) x.place ≡ false) (λ x s. starts-other q x.place i s) (known_from known (suc i) ts) (from-starts known (suc i) ts))))
            (subst (λ l. length l ≤ 1) (sym (append-nil (at_place (i ∷ q) (map (within i) (known_items known t)))))
            (subst (λ l. length l ≤ 1) (sym (at-within i q (known_items known t)))
            (subst (λ n. n ≤ 1) (sym (length-map (at_place q (known_items known t)) (within i))) h))))

-- ---- joins

take-front : (p r : Place) (c : ℕ) → length p ≡ c → take c (p ++ r) ≡ p
take-front [] r zero h = none r
  where
    none : (r : Place) → take 0 r ≡ []
    none r = refl
take-front [] r (suc c) h = absurd (no c h)
  where
    no : (c : ℕ) → 0 ≡ suc c → ⊥
    no c e = omega arith
take-front (i ∷ p) r zero h = absurd (no (length p) h)
  where
    no : (c : ℕ) → suc c ≡ 0 → ⊥
    no c e = omega arith
take-front (i ∷ p) r (suc c) h = ap (λ q. i ∷ q) (take-front p r c (omega arith))

take-all : (p : Place) (c : ℕ) → length p < c → take c p ≡ p
take-all [] zero h = refl
take-all [] (suc c) h = refl
take-all (i ∷ p) zero h = absurd (no (length p) h)
  where
    no : (n : ℕ) → suc n < 0 → ⊥
    no n e = omega arith
take-all (i ∷ p) (suc c) h = ap (λ q. i ∷ q) (take-all p c (omega arith))

take-drop : (c : ℕ) (q : Place) → take c q ++ drop c q ≡ q
take-drop zero q = refl
take-drop (suc c) [] = refl
take-drop (suc c) (i ∷ q) = ap (λ r. i ∷ r) (take-drop c q)

same-front : (p q r : Place) → same_place (p ++ q) (p ++ r) ≡ same_place q r
same-front [] q r = refl
same-front (i ∷ p) q r = ap (λ b. b && same_place (p ++ q) (p ++ r)) (eq-eqb i i refl) ∙ same-front p q r

not_same : (q r : Place) → (q ≡ r → ⊥) → same_place q r ≡ false
not_same q r n = by (same_place q r) refl
  where
    by : (b : Bool) → same_place q r ≡ b → same_place q r ≡ false
    by false e = e
    by true e = absurd (n (same-equal q r e))

are-differ : (q r : Place) → same_place q r ≡ false → q ≡ r → ⊥
are-differ q r h e = absurd (clash (same_place q r) h (subst (λ p. same_place q p ≡ true) e (same-itself q)))
  where
    clash : (b : Bool) → b ≡ false → b ≡ true → ⊥
    clash true i j = absurd (cc)
    clash false i j = absurd (cc)

lower : (m c d : ℕ) → m < c → m < c + d
lower m c d h = omega arith

none-at : (X F : Type 0) (q : Place) → length (at_place {X = X} {F = F} q one_end) ≤ 1
none-at X F q = by (same_place q [])
  where
    by : (b : Bool) → length (if_so {A = Item X F} b (here (ends [])) ++ []) ≤ 1
    by true = omega arith
    by false = omega arith

module _ {X F : Type 0} where
  -- where a binding was added, at most what stood there
  below-few : (q p : Place) (c : ℕ) (b : List X) (ys : List (Item X F)) → Once ys → length p ≡ c → (g : Bool) → same_place (take c q) p ≡ g → (x : Item X F) → length (at_place q (map (below p b) ys)) ≤ length (if_so g x)
  below-few q p c b ys o l true e x =
      subst (λ n. n ≤ 1) (sym (ap length (flat_map-map (λ y. if_so (same_place q y.place) y) (below p b) ys ∙ flat-same (λ y. if_so (same_place q (p ++ y.place)) (below p b y)) (λ y. map (below p b) (if_so (same_place (drop c q) y.place) y)) pair ys ∙ sym (map-flat (below p b) (λ y. if_so (same_place (drop c q) y.place) y) ys)) ∙ length-map (at_place (drop c q) ys) (below p b))) (o (drop c q))
    where
      whole : q ≡ p ++ drop c q
      whole = sym (take-drop c q) ∙ ap (λ r. r ++ drop c q) (same-equal (take c q) p e)

      pair : (y : Item X F) → if_so (same_place q (p ++ y.place)) (below p b y) ≡ map (below p b) (if_so (same_place (drop c q) y.place) y)
      pair y = ap (λ r. if_so (same_place r (p ++ y.place)) (below p b y)) whole ∙ ap (λ g. if_so g (below p b y)) (same-front p (drop c q) y.place) ∙ sym (map-if (below p b) (same_place (drop c q) y.place) y)
  below-few q p c b ys o l false e x =
      subst (λ l. length l ≤ 0) (sym (at-none q (map (below p b) ys) (each-map (λ y. same_place q y.place ≡ false) (below p b) ys (each-all (λ y. same_place q (p ++ y.place) ≡ false) (λ y. not_same q (p ++ y.place) (λ k. are-differ (take c q) p e (ap (take c) k ∙ take-front p y.place c l))) ys)))) (omega arith)

  stays-few : (q p : Place) (c : ℕ) (k : Kind X F) → length p < c → (x : Item X F) → length (at_place q (item p k ∷ [])) ≤ length (if_so (same_place (take c q) p) x)
  stays-few q p c k l x = by (same_place q p) refl
    where
      by : (b : Bool) → same_place q p ≡ b → length (if_so b (item p k) ++ []) ≤ length (if_so (same_place (take c q) p) x)
      by false e = omega arith
      by true e = subst (λ g. 1 ≤ length (if_so g x)) (sym (ap (λ r. same_place r p) (ap (take c) (same-equal q p e) ∙ take-all p c l) ∙ same-itself p)) (omega arith)

  replaced-few : (q p : Place) (c : ℕ) (k : Kind X F) (ys : List (Item X F)) → Once ys → KindAt c p k → (x : Item X F) → length (at_place q (replaced ys p k)) ≤ length (if_so (same_place (take c q) p) x)
  replaced-few q p c (ends b) ys o l x = below-few q p c b ys o l (same_place (take c q) p) refl x
  replaced-few q p c (closes n) ys o l x = stays-few q p c (closes n) l x
  replaced-few q p c (passes f) ys o l x = stays-few q p c (passes f) l x

  pub crossed-once : (c : ℕ) (xs ys : List (Item X F)) → AreLeveled c xs → Once xs → Once ys → Once (crossed_items xs ys)
  crossed-once c xs ys l o u q =
      subst (λ z. length z ≤ 1) (sym (flat-flat (λ x. if_so (same_place q x.place) x) (λ x. replaced ys x.place x.kind) xs))
      (at_most (length (flat_map (λ x. at_place q (replaced ys x.place x.kind)) xs)) (length (at_place (take c q) xs))
      (flat-shorter (λ x. at_place q (replaced ys x.place x.kind)) (λ x. if_so (same_place (take c q) x.place) x) xs (each-weaken (λ x. KindAt c x.place x.kind) (λ x. length (at_place q (replaced ys x.place x.kind)) ≤ length (if_so (same_place (take c q) x.place) x)) (λ x k. replaced-few q x.place c x.kind ys u k x) xs l)) (o (take c q)))
    where
      at_most : (a b : ℕ) → a ≤ b → b ≤ 1 → a ≤ 1
      at_most a b h k = omega arith

  -- ---- a join by place, whatever the key

  module _ (key : Place → Place) (q : Place) (x : Item X F) where
    meet-few : (y : Item X F) → length (at_place q (meet key x y)) ≤ length (if_so (same_place q y.place) y)
    meet-few y = by (same_place x.place (key y.place))
      where
        deep : (b : Bool) → length (if_so b (item y.place (meet_kinds x.kind y.kind)) ++ []) ≤ length (if_so b y)
        deep true = omega arith
        deep false = omega arith

        by : (b : Bool) → length (at_place q (if_so b (item y.place (meet_kinds x.kind y.kind)))) ≤ length (if_so (same_place q y.place) y)
        by true = deep (same_place q y.place)
        by false = omega arith

    meet-none : same_place (key q) x.place ≡ false → (y : Item X F) → at_place q (meet key x y) ≡ []
    meet-none h y = by (same_place x.place (key y.place)) refl
      where
        deep : same_place x.place (key y.place) ≡ true → (b : Bool) → same_place q y.place ≡ b → if_so b (item y.place (meet_kinds x.kind y.kind)) ++ [] ≡ []
        deep e false k = refl
        deep e true k = absurd (are-differ (key q) x.place h (ap key (same-equal q y.place k) ∙ sym (same-equal x.place (key y.place) e)))

        by : (b : Bool) → same_place x.place (key y.place) ≡ b → at_place q (if_so b (item y.place (meet_kinds x.kind y.kind))) ≡ []
        by false e = refl
        by true e = deep e (same_place q y.place) refl

    meets-few : (ys : List (Item X F)) → Once ys → (b : Bool) → same_place (key q) x.place ≡ b → length (at_place q (flat_map (meet key x) ys)) ≤ length (if_so b x)
    meets-few ys o false e =
        subst (λ l. length l ≤ 0) (sym (flat-flat (λ y. if_so (same_place q y.place) y) (meet key x) ys ∙ flat-nothing (λ y. at_place q (meet key x y)) ys (each-all (λ y. at_place q (meet key x y) ≡ []) (λ y. meet-none e y) ys))) (omega arith)
    meets-few ys o true e =
        subst (λ l. length l ≤ 1) (sym (flat-flat (λ y. if_so (same_place q y.place) y) (meet key x) ys))
        (at_most (length (flat_map (λ y. at_place q (meet key x y)) ys)) (length (at_place q ys)) (flat-shorter (λ y. at_place q (meet key x y)) (λ y. if_so (same_place q y.place) y) ys (each-all (λ y. length (at_place q (meet key x y)) ≤ length (if_so (same_place q y.place) y)) (λ y. meet-few y) ys)) (o q))
      where
        at_most : (a b : ℕ) → a ≤ b → b ≤ 1 → a ≤ 1
        at_most a b h k = omega arith

  pub joined-once : (key : Place → Place) (xs ys : List (Item X F)) → Once xs → Once ys → Once (joined_items key xs ys)
  joined-once key xs ys o u q =
      subst (λ z. length z ≤ 1) (sym (flat-flat (λ x. if_so (same_place q x.place) x) (λ x. flat_map (meet key x) ys) xs))
      (at_most (length (flat_map (λ x. at_place q (flat_map (meet key x) ys)) xs)) (length (at_place (key q) xs))
      (flat-shorter (λ x. at_place q (flat_map (meet key x) ys)) (λ x. if_so (same_place (key q) x.place) x) xs (each-all (λ x. length (at_place q (flat_map (meet key x) ys)) ≤ length (if_so (same_place (key q) x.place) x)) (λ x. meets-few key q x ys u (same_place (key q) x.place) refl) xs)) (o (key q)))
    where
      at_most : (a b : ℕ) → a ≤ b → b ≤ 1 → a ≤ 1
      at_most a b h k = omega arith

  -- ---- levels

  below-level : (c d : ℕ) (p : Place) (b : List X) (q : Place) (k : Kind X F) → length p ≡ c → KindAt d q k → KindAt (c + d) (p ++ q) (bound b k)
  below-level c d p b q (ends a) l h = length-append p q ∙ sums (length p) (length q) c d l h
    where
      sums : (m n c d : ℕ) → m ≡ c → n ≡ d → m + n ≡ c + d
      sums m n c d l h = omega arith
  below-level c d p b q (closes n) l h = subst (λ m. m < c + d) (sym (length-append p q)) (sums (length p) (length q) c d l h)
    where
      sums : (m n c d : ℕ) → m ≡ c → n < d → m + n < c + d
      sums m n c d l h = omega arith
  below-level c d p b q (passes f) l h = subst (λ m. m < c + d) (sym (length-append p q)) (sums (length p) (length q) c d l h)
    where
      sums : (m n c d : ℕ) → m ≡ c → n < d → m + n < c + d
      sums m n c d l h = omega arith

  replaced-leveled : (c d : ℕ) (ys : List (Item X F)) (p : Place) (k : Kind X F) → AreLeveled d ys → KindAt c p k → AreLeveled (c + d) (replaced ys p k)
  replaced-leveled c d ys p (ends b) h l = each-map (λ y. KindAt (c + d) y.place y.kind) (below p b) ys (each-weaken (λ y. KindAt d y.place y.kind) (λ y. KindAt (c + d) (p ++ y.place) (bound b y.kind)) (λ y k. below-level c d p b y.place y.kind l k) ys h)
  replaced-leveled c d ys p (closes n) h l = (lower (length p) c d l, tt)
  replaced-leveled c d ys p (passes f) h l = (lower (length p) c d l, tt)

  pub crossed-leveled : (c d : ℕ) (xs ys : List (Item X F)) → AreLeveled c xs → AreLeveled d ys → AreLeveled (c + d) (crossed_items xs ys)
  crossed-leveled c d xs ys h k = each-flat (λ y. KindAt (c + d) y.place y.kind) (λ x. replaced ys x.place x.kind) xs (each-weaken (λ x. KindAt c x.place x.kind) (λ x. AreLeveled (c + d) (replaced ys x.place x.kind)) (λ x l. replaced-leveled c d ys x.place x.kind k l) xs h)

  met-level : (d : ℕ) (q : Place) (k l : Kind X F) → KindAt d q k → KindAt d q l → KindAt d q (meet_kinds k l)
  met-level d q (ends b) l h m = bound-level d q b l m
  met-level d q (passes f) l h m = h
  met-level d q (closes n) (ends c) h m = m
  met-level d q (closes n) (closes o) h m = m
  met-level d q (closes n) (passes f) h m = m

  pub joined-leveled : (d : ℕ) (xs ys : List (Item X F)) → AreLeveled d xs → AreLeveled d ys → AreLeveled d (joined_items same xs ys)
  joined-leveled d xs ys h k =
      each-flat (λ y. KindAt d y.place y.kind) (λ x. flat_map (meet same x) ys) xs (each-weaken (λ x. KindAt d x.place x.kind) (λ x. AreLeveled d (flat_map (meet same x) ys)) (λ x l. each-flat (λ y. KindAt d y.place y.kind) (meet same x) ys (each-weaken (λ y. KindAt d y.place y.kind) (λ y. AreLeveled d (meet same x y)) (λ y m. one x y (same_place x.place y.place) refl l m) ys k)) xs h)
    where
      one : (x y : Item X F) (b : Bool) → same_place x.place y.place ≡ b → KindAt d x.place x.kind → KindAt d y.place y.kind → AreLeveled d (if_so b (item y.place (meet_kinds x.kind y.kind)))
      one x y false e l m = tt
      one x y true e l m = (met-level d y.place x.kind y.kind (subst (λ q. KindAt d q x.kind) (same-equal x.place y.place e) l) m, tt)

  -- ---- every strategy whose dots agree

  module _ (mismatch : Name → ℕ) (told : Name → List (Item X F)) (leveled : (p : Name) → AreLeveled (mismatch p) (told p)) where
    mutual
      pub matched-leveled : (s : Strategy) → DotsAgree mismatch s → AreLeveled (strategy_depth mismatch s) (matched told s)
      matched-leveled (port p) a = leveled p
      matched-leveled (cross cs) a = cross-leveled cs a
      matched-leveled (dot cs) a = dot-leveled cs a.0 a.1
      matched-leveled (prefix l r) a = prefixed-leveled (strategy_depth mismatch l) (strategy_depth mismatch r) (matched told l) (matched told r) a.2 (matched-leveled l a.0) (matched-leveled r a.1)

      cross-leveled : (cs : Strategies) → AllDotsAgree mismatch cs → AreLeveled (sum_of_depths mismatch cs) (matched_cross told cs)
      cross-leveled no_strategies a = (refl, tt)
      cross-leveled (strategy c cs) a = crossed-leveled (strategy_depth mismatch c) (sum_of_depths mismatch cs) (matched told c) (matched_cross told cs) (matched-leveled c a.0) (cross-leveled cs a.1)

      dot-leveled : (cs : Strategies) → AllDotsAgree mismatch cs → HaveOneDepth mismatch cs → AreLeveled (first_depth mismatch cs) (matched_dot told cs)
      dot-leveled no_strategies a w = (refl, tt)
      dot-leveled (strategy c no_strategies) a w = matched-leveled c a.0
      dot-leveled (strategy c (strategy d ds)) a w = joined-leveled (strategy_depth mismatch c) (matched told c) (matched_dot told (strategy d ds)) (matched-leveled c a.0) (subst (λ n. AreLeveled n (matched_dot told (strategy d ds))) (sym w.0) (dot-leveled (strategy d ds) a.1 w.1))

    -- ONCE
    module _ (once : (p : Name) → Once (told p)) where
      mutual
        pub matched-once : (s : Strategy) → DotsAgree mismatch s → Once (matched told s)
        matched-once (port p) a = once p
        matched-once (cross cs) a = cross-once cs a
        matched-once (dot cs) a = dot-once cs a.0
        matched-once (prefix l r) a =
            subst Once (prefixed-joined (strategy_depth mismatch l) (matched told l) (matched told r) (matched-leveled l a.0))
            (joined-once (take (strategy_depth mismatch l)) (matched told l) (matched told r) (matched-once l a.0) (matched-once r a.1))

        cross-once : (cs : Strategies) → AllDotsAgree mismatch cs → Once (matched_cross told cs)
        cross-once no_strategies a = none-at X F
        cross-once (strategy c cs) a = crossed-once (strategy_depth mismatch c) (matched told c) (matched_cross told cs) (matched-leveled c a.0) (matched-once c a.0) (cross-once cs a.1)

        dot-once : (cs : Strategies) → AllDotsAgree mismatch cs → Once (matched_dot told cs)
        dot-once no_strategies a = none-at X F
        dot-once (strategy c no_strategies) a = matched-once c a.0
        dot-once (strategy c (strategy d ds)) a = joined-once same (matched told c) (matched_dot told (strategy d ds)) (matched-once c a.0) (dot-once (strategy d ds) a.1)
