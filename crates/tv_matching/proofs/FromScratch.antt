-- What is matched of the known items of the leaves' walks is the known items of the whole iteration, in the same order.
use Rattle.std.specs.Prelude.{◌≡◌, refl, ℕ, zero, suc, ◌≤◌, ◌<◌, Bool, true, false, ◌&&◌, ◌==◌, List, [], ◌∷◌, ◌++◌, map, flat_map, take, Option}
use Rattle.std.proofs.Common.{arith, sym, ap, subst, ◌∙◌, append-nil}
use Rattle.std.proofs.lemmas.Bool.{eqb-true, eq-eqb}
use Rattle.std.proofs.lemmas.Simd.{map-map}
use Rattle.std.proofs.lemmas.List.{map-append}
use Rattle.std.proofs.lemmas.List.Folds.{flat_map-map}
use Rattle.tv_lemmas.specs.Members.{Each}
use Rattle.tv_lemmas.proofs.Numbers.{less-unequal}
use Rattle.tv_value.specs.Nested.{leaf, list, Trees, no_trees, tree, Place, count, note, map_trees}
use Rattle.tv_value.specs.Values.{Name, ErrorDoc}
use Rattle.tv_value.specs.Strategies.{Strategy, port, cross, dot, prefix, Strategies, no_strategies, strategy}
use Rattle.tv_strategy.specs.Origins.{Mark, Origin}
use Rattle.tv_strategy.specs.Iterations.{Binding, End, job, passed, Iteration, Iterations, end_with, added, crossed, each_crossed, paired, each_paired, iteration, cross_of, dot_of}
use Rattle.tv_strategy.specs.Measures.{strategy_depth, DotsAgree, AllDotsAgree, HaveOneDepth}
use Rattle.tv_strategy.specs.Levels.{HasLevels, AllHaveLevels}
use Rattle.tv_strategy.specs.Splits.{same_place}
use Rattle.tv_strategy.proofs.AtDepth.{iteration-levels, dot_of-levels}
use Rattle.tv_strategy.proofs.Sources.{each-append}
use Rattle.tv_strategy.proofs.Each.{each-all, each-weaken}
use Rattle.tv_strategy.proofs.Lists.{count-each_paired}
use Rattle.tv_matching.specs.Items.{Kind, ends, closes, passes, Item, item, Bound, Stopped, end_kind, within, here, if_so, all_known, known_items, known_from}
use Rattle.tv_matching.specs.Matched.{bound, below, replaced, crossed_items, meet_kinds, meet, joined_items, same, prefixed_items, matched, matched_cross, matched_dot}
use Rattle.tv_matching.proofs.Begun.{prefixed-joined, known-leveled}
use Rattle.tv_matching.proofs.Lists.{flat-append, flat-none, flat-same, map-flat, flat-single, map-if, flat-nothing, flat-each, each-map, each-if}

abbrev pub WalkItem : Type 0
WalkItem = Item Bound Stopped

-- ---- lists of items seen from an outer list

pub within-below : {X F : Type 0} (i : ℕ) (q : Place) (b : List X) (ys : List (Item X F)) → map (below (i ∷ q) b) ys ≡ map (within i) (map (below q b) ys)
within-below i q b ys = sym (map-map (within i) (below q b) ys)

below-within : {X F : Type 0} (i : ℕ) (b : List X) (ys : List (Item X F)) → map (below [] b) (map (within i) ys) ≡ map (within i) (map (below [] b) ys)
below-within i b ys = map-map (below [] b) (within i) ys ∙ sym (map-map (within i) (below [] b) ys)

replaced-within : {X F : Type 0} (ys : List (Item X F)) (i : ℕ) (q : Place) (k : Kind X F) → replaced ys (i ∷ q) k ≡ map (within i) (replaced ys q k)
replaced-within ys i q (ends b) = within-below i q b ys
replaced-within ys i q (closes n) = refl
replaced-within ys i q (passes f) = refl

pub crossed-within : {X F : Type 0} (i : ℕ) (xs ys : List (Item X F)) → crossed_items (map (within i) xs) ys ≡ map (within i) (crossed_items xs ys)
crossed-within i [] ys = refl
crossed-within i (x ∷ xs) ys =
    ap (λ l. l ++ crossed_items (map (within i) xs) ys) (replaced-within ys i x.place x.kind)
    ∙ ap (λ l. map (within i) (replaced ys x.place x.kind) ++ l) (crossed-within i xs ys)
    ∙ sym (map-append (within i) (replaced ys x.place x.kind) (crossed_items xs ys))

module _ (known : Origin → Bool) where
  pub known-more : (s r : List Origin) → all_known known (s ++ r) ≡ (all_known known s && all_known known r)
  known-more [] r = refl
  known-more (o ∷ s) r = ap (λ b. known o && b) (known-more s r) ∙ grouped (known o) (all_known known s) (all_known known r)
    where
      grouped : (a b c : Bool) → (a && (b && c)) ≡ ((a && b) && c)
      grouped true b c = refl
      grouped false b c = refl

  -- where the outer sources are known
  known-if : (s r : List Origin) (b : Bool) → all_known known s ≡ b → all_known known (s ++ r) ≡ (b && all_known known r)
  known-if s r b h = known-more s r ∙ ap (λ c. c && all_known known r) h

  end-bound : (b : Binding) (e : End) → end_kind (end_with b e) ≡ bound b (end_kind e)
  end-bound b (job c) = refl
  end-bound b (passed m e) = refl

  count-map : {N M A B : Type 0} (f : N → M) (g : A → B) (ts : Trees N A) → count (map_trees f g ts) ≡ count ts
  count-map f g no_trees = refl
  count-map f g (tree t ts) = ap suc (count-map f g ts)

  -- ---- a binding that is added

  mutual
    added-known : (s : List Origin) (b : Binding) → all_known known s ≡ true → (u : Iteration) → known_items known (added s b u) ≡ map (below [] b) (known_items known u)
    added-known s b h (leaf r e) =
        ap (λ c. if_so c (here (end_kind (end_with b e)))) (known-if s r true h)
        ∙ ap (λ k. if_so (all_known known r) (here k)) (end-bound b e)
        ∙ sym (map-if (below [] b) (all_known known r) (here (end_kind e)))
    added-known s b h (list r ts) =
        ap (λ c. if_so c (here (closes (count (map_trees (λ r. s ++ r) (end_with b) ts)))) ++ known_from known 0 (map_trees (λ r. s ++ r) (end_with b) ts)) (known-if s r true h)
        ∙ ap (λ n. if_so (all_known known r) (here (closes n)) ++ known_from known 0 (map_trees (λ r. s ++ r) (end_with b) ts)) (count-map (λ r. s ++ r) (end_with b) ts)
        ∙ ap (λ l. if_so (all_known known r) (here (closes (count ts))) ++ l) (added-from s b h 0 ts)
        ∙ ap (λ l. l ++ map (below [] b) (known_from known 0 ts)) (sym (map-if (below [] b) (all_known known r) (here (closes (count ts)))))
        ∙ sym (map-append (below [] b) (if_so (all_known known r) (here (closes (count ts)))) (known_from known 0 ts))

    added-from : (s : List Origin) (b : Binding) → all_known known s ≡ true → (i : ℕ) (us : Iterations) → known_from known i (map_trees (λ r. s ++ r) (end_with b) us) ≡ map (below [] b) (known_from known i us)
    added-from s b h i no_trees = refl
    added-from s b h i (tree u us) =
        ap (λ l. map (within i) l ++ known_from known (suc i) (map_trees (λ r. s ++ r) (end_with b) us)) (added-known s b h u)
        ∙ ap (λ l. map (within i) (map (below [] b) (known_items known u)) ++ l) (added-from s b h (suc i) us)
        ∙ ap (λ l. l ++ map (below [] b) (known_from known (suc i) us)) (sym (below-within i b (known_items known u)))
        ∙ sym (map-append (below [] b) (map (within i) (known_items known u)) (known_from known (suc i) us))

  mutual
    added-unknown : (s : List Origin) (b : Binding) → all_known known s ≡ false → (u : Iteration) → known_items known (added s b u) ≡ []
    added-unknown s b h (leaf r e) = ap (λ c. if_so c (here (end_kind (end_with b e)))) (known-if s r false h)
    added-unknown s b h (list r ts) =
        ap (λ c. if_so c (here (closes (count (map_trees (λ r. s ++ r) (end_with b) ts)))) ++ known_from known 0 (map_trees (λ r. s ++ r) (end_with b) ts)) (known-if s r false h)
        ∙ added-none s b h 0 ts

    added-none : (s : List Origin) (b : Binding) → all_known known s ≡ false → (i : ℕ) (us : Iterations) → known_from known i (map_trees (λ r. s ++ r) (end_with b) us) ≡ []
    added-none s b h i no_trees = refl
    added-none s b h i (tree u us) =
        ap (λ l. map (within i) l ++ known_from known (suc i) (map_trees (λ r. s ++ r) (end_with b) us)) (added-unknown s b h u) ∙ added-none s b h (suc i) us

  -- ---- a cross

  count-crossed : (ts : Iterations) (u : Iteration) → count (each_crossed ts u) ≡ count ts
  count-crossed no_trees u = refl
  count-crossed (tree t ts) u = ap suc (count-crossed ts u)

  crossed_job : (s : List Origin) (b : Binding) (u : Iteration) (c : Bool) → all_known known s ≡ c → known_items known (added s b u) ≡ crossed_items (if_so c (here (ends b))) (known_items known u)
  crossed_job s b u true h = added-known s b h u ∙ sym (append-nil (map (below [] b) (known_items known u)))
  crossed_job s b u false h = added-unknown s b h u

  crossed_stays : (k : Kind Bound Stopped) (ys : List WalkItem) → replaced ys [] k ≡ here k ∷ [] → (c : Bool) → if_so c (here k) ≡ crossed_items (if_so c (here k)) ys
  crossed_stays k ys h true = sym (ap (λ l. l ++ []) h)
  crossed_stays k ys h false = refl

  mutual
    pub crossed-known : (t u : Iteration) → known_items known (crossed t u) ≡ crossed_items (known_items known t) (known_items known u)
    crossed-known (leaf s (job b)) u = crossed_job s b u (all_known known s) refl
    crossed-known (leaf s (passed m e)) u = crossed_stays (passes (m, e)) (known_items known u) refl (all_known known s)
    crossed-known (list s ts) u =
        ap (λ n. if_so (all_known known s) (here (closes n)) ++ known_from known 0 (each_crossed ts u)) (count-crossed ts u)
        ∙ ap (λ l. l ++ known_from known 0 (each_crossed ts u)) (crossed_stays (closes (count ts)) (known_items known u) refl (all_known known s))
        ∙ ap (λ l. crossed_items (if_so (all_known known s) (here (closes (count ts)))) (known_items known u) ++ l) (crossed-from 0 ts u)
        ∙ sym (flat-append (λ x. replaced (known_items known u) x.place x.kind) (if_so (all_known known s) (here (closes (count ts)))) (known_from known 0 ts))

    crossed-from : (i : ℕ) (ts : Iterations) (u : Iteration) → known_from known i (each_crossed ts u) ≡ crossed_items (known_from known i ts) (known_items known u)
    crossed-from i no_trees u = refl
    crossed-from i (tree t ts) u =
        ap (λ l. map (within i) l ++ known_from known (suc i) (each_crossed ts u)) (crossed-known t u)
        ∙ ap (λ l. l ++ known_from known (suc i) (each_crossed ts u)) (sym (crossed-within i (known_items known t) (known_items known u)))
        ∙ ap (λ l. crossed_items (map (within i) (known_items known t)) (known_items known u) ++ l) (crossed-from (suc i) ts u)
        ∙ sym (flat-append (λ x. replaced (known_items known u) x.place x.kind) (map (within i) (known_items known t)) (known_from known (suc i) ts))

-- ---- joins by place

module _ {X F : Type 0} (key : Place → Place) where
  -- nothing of ys meets x
  abbrev pub MeetsNone : List (Item X F) → Item X F → Type 0
  MeetsNone ys x = flat_map (meet key x) ys ≡ []

  pub joined-append : (xs zs ys : List (Item X F)) → joined_items key (xs ++ zs) ys ≡ joined_items key xs ys ++ joined_items key zs ys
  joined-append xs zs ys = flat-append (λ x. flat_map (meet key x) ys) xs zs

  pub joined-first : (xs ys zs : List (Item X F)) → Each (MeetsNone zs) xs → joined_items key xs (ys ++ zs) ≡ joined_items key xs ys
  joined-first xs ys zs h =
      flat-each (λ x. flat_map (meet key x) (ys ++ zs)) (λ x. flat_map (meet key x) ys) xs
      (each-weaken (MeetsNone zs) (λ x. flat_map (meet key x) (ys ++ zs) ≡ flat_map (meet key x) ys) (λ x m. flat-append (meet key x) ys zs ∙ ap (λ l. flat_map (meet key x) ys ++ l) m ∙ append-nil (flat_map (meet key x) ys)) xs h)

  pub joined-second : (xs ys zs : List (Item X F)) → Each (MeetsNone ys) xs → joined_items key xs (ys ++ zs) ≡ joined_items key xs zs
  joined-second xs ys zs h =
      flat-each (λ x. flat_map (meet key x) (ys ++ zs)) (λ x. flat_map (meet key x) zs) xs
      (each-weaken (MeetsNone ys) (λ x. flat_map (meet key x) (ys ++ zs) ≡ flat_map (meet key x) zs) (λ x m. flat-append (meet key x) ys zs ∙ ap (λ l. l ++ flat_map (meet key x) zs) m) xs h)

  pub joined-nothing : (xs : List (Item X F)) → joined_items key xs [] ≡ []
  joined-nothing xs = flat-none xs

-- the first index of a place is at least i
abbrev pub StartsFrom : ℕ → Place → Type 0
StartsFrom i [] = ⊥
StartsFrom i (j ∷ q) = i ≤ j

pub eqb-differs_back : (i j : ℕ) → suc i ≤ j → (j == i) ≡ false
eqb-differs_back i j h = by (j == i) refl
  where
    by : (b : Bool) → (j == i) ≡ b → (j == i) ≡ false
    by false e = e
    by true e = absurd (less i j (eqb-true j i e) h)
      where
        less : (i j : ℕ) → j ≡ i → suc i ≤ j → ⊥
        less i j e h = omega arith

module _ {X F : Type 0} (c : ℕ) where
  -- what stands at the top meets nothing that stands inside a list
  pub top-meets_none : (k : Kind X F) (i : ℕ) (ys : List (Item X F)) → Each (λ y. StartsFrom i y.place) ys → MeetsNone (take (suc c)) ys (here k)
  top-meets_none k i ys h = flat-nothing (meet (take (suc c)) (here k)) ys (each-weaken (λ y. StartsFrom i y.place) (λ y. meet (take (suc c)) (here k) y ≡ []) (λ y s. by y.place y.kind s) ys h)
    where
      by : (q : Place) (l : Kind X F) → StartsFrom i q → if_so (same_place [] (take (suc c) q)) (item q (meet_kinds k l)) ≡ []
      by [] l s = absurd s
      by (j ∷ q) l s = refl

  inside-meets_none : (x : Item X F) (i : ℕ) (b : Bool) (k : Kind X F) → StartsFrom i x.place → MeetsNone (take (suc c)) (if_so b (here k)) x
  inside-meets_none x i false k s = refl
  inside-meets_none x i true k s = by x.place s
    where
      by : (q : Place) → StartsFrom i q → if_so (same_place q []) (item [] (meet_kinds x.kind k)) ++ [] ≡ []
      by [] s = absurd s
      by (j ∷ q) s = refl

  earlier-meets_none : (i : ℕ) (x : Item X F) (ys : List (Item X F)) → Each (λ y. StartsFrom (suc i) y.place) ys → MeetsNone (take (suc c)) ys (within i x)
  earlier-meets_none i x ys h = flat-nothing (meet (take (suc c)) (within i x)) ys (each-weaken (λ y. StartsFrom (suc i) y.place) (λ y. meet (take (suc c)) (within i x) y ≡ []) (λ y s. by y.place y.kind s) ys h)
    where
      by : (q : Place) (l : Kind X F) → StartsFrom (suc i) q → if_so (same_place (i ∷ x.place) (take (suc c) q)) (item q (meet_kinds x.kind l)) ≡ []
      by [] l s = absurd s
      by (j ∷ q) l s = ap (λ b. if_so (b && same_place x.place (take c q)) (item (j ∷ q) (meet_kinds x.kind l))) (less-unequal i j s)

  later-meets_none : (i : ℕ) (x : Item X F) (ys : List (Item X F)) → StartsFrom (suc i) x.place → MeetsNone (take (suc c)) (map (within i) ys) x
  later-meets_none i x ys s = flat_map-map (meet (take (suc c)) x) (within i) ys ∙ flat-nothing (λ y. meet (take (suc c)) x (within i y)) ys (each-all (λ y. meet (take (suc c)) x (within i y) ≡ []) (λ y. by x.place s y) ys)
    where
      by : (q : Place) → StartsFrom (suc i) q → (y : Item X F) → if_so (same_place q (i ∷ take c y.place)) (item (i ∷ y.place) (meet_kinds x.kind y.kind)) ≡ []
      by [] s y = absurd s
      by (j ∷ q) s y = ap (λ b. if_so (b && same_place q (take c y.place)) (item (i ∷ y.place) (meet_kinds x.kind y.kind))) (eqb-differs_back i j s)

  -- what stands in two lists at the same index
  joined-within : (i : ℕ) (xs ys : List (Item X F)) → joined_items (take (suc c)) (map (within i) xs) (map (within i) ys) ≡ map (within i) (joined_items (take c) xs ys)
  joined-within i xs ys =
      flat_map-map (λ x. flat_map (meet (take (suc c)) x) (map (within i) ys)) (within i) xs
      ∙ flat-same (λ x. flat_map (meet (take (suc c)) (within i x)) (map (within i) ys)) (λ x. map (within i) (flat_map (meet (take c) x) ys)) one xs
      ∙ sym (map-flat (within i) (λ x. flat_map (meet (take c) x) ys) xs)
    where
      pair : (x y : Item X F) → meet (take (suc c)) (within i x) (within i y) ≡ map (within i) (meet (take c) x y)
      pair x y =
          ap (λ b. if_so (b && same_place x.place (take c y.place)) (item (i ∷ y.place) (meet_kinds x.kind y.kind))) (eq-eqb i i refl)
          ∙ sym (map-if (within i) (same_place x.place (take c y.place)) (item y.place (meet_kinds x.kind y.kind)))

      one : (x : Item X F) → flat_map (meet (take (suc c)) (within i x)) (map (within i) ys) ≡ map (within i) (flat_map (meet (take c) x) ys)
      one x = flat_map-map (meet (take (suc c)) (within i x)) (within i) ys ∙ flat-same (λ y. meet (take (suc c)) (within i x) (within i y)) (λ y. map (within i) (meet (take c) x y)) (pair x) ys ∙ sym (map-flat (within i) (meet (take c) x) ys)

module _ (known : Origin → Bool) where
  pub from-starts : (i : ℕ) (ts : Iterations) → Each (λ (y : WalkItem). StartsFrom i y.place) (known_from known i ts)
  from-starts i no_trees = tt
  from-starts i (tree t ts) =
      each-append (λ y. StartsFrom i y.place) (map (within i) (known_items known t)) (known_from known (suc i) ts)
      (each-map (λ y. StartsFrom i y.place) (within i) (known_items known t) (each-all (λ y. i ≤ i) (λ y. omega arith) (known_items known t)))
      (each-weaken (λ y. StartsFrom (suc i) y.place) (λ y. StartsFrom i y.place) (λ y. lower y.place) (known_from known (suc i) ts) (from-starts (suc i) ts))
    where
      lower : (q : Place) → StartsFrom (suc i) q → StartsFrom i q
      lower [] s = s
      lower (j ∷ q) s = omega arith

  -- a job beside anything
  job-meets : (b : Binding) (ys : List WalkItem) → flat_map (meet (take 0) (here (ends b))) ys ≡ map (below [] b) ys
  job-meets b ys = flat-single (below [] b) ys

  paired_job : (s : List Origin) (b : Binding) (u : Iteration) (c : Bool) → all_known known s ≡ c → known_items known (added s b u) ≡ joined_items (take 0) (if_so c (here (ends b))) (known_items known u)
  paired_job s b u true h = added-known known s b h u ∙ sym (job-meets b (known_items known u)) ∙ sym (append-nil (flat_map (meet (take 0) (here (ends b))) (known_items known u)))
  paired_job s b u false h = added-unknown known s b h u

  -- two that stand at the top
  tops : (c : ℕ) (k l : Kind Bound Stopped) (s r : List Origin) → if_so (all_known known (s ++ r)) (here (meet_kinds k l)) ≡ joined_items (take (suc c)) (if_so (all_known known s) (here k)) (if_so (all_known known r) (here l))
  tops c k l s r = ap (λ b. if_so b (here (meet_kinds k l))) (known-more known s r) ∙ by (all_known known s) (all_known known r)
    where
      by : (a b : Bool) → if_so (a && b) (here (meet_kinds k l)) ≡ joined_items (take (suc c)) (if_so a (here k)) (if_so b (here l))
      by true true = refl
      by true false = refl
      by false b = refl

  -- what stands at the top beside a list
  top-list : (c : ℕ) (k l : Kind Bound Stopped) (s r : List Origin) (us : Iterations) → if_so (all_known known (s ++ r)) (here (meet_kinds k l)) ≡ joined_items (take (suc c)) (if_so (all_known known s) (here k)) (if_so (all_known known r) (here l) ++ known_from known 0 us)
  top-list c k l s r us =
      tops c k l s r ∙ sym (joined-first (take (suc c)) (if_so (all_known known s) (here k)) (if_so (all_known known r) (here l)) (known_from known 0 us) (each-if (MeetsNone (take (suc c)) (known_from known 0 us)) (all_known known s) (here k) (top-meets_none c k 0 (known_from known 0 us) (from-starts 0 us))))

  passed-known : (c : ℕ) (s : List Origin) (m : Option Mark) (e : ErrorDoc) (u : Iteration) → if_so (all_known known (s ++ note u)) (here (passes (m, e))) ≡ joined_items (take (suc c)) (if_so (all_known known s) (here (passes (m, e)))) (known_items known u)
  passed-known c s m e (leaf r a) = tops c (passes (m, e)) (end_kind a) s r
  passed-known c s m e (list r us) = top-list c (passes (m, e)) (closes (count us)) s r us

  list-passed : (c : ℕ) (s r : List Origin) (ts : Iterations) (m : Option Mark) (e : ErrorDoc) → if_so (all_known known (s ++ r)) (here (passes (m, e))) ≡ joined_items (take (suc c)) (if_so (all_known known s) (here (closes (count ts))) ++ known_from known 0 ts) (if_so (all_known known r) (here (passes (m, e))))
  list-passed c s r ts m e =
      tops c (closes (count ts)) (passes (m, e)) s r
      ∙ sym (append-nil (joined_items (take (suc c)) (if_so (all_known known s) (here (closes (count ts)))) (if_so (all_known known r) (here (passes (m, e))))))
      ∙ ap (λ l. joined_items (take (suc c)) (if_so (all_known known s) (here (closes (count ts)))) (if_so (all_known known r) (here (passes (m, e)))) ++ l) (sym rest)
      ∙ sym (joined-append (take (suc c)) (if_so (all_known known s) (here (closes (count ts)))) (known_from known 0 ts) (if_so (all_known known r) (here (passes (m, e)))))
    where
      rest : joined_items (take (suc c)) (known_from known 0 ts) (if_so (all_known known r) (here (passes (m, e)))) ≡ []
      rest = flat-nothing (λ x. flat_map (meet (take (suc c)) x) (if_so (all_known known r) (here (passes (m, e))))) (known_from known 0 ts) (each-weaken (λ x. StartsFrom 0 x.place) (MeetsNone (take (suc c)) (if_so (all_known known r) (here (passes (m, e))))) (λ x h. inside-meets_none c x 0 (all_known known r) (passes (m, e)) h) (known_from known 0 ts) (from-starts 0 ts))

  none-positive : (c : ℕ) → suc c ≡ 0 → ⊥
  none-positive c e = omega arith

  mutual
    -- the second may be deeper: its items stand at, or below, the place of the first's job
    pub paired-known : (t u : Iteration) (c d : ℕ) → c ≤ d → HasLevels t c → HasLevels u d → known_items known (paired t u) ≡ joined_items (take c) (known_items known t) (known_items known u)
    paired-known (leaf s (job b)) u zero d w l m = paired_job s b u (all_known known s) refl
    paired-known (leaf s (job b)) u (suc c) d w l m = absurd (none-positive c l)
    paired-known (leaf s (passed n e)) u zero d w l m = absurd (none l)
      where
        none : 0 < 0 → ⊥
        none h = omega arith
    paired-known (leaf s (passed n e)) u (suc c) d w l m = passed-known c s n e u
    paired-known (list s ts) u zero d w l m = absurd l
    paired-known (list s ts) (leaf r (job a)) (suc c) d w l m = absurd (none c d w m)
      where
        none : (c d : ℕ) → suc c ≤ d → d ≡ 0 → ⊥
        none c d p e = omega arith
    paired-known (list s ts) (leaf r (passed n e)) (suc c) d w l m = list-passed c s r ts n e
    paired-known (list s ts) (list r us) (suc c) zero w l m = absurd m
    paired-known (list s ts) (list r us) (suc c) (suc d) w l m =
        ap (λ n. if_so (all_known known (s ++ r)) (here (closes n)) ++ known_from known 0 (each_paired ts us)) (count-each_paired ts us)
        ∙ ap (λ x. x ++ known_from known 0 (each_paired ts us)) (top-list c (closes (count ts)) (closes (count us)) s r us)
        ∙ ap (λ x. joined_items (take (suc c)) (if_so (all_known known s) (here (closes (count ts)))) (known_items known (list r us)) ++ x) (paired-from c d 0 ts us (omega arith) l m)
        ∙ ap (λ x. joined_items (take (suc c)) (if_so (all_known known s) (here (closes (count ts)))) (known_items known (list r us)) ++ x) (sym (joined-second (take (suc c)) (known_from known 0 ts) (if_so (all_known known r) (here (closes (count us)))) (known_from known 0 us) (each-weaken (λ x. StartsFrom 0 x.place) (MeetsNone (take (suc c)) (if_so (all_known known r) (here (closes (count us))))) (λ x h. inside-meets_none c x 0 (all_known known r) (closes (count us)) h) (known_from known 0 ts) (from-starts 0 ts))))
        ∙ sym (joined-append (take (suc c)) (if_so (all_known known s) (here (closes (count ts)))) (known_from known 0 ts) (known_items known (list r us)))

    paired-from : (c d i : ℕ) (ts us : Iterations) → c ≤ d → AllHaveLevels ts c → AllHaveLevels us d → known_from known i (each_paired ts us) ≡ joined_items (take (suc c)) (known_from known i ts) (known_from known i us)
    paired-from c d i no_trees us w l m = refl
    paired-from c d i (tree t ts) no_trees w l m = sym (joined-nothing (take (suc c)) (known_from known i (tree t ts)))
    paired-from c d i (tree t ts) (tree u us) w l m =
        ap (λ x. map (within i) x ++ known_from known (suc i) (each_paired ts us)) (paired-known t u c d w l.0 m.0)
        ∙ ap (λ x. x ++ known_from known (suc i) (each_paired ts us)) (sym (joined-within c i (known_items known t) (known_items known u)))
        ∙ ap (λ x. x ++ known_from known (suc i) (each_paired ts us)) (sym (joined-first (take (suc c)) (map (within i) (known_items known t)) (map (within i) (known_items known u)) (known_from known (suc i) us) (each-map (MeetsNone (take (suc c)) (known_from known (suc i) us)) (within i) (known_items known t) (each-all (λ x. MeetsNone (take (suc c)) (known_from known (suc i) us) (within i x)) (λ x. earlier-meets_none c i x (known_from known (suc i) us) (from-starts (suc i) us)) (known_items known t)))))
        ∙ ap (λ x. joined_items (take (suc c)) (map (within i) (known_items known t)) (known_from known i (tree u us)) ++ x) (paired-from c d (suc i) ts us w l.1 m.1)
        ∙ ap (λ x. joined_items (take (suc c)) (map (within i) (known_items known t)) (known_from known i (tree u us)) ++ x) (sym (joined-second (take (suc c)) (known_from known (suc i) ts) (map (within i) (known_items known u)) (known_from known (suc i) us) (each-weaken (λ x. StartsFrom (suc i) x.place) (MeetsNone (take (suc c)) (map (within i) (known_items known u))) (λ x h. later-meets_none c i x (known_items known u) h) (known_from known (suc i) ts) (from-starts (suc i) ts))))
        ∙ sym (joined-append (take (suc c)) (map (within i) (known_items known t)) (known_from known (suc i) ts) (known_from known i (tree u us)))

  -- ---- in a dot both have one depth, and so no key is needed

  mutual
    pub known-short : (t : Iteration) (d : ℕ) → HasLevels t d → Each (λ (y : WalkItem). take d y.place ≡ y.place) (known_items known t)
    known-short (leaf s e) d h = each-if (λ (y : WalkItem). take d y.place ≡ y.place) (all_known known s) (here (end_kind e)) (short d)
      where
        short : (d : ℕ) → take {A = ℕ} d [] ≡ []
        short zero = refl
        short (suc d) = refl
    known-short (list s ts) zero h = absurd h
    known-short (list s ts) (suc d) h =
        each-append (λ (y : WalkItem). take (suc d) y.place ≡ y.place) (if_so (all_known known s) (here (closes (count ts)))) (known_from known 0 ts) (each-if (λ (y : WalkItem). take (suc d) y.place ≡ y.place) (all_known known s) (here (closes (count ts))) refl) (from-short 0 ts d h)

    from-short : (i : ℕ) (ts : Iterations) (d : ℕ) → AllHaveLevels ts d → Each (λ (y : WalkItem). take (suc d) y.place ≡ y.place) (known_from known i ts)
    from-short i no_trees d h = tt
    from-short i (tree t ts) d h =
        each-append (λ (y : WalkItem). take (suc d) y.place ≡ y.place) (map (within i) (known_items known t)) (known_from known (suc i) ts)
        (each-map (λ (y : WalkItem). take (suc d) y.place ≡ y.place) (within i) (known_items known t) (each-weaken (λ (y : WalkItem). take d y.place ≡ y.place) (λ (y : WalkItem). i ∷ take d y.place ≡ i ∷ y.place) (λ y e. ap (λ q. i ∷ q) e) (known_items known t) (known-short t d h.0)))
        (from-short (suc i) ts d h.1)

pub joined-key : {X F : Type 0} (key : Place → Place) (xs ys : List (Item X F)) → Each (λ (y : Item X F). key y.place ≡ y.place) ys → joined_items key xs ys ≡ joined_items same xs ys
joined-key key xs ys h =
    flat-same (λ x. flat_map (meet key x) ys) (λ x. flat_map (meet same x) ys) (λ x. flat-each (meet key x) (meet same x) ys (each-weaken (λ y. key y.place ≡ y.place) (λ y. meet key x y ≡ meet same x y) (λ y e. ap (λ q. if_so (same_place x.place q) (item y.place (meet_kinds x.kind y.kind))) e) ys h)) xs

-- ---- every strategy whose dots agree

module _ (known : Origin → Bool) (ports : Name → Iteration) (mismatch : Name → ℕ) (walks : (p : Name) → HasLevels (ports p) (mismatch p)) where
  mutual
    pub iteration-known : (s : Strategy) → DotsAgree mismatch s → known_items known (iteration ports s) ≡ matched (λ p. known_items known (ports p)) s
    iteration-known (port p) a = refl
    iteration-known (cross cs) a = cross-known cs a
    iteration-known (dot cs) a = dot-known cs a.0 a.1
    iteration-known (prefix l r) a =
        paired-known known (iteration ports l) (iteration ports r) (strategy_depth mismatch l) (strategy_depth mismatch r) a.2 (iteration-levels ports mismatch walks l a.0) (iteration-levels ports mismatch walks r a.1)
        ∙ prefixed-joined (strategy_depth mismatch l) (known_items known (iteration ports l)) (known_items known (iteration ports r)) (known-leveled known (iteration ports l) (strategy_depth mismatch l) (iteration-levels ports mismatch walks l a.0))
        ∙ ap (λ xs. prefixed_items xs (known_items known (iteration ports r))) (iteration-known l a.0)
        ∙ ap (λ ys. prefixed_items (matched (λ p. known_items known (ports p)) l) ys) (iteration-known r a.1)

    cross-known : (cs : Strategies) → AllDotsAgree mismatch cs → known_items known (cross_of ports cs) ≡ matched_cross (λ p. known_items known (ports p)) cs
    cross-known no_strategies a = refl
    cross-known (strategy c cs) a =
        crossed-known known (iteration ports c) (cross_of ports cs)
        ∙ ap (λ xs. crossed_items xs (known_items known (cross_of ports cs))) (iteration-known c a.0)
        ∙ ap (λ ys. crossed_items (matched (λ p. known_items known (ports p)) c) ys) (cross-known cs a.1)

    dot-known : (cs : Strategies) → AllDotsAgree mismatch cs → HaveOneDepth mismatch cs → known_items known (dot_of ports cs) ≡ matched_dot (λ p. known_items known (ports p)) cs
    dot-known no_strategies a w = refl
    dot-known (strategy c no_strategies) a w = iteration-known c a.0
    dot-known (strategy c (strategy d ds)) a w =
        let levels = dot_of-levels ports mismatch walks (strategy d ds) a.1 w.1 in
        paired-known known (iteration ports c) (dot_of ports (strategy d ds)) (strategy_depth mismatch c) (strategy_depth mismatch d) (subst (λ n. strategy_depth mismatch c ≤ n) w.0 (omega arith)) (iteration-levels ports mismatch walks c a.0) levels
        ∙ joined-key (take (strategy_depth mismatch c)) (known_items known (iteration ports c)) (known_items known (dot_of ports (strategy d ds))) (subst (λ n. Each (λ (y : WalkItem). take n y.place ≡ y.place) (known_items known (dot_of ports (strategy d ds)))) (sym w.0) (known-short known (dot_of ports (strategy d ds)) (strategy_depth mismatch d) levels))
        ∙ ap (λ xs. joined_items same xs (known_items known (dot_of ports (strategy d ds)))) (iteration-known c a.0)
        ∙ ap (λ ys. joined_items same (matched (λ p. known_items known (ports p)) c) ys) (dot-known (strategy d ds) a.1 w.1)
