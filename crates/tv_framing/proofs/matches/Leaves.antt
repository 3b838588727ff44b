-- What a strategy matches is of what its leaves are told, and each passed fault stands at its leaf's part of the place.
use Rattle.std.specs.Prelude.{◌≡◌, refl, ℕ, zero, suc, ◌≤◌, ◌<◌, ◌⊎◌, ◌||◌, Bool, true, false, flat_map, get_or, if◌then◌else◌, List, [], ◌∷◌, ◌++◌, length, map, take, drop, Some, unwrap_or, IsPermutation}
use Rattle.std.proofs.Common.{arith, sym, ap, subst, ◌∙◌, inl, inr}
use Rattle.std.proofs.lemmas.Bool.{or_right, true≢false}
use Rattle.std.proofs.lemmas.List.Sorted.{IsPermutation-refl}
use Rattle.tv_lemmas.specs.Members.{In}
use Rattle.tv_lemmas.proofs.Members.{each_in, in-left, in-map, in-right, of-flat, of-map}
use Rattle.tv_value.specs.Nested.{Place}
use Rattle.tv_value.specs.Values.{Name}
use Rattle.tv_value.specs.Orders.{named, same_name}
use Rattle.tv_value.specs.Strategies.{Strategy, port, cross, dot, prefix, Strategies, no_strategies, strategy}
use Rattle.tv_strategy.specs.Conditions.{EachOnce, place_of, times}
use Rattle.tv_strategy.specs.Measures.{DotsAgree, AllDotsAgree, HaveOneDepth, all_leaf_names, leaf_names, strategy_depth}
use Rattle.tv_strategy.specs.Splits.{same_place, split, split_cross, split_dot}
use Rattle.tv_strategy.proofs.LawLemmas.{split-names_leaves}
use Rattle.tv_strategy.proofs.PlaceLemmas.{same-equal, same-itself}
use Rattle.tv_model.specs.instance.Ranks.{is_among}
use Rattle.tv_matching.specs.Items.{Kind, ends, closes, passes, Item, if_so, item}
use Rattle.tv_matching.specs.Levels.{AreLeveled, KindAt}
use Rattle.tv_matching.specs.Matched.{below, bound, crossed_items, joined_items, prefixed_items, matched, matched_cross, matched_dot, meet, meet_below, reaches, meet_kinds, replaced, same}
use Rattle.tv_matching.specs.Matchers.{leaf_number}
use Rattle.tv_matching.specs.Tellings.{Telling}
use Rattle.tv_matching.specs.Told.{Spot, Told, arrival, close, faulty, matched_after, told_leaf, told_to, telling, tellings}
use Rattle.tv_matching.proofs.Gains.{crossed-permutes, joined-permutes, met-permutes}
use Rattle.tv_matching.proofs.Members.{in-permutes, of-if}
use Rattle.tv_matching.proofs.Onces.{matched-leveled}
use Rattle.tv_matching.proofs.Permutes.{perm-from}

-- ---- by its leaves alone

module _ {X F : Type 0} (told heard : Name → List (Item X F)) where
  mutual
    pub leaves-permute : (s : Strategy) → ((p : Name) → In p (leaf_names s) → IsPermutation (told p) (heard p)) → IsPermutation (matched told s) (matched heard s)
    leaves-permute (port p) h = h p (inl refl)
    leaves-permute (cross cs) h = cross-permute cs h
    leaves-permute (dot cs) h = dot-permute cs h
    leaves-permute (prefix l r) h =
        met-permutes meet_below (matched told l) (matched told r) (matched heard l) (matched heard r)
        (leaves-permute l (λ p i. h p (in-left p (leaf_names l) (leaf_names r) i)))
        (leaves-permute r (λ p i. h p (in-right p (leaf_names l) (leaf_names r) i)))

    cross-permute : (cs : Strategies) → ((p : Name) → In p (all_leaf_names cs) → IsPermutation (told p) (heard p)) → IsPermutation (matched_cross told cs) (matched_cross heard cs)
    cross-permute no_strategies h = IsPermutation-refl _
    cross-permute (strategy c cs) h =
        crossed-permutes (matched told c) (matched_cross told cs) (matched heard c) (matched_cross heard cs)
        (leaves-permute c (λ p i. h p (in-left p (leaf_names c) (all_leaf_names cs) i)))
        (cross-permute cs (λ p i. h p (in-right p (leaf_names c) (all_leaf_names cs) i)))

    dot-permute : (cs : Strategies) → ((p : Name) → In p (all_leaf_names cs) → IsPermutation (told p) (heard p)) → IsPermutation (matched_dot told cs) (matched_dot heard cs)
    dot-permute no_strategies h = IsPermutation-refl _
    dot-permute (strategy c no_strategies) h = leaves-permute c (λ p i. h p (in-left p (leaf_names c) [] i))
    dot-permute (strategy c (strategy d ds)) h =
        joined-permutes same (matched told c) (matched_dot told (strategy d ds)) (matched heard c) (matched_dot heard (strategy d ds))
        (leaves-permute c (λ p i. h p (in-left p (leaf_names c) (all_leaf_names (strategy d ds)) i)))
        (dot-permute (strategy d ds) (λ p i. h p (in-right p (leaf_names c) (all_leaf_names (strategy d ds)) i)))

-- ---- what a leaf was told

pub of-told : (ts : List Told) (p : Name) (x : Item Spot Spot) → In x (told_to ts p) → (t : Told) × In t ts × (p ≡ told_leaf t) × (x ≡ (telling t).item)
of-told ts p x h =
    let r = of-flat (λ (u : Telling Spot Spot). if_so (same_name p u.leaf) u.item) x (tellings ts) h in
    let m = of-map telling r.0 ts r.1 in
    let k = of-if (same_name p r.0.leaf) r.0.item x r.2 in
    (m.0, m.1, same-equal p r.0.leaf k.0 ∙ ap (λ (u : Telling Spot Spot). u.leaf) m.2, k.1 ∙ ap (λ (u : Telling Spot Spot). u.item) m.2)

-- ---- the parts of a place

take-short : (q : Place) (d : ℕ) → length q ≤ d → take d q ≡ q
take-short [] zero h = refl
take-short [] (suc d) h = refl
take-short (i ∷ q) zero h = absurd (omega arith)
take-short (i ∷ q) (suc d) h = ap (λ r. i ∷ r) (take-short q d (omega arith))

drop-front : (q r : Place) (d : ℕ) → length q ≡ d → drop d (q ++ r) ≡ r
drop-front [] r zero h = refl
drop-front [] r (suc d) h = absurd (omega arith)
drop-front (i ∷ q) r zero h = absurd (omega arith)
drop-front (i ∷ q) r (suc d) h = drop-front q r d (omega arith)

shorter : (n d : ℕ) → n < d → n ≤ d
shorter n d h = omega arith

-- where the kind is a passed fault, the parts of the place have it
abbrev pub PassesAt : (Place → List Spot) → Place → Kind Spot Spot → Type 0
PassesAt parts q (ends b) = Unit {0}
PassesAt parts q (closes n) = Unit {0}
PassesAt parts q (passes r) = In r (parts q)

abbrev pub IsParted : (Place → List Spot) → Item Spot Spot → Type 0
IsParted parts x = PassesAt parts x.place x.kind

passes-more : (parts more : Place → List Spot) (q r : Place) (k : Kind Spot Spot) → ((f : Spot) → In f (parts q) → In f (more r)) → PassesAt parts q k → PassesAt more r k
passes-more parts more q r (ends b) w h = tt
passes-more parts more q r (closes n) w h = tt
passes-more parts more q r (passes f) w h = w f h

bound-passes : (parts : Place → List Spot) (q : Place) (b : List Spot) (k : Kind Spot Spot) → PassesAt parts q k → PassesAt parts q (bound b k)
bound-passes parts q b (ends c) h = tt
bound-passes parts q b (closes n) h = tt
bound-passes parts q b (passes f) h = h

met-passes : (parts : Place → List Spot) (q : Place) (k l : Kind Spot Spot) → PassesAt parts q k → PassesAt parts q l → PassesAt parts q (meet_kinds k l)
met-passes parts q (ends b) l h j = bound-passes parts q b l j
met-passes parts q (passes f) l h j = h
met-passes parts q (closes m) (ends c) h j = tt
met-passes parts q (closes m) (closes n) h j = tt
met-passes parts q (closes m) (passes f) h j = j

crossed-parts : (parts others : Place → List Spot) (d : ℕ) (xs ys : List (Item Spot Spot)) → AreLeveled d xs → ((x : Item Spot Spot) → In x xs → IsParted parts x) → ((y : Item Spot Spot) → In y ys → IsParted others y) → (z : Item Spot Spot) → In z (crossed_items xs ys) → IsParted (λ q. parts (take d q) ++ others (drop d q)) z
crossed-parts parts others d xs ys l h k z i =
    let r = of-flat (λ (x : Item Spot Spot). replaced ys x.place x.kind) z xs i in
    by r.0.place r.0.kind (each_in (λ (x : Item Spot Spot). KindAt d x.place x.kind) xs l r.0 r.1) (h r.0 r.1) r.2
  where
    both : Place → List Spot
    both q = parts (take d q) ++ others (drop d q)

    by : (q : Place) (c : Kind Spot Spot) → KindAt d q c → PassesAt parts q c → In z (replaced ys q c) → IsParted both z
    by q (ends b) e g m =
        let y = of-map (below q b) z ys m in
        subst (IsParted both) (sym y.2)
        (bound-passes both (q ++ y.0.place) b y.0.kind
        (passes-more others both y.0.place (q ++ y.0.place) y.0.kind (λ f j. in-right f (parts (take d (q ++ y.0.place))) (others (drop d (q ++ y.0.place))) (subst (λ r. In f (others r)) (sym (drop-front q y.0.place d e)) j)) (k y.0 y.1)))
    by q (closes n) e g (inl m) = subst (IsParted both) (sym m) tt
    by q (closes n) e g (inr m) = absurd m
    by q (passes f) e g (inl m) =
        subst (IsParted both) (sym m) (in-left f (parts (take d q)) (others (drop d q)) (subst (λ r. In f (parts r)) (sym (take-short q d (shorter (length q) d e))) g))
    by q (passes f) e g (inr m) = absurd m

joined-parts : (parts others : Place → List Spot) (xs ys : List (Item Spot Spot)) → ((x : Item Spot Spot) → In x xs → IsParted parts x) → ((y : Item Spot Spot) → In y ys → IsParted others y) → (z : Item Spot Spot) → In z (joined_items same xs ys) → IsParted (λ q. parts q ++ others q) z
joined-parts parts others xs ys h k z i =
    let r = of-flat (λ (x : Item Spot Spot). flat_map (meet same x) ys) z xs i in
    let t = of-flat (meet same r.0) z ys r.2 in
    let m = of-if (same_place r.0.place t.0.place) (item t.0.place (meet_kinds r.0.kind t.0.kind)) z t.2 in
    subst (IsParted both) (sym m.1)
    (met-passes both t.0.place r.0.kind t.0.kind
    (passes-more parts both r.0.place t.0.place r.0.kind (λ f j. in-left f (parts t.0.place) (others t.0.place) (subst (λ q. In f (parts q)) (same-equal r.0.place t.0.place m.0) j)) (h r.0 r.1))
    (passes-more others both t.0.place t.0.place t.0.kind (λ f j. in-right f (parts t.0.place) (others t.0.place) j) (k t.0 t.1)))
  where
    both : Place → List Spot
    both q = parts q ++ others q

prefixed-parts : (parts others : Place → List Spot) (d : ℕ) (xs ys : List (Item Spot Spot)) → AreLeveled d xs → ((x : Item Spot Spot) → In x xs → IsParted parts x) → ((y : Item Spot Spot) → In y ys → IsParted others y) → (z : Item Spot Spot) → In z (prefixed_items xs ys) → IsParted (λ q. parts (take d q) ++ others q) z
prefixed-parts parts others d xs ys l h k z i =
    let r = of-flat (λ (x : Item Spot Spot). flat_map (meet_below x) ys) z xs i in
    let t = of-flat (meet_below r.0) z ys r.2 in
    let m = of-if (reaches r.0.kind r.0.place t.0.place) (item t.0.place (meet_kinds r.0.kind t.0.kind)) z t.2 in
    subst (IsParted both) (sym m.1)
    (met-passes both t.0.place r.0.kind t.0.kind
    (first t.0.place r.0.place r.0.kind (each_in (λ (x : Item Spot Spot). KindAt d x.place x.kind) xs l r.0 r.1) m.0 (h r.0 r.1))
    (passes-more others both t.0.place t.0.place t.0.kind (λ f j. in-right f (parts (take d t.0.place)) (others t.0.place) j) (k t.0 t.1)))
  where
    both : Place → List Spot
    both q = parts (take d q) ++ others q

    -- a fault of the first meets what stands at its own place, which is no deeper
    first : (p q : Place) (c : Kind Spot Spot) → KindAt d q c → reaches c q p ≡ true → PassesAt parts q c → PassesAt both p c
    first p q (ends b) e g j = tt
    first p q (closes n) e g j = tt
    first p q (passes f) e g j =
        in-left f (parts (take d p)) (others p) (subst (λ r. In f (parts r)) (sym (ap (take d) (sym (same-equal q p g)) ∙ take-short q d (shorter (length q) d e))) j)

module _ (mismatch : Name → ℕ) (told : Name → List (Item Spot Spot)) (leveled : (p : Name) → AreLeveled (mismatch p) (told p)) (own : (p : Name) (x : Item Spot Spot) → In x (told p) → IsParted (λ q. (p, q) ∷ []) x) where
  mutual
    -- a passed fault that is matched stands at its leaf's part of the place
    pub parted : (s : Strategy) → DotsAgree mismatch s → (x : Item Spot Spot) → In x (matched told s) → IsParted (split mismatch s) x
    parted (port p) a x i = own p x i
    parted (cross cs) a x i = cross-parted cs a x i
    parted (dot cs) a x i = dot-parted cs a.0 a.1 x i
    parted (prefix l r) a x i =
        prefixed-parts (split mismatch l) (split mismatch r) (strategy_depth mismatch l) (matched told l) (matched told r) (matched-leveled mismatch told leveled l a.0) (λ y j. parted l a.0 y j) (λ y j. parted r a.1 y j) x i

    cross-parted : (cs : Strategies) → AllDotsAgree mismatch cs → (x : Item Spot Spot) → In x (matched_cross told cs) → IsParted (split_cross mismatch cs) x
    cross-parted no_strategies a x (inl m) = subst (IsParted (split_cross mismatch no_strategies)) (sym m) tt
    cross-parted no_strategies a x (inr m) = absurd m
    cross-parted (strategy c cs) a x i =
        crossed-parts (split mismatch c) (split_cross mismatch cs) (strategy_depth mismatch c) (matched told c) (matched_cross told cs) (matched-leveled mismatch told leveled c a.0) (λ y j. parted c a.0 y j) (λ y j. cross-parted cs a.1 y j) x i

    dot-parted : (cs : Strategies) → AllDotsAgree mismatch cs → HaveOneDepth mismatch cs → (x : Item Spot Spot) → In x (matched_dot told cs) → IsParted (split_dot mismatch cs) x
    dot-parted no_strategies a b x (inl m) = subst (IsParted (split_dot mismatch no_strategies)) (sym m) tt
    dot-parted no_strategies a b x (inr m) = absurd m
    dot-parted (strategy c no_strategies) a b x i =
        passes-more (split mismatch c) (split_dot mismatch (strategy c no_strategies)) x.place x.place x.kind (λ f j. in-left f (split mismatch c x.place) [] j) (parted c a.0 x i)
    dot-parted (strategy c (strategy d ds)) a b x i =
        joined-parts (split mismatch c) (split_dot mismatch (strategy d ds)) (matched told c) (matched_dot told (strategy d ds)) (λ y j. parted c a.0 y j) (λ y j. dot-parted (strategy d ds) a.1 b.1 y j) x i

told-own : (t : Told) → IsParted (λ q. (told_leaf t, q) ∷ []) (telling t).item
told-own (arrival p q false) = tt
told-own (arrival p q true) = inl refl
told-own (faulty p q) = tt
told-own (close p q n) = tt

-- ---- of what leaves alone were told

pub in-among : (p : Name) (ns : List Name) → In p ns → is_among ns p ≡ true
in-among p [] i = absurd i
in-among p (n ∷ ns) (inl h) = ap (λ b. b || is_among ns p) (subst (λ m. same_name p m ≡ true) h (same-itself p))
in-among p (n ∷ ns) (inr h) = or_right (same_name p n) (is_among ns p) (in-among p ns h)

pub among-in : (p : Name) (ns : List Name) → is_among ns p ≡ true → In p ns
among-in p [] h = absurd (true≢false (sym h))
among-in p (n ∷ ns) h = by (same_name p n) refl h (among-in p ns)
  where
    by : (b : Bool) → same_name p n ≡ b → (b || is_among ns p) ≡ true → (is_among ns p ≡ true → In p ns) → In p (n ∷ ns)
    by true e k rec = inl (same-equal p n e)
    by false e k rec = inr (rec k)

module _ (mismatch : Name → ℕ) (ts : List Told) (s : Strategy) (leveled : (p : Name) → In p (leaf_names s) → AreLeveled (mismatch p) (told_to ts p)) where
  -- to other names nothing
  abbrev pub at_leaves : Name → List (Item Spot Spot)
  at_leaves p = if is_among (leaf_names s) p then told_to ts p else []

  leaves-leveled : (p : Name) → AreLeveled (mismatch p) (at_leaves p)
  leaves-leveled p = by (is_among (leaf_names s) p) refl
    where
      by : (b : Bool) → is_among (leaf_names s) p ≡ b → AreLeveled (mismatch p) (if b then told_to ts p else [])
      by true e = leveled p (among-in p (leaf_names s) e)
      by false e = tt

  leaves-own : (p : Name) (x : Item Spot Spot) → In x (at_leaves p) → IsParted (λ q. (p, q) ∷ []) x
  leaves-own p x i = by (is_among (leaf_names s) p) i
    where
      by : (b : Bool) → In x (if b then told_to ts p else []) → IsParted (λ q. (p, q) ∷ []) x
      by true j =
          let r = of-told ts p x j in
          subst (λ n. IsParted (λ q. (n, q) ∷ []) x) (sym r.2) (subst (IsParted (λ q. (told_leaf r.0, q) ∷ [])) (sym r.3) (told-own r.0))
      by false j = absurd j

  pub told-parted : DotsAgree mismatch s → (x : Item Spot Spot) → In x (matched_after s ts) → IsParted (split mismatch s) x
  told-parted a x i =
      parted mismatch at_leaves leaves-leveled leaves-own s a x
      (in-permutes x (matched at_leaves s) (matched_after s ts)
      (leaves-permute at_leaves (told_to ts) s (λ p j. perm-from (at_leaves p) (told_to ts p) (ap (λ b. if b then told_to ts p else []) (in-among p (leaf_names s) j))))
      i)

-- ---- the part of a leaf

pub each-once : (ns ms : List Name) → EachOnce ns ms → (p : Name) → In p ns → times p ms ≡ 1
each-once [] ms e p i = absurd i
each-once (n ∷ ns) ms e p (inl h) = ap (λ m. times m ms) h ∙ e.0
each-once (n ∷ ns) ms e p (inr h) = each-once ns ms e.1 p h

some-times : (p : Name) (ns : List Name) → In p ns → times p ns ≡ 0 → ⊥
some-times p [] i e = absurd i
some-times p (n ∷ ns) (inl h) e = by (same_name p n) (subst (λ m. same_name p m ≡ true) h (same-itself p)) e
  where
    by : (b : Bool) → b ≡ true → (if b then suc (times p ns) else times p ns) ≡ 0 → ⊥
    by true t k = absurd (omega (arith, k))
    by false t k = absurd (true≢false (sym t))
some-times p (n ∷ ns) (inr h) e = by (same_name p n) e (some-times p ns h)
  where
    by : (b : Bool) → (if b then suc (times p ns) else times p ns) ≡ 0 → (times p ns ≡ 0 → ⊥) → ⊥
    by true k rec = absurd (omega (arith, k))
    by false k rec = rec k

-- the first of that name, where there is one alone
named-once : (p : Name) (r : Place) (xs : List Spot) → times p (map (λ (x : Spot). x.0) xs) ≡ 1 → In (p, r) xs → named p xs ≡ Some r
named-once p r [] e i = absurd i
named-once p r (x ∷ xs) e (inl h) = by (same_name p x.0) (subst (λ m. same_name p m ≡ true) (ap (λ (y : Spot). y.0) h) (same-itself p))
  where
    by : (b : Bool) → b ≡ true → (if b then Some x.1 else named p xs) ≡ Some r
    by true t = ap (λ (y : Spot). Some y.1) (sym h)
    by false t = absurd (true≢false (sym t))
named-once p r (x ∷ xs) e (inr h) = by (same_name p x.0) e (λ k. named-once p r xs k h)
  where
    less : (n : ℕ) → suc n ≡ 1 → n ≡ 0
    less n k = omega arith

    by : (b : Bool) → (if b then suc (times p (map (λ (y : Spot). y.0) xs)) else times p (map (λ (y : Spot). y.0) xs)) ≡ 1 → (times p (map (λ (y : Spot). y.0) xs) ≡ 1 → named p xs ≡ Some r) → (if b then Some x.1 else named p xs) ≡ Some r
    by true k rec = absurd (some-times p (map (λ (y : Spot). y.0) xs) (in-map (λ (y : Spot). y.0) (p, r) xs h) (less (times p (map (λ (y : Spot). y.0) xs)) k))
    by false k rec = rec k

pub leaf-in : (mismatch : Name → ℕ) (s : Strategy) (q : Place) (r : Spot) → In r (split mismatch s q) → In r.0 (leaf_names s)
leaf-in mismatch s q r i = subst (In r.0) (split-names_leaves mismatch s q) (in-map (λ (y : Spot). y.0) r (split mismatch s q) i)

-- where no name stands at two leaves, the place of a leaf is its part
pub part-is : (mismatch : Name → ℕ) (s : Strategy) → EachOnce (leaf_names s) (leaf_names s) → (q : Place) (r : Spot) → In r (split mismatch s q) → place_of (split mismatch s q) r.0 ≡ r.1
part-is mismatch s once q r i =
    ap (λ o. unwrap_or o [])
    (named-once r.0 r.1 (split mismatch s q) (ap (times r.0) (split-names_leaves mismatch s q) ∙ each-once (leaf_names s) (leaf_names s) once r.0 (leaf-in mismatch s q r i)) i)

-- a leaf has the name of its number
pub number-names : (ns : List Name) (p : Name) → In p ns → get_or ns (leaf_number ns p) [] ≡ p
number-names [] p i = absurd i
number-names (n ∷ ns) p i = by (same_name p n) refl i (number-names ns p)
  where
    by : (b : Bool) → same_name p n ≡ b → (p ≡ n) ⊎ In p ns → (In p ns → get_or ns (leaf_number ns p) [] ≡ p) → get_or (n ∷ ns) (if b then 0 else suc (leaf_number ns p)) [] ≡ p
    by true e h rec = sym (same-equal p n e)
    by false e (inl h) rec = absurd (true≢false (sym (subst (λ m. same_name p m ≡ true) h (same-itself p)) ∙ e))
    by false e (inr h) rec = rec h
