-- Joining undoes splitting, and gives nothing only where two children of a dot have different places.
use Rattle.std.specs.Prelude.{◌≡◌, ◌≢◌, ◌⊎◌, refl, ℕ, zero, suc, ◌+◌, ◌-◌, ◌≤◌, min, List, [], ◌∷◌, ◌++◌, length, take, drop, Bool, true, false, ◌==◌, if◌then◌else◌, Option, Some, None, IfSome, IsNone, is_some, ◌↔◌, Result, Ok, Err, IfOk}
use Rattle.std.proofs.Common.{arith, ap, sym, subst, ◌∙◌, inl, inr, length-append, length-take, length-drop}
use Rattle.std.proofs.lemmas.List.{take-append-drop}
use Rattle.tv_lemmas.proofs.Cases.{on_either}
use Rattle.tv_value.specs.Nested.{Place}
use Rattle.tv_value.specs.Values.{Name}
use Rattle.tv_value.specs.Orders.{is_prefix}
use Rattle.std.proofs.lemmas.Bool.{and_parts, and_from, eqb-true, eq-eqb}
use Rattle.tv_value.specs.Strategies.{Strategy, port, cross, dot, prefix, Strategies, no_strategies, strategy}
use Rattle.tv_strategy.specs.Measures.{strategy_depth, sum_of_depths, first_depth, leaf_names, all_leaf_names, DotsAgree, AllDotsAgree, HaveOneDepth}
use Rattle.tv_strategy.specs.Splits.{split, split_cross, split_dot, same_place, one_after, in_common, gone_on, joined, joined_cross, joined_dot}
use Rattle.tv_strategy.specs.Conditions.{HaveLengths}
use Rattle.tv_strategy.specs.Promises.{AreOf, SplitsInto, UndoesSplit, HaveTwoPlaces, LeavesPlace, DotDiffers, SomeDotDiffers}
use Rattle.tv_strategy.proofs.PlaceLemmas.{same-equal, same-itself}

-- ---- lists of places

are-append : (ports : Name → Place) (rs ss : List (Name × Place)) → AreOf ports rs → AreOf ports ss → AreOf ports (rs ++ ss)
are-append ports [] ss h k = k
are-append ports (r ∷ rs) ss h k = (h.0, are-append ports rs ss h.1 k)

are-parts : (ports : Name → Place) (rs ss : List (Name × Place)) → AreOf ports (rs ++ ss) → AreOf ports rs × AreOf ports ss
are-parts ports [] ss h = (tt, h)
are-parts ports (r ∷ rs) ss h = let p = are-parts ports rs ss h.1 in ((h.0, p.0), p.1)

pub lengths-parts : (mismatch : Name → ℕ) (ports : Name → Place) (ns ms : List Name) → HaveLengths mismatch ports (ns ++ ms) → HaveLengths mismatch ports ns × HaveLengths mismatch ports ms
lengths-parts mismatch ports [] ms h = (tt, h)
lengths-parts mismatch ports (n ∷ ns) ms h = let p = lengths-parts mismatch ports ns ms h.1 in ((h.0, p.0), p.1)

take-first : (q r : Place) → take (length q) (q ++ r) ≡ q
take-first [] r = refl
take-first (i ∷ q) r = ap (λ s. i ∷ s) (take-first q r)

drop-first : (q r : Place) → drop (length q) (q ++ r) ≡ r
drop-first [] r = refl
drop-first (i ∷ q) r = drop-first q r

pub length-front : (q : Place) (n m : ℕ) → length q ≡ n + m → length (take n q) ≡ n
length-front q n m h = length-take n q ∙ least n m (length q) h
  where
    least : (n m k : ℕ) → k ≡ n + m → min n k ≡ n
    least n m k e = omega arith

pub length-back : (q : Place) (n m : ℕ) → length q ≡ n + m → length (drop n q) ≡ m
length-back q n m h = length-drop n q ∙ rest n m (length q) h
  where
    rest : (n m k : ℕ) → k ≡ n + m → k - n ≡ m
    rest n m k e = omega arith

-- ---- what was joined

-- both are there, one after the other
pub record Joined (o p : Option Place) (q : Place) : Type 0 where
  pub front : Place
  pub back : Place
  pub front_is : o ≡ Some front
  pub back_is : p ≡ Some back
  pub whole_is : q ≡ front ++ back

pub one_after-some : (o p : Option Place) (q : Place) → one_after o p ≡ Some q → Joined o p q
one_after-some None p q h = absurd (cc)
one_after-some (Some f) None q h = absurd (cc)
one_after-some (Some f) (Some b) q h = record { front = f; back = b; front_is = refl; back_is = refl; whole_is = cc }

either-some : (b : Bool) (f q : Place) → (if b then Some f else None) ≡ Some q → (b ≡ true) × (f ≡ q)
either-some true f q h = (refl, cc)
either-some false f q h = absurd (cc)

pub in_common-some : (o p : Option Place) (q : Place) → in_common o p ≡ Some q → (o ≡ Some q) × (p ≡ Some q)
in_common-some None p q h = absurd (cc)
in_common-some (Some f) None q h = absurd (cc)
in_common-some (Some f) (Some b) q h =
    let e = either-some (same_place f b) f q h in
    (ap Some e.1, ap Some (sym (same-equal f b e.0) ∙ e.1))

-- ---- first parts

pub prefix-front : (q r : Place) → is_prefix q r ≡ true → q ≡ take (length q) r
prefix-front [] r h = refl
prefix-front (i ∷ q) [] h = absurd (cc)
prefix-front (i ∷ q) (j ∷ r) h =
    let e = and_parts (i == j) (is_prefix q r) h in
    ap (λ k. k ∷ q) (eqb-true i j e.0) ∙ ap (λ s. j ∷ s) (prefix-front q r e.1)

pub prefix-take : (n : ℕ) (q : Place) → is_prefix (take n q) q ≡ true
prefix-take zero q = refl
prefix-take (suc n) [] = refl
prefix-take (suc n) (i ∷ q) = and_from (i == i) (is_prefix (take n q) q) (eq-eqb i i refl) (prefix-take n q)

-- both are there, and the second begins with the first
pub record GoneOn (o p : Option Place) (q : Place) : Type 0 where
  pub front : Place
  pub left_is : o ≡ Some front
  pub right_is : p ≡ Some q
  pub begins : front ≡ take (length front) q

pub gone_on-some : (o p : Option Place) (q : Place) → gone_on o p ≡ Some q → GoneOn o p q
gone_on-some None p q h = absurd (cc)
gone_on-some (Some f) None q h = absurd (cc)
gone_on-some (Some f) (Some b) q h =
    let e = either-some (is_prefix f b) b q h in
    record { front = f; left_is = refl; right_is = ap Some e.1; begins = prefix-front f b e.0 ∙ ap (take (length f)) e.1 }

front-short : (f q : Place) → f ≡ take (length f) q → length f ≤ length q
front-short f q e = least (length f) (length q) (ap length e ∙ length-take (length f) q)
  where
    least : (n m : ℕ) → n ≡ min n m → n ≤ m
    least n m h = omega arith

module _ (mismatch : Name → ℕ) (ports : Name → Place) where
  -- ---- what comes of joining splits into the ports' places

  -- the dots agree too
  pub record Fits (s : Strategy) (q : Place) : Type 0 where
    pub agree : DotsAgree mismatch s
    pub long : length q ≡ strategy_depth mismatch s
    pub are : AreOf ports (split mismatch s q)

  mutual
    pub joined-fits : (s : Strategy) (q : Place) → HaveLengths mismatch ports (leaf_names s) → joined ports s ≡ Some q → Fits s q
    joined-fits (port p) q l h = let e : ports p ≡ q = cc in record { agree = tt; long = ap length (sym e) ∙ l.0; are = (e, tt) }
    joined-fits (cross cs) q l h = let f = cross-fits cs q l h in record { agree = f.0; long = f.1; are = f.2 }
    joined-fits (dot cs) q l h = let f = dot-fits cs q l h in record { agree = (f.0, f.1); long = f.2; are = f.3 }
    joined-fits (prefix c d) q l h =
        let ls = lengths-parts mismatch ports (leaf_names c) (leaf_names d) l in
        let j = gone_on-some (joined ports c) (joined ports d) q h in
        let first = joined-fits c j.front ls.0 j.left_is in
        let rest = joined-fits d q ls.1 j.right_is in
        let front : j.front ≡ take (strategy_depth mismatch c) q = j.begins ∙ ap (λ n. take n q) first.long in
        record {
          agree = (first.agree, rest.agree, subst (λ n. n ≤ strategy_depth mismatch d) first.long (subst (λ n. length j.front ≤ n) rest.long (front-short j.front q j.begins)));
          long = rest.long;
          are = are-append ports (split mismatch c (take (strategy_depth mismatch c) q)) (split mismatch d q) (subst (λ p. AreOf ports (split mismatch c p)) front first.are) rest.are;
        }

    cross-fits : (cs : Strategies) (q : Place) → HaveLengths mismatch ports (all_leaf_names cs) → joined_cross ports cs ≡ Some q → AllDotsAgree mismatch cs × (length q ≡ sum_of_depths mismatch cs) × AreOf ports (split_cross mismatch cs q)
    cross-fits no_strategies q l h = (tt, ap length (empty q h), tt)
      where
        empty : (q : Place) → Some [] ≡ Some q → q ≡ []
        empty q h = cc
    cross-fits (strategy c cs) q l h =
        let n = strategy_depth mismatch c in
        let ls = lengths-parts mismatch ports (leaf_names c) (all_leaf_names cs) l in
        let j = one_after-some (joined ports c) (joined_cross ports cs) q h in
        let first = joined-fits c j.front ls.0 j.front_is in
        let rest = cross-fits cs j.back ls.1 j.back_is in
        let front = subst (λ m. take m (j.front ++ j.back) ≡ j.front) first.long (take-first j.front j.back) in
        let back = subst (λ m. drop m (j.front ++ j.back) ≡ j.back) first.long (drop-first j.front j.back) in
        let are = subst (λ r. AreOf ports (split mismatch c r ++ split_cross mismatch cs (drop n (j.front ++ j.back)))) (sym front) (subst (λ r. AreOf ports (split mismatch c j.front ++ split_cross mismatch cs r)) (sym back) (are-append ports (split mismatch c j.front) (split_cross mismatch cs j.back) first.are rest.2)) in
        ((first.agree, rest.0), ap length j.whole_is ∙ length-append j.front j.back ∙ ap (λ m. m + length j.back) first.long ∙ ap (λ m. n + m) rest.1, subst (λ r. AreOf ports (split mismatch c (take n r) ++ split_cross mismatch cs (drop n r))) (sym j.whole_is) are)

    dot-fits : (cs : Strategies) (q : Place) → HaveLengths mismatch ports (all_leaf_names cs) → joined_dot ports cs ≡ Some q → AllDotsAgree mismatch cs × HaveOneDepth mismatch cs × (length q ≡ first_depth mismatch cs) × AreOf ports (split_dot mismatch cs q)
    dot-fits no_strategies q l h = (tt, tt, ap length (empty q h), tt)
      where
        empty : (q : Place) → Some [] ≡ Some q → q ≡ []
        empty q h = cc
    dot-fits (strategy c no_strategies) q l h =
        let f = joined-fits c q (lengths-parts mismatch ports (leaf_names c) [] l).0 h in
        ((f.agree, tt), tt, f.long, are-append ports (split mismatch c q) [] f.are tt)
    dot-fits (strategy c (strategy d ds)) q l h =
        let ls = lengths-parts mismatch ports (leaf_names c) (all_leaf_names (strategy d ds)) l in
        let j = in_common-some (joined ports c) (joined_dot ports (strategy d ds)) q h in
        let first = joined-fits c q ls.0 j.0 in
        let rest = dot-fits (strategy d ds) q ls.1 j.1 in
        ((first.agree, rest.0), (sym first.long ∙ rest.2, rest.1), first.long, are-append ports (split mismatch c q) (split_dot mismatch (strategy d ds) q) first.are rest.3)

  -- ---- a place that splits into the ports' places comes of joining them

  mutual
    pub split-joined : (s : Strategy) (q : Place) → DotsAgree mismatch s → length q ≡ strategy_depth mismatch s → AreOf ports (split mismatch s q) → joined ports s ≡ Some q
    split-joined (port p) q a l h = ap Some h.0
    split-joined (cross cs) q a l h = cross-joined cs q a l h
    split-joined (dot cs) q a l h = dot-joined cs q a.0 a.1 l h
    split-joined (prefix c d) q a l h =
        let n = strategy_depth mismatch c in
        let hs = are-parts ports (split mismatch c (take n q)) (split mismatch d q) h in
        let long : length (take n q) ≡ n = length-take n q ∙ least n (length q) (subst (λ m. n ≤ m) (sym l) a.2) in
        ap (λ x. gone_on x (joined ports d)) (split-joined c (take n q) a.0 long hs.0)
        ∙ ap (gone_on (Some (take n q))) (split-joined d q a.1 l hs.1)
        ∙ ap (λ b. if b then Some q else None) (prefix-take n q)
      where
        least : (n m : ℕ) → n ≤ m → min n m ≡ n
        least n m h = omega arith

    cross-joined : (cs : Strategies) (q : Place) → AllDotsAgree mismatch cs → length q ≡ sum_of_depths mismatch cs → AreOf ports (split_cross mismatch cs q) → joined_cross ports cs ≡ Some q
    cross-joined no_strategies [] a l h = refl
    cross-joined no_strategies (i ∷ q) a l h = absurd (cc)
    cross-joined (strategy c cs) q a l h =
        let n = strategy_depth mismatch c in
        let m = sum_of_depths mismatch cs in
        let hs = are-parts ports (split mismatch c (take n q)) (split_cross mismatch cs (drop n q)) h in
        ap (λ o. one_after o (joined_cross ports cs)) (split-joined c (take n q) a.0 (length-front q n m l) hs.0)
        ∙ ap (one_after (Some (take n q))) (cross-joined cs (drop n q) a.1 (length-back q n m l) hs.1)
        ∙ ap Some (take-append-drop n q)

    dot-joined : (cs : Strategies) (q : Place) → AllDotsAgree mismatch cs → HaveOneDepth mismatch cs → length q ≡ first_depth mismatch cs → AreOf ports (split_dot mismatch cs q) → joined_dot ports cs ≡ Some q
    dot-joined no_strategies [] a o l h = refl
    dot-joined no_strategies (i ∷ q) a o l h = absurd (cc)
    dot-joined (strategy c no_strategies) q a o l h = split-joined c q a.0 l (are-parts ports (split mismatch c q) [] h).0
    dot-joined (strategy c (strategy d ds)) q a o l h =
        let hs = are-parts ports (split mismatch c q) (split_dot mismatch (strategy d ds) q) h in
        ap (λ x. in_common x (joined_dot ports (strategy d ds))) (split-joined c q a.0 l hs.0)
        ∙ ap (in_common (Some q)) (dot-joined (strategy d ds) q a.1 o.1 (l ∙ o.0) hs.1)
        ∙ ap (λ b. if b then Some q else None) (same-itself q)

  if-fits : (s : Strategy) → HaveLengths mismatch ports (leaf_names s) → (o : Option Place) → joined ports s ≡ o → IfSome o (λ q. DotsAgree mismatch s × SplitsInto mismatch s ports q)
  if-fits s l None h = tt
  if-fits s l (Some q) h = let f = joined-fits s q l h in (f.agree, (f.long, f.are))

  pub joined-undoes : (s : Strategy) → HaveLengths mismatch ports (leaf_names s) → UndoesSplit mismatch s ports (joined ports s)
  joined-undoes s l = record { splits = if-fits s l (joined ports s) refl; only = λ a q h. split-joined s q a h.0 h.1 }

-- ---- where nothing comes of joining

one_after-none : (o p : Option Place) → one_after o p ≡ None → (o ≡ None) ⊎ (p ≡ None)
one_after-none None p h = inl refl
one_after-none (Some q) None h = inr refl
one_after-none (Some q) (Some r) h = absurd (cc)

one_after-nothing : (o : Option Place) → one_after o None ≡ None
one_after-nothing None = refl
one_after-nothing (Some q) = refl

in_common-nothing : (o : Option Place) → in_common o None ≡ None
in_common-nothing None = refl
in_common-nothing (Some q) = refl

gone_on-nothing : (o : Option Place) → gone_on o None ≡ None
gone_on-nothing None = refl
gone_on-nothing (Some q) = refl

-- two places in common are none where they differ
abbrev Differ : Option Place → Option Place → Type 0
Differ o p = (q : Place) × (r : Place) × (o ≡ Some q) × (p ≡ Some r) × (q ≢ r)

in_common-none : (o p : Option Place) → in_common o p ≡ None → (o ≡ None) ⊎ ((p ≡ None) ⊎ Differ o p)
in_common-none None p h = inl refl
in_common-none (Some q) None h = inr (inl refl)
in_common-none (Some q) (Some r) h = inr (inr (q, r, refl, refl, other (same_place q r) refl h))
  where
    other : (b : Bool) → same_place q r ≡ b → (if b then Some q else None) ≡ None → q ≢ r
    other true s k e = absurd (cc)
    other false s k e = absurd (apart (same_place q r) s (subst (λ v. same_place q v ≡ true) e (same-itself q)))
      where
        apart : (b : Bool) → b ≡ false → b ≡ true → ⊥
        apart true i j = absurd (cc)
        apart false i j = absurd (cc)

-- and a place that should go on is none where it leaves the other
gone_on-none : (o p : Option Place) → gone_on o p ≡ None → (o ≡ None) ⊎ ((p ≡ None) ⊎ LeavesPlace o p)
gone_on-none None p h = inl refl
gone_on-none (Some q) None h = inr (inl refl)
gone_on-none (Some q) (Some r) h = inr (inr (q, r, refl, refl, other (is_prefix q r) h))
  where
    other : (b : Bool) → (if b then Some r else None) ≡ None → b ≡ false
    other true e = absurd (cc)
    other false e = refl

leaves-none : (o p : Option Place) → LeavesPlace o p → gone_on o p ≡ None
leaves-none o p h = ap (λ x. gone_on x p) h.2 ∙ ap (gone_on (Some h.0)) h.3 ∙ ap (λ b. if b then Some h.1 else None) h.4

in_common-differ : (q r : Place) → q ≢ r → in_common (Some q) (Some r) ≡ None
in_common-differ q r n = other (same_place q r) refl
  where
    other : (b : Bool) → same_place q r ≡ b → (if b then Some q else None) ≡ None
    other true s = absurd (n (same-equal q r s))
    other false s = refl

module _ (ports : Name → Place) where
  -- what a dot has in common is its first child's place
  dot-first : (d : Strategy) (ds : Strategies) (r : Place) → joined_dot ports (strategy d ds) ≡ Some r → joined ports d ≡ Some r
  dot-first d no_strategies r h = h
  dot-first d (strategy e es) r h = (in_common-some (joined ports d) (joined_dot ports (strategy e es)) r h).0

  two-first : (c d : Strategy) (ds : Strategies) → Differ (joined ports c) (joined_dot ports (strategy d ds)) → Differ (joined ports c) (joined ports d)
  two-first c d ds h = (h.0, h.1, h.2, dot-first d ds h.1 h.3, h.4)

  mutual
    pub none-differs : (s : Strategy) → joined ports s ≡ None → DotDiffers ports s
    none-differs (port p) h = absurd (cc)
    none-differs (cross cs) h = cross-differs cs h
    none-differs (dot cs) h = dot-differs cs h
    none-differs (prefix l r) h =
        on_either (gone_on-none (joined ports l) (joined ports r) h) (λ k. inl (inl (none-differs l k)))
        (λ k. on_either k (λ j. inl (inr (none-differs r j))) (λ j. inr j))

    cross-differs : (cs : Strategies) → joined_cross ports cs ≡ None → SomeDotDiffers ports cs
    cross-differs no_strategies h = absurd (cc)
    cross-differs (strategy c cs) h =
        on_either (one_after-none (joined ports c) (joined_cross ports cs) h) (λ k. inl (none-differs c k)) (λ k. inr (cross-differs cs k))

    dot-differs : (cs : Strategies) → joined_dot ports cs ≡ None → SomeDotDiffers ports cs ⊎ HaveTwoPlaces ports cs
    dot-differs no_strategies h = absurd (cc)
    dot-differs (strategy c no_strategies) h = inl (inl (none-differs c h))
    dot-differs (strategy c (strategy d ds)) h =
        on_either (in_common-none (joined ports c) (joined_dot ports (strategy d ds)) h) (λ k. inl (inl (none-differs c k)))
        (λ k. on_either k (λ j. on_either (dot-differs (strategy d ds) j) (λ x. inl (inr x)) (λ y. inr (inr y))) (λ j. inr (inl (two-first c d ds j))))

  two-none : (c d : Strategy) (ds : Strategies) → Differ (joined ports c) (joined ports d) → (o : Option Place) → joined_dot ports (strategy d ds) ≡ o → in_common (joined ports c) o ≡ None
  two-none c d ds h None e = in_common-nothing (joined ports c)
  two-none c d ds h (Some r) e =
      ap (λ x. in_common x (Some r)) h.2 ∙ in_common-differ h.0 r (subst (λ v. h.0 ≢ v) (same h.1 r (sym h.3 ∙ dot-first d ds r e)) h.4)
    where
      same : (q r : Place) → Some q ≡ Some r → q ≡ r
      same q r k = cc

  mutual
    pub differs-none : (s : Strategy) → DotDiffers ports s → joined ports s ≡ None
    differs-none (port p) h = absurd h
    differs-none (cross cs) h = some-none cs h
    differs-none (dot cs) h = on_either h (λ k. child-none cs k) (λ k. places-none cs k)
    differs-none (prefix l r) h =
        on_either h
        (λ k. on_either k (λ j. ap (λ o. gone_on o (joined ports r)) (differs-none l j)) (λ j. ap (gone_on (joined ports l)) (differs-none r j) ∙ gone_on-nothing (joined ports l)))
        (λ k. leaves-none (joined ports l) (joined ports r) k)

    some-none : (cs : Strategies) → SomeDotDiffers ports cs → joined_cross ports cs ≡ None
    some-none no_strategies h = absurd h
    some-none (strategy c cs) h =
        on_either h (λ k. ap (λ o. one_after o (joined_cross ports cs)) (differs-none c k)) (λ k. ap (one_after (joined ports c)) (some-none cs k) ∙ one_after-nothing (joined ports c))

    child-none : (cs : Strategies) → SomeDotDiffers ports cs → joined_dot ports cs ≡ None
    child-none no_strategies h = absurd h
    child-none (strategy c no_strategies) h = on_either h (λ k. differs-none c k) (λ k. absurd k)
    child-none (strategy c (strategy d ds)) h =
        on_either h (λ k. ap (λ o. in_common o (joined_dot ports (strategy d ds))) (differs-none c k)) (λ k. ap (in_common (joined ports c)) (child-none (strategy d ds) k) ∙ in_common-nothing (joined ports c))

    places-none : (cs : Strategies) → HaveTwoPlaces ports cs → joined_dot ports cs ≡ None
    places-none no_strategies h = absurd h
    places-none (strategy c no_strategies) h = absurd h
    places-none (strategy c (strategy d ds)) h =
        on_either h (λ k. two-none c d ds k (joined_dot ports (strategy d ds)) refl) (λ k. ap (in_common (joined ports c)) (places-none (strategy d ds) k) ∙ in_common-nothing (joined ports c))

  pub none-exactly : (s : Strategy) (o : Option Place) → o ≡ joined ports s → IsNone o ↔ DotDiffers ports s
  none-exactly s o e = (λ h. none-differs s (sym e ∙ none-is o h), λ h. ap is_some (e ∙ differs-none s h))
    where
      none-is : (o : Option Place) → IsNone o → o ≡ None
      none-is None h = refl
      none-is (Some q) h = absurd (cc)

-- what is so of an answer of one kind
pub ok-then : {T E : Type 0} (P Q : T → Type 0) → ((x : T) → P x → Q x) → (r : Result T E) → IfOk r P → IfOk r Q
ok-then P Q f (Ok x) h = f x h
ok-then P Q f (Err e) h = tt
