-- The ways to places, by links from item to item.
use Rattle.std.specs.Prelude.{IfSome}
use Rattle.std.proofs.Common.{◌≡◌, ◌≢◌, ◌⊎◌, inl, inr, refl, ℕ, zero, suc, ◌==◌, ◌+◌, ◌*◌, ◌/◌, ◌%◌, ◌^◌, ◌<◌, ◌≤◌, Bool, true, false, nat_lt, if◌then◌else◌, List, [], ◌∷◌, ◌++◌, length, take, get_or, Option, Some, None, sym, ap, subst, ◌∙◌, arith, length-append}
use Rattle.tv_value.specs.Nested.{Place}
use Rattle.tv_matching.specs.Matched.{same}
use Rattle.tv_matching.specs.Stores.{latest_at}
use Rattle.tv_match.specs.Entries.{Entry, entry_at, kepts, FoundBefore}
use Rattle.tv_match.specs.Linked.{digit_of, link_at, Reaches, Leads, AreRising, AreLinked, Agree}
use Rattle.tv_match.proofs.Latest.{none-between, found-here}
use Rattle.tv_lemmas.proofs.Numbers.{less-or_same}

pub digit-small : (q : Place) (level : ℕ) → digit_of q level < 4
digit-small q level = by (length q == 0) (nat_lt (level / length q) 16) (get_or q (level % length q) 0 / 2 ^ (2 * (level / length q)))
  where
    by : (b c : Bool) (x : ℕ) → (if b then 0 else (if c then x % 4 else 0)) < 4
    by true c x = omega arith
    by false true x = omega arith
    by false false x = omega arith

-- ---- ways along links that agree

pub reaches-late : (links : List ℕ) (q : Place) (n to at level : ℕ) → Reaches links q n to at level → at ≤ to
reaches-late links q zero to at level r = omega (arith, r)
reaches-late links q (suc n) to at level r = let l = r.0 in omega (arith, l)

pub reaches-agree : (links more : List ℕ) (count to : ℕ) → Agree count links more → to < count → (q : Place) (n at level : ℕ) → Reaches links q n to at level → Reaches more q n to at level
reaches-agree links more count to a h q zero at level r = r
reaches-agree links more count to a h q (suc n) at level r =
    (r.0, subst (λ i. Reaches more q n to i (suc level)) (sym (a (4 * at + digit_of q level) within below)) (reaches-agree links more count to a h q n (link_at links (4 * at + digit_of q level)) (suc level) r.1))
  where
    within : 4 * at + digit_of q level < 4 * count
    within = let d = digit-small q level in let l = r.0 in omega (arith, d, l, h)

    below : link_at links (4 * at + digit_of q level) < count
    below = let l = reaches-late links q n to (link_at links (4 * at + digit_of q level)) (suc level) r.1 in omega (arith, l, h)

pub leads-agree : (links more : List ℕ) (count to : ℕ) → Agree count links more → to < count → (q : Place) → Leads links q to 0 0 → Leads more q to 0 0
leads-agree links more count to a h q r = (r.0, reaches-agree links more count to a h q r.0 0 0 r.1)

-- ---- the free link on the way to a place

-- who comes by this link to one more item is on the way to its place
pub record Seeks (links : List ℕ) (count : ℕ) (q : Place) (link level : ℕ) : Type 0 where
  pub within : link < 4 * count
  pub level_is : 4 * level ≤ link
  pub back : (more : List ℕ) → Agree count links more → Leads more q count (link_at more link) (suc level) → Leads more q count 0 0

module _ (links : List ℕ) (count : ℕ) (q : Place) where
  pub seeks-start : (link : ℕ) → 0 < count → link ≡ digit_of q 0 → Seeks links count q link 0
  seeks-start link h e =
      record {
        within = let d = digit-small q 0 in omega (arith, h, e, d);
        level_is = omega arith;
        back = λ more a r. (suc r.0, (h, subst (λ i. Reaches more q r.0 count (link_at more i) 1) (e ∙ plus (digit_of q 0)) r.1));
      }
    where
      plus : (d : ℕ) → d ≡ 4 * 0 + d
      plus d = omega arith

  pub seeks-next : AreRising links → 4 * count ≤ length links → (link level next up : ℕ) → Seeks links count q link level → link_at links link < count → up ≡ suc level → next ≡ 4 * link_at links link + digit_of q up → Seeks links count q next up
  seeks-next r l link level next up s h u e =
      record {
        within = let d = digit-small q up in omega (arith, h, e, d);
        level_is = let k = r link (let w = s.within in omega (arith, w, l)) in let m = s.level_is in omega (arith, e, u, k, m);
        back = λ more a w. s.back more a (subst (λ i. Leads more q count i (suc level)) (sym (a link s.within h)) (suc w.0, (h, on more w)));
      }
    where
      on : (more : List ℕ) (w : Leads more q count (link_at more next) (suc up)) → Reaches more q w.0 count (link_at more (4 * link_at links link + digit_of q (suc level))) (suc (suc level))
      on more w = subst (λ v. Reaches more q w.0 count (link_at more (4 * link_at links link + digit_of q v)) (suc v)) u (subst (λ i. Reaches more q w.0 count (link_at more i) (suc up)) e w.1)

-- ---- the search

abbrev pub IsPast : Option ℕ → ℕ → Type 0
IsPast None i = ⊥
IsPast (Some f) i = i ≤ f

-- the latest of the items that were passed, and the way to the others
pub record Searches (links : List ℕ) (es : List Entry) (q : Place) (before at level : ℕ) (latest : Option ℕ) : Type 0 where
  pub found : IfSome latest (λ f. (f < at) × (f < before) × ((entry_at es f).place ≡ q))
  pub rest : (i : ℕ) → i < before → (entry_at es i).place ≡ q → IsPast latest i ⊎ Leads links q i at level
  pub level_is : level ≤ at

module _ (links : List ℕ) (es : List Entry) (q : Place) (before : ℕ) (w : before ≤ length es) where
  pub searches-start : AreLinked links es → Searches links es q before 0 0 None
  searches-start a = record { found = tt; rest = λ i h e. inr (subst (λ p. Leads links p i 0 0) e (a.lead i (omega (arith, w, h)))); level_is = omega arith }

  next-on : (at level next : ℕ) → next ≡ link_at links (4 * at + digit_of q level) → (i : ℕ) → (at ≡ i → ⊥) → Leads links q i at level → Leads links q i next (suc level)
  next-on at level next e i other r = by r.0 r.1
    where
      by : (n : ℕ) → Reaches links q n i at level → Leads links q i next (suc level)
      by zero h = absurd (other h)
      by (suc n) h = (n, subst (λ k. Reaches links q n i k (suc level)) (sym e) h.1)

  pub searches-other : (at level next up : ℕ) (latest : Option ℕ) → Searches links es q before at level latest → (entry_at es at).place ≢ q → next ≡ link_at links (4 * at + digit_of q level) → at < next → up ≡ suc level → Searches links es q before next up latest
  searches-other at level next up latest s other e h u =
      record {
        found = later latest s.found;
        rest = λ i k p. by i p (s.rest i k p);
        level_is = let l = s.level_is in omega (arith, l, u, h);
      }
    where
      later : (o : Option ℕ) → IfSome o (λ f. (f < at) × (f < before) × ((entry_at es f).place ≡ q)) → IfSome o (λ f. (f < next) × (f < before) × ((entry_at es f).place ≡ q))
      later None k = tt
      later (Some f) k = let l = k.0 in (omega (arith, l, h), k.1, k.2)

      by : (i : ℕ) → (entry_at es i).place ≡ q → IsPast latest i ⊎ Leads links q i at level → IsPast latest i ⊎ Leads links q i next up
      by i p (inl k) = inl k
      by i p (inr k) = inr (subst (Leads links q i next) (sym u) (next-on at level next e i (λ m. other (ap (λ j. (entry_at es j).place) m ∙ p)) k))

  pub searches-here : (at level next up : ℕ) (latest : Option ℕ) → Searches links es q before at level latest → at < before → (entry_at es at).place ≡ q → next ≡ link_at links (4 * at + digit_of q level) → at < next → up ≡ suc level → Searches links es q before next up (Some at)
  searches-here at level next up latest s b here e h u =
      record {
        found = (h, b, here);
        rest = λ i k p. by i (s.rest i k p);
        level_is = let l = s.level_is in omega (arith, l, u, h);
      }
    where
      past : (o : Option ℕ) (i : ℕ) → IfSome o (λ f. (f < at) × (f < before) × ((entry_at es f).place ≡ q)) → IsPast o i → i ≤ at
      past None i k m = absurd m
      past (Some f) i k m = let l = k.0 in omega (arith, l, m)

      split : (i : ℕ) → Leads links q i at level → (i ≤ at) ⊎ Leads links q i next up
      split i r = cases r.0 r.1
        where
          cases : (n : ℕ) → Reaches links q n i at level → (i ≤ at) ⊎ Leads links q i next up
          cases zero m = inl (omega (arith, m))
          cases (suc n) m = inr (n, subst (λ v. Reaches links q n i next v) (sym u) (subst (λ k. Reaches links q n i k (suc level)) (sym e) m.1))

      by : (i : ℕ) → IsPast latest i ⊎ Leads links q i at level → (i ≤ at) ⊎ Leads links q i next up
      by i (inl k) = inl (past latest i s.found k)
      by i (inr k) = split i k

  past-end : (at level i : ℕ) → before ≤ at → i < before → Leads links q i at level → ⊥
  past-end at level i h k r = let l = reaches-late links q r.0 i at level r.1 in absurd (omega (arith, l, h, k))

  pub searches-none : (at level : ℕ) → Searches links es q before at level None → before ≤ at → latest_at q (kepts (take before es)) ≡ []
  searches-none at level s h = none-between same q es before 0 w (omega arith) (λ j k l e. by j k (s.rest j k e))
    where
      by : (j : ℕ) → j < before → ⊥ ⊎ Leads links q j at level → ⊥
      by j k (inl m) = m
      by j k (inr m) = past-end at level j h k m

  pub searches-some : (at level f : ℕ) → Searches links es q before at level (Some f) → before ≤ at → FoundBefore q es before f
  searches-some at level f s h =
      let l = s.found.1 in
      found-here same q es before (suc f) f refl (omega (arith, l)) w (none-between same q es before (suc f) w (omega (arith, l)) (λ j k m e. by j k m (s.rest j k e))) s.found.2
    where
      by : (j : ℕ) → j < before → suc f ≤ j → (j ≤ f) ⊎ Leads links q j at level → ⊥
      by j k m (inl n) = absurd (omega (arith, m, n))
      by j k m (inr n) = past-end at level j h k n

-- ---- one item more, and fewer

module _ (links : List ℕ) (es : List Entry) (a : AreLinked links es) where
  at-front : (xs : List Entry) (e : Entry) (i : ℕ) → i < length xs → entry_at (xs ++ e ∷ []) i ≡ entry_at xs i
  at-front [] e i h = absurd (none i h)
    where
      none : (i : ℕ) → i < 0 → ⊥
      none i h = omega arith
  at-front (x ∷ xs) e zero h = refl
  at-front (x ∷ xs) e (suc i) h = at-front xs e i (omega (arith, h))

  at-end : (xs : List Entry) (e : Entry) → entry_at (xs ++ e ∷ []) (length xs) ≡ e
  at-end [] e = refl
  at-end (x ∷ xs) e = at-end xs e

  link-front : (xs ys : List ℕ) (i : ℕ) → i < length xs → link_at (xs ++ ys) i ≡ link_at xs i
  link-front [] ys i h = absurd (none i h)
    where
      none : (i : ℕ) → i < 0 → ⊥
      none i h = omega arith
  link-front (x ∷ xs) ys zero h = refl
  link-front (x ∷ xs) ys (suc i) h = link-front xs ys i (omega (arith, h))

  link-taken : (n : ℕ) (xs : List ℕ) (i : ℕ) → i < n → link_at (take n xs) i ≡ link_at xs i
  link-taken zero xs i h = absurd (none i h)
    where
      none : (i : ℕ) → i < 0 → ⊥
      none i h = omega arith
  link-taken (suc n) [] i h = refl
  link-taken (suc n) (x ∷ xs) zero h = refl
  link-taken (suc n) (x ∷ xs) (suc i) h = link-taken n xs i (omega (arith, h))

  at-taken : (n : ℕ) (xs : List Entry) (i : ℕ) → i < n → entry_at (take n xs) i ≡ entry_at xs i
  at-taken zero xs i h = absurd (none i h)
    where
      none : (i : ℕ) → i < 0 → ⊥
      none i h = omega arith
  at-taken (suc n) [] i h = refl
  at-taken (suc n) (x ∷ xs) zero h = refl
  at-taken (suc n) (x ∷ xs) (suc i) h = at-taken n xs i (omega (arith, h))

  taken-long : {A : Type 0} (n : ℕ) (xs : List A) → n ≤ length xs → length (take n xs) ≡ n
  taken-long zero xs h = refl
  taken-long (suc n) [] h = absurd (omega (arith, h))
  taken-long (suc n) (x ∷ xs) h = ap suc (taken-long n xs (omega (arith, h)))

  pub pushed-linked : (new hung : List ℕ) (e : Entry) (more : List Entry) → length hung ≡ 4 * length es + 4 → AreRising hung → Agree (length es) (links ++ new) hung → Leads hung e.place (length es) 0 0 → more ≡ es ++ e ∷ [] → AreLinked hung more
  pushed-linked new hung e more l r g h m =
      subst (AreLinked hung) (sym m) (record {
        four = let k = length-append es (e ∷ []) in omega (arith, l, k);
        rising = r;
        lead = λ i k. by i (less-or_same i (length es) (let j = length-append es (e ∷ []) in omega (arith, j, k)));
      })
    where
      agree : Agree (length es) links hung
      agree i k f = let s = link-front links new i (let n = a.four in omega (arith, n, k)) in g i k (omega (arith, s, f)) ∙ s

      by : (i : ℕ) → (i < length es) ⊎ (i ≡ length es) → Leads hung (entry_at (es ++ e ∷ []) i).place i 0 0
      by i (inl k) = subst (λ (x : Entry). Leads hung x.place i 0 0) (sym (at-front es e i k)) (leads-agree links hung (length es) i agree k (entry_at es i).place (a.lead i k))
      by i (inr k) = subst (λ n. Leads hung (entry_at (es ++ e ∷ []) n).place n 0 0) (sym k) (subst (λ (x : Entry). Leads hung x.place (length es) 0 0) (sym (at-end es e)) h)

  pub cut-linked : (n : ℕ) (loose fewer : List ℕ) (less : List Entry) → n ≤ length es → length loose ≡ length links → AreRising loose → Agree n links loose → fewer ≡ take (4 * n) loose → less ≡ take n es → AreLinked fewer less
  cut-linked n loose fewer less w l r g f m =
      subst (λ x. AreLinked x less) (sym f) (subst (AreLinked (take (4 * n) loose)) (sym m) (record {
        four = long ∙ ap (λ k. 4 * k) (sym (taken-long n es w));
        rising = λ i h. let s = link-taken (4 * n) loose i (omega (arith, h, long)) in let k = r i (omega (arith, h, long, within)) in omega (arith, s, k);
        lead = λ i h. by i (omega (arith, h, taken-long n es w));
      }))
    where
      within : 4 * n ≤ length loose
      within = let k = a.four in omega (arith, k, l, w)

      long : length (take (4 * n) loose) ≡ 4 * n
      long = taken-long (4 * n) loose within

      agree : Agree n links (take (4 * n) loose)
      agree i k j = link-taken (4 * n) loose i k ∙ g i k j

      by : (i : ℕ) → i < n → Leads (take (4 * n) loose) (entry_at (take n es) i).place i 0 0
      by i k = subst (λ (x : Entry). Leads (take (4 * n) loose) x.place i 0 0) (sym (at-taken n es i k)) (leads-agree links (take (4 * n) loose) n i agree k (entry_at es i).place (a.lead i (omega (arith, k, w))))
