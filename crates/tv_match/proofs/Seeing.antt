-- What has come out of a matcher, and what is still to come, is what is matched.
use Rattle.std.proofs.Common.{◌≡◌, ◌⊎◌, inl, inr, refl, ℕ, zero, suc, ◌+◌, ◌<◌, ◌≤◌, Bool, true, false, ◌==◌, List, [], ◌∷◌, ◌++◌, map, length, get_or, Option, Some, None, sym, ap, subst, ◌∙◌, arith, eq-eqb}
use Rattle.std.specs.Prelude.{IsPermutation, if◌then◌else◌}
use Rattle.std.proofs.lemmas.Bool.{eqb-true}
use Rattle.std.proofs.lemmas.List.Sorted.{IsPermutation-sym, IsPermutation-map}
use Rattle.std.proofs.lemmas.Simd.{map-map}
use Rattle.std.proofs.lemmas.List.{map-append}
use Rattle.tv_lemmas.specs.Members.{Each}
use Rattle.tv_lemmas.proofs.Numbers.{none-below}
use Rattle.tv_value.specs.Nested.{Place}
use Rattle.tv_value.specs.Values.{Name}
use Rattle.tv_value.specs.Orders.{same_name}
use Rattle.tv_value.specs.Strategies.{Strategy}
use Rattle.tv_strategy.specs.Conditions.{times, EachOnce}
use Rattle.tv_strategy.specs.Measures.{DotsAgree, leaf_names, strategy_depth}
use Rattle.tv_strategy.proofs.PlaceLemmas.{same-itself, same-equal}
use Rattle.tv_strategy.proofs.Each.{each-weaken}
use Rattle.tv_strategy.proofs.Sources.{each-append}
use Rattle.tv_matching.specs.Items.{Kind, Item, ends, closes, passes, item, if_so}
use Rattle.tv_matching.specs.Levels.{KindAt, AreLeveled}
use Rattle.tv_matching.specs.Members.{Once}
use Rattle.tv_matching.specs.Matched.{matched, one_end}
use Rattle.tv_matching.specs.Told.{Spot, Told, arrival, faulty, close, told_to, matched_after, Marked, marked, marked_to, marked_after, IsFit}
use Rattle.tv_matching.specs.Matchers.{Kept, kept_item, kept_of, kept_out, kept_kind_out, leaf_name, leaf_number, out}
use Rattle.tv_matching.specs.Stores.{store_for, AreNumbered, items, told_by_all, worked_items}
use Rattle.tv_matching.proofs.Lists.{map-same, map-if, each-map}
use Rattle.tv_matching.proofs.Members.{each-permutes}
use Rattle.tv_matching.proofs.Stores.{items-none}
use Rattle.tv_matching.proofs.LawLemmas.{matches-once, store-is_matched, store-starts, store-works}
use Rattle.tv_matching.proofs.Bared.{plain, marked-is_matched, kept-is_enough}
use Rattle.tv_match.specs.declared.kinds.Kind as kinds
use Rattle.tv_match.specs.Entries.{Entry, entry, entry_at, kept_entry, kepts, kind_view}
use Rattle.tv_match.specs.Brief.{brief, brief_kind, briefs}
use Rattle.tv_match.specs.Working.{unit_news, news_of}
use Rattle.tv_match.specs.Seen.{telling_kind, telling_of, outcome_of, outcome_kind, IsProper}

-- ---- the names of leaves differ

counted : (n m : Name) (ns : List Name) (b : Bool) → same_name n m ≡ b → times n (m ∷ ns) ≡ (if b then suc (times n ns) else times n ns)
counted n m ns b f = ap (λ c. if c then suc (times n ns) else times n ns) f

grows : (n m : Name) (ns : List Name) (k : ℕ) → k ≤ times n ns → k ≤ times n (m ∷ ns)
grows n m ns k h = by (same_name n m) refl
  where
    by : (b : Bool) → same_name n m ≡ b → k ≤ times n (m ∷ ns)
    by true f = subst (λ j. k ≤ j) (sym (counted n m ns true f)) (omega (arith, h))
    by false f = subst (λ j. k ≤ j) (sym (counted n m ns false f)) h

often : (n : Name) (ns : List Name) (j : ℕ) → j < length ns → same_name n (get_or ns j []) ≡ true → 1 ≤ times n ns
often n [] j h e = absurd (none-below j h)
often n (m ∷ ns) zero h e = subst (λ k. 1 ≤ k) (sym (counted n m ns true e)) (omega arith)
often n (m ∷ ns) (suc j) h e = grows n m ns 1 (often n ns j (omega (arith, h)) e)

twice : (n : Name) (ns : List Name) (i j : ℕ) → i < j → j < length ns → same_name n (get_or ns i []) ≡ true → same_name n (get_or ns j []) ≡ true → 2 ≤ times n ns
twice n [] i j l h e f = absurd (none-below j h)
twice n (m ∷ ns) i zero l h e f = absurd (none-below i l)
twice n (m ∷ ns) zero (suc j) l h e f = let o = often n ns j (omega (arith, h)) f in subst (λ k. 2 ≤ k) (sym (counted n m ns true e)) (omega (arith, o))
twice n (m ∷ ns) (suc i) (suc j) l h e f = grows n m ns 2 (twice n ns i j (omega (arith, l)) (omega (arith, h)) e f)

once-at : (all ns : List Name) (i : ℕ) → EachOnce ns all → i < length ns → times (get_or ns i []) all ≡ 1
once-at all [] i h l = absurd (none-below i l)
once-at all (n ∷ ns) zero h l = h.0
once-at all (n ∷ ns) (suc i) h l = once-at all ns i h.1 (omega (arith, l))

order : (i j : ℕ) → (i < j) ⊎ ((j < i) ⊎ (i ≡ j))
order zero zero = inr (inr refl)
order zero (suc j) = inl (omega arith)
order (suc i) zero = inr (inl (omega arith))
order (suc i) (suc j) = by (order i j)
  where
    by : (i < j) ⊎ ((j < i) ⊎ (i ≡ j)) → (suc i < suc j) ⊎ ((suc j < suc i) ⊎ (suc i ≡ suc j))
    by (inl h) = inl (omega (arith, h))
    by (inr (inl h)) = inr (inl (omega (arith, h)))
    by (inr (inr h)) = inr (inr (ap suc h))

pub names-apart : (ns : List Name) (i j : ℕ) → EachOnce ns ns → i < length ns → j < length ns → same_name (get_or ns i []) (get_or ns j []) ≡ (j == i)
names-apart ns i j h a b = by (order i j)
  where
    one : times (get_or ns i []) ns ≡ 1
    one = once-at ns ns i h a

    clash : (n : ℕ) → n ≡ 1 → 2 ≤ n → ⊥
    clash n e k = omega arith

    unlike : (j ≡ i → ⊥) → (j == i) ≡ false
    unlike n = test (j == i) refl
      where
        test : (c : Bool) → (j == i) ≡ c → (j == i) ≡ false
        test false e = e
        test true e = absurd (n (eqb-true j i e))

    apart : (same_name (get_or ns i []) (get_or ns j []) ≡ true → ⊥) → (j ≡ i → ⊥) → same_name (get_or ns i []) (get_or ns j []) ≡ (j == i)
    apart n m = test (same_name (get_or ns i []) (get_or ns j [])) refl
      where
        test : (c : Bool) → same_name (get_or ns i []) (get_or ns j []) ≡ c → same_name (get_or ns i []) (get_or ns j []) ≡ (j == i)
        test false e = e ∙ sym (unlike m)
        test true e = absurd (n e)

    by : (i < j) ⊎ ((j < i) ⊎ (i ≡ j)) → same_name (get_or ns i []) (get_or ns j []) ≡ (j == i)
    by (inl l) = apart (λ e. clash (times (get_or ns i []) ns) one (twice (get_or ns i []) ns i j l b (same-itself (get_or ns i [])) e)) (λ e. none-below 0 (omega (arith, e, l)))
    by (inr (inl l)) = apart (λ e. clash (times (get_or ns i []) ns) one (twice (get_or ns i []) ns j i l a e (same-itself (get_or ns i [])))) (λ e. none-below 0 (omega (arith, e, l)))
    by (inr (inr e)) = ap (λ k. same_name (get_or ns i []) (get_or ns k [])) (sym e) ∙ same-itself (get_or ns i []) ∙ sym (ap (λ k. k == i) (sym e) ∙ eq-eqb i i refl)

-- ---- what each leaf is told

leaf-there : (p : Name) (q : _) (k : kinds.Kind) → (marked (telling_kind p q k)).leaf ≡ p
leaf-there p q (kinds.Kind.Job true) = refl
leaf-there p q (kinds.Kind.Job false) = refl
leaf-there p q (kinds.Kind.Closed n) = refl
leaf-there p q (kinds.Kind.Passed l) = refl

marked-level : (mismatch : Name → ℕ) (t : Told) → IsFit mismatch t → KindAt (mismatch (marked t).leaf) (marked t).item.place (marked t).item.kind
marked-level mismatch (arrival p q false) h = h
marked-level mismatch (arrival p q true) h = h
marked-level mismatch (faulty p q) h = h
marked-level mismatch (close p q n) h = h

marked-leveled : (mismatch : Name → ℕ) (ts : List Told) → Each (IsFit mismatch) ts → (p : Name) → AreLeveled (mismatch p) (marked_to ts p)
marked-leveled mismatch [] h p = tt
marked-leveled mismatch (t ∷ ts) h p = each-append (λ (x : Item Marked Spot). KindAt (mismatch p) x.place x.kind) (if_so (same_name p (marked t).leaf) (marked t).item) (marked_to ts p) (by (same_name p (marked t).leaf) refl) (marked-leveled mismatch ts h.1 p)
  where
    by : (b : Bool) → same_name p (marked t).leaf ≡ b → Each (λ (x : Item Marked Spot). KindAt (mismatch p) x.place x.kind) (if_so b (marked t).item)
    by false e = tt
    by true e = (subst (λ r. KindAt (mismatch r) (marked t).item.place (marked t).item.kind) (sym (same-equal p (marked t).leaf e)) (marked-level mismatch t h.0), tt)

module _ (s : Strategy) (apart : EachOnce (leaf_names s) (leaf_names s)) where
  told-leaf : (i : ℕ) → i < length (leaf_names s) → (es : List Entry) → Each (IsProper s) es → told_by_all (map news_of es) (Some i) ≡ kept_of s (map (telling_of s) es) (leaf_name s i)
  told-leaf i l [] h = refl
  told-leaf i l (e ∷ es) h =
      ap (λ r. if_so (e.number == i) (kept_entry e) ++ r) (told-leaf i l es h.1)
      ∙ ap (λ r. r ++ kept_of s (map (telling_of s) es) (leaf_name s i)) here-too
      ∙ sym (map-append (kept_item s) (if_so (same_name (leaf_name s i) (marked (telling_of s e)).leaf) (marked (telling_of s e)).item) (marked_to (map (telling_of s) es) (leaf_name s i)))
    where
      here-too : if_so (e.number == i) (kept_entry e) ≡ map (kept_item s) (if_so (same_name (leaf_name s i) (marked (telling_of s e)).leaf) (marked (telling_of s e)).item)
      here-too =
          ap (λ b. if_so b (kept_entry e)) (sym (names-apart (leaf_names s) i e.number apart l h.0.0) ∙ ap (same_name (leaf_name s i)) (sym (leaf-there (leaf_name s e.number) e.place e.kind)))
          ∙ ap (if_so (same_name (leaf_name s i) (marked (telling_of s e)).leaf)) (sym h.0.1)
          ∙ sym (map-if (kept_item s) (same_name (leaf_name s i) (marked (telling_of s e)).leaf) (marked (telling_of s e)).item)

  none-told : (es : List Entry) → told_by_all (map news_of es) None ≡ []
  none-told [] = refl
  none-told (e ∷ es) = none-told es

  numbered : (told : Option ℕ → List Kept) (named : Name → List Kept) (i : ℕ) (ns : List Name) → ((j : ℕ) → j < length ns → told (Some (i + j)) ≡ named (get_or ns j [])) → AreNumbered told named i ns
  numbered told named i [] h = tt
  numbered told named i (n ∷ ns) h = (ap (λ k. told (Some k)) (plus i) ∙ h 0 (omega arith), numbered told named (suc i) ns (λ j l. ap (λ k. told (Some k)) (next i j) ∙ h (suc j) (omega (arith, l))))
    where
      plus : (i : ℕ) → i ≡ i + 0
      plus i = omega arith

      next : (i j : ℕ) → suc i + j ≡ i + suc j
      next i j = omega arith

  -- what is kept of fit tellings is leveled
  kept-leveled : (mismatch : Name → ℕ) (ts : List Told) → Each (IsFit mismatch) ts → (p : Name) → AreLeveled (mismatch p) (kept_of s ts p)
  kept-leveled mismatch ts h p = each-map (λ (x : Kept). KindAt (mismatch p) x.place x.kind) (kept_item s) (marked_to ts p) (each-weaken (λ (x : Item Marked Spot). KindAt (mismatch p) x.place x.kind) (λ (x : Item Marked Spot). KindAt (mismatch p) (kept_item s x).place (kept_item s x).kind) (λ x. bare-level (mismatch p) x.place x.kind) (marked_to ts p) (marked-leveled mismatch ts h p))
    where
      bare-level : (d : ℕ) (q : Place) (k : Kind Marked Spot) → KindAt d q k → KindAt d q (kept_item s (item q k)).kind
      bare-level d q (ends b) h = h
      bare-level d q (closes n) h = h
      bare-level d q (passes f) h = h

  pub worked-matched : (mismatch : Name → ℕ) → DotsAgree mismatch s → (es : List Entry) → Each (IsProper s) es → Each (λ e. IsFit mismatch (telling_of s e)) es → IsPermutation (worked_items (store_for mismatch 0 s) (unit_news ∷ map news_of es)) (matched (kept_of s (map (telling_of s) es)) s)
  worked-matched mismatch agree es h fit =
      let ns = unit_news ∷ map news_of es in
      let told = told_by_all ns in
      let works = (store-works (λ l. []) (store_for mismatch 0 s) ns (store-starts mismatch s)).1 in
      subst (IsPermutation (worked_items (store_for mismatch 0 s) ns)) (store-is_matched told (kept_of s (map (telling_of s) es)) mismatch (kept-leveled mismatch (map (telling_of s) es) (each-map (IsFit mismatch) (telling_of s) es fit)) s agree none (numbered told (kept_of s (map (telling_of s) es)) 0 (leaf_names s) each))
      (IsPermutation-sym _ _ (subst (λ l. IsPermutation (items told (store_for mismatch 0 s)) (l ++ worked_items (store_for mismatch 0 s) ns)) (items-none (store_for mismatch 0 s)) works))
    where
      none : told_by_all (unit_news ∷ map news_of es) None ≡ one_end
      none = ap (λ l. one_end ++ l) (none-told es)

      zero-plus : (j : ℕ) → 0 + j ≡ j
      zero-plus j = omega arith

      each : (j : ℕ) → j < length (leaf_names s) → told_by_all (unit_news ∷ map news_of es) (Some (0 + j)) ≡ kept_of s (map (telling_of s) es) (get_or (leaf_names s) j [])
      each j l = ap (λ k. told_by_all (unit_news ∷ map news_of es) (Some k)) (zero-plus j) ∙ told-leaf j l es h

  -- ---- as outcomes

  outs : (es : List Entry) → map outcome_of es ≡ map kept_out (kepts es)
  outs [] = refl
  outs (e ∷ es) = ap (λ o. o ∷ map outcome_of es) (one e.place e.kind) ∙ ap (λ l. kept_out (kept_entry e) ∷ l) (outs es)
    where
      one : (q : _) (k : kinds.Kind) → outcome_kind q k ≡ kept_out (item q (kind_view k))
      one q (kinds.Kind.Job b) = refl
      one q (kinds.Kind.Closed n) = refl
      one q (kinds.Kind.Passed l) = refl

  brief-outs : (xs : List Kept) → map kept_out (briefs xs) ≡ map kept_out xs
  brief-outs xs = map-map kept_out brief xs ∙ map-same (λ x. kept_out (brief x)) kept_out (λ x. one x.place x.kind) xs
    where
      one : (q : Place) (k : Kind (Unit {0}) ℕ) → kept_kind_out q (brief_kind k) ≡ kept_kind_out q k
      one q (ends b) = refl
      one q (closes n) = refl
      one q (passes l) = refl

  -- the items of what was told come out
  pub out-all : (mismatch : Name → ℕ) → DotsAgree mismatch s → (es xs : List Entry) → Each (IsProper s) es → Each (λ e. IsFit mismatch (telling_of s e)) es → kepts xs ≡ briefs (worked_items (store_for mismatch 0 s) (unit_news ∷ map news_of es)) → IsPermutation (map outcome_of xs) (map (out s) (matched_after s (map (telling_of s) es)))
  out-all mismatch agree es xs h fit e =
      subst (λ l. IsPermutation l (map (out s) (matched_after s (map (telling_of s) es)))) (sym (outs xs ∙ ap (map kept_out) e ∙ brief-outs (worked_items (store_for mismatch 0 s) (unit_news ∷ map news_of es))))
      (subst (IsPermutation (map kept_out (worked_items (store_for mismatch 0 s) (unit_news ∷ map news_of es)))) (kept-is_enough s (map (telling_of s) es)).1
      (IsPermutation-map kept_out (worked_items (store_for mismatch 0 s) (unit_news ∷ map news_of es)) (matched (kept_of s (map (telling_of s) es)) s) (worked-matched mismatch agree es h fit)))

-- ---- one telling for one entry

pred-same : (j i : ℕ) → (suc j == suc i) ≡ (j == i)
pred-same j i = by (j == i) refl
  where
    by : (b : Bool) → (j == i) ≡ b → (suc j == suc i) ≡ (j == i)
    by true e = eq-eqb (suc j) (suc i) (ap suc (eqb-true j i e)) ∙ sym e
    by false e = test (suc j == suc i) refl
      where
        clash : (c : Bool) → c ≡ false → c ≡ true → ⊥
        clash true f g = absurd (cc)
        clash false f g = absurd (cc)

        back : suc j ≡ suc i → j ≡ i
        back f = omega arith

        test : (c : Bool) → (suc j == suc i) ≡ c → (suc j == suc i) ≡ (j == i)
        test false f = f ∙ sym e
        test true f = absurd (clash (j == i) e (eq-eqb j i (back (eqb-true (suc j) (suc i) f))))

zero-suc : (i : ℕ) → (0 == suc i) ≡ false
zero-suc i = test (0 == suc i) refl
  where
    none : 0 ≡ suc i → ⊥
    none e = omega arith

    test : (c : Bool) → (0 == suc i) ≡ c → (0 == suc i) ≡ false
    test false e = e
    test true e = absurd (none (eqb-true 0 (suc i) e))

number-there : (ns : List Name) (p : Name) (i : ℕ) → i < length ns → ((j : ℕ) → j < length ns → same_name p (get_or ns j []) ≡ (j == i)) → leaf_number ns p ≡ i
number-there [] p i l h = absurd (none-below i l)
number-there (n ∷ ns) p zero l h = ap (λ b. if b then 0 else suc (leaf_number ns p)) (h 0 (omega arith))
number-there (n ∷ ns) p (suc i) l h =
    ap (λ b. if b then 0 else suc (leaf_number ns p)) (h 0 (omega arith) ∙ zero-suc i)
    ∙ ap suc (number-there ns p i (omega (arith, l)) (λ j k. h (suc j) (omega (arith, k)) ∙ pred-same j i))

abbrev passed : ℕ → Kind (Unit {0}) ℕ
passed n = passes n

passed-same : (i j : ℕ) → passed i ≡ passed j → i ≡ j
passed-same i j e = cc

module _ (s : Strategy) (apart : EachOnce (leaf_names s) (leaf_names s)) where
  pub number-of_leaf : (i : ℕ) → i < length (leaf_names s) → leaf_number (leaf_names s) (leaf_name s i) ≡ i
  number-of_leaf i l = number-there (leaf_names s) (leaf_name s i) i l (λ j k. names-apart (leaf_names s) i j apart l k)

  same-number : (i j : ℕ) → i < length (leaf_names s) → j < length (leaf_names s) → leaf_name s i ≡ leaf_name s j → i ≡ j
  same-number i j l k e = sym (number-of_leaf i l) ∙ ap (leaf_number (leaf_names s)) e ∙ number-of_leaf j k

  entries-same : (i j : ℕ) (q r : Place) (k l : kinds.Kind) → i < length (leaf_names s) → j < length (leaf_names s) → leaf_name s i ≡ leaf_name s j → q ≡ r → k ≡ l → entry i q k ≡ entry j r l
  entries-same i j q r k l a b n p m = ap (λ x. entry x q k) (same-number i j a b n) ∙ ap (λ x. entry j x k) p ∙ ap (entry j r) m

  passed-leaf : (p : Name) (q : Place) (l : ℕ) → kept_item s (marked (telling_kind p q (kinds.Kind.Passed l))).item ≡ item q (kind_view (kinds.Kind.Passed l)) → leaf_number (leaf_names s) p ≡ l
  passed-leaf p q l h = passed-same (leaf_number (leaf_names s) p) l (ap (λ (x : Kept). x.kind) h)

  tellings-same : (i j : ℕ) (q r : Place) (k l : kinds.Kind) → IsProper s (entry i q k) → IsProper s (entry j r l) → telling_kind (leaf_name s i) q k ≡ telling_kind (leaf_name s j) r l → entry i q k ≡ entry j r l
  tellings-same i j q r (kinds.Kind.Job false) (kinds.Kind.Job false) a b e = let n : leaf_name s i ≡ leaf_name s j = cc in let p : q ≡ r = cc in entries-same i j q r (kinds.Kind.Job false) (kinds.Kind.Job false) a.0 b.0 n p refl
  tellings-same i j q r (kinds.Kind.Job true) (kinds.Kind.Job true) a b e = let n : leaf_name s i ≡ leaf_name s j = cc in let p : q ≡ r = cc in entries-same i j q r (kinds.Kind.Job true) (kinds.Kind.Job true) a.0 b.0 n p refl
  tellings-same i j q r (kinds.Kind.Job true) (kinds.Kind.Job false) a b e = absurd (cc)
  tellings-same i j q r (kinds.Kind.Job false) (kinds.Kind.Job true) a b e = absurd (cc)
  tellings-same i j q r (kinds.Kind.Job true) (kinds.Kind.Closed m) a b e = absurd (cc)
  tellings-same i j q r (kinds.Kind.Job false) (kinds.Kind.Closed m) a b e = absurd (cc)
  tellings-same i j q r (kinds.Kind.Job true) (kinds.Kind.Passed m) a b e = absurd (cc)
  tellings-same i j q r (kinds.Kind.Job false) (kinds.Kind.Passed m) a b e = let f : false ≡ true = cc in absurd (cc)
  tellings-same i j q r (kinds.Kind.Closed n) (kinds.Kind.Job true) a b e = absurd (cc)
  tellings-same i j q r (kinds.Kind.Closed n) (kinds.Kind.Job false) a b e = absurd (cc)
  tellings-same i j q r (kinds.Kind.Closed n) (kinds.Kind.Closed m) a b e =
      let x : leaf_name s i ≡ leaf_name s j = cc in let p : q ≡ r = cc in let y : n ≡ m = cc in entries-same i j q r (kinds.Kind.Closed n) (kinds.Kind.Closed m) a.0 b.0 x p (ap kinds.Kind.Closed y)
  tellings-same i j q r (kinds.Kind.Closed n) (kinds.Kind.Passed m) a b e = absurd (cc)
  tellings-same i j q r (kinds.Kind.Passed n) (kinds.Kind.Job true) a b e = absurd (cc)
  tellings-same i j q r (kinds.Kind.Passed n) (kinds.Kind.Job false) a b e = let f : true ≡ false = cc in absurd (cc)
  tellings-same i j q r (kinds.Kind.Passed n) (kinds.Kind.Closed m) a b e = absurd (cc)
  tellings-same i j q r (kinds.Kind.Passed n) (kinds.Kind.Passed m) a b e =
      let x : leaf_name s i ≡ leaf_name s j = cc in let p : q ≡ r = cc in
      entries-same i j q r (kinds.Kind.Passed n) (kinds.Kind.Passed m) a.0 b.0 x p (ap kinds.Kind.Passed (sym (passed-leaf (leaf_name s i) q n a.1) ∙ ap (leaf_number (leaf_names s)) x ∙ passed-leaf (leaf_name s j) r m b.1))

  pub telling-same : (e f : Entry) → IsProper s e → IsProper s f → telling_of s e ≡ telling_of s f → e ≡ f
  telling-same e f a b h = tellings-same e.number f.number e.place f.place e.kind f.kind a b h

  -- what the calls list
  pub bound-proper : (i : ℕ) (q : Place) (b : Bool) → i < length (leaf_names s) → IsProper s (entry i q (kinds.Kind.Job b))
  bound-proper i q true l = (l, refl)
  bound-proper i q false l = (l, refl)

  pub closed-proper : (i : ℕ) (q : Place) (n : ℕ) → i < length (leaf_names s) → IsProper s (entry i q (kinds.Kind.Closed n))
  closed-proper i q n l = (l, refl)

  pub fault-proper : (i : ℕ) (q : Place) → i < length (leaf_names s) → IsProper s (entry i q (kinds.Kind.Passed i))
  fault-proper i q l = (l, ap (λ k. item q (passes k)) (number-of_leaf i l))

-- ---- no place is longer than the strategy is deep

kind-short : (d : ℕ) (x : Item Spot Spot) → KindAt d x.place x.kind → length x.place ≤ d
kind-short d x h = by x.kind h
  where
    by : (k : Kind Spot Spot) → KindAt d x.place k → length x.place ≤ d
    by (ends b) h = omega (arith, h)
    by (closes n) h = omega (arith, h)
    by (passes f) h = omega (arith, h)

entry-of : (P : Kept → Type 0) (es : List Entry) (i : ℕ) → Each P (kepts es) → i < length es → P (kept_entry (entry_at es i))
entry-of P [] i h l = absurd (none-below i l)
entry-of P (e ∷ es) zero h l = h.0
entry-of P (e ∷ es) (suc i) h l = entry-of P es i h.1 (omega (arith, l))

pub each-of-map : {A B : Type 0} (P : B → Type 0) (f : A → B) (xs : List A) → Each P (map f xs) → Each (λ x. P (f x)) xs
each-of-map P f [] h = tt
each-of-map P f (x ∷ xs) h = (h.0, each-of-map P f xs h.1)

pub places-short : (s : Strategy) (mismatch : Name → ℕ) (apart : EachOnce (leaf_names s) (leaf_names s)) (es xs : List Entry) → Each (IsProper s) es → Each (λ e. IsFit mismatch (telling_of s e)) es → ((p : Name) → Once (told_to (map (telling_of s) es) p)) → DotsAgree mismatch s → kepts xs ≡ briefs (worked_items (store_for mismatch 0 s) (unit_news ∷ map news_of es)) → (i : ℕ) → i < length xs → length (entry_at xs i).place ≤ strategy_depth mismatch s
places-short s mismatch apart es xs proper fits once agree e i l =
    let d = strategy_depth mismatch s in
    let short : Kept → Type 0 = λ y. length y.place ≤ d in
    let ts = map (telling_of s) es in
    let fit = each-map (IsFit mismatch) (telling_of s) es fits in
    let leveled = (matches-once mismatch ts fit once s agree).1 in
    let there : Each (λ (x : Item Spot Spot). length x.place ≤ d) (matched_after s ts) = each-weaken (λ (x : Item Spot Spot). KindAt d x.place x.kind) (λ (x : Item Spot Spot). length x.place ≤ d) (kind-short d) (matched_after s ts) leveled in
    let marked_there : Each (λ (x : Item Marked Spot). length x.place ≤ d) (marked_after s ts) = each-of-map (λ (x : Item Spot Spot). length x.place ≤ d) plain (marked_after s ts) (subst (Each (λ (x : Item Spot Spot). length x.place ≤ d)) (sym (marked-is_matched s ts)) there) in
    let kept_there : Each short (matched (kept_of s ts) s) = subst (Each short) (sym (kept-is_enough s ts).0) (each-map short (kept_item s) (marked_after s ts) marked_there) in
    let all : Each short (worked_items (store_for mismatch 0 s) (unit_news ∷ map news_of es)) = each-permutes short (matched (kept_of s ts) s) _ (IsPermutation-sym _ _ (worked-matched s apart mismatch agree es proper fits)) kept_there in
    entry-of short xs i (subst (Each short) (sym e) (each-map short brief _ all)) l
