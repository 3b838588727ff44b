-- What comes out tells of faults in bound values what was told.
use Rattle.std.specs.Prelude.{◌||◌, IsPermutation}
use Rattle.std.specs.List.{list_any}
use Rattle.std.proofs.lemmas.List.Sorted.{IsPermutation-sym}
use Rattle.std.proofs.Common.{◌≡◌, inl, inr, refl, ℕ, zero, suc, ◌<◌, ◌≤◌, Bool, true, false, List, [], ◌∷◌, ◌++◌, map, length, take, get_or, sym, ap, subst, ◌∙◌, arith}
use Rattle.std.proofs.lemmas.List.{length-take-le, length-map}
use Rattle.std.proofs.lemmas.List.Folds.{flat_map-map}
use Rattle.tv_lemmas.specs.Members.{In}
use Rattle.tv_lemmas.proofs.Members.{in-flat, of-map}
use Rattle.tv_lemmas.proofs.Lists.{map-take}
use Rattle.tv_value.specs.Nested.{Place}
use Rattle.tv_value.specs.Values.{Name}
use Rattle.tv_value.specs.Strategies.{Strategy}
use Rattle.tv_strategy.specs.Conditions.{number_of}
use Rattle.tv_strategy.specs.Measures.{leaf_names}
use Rattle.tv_strategy.specs.Splits.{same_place}
use Rattle.tv_strategy.proofs.PlaceLemmas.{same-itself}
use Rattle.tv_matching.specs.Items.{Kind, ends, closes, passes, Item, if_so}
use Rattle.tv_matching.specs.Members.{at_place, Once}
use Rattle.tv_matching.specs.Told.{Spot, Told, IsFit, Marked, marked_after, matched_after, binds_some, faulty_at}
use Rattle.tv_matching.specs.Matchers.{out as out_of, Kept, kept_item, kept_of, leaf_number, bare_bound, bare_kind}
use Rattle.tv_matching.specs.Matched.{matched}
use Rattle.tv_matching.specs.Stores.{store_for, worked_items}
use Rattle.tv_matching.proofs.Bared.{plain, marked-is_matched, kept-is_enough}
use Rattle.tv_matching.proofs.Lists.{flat-same, map-flat, map-if}
use Rattle.tv_matching.proofs.LawLemmas.{matches-once}
use Rattle.tv_matching.proofs.Members.{in-if, in-permutes}
use Rattle.tv_match.specs.declared.kinds.Kind as kinds
use Rattle.tv_match.specs.Entries.{Entry, entry_at, kept_entry, kepts, kind_view, front}
use Rattle.tv_match.specs.Brief.{brief, brief_kind, briefs}
use Rattle.tv_match.specs.Filed.{Filed}
use Rattle.tv_match.specs.Working.{unit_news, news_of}
use Rattle.tv_match.specs.Seen.{telling_of, tellings_of, outcome_of, outcome_kind, AreSound, IsProper, is_faulty}
use Rattle.tv_match.proofs.Calls.{each-take, told-fit}
use Rattle.tv_match.proofs.Fronts.{front-first, front-less, front-short}
use Rattle.tv_match.proofs.Working.{take-less}
use Rattle.tv_match.proofs.Seeing.{worked-matched, out-all}

-- ---- one item

abbrev some_bound : Kind (Unit {0}) ℕ → Bool
some_bound k = binds_some (λ x. true) k

flag-kept : (k : kinds.Kind) → is_faulty k ≡ some_bound (kind_view k)
flag-kept (kinds.Kind.Job true) = refl
flag-kept (kinds.Kind.Job false) = refl
flag-kept (kinds.Kind.Closed n) = refl
flag-kept (kinds.Kind.Passed l) = refl

flag-brief : (k : Kind (Unit {0}) ℕ) → some_bound (brief_kind k) ≡ some_bound k
flag-brief (ends []) = refl
flag-brief (ends (x ∷ b)) = refl
flag-brief (closes n) = refl
flag-brief (passes l) = refl

flag-bare : {X F : Type 0} (test : X → Bool) (g : F → ℕ) (k : Kind X F) → some_bound (bare_kind test g k) ≡ binds_some test k
flag-bare {X} test g (ends b) = by b
  where
    by : (b : List X) → list_any (λ x. true) (bare_bound test b) ≡ list_any test b
    by [] = refl
    by (x ∷ b) = one (test x) (by b)
      where
        one : (c : Bool) → list_any (λ x. true) (bare_bound test b) ≡ list_any test b → list_any (λ x. true) (if_so c tt ++ bare_bound test b) ≡ c || list_any test b
        one true h = refl
        one false h = h
flag-bare test g (closes n) = refl
flag-bare test g (passes f) = refl

-- ---- one place

at-mapped : {X F Y G : Type 0} (f : Item X F → Item Y G) → ((x : Item X F) → (f x).place ≡ x.place) → (q : Place) (xs : List (Item X F)) → at_place q (map f xs) ≡ map f (at_place q xs)
at-mapped f h q xs =
    flat_map-map (λ y. if_so (same_place q y.place) y) f xs
    ∙ flat-same (λ x. if_so (same_place q (f x).place) (f x)) (λ x. map f (if_so (same_place q x.place) x)) (λ x. ap (λ r. if_so (same_place q r) (f x)) (h x) ∙ sym (map-if f (same_place q x.place) x)) xs
    ∙ sym (map-flat f (λ x. if_so (same_place q x.place) x) xs)

once-before : {X F Y G : Type 0} (f : Item X F → Item Y G) → ((x : Item X F) → (f x).place ≡ x.place) → (xs : List (Item X F)) → Once (map f xs) → Once xs
once-before f h xs o q = subst (λ n. n ≤ 1) (ap length (at-mapped f h q xs) ∙ length-map (at_place q xs) f) (o q)

pub single : {A : Type 0} (x : A) (xs : List A) → In x xs → length xs ≤ 1 → xs ≡ x ∷ []
single x [] h l = absurd h
single x (y ∷ []) (inl e) l = ap (λ z. z ∷ []) (sym e)
single x (y ∷ []) (inr h) l = absurd h
single x (y ∷ z ∷ ys) h l = absurd (omega (arith, l))

only-there : {X F : Type 0} (x : Item X F) (xs : List (Item X F)) → In x xs → Once xs → at_place x.place xs ≡ x ∷ []
only-there x xs h o = single x (at_place x.place xs) (in-flat (λ y. if_so (same_place x.place y.place) y) x x xs h (in-if (same_place x.place x.place) x (same-itself x.place))) (o x.place)

entry-in : (es : List Entry) (i : ℕ) → i < length es → In (kept_entry (entry_at es i)) (kepts es)
entry-in [] i h = absurd (none i h)
  where
    none : (i : ℕ) → i < 0 → ⊥
    none i h = omega arith
entry-in (e ∷ es) zero h = inl refl
entry-in (e ∷ es) (suc i) h = inr (entry-in es i (omega (arith, h)))

or-none : (b : Bool) → b || false ≡ b
or-none true = refl
or-none false = refl

-- ---- what comes out

-- what is told of the job at the place of an item that is matched
at-item : (s : Strategy) (ts : List Told) (x : Item Marked Spot) → Once (marked_after s ts) → In x (marked_after s ts) → faulty_at s ts x.place ≡ binds_some (λ r. r.1) x.kind
at-item s ts x o h = ap (list_any (λ (y : Item Marked Spot). binds_some (λ r. r.1) y.kind)) (only-there x (marked_after s ts) h o) ∙ or-none (binds_some (λ r. r.1) x.kind)

plain-place : (x : Item Marked Spot) → (plain x).place ≡ x.place
plain-place x = refl

module _ (s : Strategy) (mm : List (Name × ℕ)) (root : Filed) (log out : List Entry) (n g : ℕ) (a : AreSound s mm root log out n g) where
  pub item-faulty : (i : ℕ) → i < length (front n out) → (k : kinds.Kind) (q : Place) → k ≡ (entry_at out i).kind → q ≡ (entry_at out i).place → is_faulty k ≡ faulty_at s (tellings_of s (take n log)) q
  item-faulty i h k q d f =
      let ts = tellings_of s (take n log) in
      let es = front n out in
      let e : entry_at es i ≡ entry_at out i = ap (λ xs. entry_at xs i) (sym (front-first n out)) ∙ taken-at (length es) out i h in
      let once : Once (marked_after s ts) = once-before plain plain-place (marked_after s ts) (subst Once (sym (marked-is_matched s ts)) (matches-once (number_of mm) ts (told-fit s mm root log out n g a) a.once s a.agree).0) in
      let proper = each-take (IsProper s) n log a.proper in
      let there : In (kept_entry (entry_at es i)) (briefs (worked_items (store_for (number_of mm) 0 s) (unit_news ∷ map news_of (take n log)))) = subst (In (kept_entry (entry_at es i))) (a.done.worked.items n a.told_within) (entry-in es i h) in
      let w = of-map brief (kept_entry (entry_at es i)) (worked_items (store_for (number_of mm) 0 s) (unit_news ∷ map news_of (take n log))) there in
      let m : In w.0 (matched (kept_of s ts) s) = in-permutes w.0 (matched (kept_of s ts) s) (worked_items (store_for (number_of mm) 0 s) (unit_news ∷ map news_of (take n log))) (IsPermutation-sym _ _ (worked-matched s a.suits.leaves_differ (number_of mm) a.agree (take n log) proper (each-take (λ e. IsFit (number_of mm) (telling_of s e)) n log a.fit))) w.1 in
      let x = of-map (kept_item s) w.0 (marked_after s ts) (subst (In w.0) (kept-is_enough s ts).0 m) in
      let same : kept_entry (entry_at out i) ≡ brief (kept_item s x.0) = ap kept_entry (sym e) ∙ w.2 ∙ ap brief x.2 in
      ap is_faulty d
      ∙ flag-kept (entry_at out i).kind
      ∙ ap (λ (y : Kept). some_bound y.kind) same
      ∙ flag-brief (kept_item s x.0).kind
      ∙ flag-bare (λ (r : Marked). r.1) (λ (r : Spot). leaf_number (leaf_names s) r.0) x.0.kind
      ∙ sym (at-item s ts x.0 once x.1)
      ∙ ap (faulty_at s ts) (sym (f ∙ ap (λ (y : Kept). y.place) same))
    where
      taken-at : (k : ℕ) (xs : List Entry) (i : ℕ) → i < k → entry_at (take k xs) i ≡ entry_at xs i
      taken-at zero xs i h = absurd (none i h)
        where
          none : (i : ℕ) → i < 0 → ⊥
          none i h = omega arith
      taken-at (suc k) [] i h = refl
      taken-at (suc k) (x ∷ xs) zero h = refl
      taken-at (suc k) (x ∷ xs) (suc i) h = taken-at k xs i (omega (arith, h))

  -- ---- all that follows from what was told, in the order in which it comes out

  pub item-out : (i : ℕ) → i < length (front n out) → (k : kinds.Kind) (q : Place) → k ≡ (entry_at out i).kind → q ≡ (entry_at out i).place → get_or (map outcome_of (front n out)) i (outcome_kind q k) ≡ outcome_kind q k
  item-out i h k q d f =
      mapped (front n out) i h
      ∙ ap (λ xs. outcome_of (entry_at xs i)) (sym (front-first n out))
      ∙ ap outcome_of (taken (length (front n out)) out i h)
      ∙ ap (λ p. outcome_kind p (entry_at out i).kind) (sym f)
      ∙ ap (outcome_kind q) (sym d)
    where
      none : (i : ℕ) → i < 0 → ⊥
      none i h = omega arith

      mapped : (xs : List Entry) (i : ℕ) → i < length xs → get_or (map outcome_of xs) i (outcome_kind q k) ≡ outcome_of (entry_at xs i)
      mapped [] i h = absurd (none i h)
      mapped (x ∷ xs) zero h = refl
      mapped (x ∷ xs) (suc i) h = mapped xs i (omega (arith, h))

      taken : (k : ℕ) (xs : List Entry) (i : ℕ) → i < k → entry_at (take k xs) i ≡ entry_at xs i
      taken zero xs i h = absurd (none i h)
      taken (suc k) [] i h = refl
      taken (suc k) (x ∷ xs) zero h = refl
      taken (suc k) (x ∷ xs) (suc i) h = taken k xs i (omega (arith, h))

  pub given-first : map outcome_of (take g out) ≡ take g (map outcome_of (front n out))
  given-first = ap (map outcome_of) (sym (take-less g (length (front n out)) out a.given_within) ∙ ap (take g) (front-first n out)) ∙ map-take outcome_of g (front n out)

  pub given-long : g ≡ length (map outcome_of (take g out))
  given-long = let l = front-short n out in sym (length-map (take g out) outcome_of ∙ length-take-le g out (let k = a.given_within in omega (arith, k, l)))

  pub in-order_within : (i : ℕ) → i < length (map outcome_of (front n out)) → (i < length (front n out)) × (i < length out)
  in-order_within i h = let e = length-map (front n out) outcome_of in let l = front-short n out in (omega (arith, e, h), omega (arith, e, h, l))

  pub all-in_order : IsPermutation (map outcome_of (front n out)) (map (out_of s) (matched_after s (tellings_of s (take n log))))
  all-in_order = out-all s a.suits.leaves_differ (number_of mm) a.agree (take n log) (front n out) (each-take (IsProper s) n log a.proper) (each-take (λ e. IsFit (number_of mm) (telling_of s e)) n log a.fit) (a.done.worked.items n a.told_within)

-- what followed before stands in front
pub order-stays : (n m : ℕ) (out outs : List Entry) → n ≤ m → front n outs ≡ front n out → take (length (map outcome_of (front n out))) (map outcome_of (front m outs)) ≡ map outcome_of (front n out)
order-stays n m out outs h e =
    let f : front n (front m outs) ≡ front n out = front-less n m h outs ∙ e in
    ap (λ k. take k (map outcome_of (front m outs))) (length-map (front n out) outcome_of ∙ ap length (sym f))
    ∙ sym (map-take outcome_of (length (front n (front m outs))) (front m outs))
    ∙ ap (map outcome_of) (front-first n (front m outs) ∙ f)
