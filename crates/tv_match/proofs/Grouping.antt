-- Items that are found by their first indices.
use Rattle.std.specs.Prelude.{IfSome}
use Rattle.std.proofs.Common.{◌≡◌, ◌≢◌, ◌⊎◌, inl, inr, refl, ℕ, zero, suc, ◌+◌, ◌-◌, ◌<◌, ◌≤◌, Bool, true, false, List, [], ◌∷◌, ◌++◌, length, take, get_or, Option, Some, None, sym, ap, subst, ◌∙◌, arith, length-append}
use Rattle.std.proofs.Math.ListN.{get_or-append}
use Rattle.std.proofs.Math.Seq.{get_or-append_seam, take-length}
use Rattle.std.proofs.lemmas.Bool.{cases_lt}
use Rattle.std.proofs.lemmas.List.{get_or-take, length-take-le}
use Rattle.tv_lemmas.proofs.Lists.{append-none}
use Rattle.tv_lemmas.proofs.Numbers.{less-or_same}
use Rattle.tv_value.specs.Nested.{Place}
use Rattle.tv_strategy.specs.Splits.{same_place}
use Rattle.tv_strategy.proofs.PlaceLemmas.{same-itself}
use Rattle.tv_matching.specs.Items.{if_so}
use Rattle.tv_matching.specs.Stores.{latest_at, latest_by}
use Rattle.tv_match.specs.Entries.{Entry, no_entry, entry_at, kept_entry, kepts, FoundBy}
use Rattle.tv_match.specs.Chained.{IsLast, NoneIn}
use Rattle.tv_match.specs.Grouped.{AreHeads, AreGrouped}
use Rattle.tv_match.proofs.Calls.{listed-long}
use Rattle.tv_match.proofs.Latest.{none-between, found-here}

-- ---- heads

-- where a search finds nothing, no head stands at the place
pub none-there : (q : Place) (es : List Entry) → latest_at q (kepts es) ≡ [] → (i : ℕ) → i < length es → (entry_at es i).place ≢ q
none-there q [] e i h = absurd (none i h)
  where
    none : (i : ℕ) → i < 0 → ⊥
    none i h = omega arith
none-there q (x ∷ es) e zero h = λ p. clash (sym (ap (λ b. if_so b (kept_entry x)) (subst (λ r. same_place q r ≡ true) (sym p) (same-itself q))) ∙ (append-none (latest_at q (kepts es)) (if_so (same_place q x.place) (kept_entry x)) e).1)
  where
    clash : kept_entry x ∷ [] ≡ [] → ⊥
    clash h = absurd (cc)
none-there q (x ∷ es) e (suc i) h = none-there q es (append-none (latest_at q (kepts es)) (if_so (same_place q x.place) (kept_entry x)) e).0 i (omega (arith, h))

more-at : (heads more : List Entry) → take (length heads) more ≡ heads → (i : ℕ) → i < length heads → entry_at more i ≡ entry_at heads i
more-at heads more e i h = sym (get_or-take (length heads) more i no_entry h) ∙ ap (λ es. entry_at es i) e

-- one more head, at a place where none stood
pub heads-push : (heads : List Entry) (count : ℕ) (e : Entry) → AreHeads heads count → latest_at e.place (kepts heads) ≡ [] → length heads < count → AreHeads (heads ++ e ∷ []) count
heads-push heads count e h none l =
    record {
      room = let k = length-append heads (e ∷ []) in omega (arith, k, l);
      apart = λ a b i j. by a b i (less-or_same b (length heads) (let k = length-append heads (e ∷ []) in omega (arith, k, j)));
    }
  where
    old : (a : ℕ) → a < length heads → entry_at (heads ++ e ∷ []) a ≡ entry_at heads a
    old a i = get_or-append heads (e ∷ []) no_entry a i

    by : (a b : ℕ) → a < b → (b < length heads) ⊎ (b ≡ length heads) → (entry_at (heads ++ e ∷ []) a).place ≢ (entry_at (heads ++ e ∷ []) b).place
    by a b i (inl j) = λ p. h.apart a b i j (ap (λ (x : Entry). x.place) (sym (old a (omega (arith, i, j)))) ∙ p ∙ ap (λ (x : Entry). x.place) (old b j))
    by a b i (inr j) = λ p. none-there e.place heads none a (omega (arith, i, j)) (ap (λ (x : Entry). x.place) (sym (old a (omega (arith, i, j)))) ∙ p ∙ ap (λ k. (entry_at (heads ++ e ∷ []) k).place) j ∙ ap (λ (x : Entry). x.place) (get_or-append_seam heads e [] no_entry))

module _ (d : ℕ) (es heads : List Entry) (of : List ℕ) (g : AreGrouped d es heads of) where
  -- a bucket without a head has nothing
  pub empty-above : (b : ℕ) → length heads ≤ b → NoneIn of b (length of)
  empty-above b h j l e = let w = g.within j (let k = g.long in omega (arith, k, l)) in omega (arith, w, e, h)

  pub grouped-more : (more : List Entry) → take (length heads) more ≡ heads → AreGrouped d es more of
  grouped-more more e =
      record {
        long = g.long;
        within = λ i h. let l = g.within i h in let k = listed-long heads more e in omega (arith, l, k);
        keyed = λ i h. ap (λ (x : Entry). x.place) (more-at heads more e (get_or of i 0) (g.within i h)) ∙ g.keyed i h;
      }

  pub grouped-push : (b : ℕ) (e : Entry) → b < length heads → (entry_at heads b).place ≡ take d e.place → AreGrouped d (es ++ e ∷ []) heads (of ++ b ∷ [])
  grouped-push b e w k =
      record {
        long = length-append of (b ∷ []) ∙ ap (λ n. n + 1) g.long ∙ sym (length-append es (e ∷ []));
        within = λ i h. subst (λ n. n < length heads) (sym (at i h)) (at-within i (which i h));
        keyed = λ i h. ap (λ n. (entry_at heads n).place) (at i h) ∙ at-keyed i (which i h) ∙ ap (take d) (sym (there i (which i h)));
      }
    where
      which : (i : ℕ) → i < length (es ++ e ∷ []) → (i < length es) ⊎ (i ≡ length es)
      which i h = less-or_same i (length es) (let l = length-append es (e ∷ []) in omega (arith, l, h))

      bucket : (i : ℕ) → (i < length es) ⊎ (i ≡ length es) → ℕ
      bucket i (inl h) = get_or of i 0
      bucket i (inr h) = b

      at : (i : ℕ) (h : i < length (es ++ e ∷ [])) → get_or (of ++ b ∷ []) i 0 ≡ bucket i (which i h)
      at i h = by (which i h)
        where
          by : (w : (i < length es) ⊎ (i ≡ length es)) → get_or (of ++ b ∷ []) i 0 ≡ bucket i w
          by (inl k) = get_or-append of (b ∷ []) 0 i (let l = g.long in omega (arith, l, k))
          by (inr k) = ap (λ n. get_or (of ++ b ∷ []) n 0) (k ∙ sym g.long) ∙ get_or-append_seam of b [] 0

      at-within : (i : ℕ) (w : (i < length es) ⊎ (i ≡ length es)) → bucket i w < length heads
      at-within i (inl h) = g.within i h
      at-within i (inr h) = w

      place_of : (i : ℕ) → (i < length es) ⊎ (i ≡ length es) → Place
      place_of i (inl h) = (entry_at es i).place
      place_of i (inr h) = e.place

      there : (i : ℕ) (w : (i < length es) ⊎ (i ≡ length es)) → (entry_at (es ++ e ∷ []) i).place ≡ place_of i w
      there i (inl h) = ap (λ (x : Entry). x.place) (get_or-append es (e ∷ []) no_entry i h)
      there i (inr h) = ap (λ n. (entry_at (es ++ e ∷ []) n).place) h ∙ ap (λ (x : Entry). x.place) (get_or-append_seam es e [] no_entry)

      at-keyed : (i : ℕ) (w : (i < length es) ⊎ (i ≡ length es)) → (entry_at heads (bucket i w)).place ≡ take d (place_of i w)
      at-keyed i (inl h) = g.keyed i h
      at-keyed i (inr h) = k

  pub grouped-take : (n : ℕ) → n ≤ length es → AreGrouped d (take n es) heads (take n of)
  grouped-take n h =
      record {
        long = length-take-le n of (let l = g.long in omega (arith, l, h)) ∙ sym (length-take-le n es h);
        within = λ i j. subst (λ k. k < length heads) (sym (get_or-take n of i 0 (less i j))) (g.within i (below i j));
        keyed = λ i j. ap (λ k. (entry_at heads k).place) (get_or-take n of i 0 (less i j)) ∙ g.keyed i (below i j) ∙ ap (λ (x : Entry). take d x.place) (sym (get_or-take n es i no_entry (less i j)));
      }
    where
      less : (i : ℕ) → i < length (take n es) → i < n
      less i j = let l = length-take-le n es h in omega (arith, l, j)

      below : (i : ℕ) → i < length (take n es) → i < length es
      below i j = let l = less i j in omega (arith, l, h)

  -- ---- searches

  module _ (count : ℕ) (h : AreHeads heads count) (b : ℕ) (w : b < length heads) (q : Place) (there : (entry_at heads b).place ≡ q) (before : ℕ) (l : before ≤ length es) where
    -- what is in another bucket has other first indices
    other-key : (j : ℕ) → j < length es → get_or of j 0 ≢ b → take d (entry_at es j).place ≢ q
    other-key j k n e = by (cases_lt (get_or of j 0) b) (cases_lt b (get_or of j 0))
      where
        same : (entry_at heads (get_or of j 0)).place ≡ (entry_at heads b).place
        same = g.keyed j k ∙ e ∙ sym there

        by : (get_or of j 0 < b) ⊎ (b ≤ get_or of j 0) → (b < get_or of j 0) ⊎ (get_or of j 0 ≤ b) → ⊥
        by (inl m) o = h.apart (get_or of j 0) b m w same
        by (inr m) (inl o) = h.apart b (get_or of j 0) o (g.within j k) (sym same)
        by (inr m) (inr o) = n (omega (arith, m, o))

    pub group-found : (i : ℕ) → IsLast of b before i → FoundBy (take d) q es before i
    group-found i f =
        found-here (take d) q es before (suc i) i refl (let k = f.is_before in omega (arith, k)) l
        (none-between (take d) q es before (suc i) l (let k = f.is_before in omega (arith, k)) (λ j m o. other-key j (omega (arith, l, m)) (f.none_after j (omega (arith, o)) m)))
        (sym (g.keyed i (let k = f.is_before in omega (arith, k, l))) ∙ ap (λ n. (entry_at heads n).place) f.is_there ∙ there)

    pub group-none : NoneIn of b before → latest_by (take d) q (kepts (take before es)) ≡ []
    group-none n = none-between (take d) q es before 0 l (omega arith) (λ j m o. other-key j (omega (arith, l, m)) (n j m))

  module _ (count : ℕ) (h : AreHeads heads count) where
    pub last-found : (b : ℕ) → b < length heads → (q : Place) → (entry_at heads b).place ≡ q → (o : Option ℕ) → IfSome o (IsLast of b (length of)) → IfSome o (FoundBy (take d) q es (length es))
    last-found b w q there None k = tt
    last-found b w q there (Some i) k = group-found count h b w q there (length es) (omega arith) i (subst (λ n. IsLast of b n i) g.long k)

    pub last-none : (b : ℕ) → b < length heads → (q : Place) → (entry_at heads b).place ≡ q → NoneIn of b (length of) → latest_by (take d) q (kepts es) ≡ []
    last-none b w q there k =
        ap (λ xs. latest_by (take d) q (kepts xs)) (sym (take-length es))
        ∙ group-none count h b w q there (length es) (omega arith) (subst (NoneIn of b) g.long k)

    pub before-found : (at : ℕ) → at < length es → (o : Option ℕ) → IfSome o (IsLast of (get_or of at 0) at) → IfSome o (FoundBy (take d) (take d (entry_at es at).place) es at)
    before-found at l None k = tt
    before-found at l (Some i) k = group-found count h (get_or of at 0) (g.within at l) (take d (entry_at es at).place) (g.keyed at l) at (omega (arith, l)) i k

    pub before-none : (at : ℕ) → at < length es → NoneIn of (get_or of at 0) at → latest_by (take d) (take d (entry_at es at).place) (kepts (take at es)) ≡ []
    before-none at l k = group-none count h (get_or of at 0) (g.within at l) (take d (entry_at es at).place) (g.keyed at l) at (omega (arith, l)) k

  pub no-head : (q : Place) → latest_at q (kepts heads) ≡ [] → latest_by (take d) q (kepts es) ≡ []
  no-head q e =
      ap (λ xs. latest_by (take d) q (kepts xs)) (sym (take-length es))
      ∙ none-between (take d) q es (length es) 0 (omega arith) (omega arith) (λ j m o p. none-there q heads e (get_or of j 0) (g.within j m) (g.keyed j m ∙ p))
