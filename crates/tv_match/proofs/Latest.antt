-- The last item that a key takes to a place, from the end.
use Rattle.std.proofs.Common.{◌≡◌, ◌≢◌, ◌⊎◌, inl, inr, refl, ℕ, zero, suc, ◌<◌, ◌≤◌, Bool, true, false, List, [], ◌∷◌, ◌++◌, length, take, sym, ap, subst, ◌∙◌, arith, append_assoc, take-suc}
use Rattle.std.proofs.lemmas.List.{map-append}
use Rattle.tv_value.specs.Nested.{Place}
use Rattle.tv_strategy.specs.Splits.{same_place}
use Rattle.tv_strategy.proofs.PlaceLemmas.{same-equal, same-itself}
use Rattle.tv_matching.specs.Items.{if_so}
use Rattle.tv_matching.specs.Matchers.{Kept}
use Rattle.tv_matching.specs.Stores.{latest_by}
use Rattle.tv_match.specs.Entries.{Entry, no_entry, entry_at, kept_entry, kepts, FoundBy}

latest-last : (key : Place → Place) (q : Place) (xs : List Kept) (x : Kept) → latest_by key q (xs ++ x ∷ []) ≡ if_so (same_place q (key x.place)) x ++ latest_by key q xs
latest-last key q [] x = nothing (if_so (same_place q (key x.place)) x)
  where
    nothing : (l : List Kept) → l ≡ l ++ []
    nothing [] = refl
    nothing (y ∷ l) = ap (λ r. y ∷ r) (nothing l)
latest-last key q (y ∷ xs) x = ap (λ l. l ++ if_so (same_place q (key y.place)) y) (latest-last key q xs x) ∙ append_assoc (if_so (same_place q (key x.place)) x) (latest_by key q xs) (if_so (same_place q (key y.place)) y)

module _ (key : Place → Place) (q : Place) (es : List Entry) where
  latest-step : (i j : ℕ) → i ≡ suc j → i ≤ length es → latest_by key q (kepts (take i es)) ≡ if_so (same_place q (key (entry_at es j).place)) (kept_entry (entry_at es j)) ++ latest_by key q (kepts (take j es))
  latest-step i j e h =
      ap (λ m. latest_by key q (kepts (take m es))) e
      ∙ ap (λ l. latest_by key q (kepts l)) (take-suc es j no_entry (omega (arith, e, h)))
      ∙ ap (latest_by key q) (map-append kept_entry (take j es) (entry_at es j ∷ []))
      ∙ latest-last key q (kepts (take j es)) (kept_entry (entry_at es j))

  pub latest-other : (i j : ℕ) → i ≡ suc j → i ≤ length es → key (entry_at es j).place ≢ q → latest_by key q (kepts (take i es)) ≡ latest_by key q (kepts (take j es))
  latest-other i j e h k = latest-step i j e h ∙ by (same_place q (key (entry_at es j).place)) refl
    where
      by : (b : Bool) → same_place q (key (entry_at es j).place) ≡ b → if_so b (kept_entry (entry_at es j)) ++ latest_by key q (kepts (take j es)) ≡ latest_by key q (kepts (take j es))
      by false e = refl
      by true e = absurd (k (sym (same-equal q (key (entry_at es j).place) e)))

  pub latest-here : (i j : ℕ) → i ≡ suc j → i ≤ length es → key (entry_at es j).place ≡ q → latest_by key q (kepts (take i es)) ≡ kept_entry (entry_at es j) ∷ latest_by key q (kepts (take j es))
  latest-here i j e h k = latest-step i j e h ∙ ap (λ b. if_so b (kept_entry (entry_at es j)) ++ latest_by key q (kepts (take j es))) (subst (λ r. same_place q r ≡ true) (sym k) (same-itself q))

  pub found-here : (before i j : ℕ) → i ≡ suc j → i ≤ before → before ≤ length es → latest_by key q (kepts (take before es)) ≡ latest_by key q (kepts (take i es)) → key (entry_at es j).place ≡ q → FoundBy key q es before j
  found-here before i j e h l m k = record { is_before = omega (arith, e, h); is_there = k; is_last = m ∙ latest-here i j e (omega (arith, h, l)) k }

  -- none has the key from one item to another
  pub none-between : (n i : ℕ) → n ≤ length es → i ≤ n → ((j : ℕ) → j < n → i ≤ j → key (entry_at es j).place ≢ q) → latest_by key q (kepts (take n es)) ≡ latest_by key q (kepts (take i es))
  none-between zero i l h none = ap (λ k. latest_by key q (kepts (take k es))) (zeros i h)
    where
      zeros : (i : ℕ) → i ≤ 0 → 0 ≡ i
      zeros i h = omega arith
  none-between (suc n) i l h none = by (last n i h) (λ k. none-between n i (omega (arith, l)) k (λ j m o. none j (omega (arith, m)) o))
    where
      last : (n i : ℕ) → i ≤ suc n → (i ≤ n) ⊎ (i ≡ suc n)
      last zero zero h = inl (omega arith)
      last zero (suc i) h = inr (omega (arith, h))
      last (suc n) zero h = inl (omega arith)
      last (suc n) (suc i) h = up (last n i (omega (arith, h)))
        where
          up : (i ≤ n) ⊎ (i ≡ suc n) → (suc i ≤ suc n) ⊎ (suc i ≡ suc (suc n))
          up (inl k) = inl (omega (arith, k))
          up (inr k) = inr (ap suc k)

      by : (i ≤ n) ⊎ (i ≡ suc n) → ((i ≤ n) → latest_by key q (kepts (take n es)) ≡ latest_by key q (kepts (take i es))) → latest_by key q (kepts (take (suc n) es)) ≡ latest_by key q (kepts (take i es))
      by (inl k) r = latest-other (suc n) n refl l (none n (omega arith) k) ∙ r k
      by (inr k) r = ap (λ j. latest_by key q (kepts (take j es))) (sym k)
