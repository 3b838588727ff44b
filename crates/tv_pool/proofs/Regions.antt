-- Lemmas on the regions that a pool's fields show.
use Rattle.std.proofs.Common.{◌≡◌, ◌≢◌, ◌⊎◌, ℕ, ◌<◌, ◌≤◌, List, get_or, set, map, Option, Some, None, refl, sym, ap, ◌∙◌, arith, inl, inr, zero-add}
use Rattle.std.specs.List.{range_with_len}
use Rattle.std.proofs.lemmas.Bool.{cases_eq}
use Rattle.std.proofs.lemmas.List.{get_or-set_same, get_or-set_other, get_or_past, length-set, ext_get_or}
use Rattle.std.proofs.lemmas.List.FromFn.{length-map-range_with_len, get_or-map-range_with_len}
use Rattle.std.proofs.lemmas.Option.{same_Some}
use Rattle.tv_pool.specs.Pool.{Contents}
use Rattle.tv_pool.specs.Layout.{chain_items, find_from, contents_of, contents_at, regions_of}
use Rattle.tv_pool.specs.declared.layout.Placed.{Placed}
use Rattle.tv_pool.specs.declared.layout.Chain.{Chain}
use Rattle.tv_pool.proofs.Tables.{IsApart, Agrees, found_at, found_is, find_from-agrees}

module _ {X : Type 0} (f g : ℕ → Option X) (n : ℕ) where
  -- two functions that agree at each index make one list
  pub map_range-same : ((k : ℕ) → k < n → g k ≡ f k) → map g (range_with_len 0 n) ≡ map f (range_with_len 0 n)
  map_range-same agree =
      ext_get_or None _ _ (length-map-range_with_len g 0 n ∙ sym (length-map-range_with_len f 0 n)) (λ k inside.
      let below : k < n = omega (arith, inside, length-map-range_with_len g 0 n) in
      get_or-map-range_with_len g 0 n k k None below (zero-add k) ∙ agree k below ∙ sym (get_or-map-range_with_len f 0 n k k None below (zero-add k)))

  -- two functions that agree at each other index make lists that differ there alone
  pub map_range-changed : (at : ℕ) (new : Option X) → at < n → g at ≡ new → ((k : ℕ) → k < n → k ≢ at → g k ≡ f k) → map g (range_with_len 0 n) ≡ set (map f (range_with_len 0 n)) at new
  map_range-changed at new within is agree =
      let fs = map f (range_with_len 0 n) in
      let len = length-map-range_with_len f 0 n in
      ext_get_or None _ _ (length-map-range_with_len g 0 n ∙ sym len ∙ sym (length-set fs at new)) (λ k inside.
      let below : k < n = omega (arith, inside, length-map-range_with_len g 0 n) in
      let read = get_or-map-range_with_len g 0 n k k None below (zero-add k) in
      elim (cases_eq k at) [
        | inl same ↦ read ∙ ap g same ∙ is ∙ sym (ap (λ j. get_or (set fs at new) j None) same ∙ get_or-set_same fs at new None (omega (arith, len, within)))
        | inr differs ↦ read ∙ agree k below differs ∙ sym (get_or-set_other fs at k new None differs ∙ get_or-map-range_with_len f 0 n k k None below (zero-add k))
      ])

module _ {T : Type 0} where
  pub contents_at-entry : (slots : List (Option (Placed T))) (table : List (Option Chain)) (entry : ℕ) (c : Chain) → IsApart table → get_or table entry None ≡ Some c → contents_at slots table c.number ≡ Some (record { entry = entry; stored = chain_items slots c.last c.count })
  contents_at-entry slots table entry c apart found = ap (contents_of slots) (found_at table entry c apart found)

  -- a live region has a chain of its number in its entry
  pub chain_from_contents : (slots : List (Option (Placed T))) (table : List (Option Chain)) (number : ℕ) (r : Contents T) → contents_at slots table number ≡ Some r → (c : Chain) × (get_or table r.entry None ≡ Some c) × (c.number ≡ number) × (r.stored ≡ chain_items slots c.last c.count)
  chain_from_contents slots table number r is = by_found (find_from 0 table number) refl is
    where
      by_found : (o : Option (ℕ × Chain)) → find_from 0 table number ≡ o → contents_of slots o ≡ Some r → (c : Chain) × (get_or table r.entry None ≡ Some c) × (c.number ≡ number) × (r.stored ≡ chain_items slots c.last c.count)
      by_found None found shown = absurd (cc)
      by_found (Some f) found shown =
          let there = found_is table number f found in
          let same = same_Some _ _ shown in
          (f.1, ap (λ (x : Contents T). get_or table x.entry None) (sym same) ∙ there.0, there.1, ap (λ (x : Contents T). x.stored) (sym same))

  -- under a number at which tables and chains agree the same stands
  pub contents_at-agrees : (slots slots' : List (Option (Placed T))) (old new : List (Option Chain)) (number : ℕ) → IsApart old → IsApart new → Agrees old new number → ((entry : ℕ) (c : Chain) → c.number ≡ number → get_or old entry None ≡ Some c → chain_items slots' c.last c.count ≡ chain_items slots c.last c.count) → contents_at slots' new number ≡ contents_at slots old number
  contents_at-agrees slots slots' old new number apart apart' agrees chains =
      ap (contents_of slots') (find_from-agrees old new number apart apart' agrees) ∙ by_found (find_from 0 old number) refl
    where
      by_found : (o : Option (ℕ × Chain)) → find_from 0 old number ≡ o → contents_of slots' o ≡ contents_of slots o
      by_found None found = refl
      by_found (Some f) found =
          let there = found_is old number f found in
          ap (λ xs. Some (record { entry = f.0; stored = xs })) (chains f.0 f.1 there.1 there.0)

  -- what stands under a number is what the view has there
  pub contents_at-view : (slots : List (Option (Placed T))) (table : List (Option Chain)) (begun number : ℕ) (r : Contents T) → get_or (regions_of slots table begun) number None ≡ Some r → (number < begun) × (contents_at slots table number ≡ Some r)
  contents_at-view slots table begun number r is =
      let f = contents_at slots table in
      let len = length-map-range_with_len f 0 begun in
      elim (inside number begun) [
        | inl below ↦ (below, sym (get_or-map-range_with_len f 0 begun number number None below (zero-add number)) ∙ is)
        | inr past ↦ absurd (let e = get_or_past (map f (range_with_len 0 begun)) number None (omega (arith, len, past)) in cc)
      ]
    where
      inside : (k n : ℕ) → (k < n) ⊎ (n ≤ k)
      inside k n = grind arith
