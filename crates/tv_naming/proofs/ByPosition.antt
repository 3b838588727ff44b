-- Names in byte order, and their positions.
use Rattle.std.specs.Prelude.{◌≡◌, ℕ, zero, suc, ◌+◌, ◌<◌, ◌≤◌, List, [], ◌∷◌, length, map, Bool, true, false, if◌then◌else◌, Option, Some, None, Result, Ok, Err, refl, is_some}
use Rattle.std.specs.Result.{result_ok}
use Rattle.std.specs.Ordering.{is_lt, ordering_reverse}
use Rattle.std.specs.List.{list_all}
use Rattle.std.specs.List.Sorted.{IsSearchInRange, IsBinarySearchResult, IsSortedBy, IsPartitionPoint}
use Rattle.std.proofs.Common.{arith, get_or, ap, sym, subst, ◌∙◌, Less, Equal, Greater, inl, inr, ◌⊎◌}
use Rattle.std.proofs.lemmas.Bool.{cases_lt, and_parts}
use Rattle.std.proofs.lemmas.Cmp.{nat_list_cmp_total, tied_itself}
use Rattle.std.proofs.lemmas.Map.Lookups.{exact_bytes}
use Rattle.std.proofs.lemmas.List.Sorted.{searchable_from_sorted}
use Rattle.tv_lemmas.proofs.Numbers.{none-below}
use Rattle.tv_lemmas.proofs.Orderings.{is_lt-less}
use Rattle.tv_value.specs.Values.{Name}
use Rattle.tv_value.specs.Orders.{name_cmp, same_name, named}
use Rattle.tv_value.proofs.NameLemmas.{same_name-is, same_name-refl}
use Rattle.tv_flow.specs.Formed.{is_ascending}
use Rattle.tv_naming.specs.Naming.{has_name}
use Rattle.tv_naming.specs.Numbers.{number_in, position}
use Rattle.tv_flow.specs.Views.{each}

-- ---- equal names

-- names of which one is less are different
pub below-differs : (m n : Name) → name_cmp m n ≡ Less → same_name n m ≡ false
below-differs m n e = cases (same_name n m) refl
  where
    cases : (b : Bool) → same_name n m ≡ b → same_name n m ≡ false
    cases false h = h
    cases true h =
        let s : n ≡ m = same_name-is n m h in
        let t : Equal ≡ Less = sym (tied_itself nat_list_cmp_total m) ∙ (ap (name_cmp m) (sym s) ∙ e) in
        cc

pub above-differs : (m n : Name) → name_cmp m n ≡ Greater → same_name n m ≡ false
above-differs m n e = cases (same_name n m) refl
  where
    cases : (b : Bool) → same_name n m ≡ b → same_name n m ≡ false
    cases false h = h
    cases true h =
        let s : n ≡ m = same_name-is n m h in
        let t : Equal ≡ Greater = sym (tied_itself nat_list_cmp_total m) ∙ (ap (name_cmp m) (sym s) ∙ e) in
        cc

-- ---- names in byte order, each with a thing

abbrev pub names_of : {A : Type 0} → List (Name × A) → List Name
names_of xs = map (λ e. e.0) xs

module _ {A : Type 0} where
  above-at : (n : Name) (xs : List (Name × A)) (k : ℕ) (d : Name × A) → list_all (λ m. is_lt (name_cmp n m)) (names_of xs) ≡ true → k < length xs → name_cmp n (get_or xs k d).0 ≡ Less
  above-at n [] k d h lt = none-below k lt
  above-at n (x ∷ xs) zero d h lt = is_lt-less _ (and_parts _ _ h).0
  above-at n (x ∷ xs) (suc k) d h lt = above-at n xs k d (and_parts _ _ h).1 (omega arith)

  pub position-at : (xs : List (Name × A)) (k : ℕ) (d : Name × A) → is_ascending (names_of xs) ≡ true → k < length xs → position (get_or xs k d).0 xs ≡ k
  position-at [] k d h lt = none-below k lt
  position-at (x ∷ xs) zero d h lt = ap (λ b. if b then 0 else suc (position x.0 xs)) (same_name-refl x.0)
  position-at (x ∷ xs) (suc k) d h lt =
      let n = (get_or xs k d).0 in
      ap (λ b. if b then 0 else suc (position n xs)) (below-differs x.0 n (above-at x.0 xs k d (and_parts _ _ h).0 (omega arith)))
      ∙ ap suc (position-at xs k d (and_parts _ _ h).1 (omega arith))

  pub named-at : (xs : List (Name × A)) (k : ℕ) (d : Name × A) → is_ascending (names_of xs) ≡ true → k < length xs → named (get_or xs k d).0 xs ≡ Some (get_or xs k d).1
  named-at [] k d h lt = none-below k lt
  named-at (x ∷ xs) zero d h lt = ap (λ b. if b then Some x.1 else named x.0 xs) (same_name-refl x.0)
  named-at (x ∷ xs) (suc k) d h lt =
      let n = (get_or xs k d).0 in
      ap (λ b. if b then Some x.1 else named n xs) (below-differs x.0 n (above-at x.0 xs k d (and_parts _ _ h).0 (omega arith)))
      ∙ named-at xs k d (and_parts _ _ h).1 (omega arith)

  pub named-absent : (n : Name) (xs : List (Name × A)) → ((k : ℕ) (d : Name × A) → k < length xs → same_name n (get_or xs k d).0 ≡ false) → named n xs ≡ None
  named-absent n [] h = refl
  named-absent n (x ∷ xs) h =
      ap (λ b. if b then Some x.1 else named n xs) (h 0 x (omega arith))
      ∙ named-absent n xs (λ k d lt. h (suc k) d (omega arith))

  -- the names ascend, as a sort says it
  rising-at : (xs : List (Name × A)) → is_ascending (names_of xs) ≡ true → (k : ℕ) (d : Name × A) → suc k < length xs → is_lt (name_cmp (get_or xs (suc k) d).0 (get_or xs k d).0) ≡ false
  rising-at [] h k d lt = none-below (suc k) lt
  rising-at (x ∷ xs) h zero d lt = ap is_lt (nat_list_cmp_total.antisymm (get_or xs 0 d).0 x.0) ∙ ap (λ o. is_lt (ordering_reverse o)) (above-at x.0 xs 0 d (and_parts _ _ h).0 (omega arith))
  rising-at (x ∷ xs) h (suc k) d lt = rising-at xs (and_parts _ _ h).1 k d (omega arith)

  sorted : (xs : List (Name × A)) → is_ascending (names_of xs) ≡ true → IsSortedBy (λ a b. is_lt (name_cmp a.0 b.0)) xs
  sorted xs h k d le lt =
      let e : suc k ≡ k + 1 = omega arith in
      subst (λ i. is_lt (name_cmp (get_or xs i d).0 (get_or xs k d).0) ≡ false) e (rising-at xs h k d (omega arith))

  beside : (xs : List (Name × A)) (n : Name) (k : ℕ) → IsPartitionPoint (λ e. name_cmp e.0 n ≡ Less) (λ e. name_cmp e.0 n ≡ Greater) xs k → (j : ℕ) (d : Name × A) → j < length xs → (j < k) ⊎ (k ≤ j) → same_name n (get_or xs j d).0 ≡ false
  beside xs n k p j d lt (inl q) = below-differs _ n (p.0 j d (omega arith) q)
  beside xs n k p j d lt (inr q) = above-differs _ n (p.1 j d q lt)

  -- where a name is that a binary search found, and that it isn't there where none was found
  pub searched : (xs : List (Name × A)) (n : Name) (r : Result ℕ ℕ) → is_ascending (names_of xs) ≡ true → IsSearchInRange r (length xs) → IsBinarySearchResult (λ e. name_cmp e.0 n) xs r → result_ok r ≡ number_in xs n
  searched [] n (Ok k) h lt found = none-below k lt
  searched (x ∷ xs) n (Ok k) h lt found =
      let ys = x ∷ xs in
      let m = (get_or ys k x).0 in
      let e : m ≡ n = exact_bytes m n (found x) in
      let there : has_name ys n ≡ true = ap (has_name ys) (sym e) ∙ ap is_some (named-at ys k x h lt) in
      let here : position n ys ≡ k = ap (λ i. position i ys) (sym e) ∙ position-at ys k x h lt in
      ap Some (sym here) ∙ ap (λ b. if b then Some (position n ys) else None) (sym there)
  searched xs n (Err k) h lt parted =
      let rising = searchable_from_sorted nat_list_cmp_total (λ e. e.0) xs n (sorted xs h) in
      let absent : named n xs ≡ None = named-absent n xs (λ j d below. beside xs n k (parted rising) j d below (cases_lt j k)) in
      ap (λ o. if is_some o then Some (position n xs) else None) (sym absent)

  -- what stands at the position of a name
  pub record IsAt (n : Name) (xs : List (Name × A)) (k : ℕ) (o : Option A) : Type 0 where
    pub below : k < length xs
    pub name : (d : Name × A) → (get_or xs k d).0 ≡ n
    pub thing : (d : Name × A) → o ≡ Some (get_or xs k d).1

  there-by : (n : Name) (x : Name × A) (xs : List (Name × A)) (b : Bool) → same_name n x.0 ≡ b → (has_name xs n ≡ true → IsAt n xs (position n xs) (named n xs)) → is_some (if b then Some x.1 else named n xs) ≡ true → IsAt n (x ∷ xs) (if b then 0 else suc (position n xs)) (if b then Some x.1 else named n xs)
  there-by n x xs true e t h = record { below = omega arith; name = λ d. sym (same_name-is n x.0 e); thing = λ d. refl }
  there-by n x xs false e t h = record { below = omega (arith, (t h).below); name = λ d. (t h).name d; thing = λ d. (t h).thing d }

  pub there : (n : Name) (xs : List (Name × A)) → has_name xs n ≡ true → IsAt n xs (position n xs) (named n xs)
  there n [] h = cc
  there n (x ∷ xs) h = there-by n x xs (same_name n x.0) refl (there n xs) h

  -- a name that has a number stands there, and one that has none isn't there
  pub number-found : (xs : List (Name × A)) (n : Name) (k : ℕ) → number_in xs n ≡ Some k → IsAt n xs k (named n xs)
  number-found xs n k e = cases (has_name xs n) refl
    where
      cases : (b : Bool) → has_name xs n ≡ b → IsAt n xs k (named n xs)
      cases false h = let f : None ≡ Some k = ap (λ b. if b then Some (position n xs) else None) (sym h) ∙ e in cc
      cases true h =
          let f : Some (position n xs) ≡ Some k = ap (λ b. if b then Some (position n xs) else None) (sym h) ∙ e in
          let g : position n xs ≡ k = cc in
          subst (λ i. IsAt n xs i (named n xs)) g (there n xs h)

  pub number-absent : (xs : List (Name × A)) (n : Name) → number_in xs n ≡ None → named n xs ≡ None
  number-absent xs n e = cases (named n xs) refl
    where
      cases : (o : Option A) → named n xs ≡ o → named n xs ≡ None
      cases None h = h
      cases (Some x) h = let f : Some (position n xs) ≡ None = ap (λ o. if is_some o then Some (position n xs) else None) (sym h) ∙ e in cc

  pub number-there : (xs : List (Name × A)) (n : Name) → has_name xs n ≡ true → number_in xs n ≡ Some (position n xs)
  number-there xs n h = ap (λ b. if b then Some (position n xs) else None) h

-- ---- a list of other things under the same names

pub position-each : {A B : Type 0} (g : A → B) (n : Name) (xs : List (Name × A)) → position n (each g xs) ≡ position n xs
position-each g n [] = refl
position-each g n (x ∷ xs) = ap (λ k. if same_name n x.0 then 0 else suc k) (position-each g n xs)
