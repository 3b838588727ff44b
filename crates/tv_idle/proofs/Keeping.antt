-- What the ready jobs keep: where one is put, and where the first is taken.
use Rattle.std.specs.Prelude.{◌≡◌, ℕ, zero, suc, ◌+◌, ◌-◌, ◌/◌, ◌<◌, ◌≤◌, List, [], ◌∷◌, ◌++◌, length, map, take, drop, nat_lt, Bool, true, false, not, ◌&&◌, if◌then◌else◌, IsPermutation, slice_get, Some, None, refl}
use Rattle.std.specs.Cmp.Lexicographic.{slice_cmp}
use Rattle.std.specs.List.{list_all}
use Rattle.std.specs.Ordering.{is_lt, nat_cmp}
use Rattle.std.proofs.Common.{arith, get_or, ap, sym, ◌∙◌, inl, inr}
use Rattle.std.proofs.Math.ListN.{get_or-append}
use Rattle.std.proofs.lemmas.Bool.{cases_eq, lt-ltb, ltb-true, and_parts}
use Rattle.std.proofs.lemmas.List.{append-nil, drop_all, get_or_at, length-append, take_all}
use Rattle.std.proofs.lemmas.List.Folds.{list_all-append}
use Rattle.std.proofs.lemmas.List.Sorted.{IsPermutation-append_comm, IsPermutation-append_right, IsPermutation-cons, IsPermutation-refl, IsPermutation-trans}
use Rattle.tv_idle.specs.Heaps.{IsHeap, IsHeapButLast}
use Rattle.tv_idle.specs.Laid.{is_late_first, rises}
use Rattle.tv_idle.specs.Listed.{with_job}
use Rattle.tv_idle.specs.Orders.{are_within, in_order, inserted, is_before, job_at, job_cmp, place_at}
use Rattle.tv_idle.proofs.Comparing.{before-order, later-last, tie}
use Rattle.tv_idle.proofs.Sorting.{all-by, all-in_order, all-same, first-in_order, itself, none_before, onward, same-order}

-- ---- lists by position

pub all-at : (p : ℕ → Bool) (xs : List ℕ) → ((k : ℕ) → k < length xs → p (get_or xs k 0) ≡ true) → list_all p xs ≡ true
all-at p [] h = refl
all-at p (x ∷ xs) h = ap (λ b. b && list_all p xs) (h 0 (omega arith)) ∙ all-at p xs (λ k lt. h (suc k) (omega arith))

pub at-all : (p : ℕ → Bool) (xs : List ℕ) (k : ℕ) → list_all p xs ≡ true → k < length xs → p (get_or xs k 0) ≡ true
at-all p [] k h lt = absurd (omega arith)
at-all p (x ∷ xs) zero h lt = (and_parts (p x) (list_all p xs) h).0
at-all p (x ∷ xs) (suc k) h lt = at-all p xs k (and_parts (p x) (list_all p xs) h).1 (omega arith)

pub to-front : (xs : List ℕ) (x : ℕ) (ys : List ℕ) → IsPermutation (xs ++ x ∷ ys) (x ∷ (xs ++ ys))
to-front xs x ys =
    IsPermutation-trans (xs ++ x ∷ ys) (x ∷ (ys ++ xs)) (x ∷ (xs ++ ys)) (IsPermutation-append_comm xs (x ∷ ys)) (IsPermutation-cons x (ys ++ xs) (xs ++ ys) (IsPermutation-append_comm ys xs))

-- ---- the top of a heap

module _ (jobs : List (ℕ × List ℕ)) where
  abbrev lt : ℕ → ℕ → Bool
  lt = is_before jobs

  top-by : (xs : List ℕ) → IsHeap jobs xs → (fuel k : ℕ) → k ≤ fuel → k < length xs → is_before jobs (get_or xs k 0) (get_or xs 0 0) ≡ false
  top-by xs h zero k a b = let e : k ≡ 0 = omega arith in ap (λ i. is_before jobs (get_or xs i 0) (get_or xs 0 0)) e ∙ itself (is_before jobs) (before-order jobs) (get_or xs 0 0)
  top-by xs h (suc fuel) k a b =
      elim (cases_eq k 0) [
        | inl e ↦ ap (λ i. is_before jobs (get_or xs i 0) (get_or xs 0 0)) e ∙ itself (is_before jobs) (before-order jobs) (get_or xs 0 0)
        | inr ne ↦
            (before-order jobs).chain (get_or xs k 0) (get_or xs ((k - 1) / 2) 0) (get_or xs 0 0)
            (h ((k - 1) / 2) k (omega (arith, ne)) (omega (arith, ne)) b)
            (top-by xs h fuel ((k - 1) / 2) (omega (arith, ne)) (omega (arith, ne)))
      ]

  pub heap-top : (xs : List ℕ) → IsHeap jobs xs → none_before (is_before jobs) (get_or xs 0 0) xs ≡ true
  heap-top xs h = all-at (λ y. not (is_before jobs y (get_or xs 0 0))) xs (λ k lt. ap (λ b. not b) (top-by xs h k k (omega arith) lt))

  -- ---- the first

  -- those that x stands before don't stand before it
  not-before : (x : ℕ) (xs : List ℕ) → list_all (is_before jobs x) xs ≡ true → none_before (is_before jobs) x xs ≡ true
  not-before x xs h = all-by (is_before jobs x) (λ y. not (is_before jobs y x)) xs (λ y e. ap (λ b. not b) ((before-order jobs).one_way x y e)) h

  queue-after : (queue : List ℕ) (t : ℕ) (ts : List ℕ) → rises (is_before jobs) queue ≡ true → is_late_first jobs queue (t ∷ ts) ≡ true → none_before (is_before jobs) t queue ≡ true
  queue-after [] t ts r h = refl
  queue-after (q ∷ qs) t ts r h =
      ap (λ b. not b && none_before (is_before jobs) t qs) ((before-order jobs).one_way t q h)
      ∙ not-before t qs (all-by (is_before jobs q) (is_before jobs t) qs (λ y e. onward (is_before jobs) (before-order jobs) t q y h e) (and_parts (list_all (is_before jobs q) qs) (rises (is_before jobs) qs) r).0)

  -- it came late: `rest` is the heap without it
  pub late-first : (queue late rest : List ℕ) → rises (is_before jobs) queue ≡ true → IsHeap jobs late → is_late_first jobs queue late ≡ true
      → IsPermutation late (get_or late 0 0 ∷ rest) → in_order (is_before jobs) (queue ++ late) ≡ get_or late 0 0 ∷ in_order (is_before jobs) (queue ++ rest)
  late-first queue [] rest r heap h p = late-none queue h
    where
      late-none : (queue : List ℕ) → is_late_first jobs queue [] ≡ true → in_order (is_before jobs) (queue ++ []) ≡ 0 ∷ in_order (is_before jobs) (queue ++ rest)
      late-none queue e = cc
  late-first queue (t ∷ ts) rest r heap h p =
      let late = t ∷ ts in
      let moved : IsPermutation (queue ++ late) (t ∷ (queue ++ rest)) =
      IsPermutation-trans (queue ++ late) (queue ++ t ∷ rest) (t ∷ (queue ++ rest)) (IsPermutation-append_right queue late (t ∷ rest) p) (to-front queue t rest)
      in
      let others : none_before (is_before jobs) t rest ≡ true = (and_parts (not (is_before jobs t t)) (none_before (is_before jobs) t rest) (all-same (λ y. not (is_before jobs y t)) late (t ∷ rest) p (heap-top late heap))).1 in
      let none : none_before (is_before jobs) t (queue ++ rest) ≡ true =
      list_all-append (λ y. not (is_before jobs y t)) queue rest
      ∙ ap (λ b. b && none_before (is_before jobs) t rest) (queue-after queue t ts r h)
      ∙ others
      in
      same-order (is_before jobs) (before-order jobs) (tie jobs) (queue ++ late) (t ∷ (queue ++ rest)) moved ∙ first-in_order (is_before jobs) (before-order jobs) (tie jobs) t (queue ++ rest) none

  late-after : (q : ℕ) (qs late : List ℕ) → IsHeap jobs late → is_late_first jobs (q ∷ qs) late ≡ false → none_before (is_before jobs) q late ≡ true
  late-after q qs [] heap h = refl
  late-after q qs (t ∷ ts) heap h =
      all-by (λ y. not (is_before jobs y t)) (λ y. not (is_before jobs y q)) (t ∷ ts) (λ y e. ap (λ b. not b) ((before-order jobs).chain y t q (is-false (is_before jobs y t) e) h)) (heap-top (t ∷ ts) heap)
    where
      is-false : (b : Bool) → not b ≡ true → b ≡ false
      is-false true e = cc
      is-false false e = refl

  -- it came in order
  pub queue-first : (q : ℕ) (qs late : List ℕ) → rises (is_before jobs) (q ∷ qs) ≡ true → IsHeap jobs late → is_late_first jobs (q ∷ qs) late ≡ false
      → in_order (is_before jobs) ((q ∷ qs) ++ late) ≡ q ∷ in_order (is_before jobs) (qs ++ late)
  queue-first q qs late r heap h =
      let none : none_before (is_before jobs) q (qs ++ late) ≡ true =
      list_all-append (λ y. not (is_before jobs y q)) qs late
      ∙ ap (λ b. b && none_before (is_before jobs) q late) (not-before q qs (and_parts (list_all (is_before jobs q) qs) (rises (is_before jobs) qs) r).0)
      ∙ late-after q qs late heap h
      in
      first-in_order (is_before jobs) (before-order jobs) (tie jobs) q (qs ++ late) none

  -- one more at the end of a queue
  pub rises-more : (qs : List ℕ) (n : ℕ) → rises (is_before jobs) qs ≡ true → list_all (λ s. is_before jobs s n) qs ≡ true → rises (is_before jobs) (qs ++ n ∷ []) ≡ true
  rises-more [] n r h = refl
  rises-more (q ∷ qs) n r h =
      let a = and_parts (list_all (is_before jobs q) qs) (rises (is_before jobs) qs) r in
      let b = and_parts (is_before jobs q n) (list_all (λ s. is_before jobs s n) qs) h in
      ap (λ c. c && rises (is_before jobs) (qs ++ n ∷ []))
      (list_all-append (is_before jobs q) qs (n ∷ []) ∙ ap (λ c. c && (is_before jobs q n && true)) a.0 ∙ ap (λ c. c && true) b.0)
      ∙ rises-more qs n a.1 b.1

  pub rises-at : (qs : List ℕ) (i k : ℕ) → rises (is_before jobs) qs ≡ true → i < k → k < length qs → is_before jobs (get_or qs i 0) (get_or qs k 0) ≡ true
  rises-at [] i k r a b = absurd (omega arith)
  rises-at (q ∷ qs) i zero r a b = absurd (omega arith)
  rises-at (q ∷ qs) zero (suc k) r a b = at-all (is_before jobs q) qs k (and_parts (list_all (is_before jobs q) qs) (rises (is_before jobs) qs) r).0 (omega arith)
  rises-at (q ∷ qs) (suc i) (suc k) r a b = rises-at qs i k (and_parts (list_all (is_before jobs q) qs) (rises (is_before jobs) qs) r).1 (omega arith) (omega arith)

  -- all of a queue stand before what its last stands before
  pub last-all : (qs : List ℕ) (k n : ℕ) → rises (is_before jobs) qs ≡ true → k + 1 ≡ length qs → is_before jobs (get_or qs k 0) n ≡ true → list_all (λ s. is_before jobs s n) qs ≡ true
  last-all qs k n r last h =
      all-at (λ s. is_before jobs s n) qs (λ i inside.
      elim (cases_eq i k) [
        | inl e ↦ ap (λ m. is_before jobs (get_or qs m 0) n) e ∙ h
        | inr ne ↦ onward (is_before jobs) (before-order jobs) (get_or qs i 0) (get_or qs k 0) n (rises-at qs i k r (omega (arith, ne, last, inside)) (omega (arith, last))) h
      ])

-- ---- one more job

module _ (jobs : List (ℕ × List ℕ)) (j : ℕ × List ℕ) where
  abbrev more : List (ℕ × List ℕ)
  more = jobs ++ j ∷ []

  abbrev within : ℕ → Bool
  within s = nat_lt s (length jobs)

  same-job : (s : ℕ) → within s ≡ true → job_at more s ≡ job_at jobs s
  same-job s h = get_or-append jobs (j ∷ []) (0, []) s (ltb-true s (length jobs) h)

  new-job : job_at more (length jobs) ≡ j
  new-job = get_or_at jobs j [] (0, []) (length jobs) refl

  pub same-before : (s t : ℕ) → within s ≡ true → within t ≡ true → is_before more s t ≡ is_before jobs s t
  same-before s t h g =
      ap (λ p. is_lt (job_cmp (p.1, s) (place_at more t, t))) (same-job s h) ∙ ap (λ p. is_lt (job_cmp (place_at jobs s, s) (p.1, t))) (same-job t g)

  inserted-agree : (x : ℕ) (xs : List ℕ) → within x ≡ true → list_all within xs ≡ true → inserted (is_before more) x xs ≡ inserted (is_before jobs) x xs
  inserted-agree x [] h g = refl
  inserted-agree x (y ∷ ys) h g =
      let b = and_parts (within y) (list_all within ys) g in
      ap (λ c. if c then x ∷ y ∷ ys else y ∷ inserted (is_before more) x ys) (same-before x y h b.0)
      ∙ ap (λ zs. if is_before jobs x y then x ∷ y ∷ ys else y ∷ zs) (inserted-agree x ys h b.1)

  order-agree : (xs : List ℕ) → list_all within xs ≡ true → in_order (is_before more) xs ≡ in_order (is_before jobs) xs
  order-agree [] h = refl
  order-agree (x ∷ xs) h =
      let b = and_parts (within x) (list_all within xs) h in
      ap (inserted (is_before more) x) (order-agree xs b.1) ∙ inserted-agree x (in_order (is_before jobs) xs) b.0 (all-in_order (is_before jobs) within xs b.1)

  map-agree : (xs : List ℕ) → list_all within xs ≡ true → map (job_at more) xs ≡ map (job_at jobs) xs
  map-agree [] h = refl
  map-agree (x ∷ xs) h =
      let b = and_parts (within x) (list_all within xs) h in
      ap (λ k. k ∷ map (job_at more) xs) (same-job x b.0) ∙ ap (λ ks. job_at jobs x ∷ ks) (map-agree xs b.1)

  put-by : (c : Bool) (z : ℕ) (zs : List ℕ) → job_at more z ≡ job_at jobs z → map (job_at more) zs ≡ map (job_at jobs) zs
      → map (job_at more) (inserted (is_before more) (length jobs) zs) ≡ with_job j (map (job_at jobs) zs)
      → map (job_at more) (if c then length jobs ∷ z ∷ zs else z ∷ inserted (is_before more) (length jobs) zs)
      ≡ (if c then j ∷ job_at jobs z ∷ map (job_at jobs) zs else job_at jobs z ∷ with_job j (map (job_at jobs) zs))
  put-by true z zs same rest ins = ap (λ k. k ∷ job_at more z ∷ map (job_at more) zs) new-job ∙ ap (λ k. j ∷ k ∷ map (job_at more) zs) same ∙ ap (λ ks. j ∷ job_at jobs z ∷ ks) rest
  put-by false z zs same rest ins = ap (λ k. k ∷ map (job_at more) (inserted (is_before more) (length jobs) zs)) same ∙ ap (λ ks. job_at jobs z ∷ ks) ins

  put-inserted : (zs : List ℕ) → list_all within zs ≡ true → map (job_at more) (inserted (is_before more) (length jobs) zs) ≡ with_job j (map (job_at jobs) zs)
  put-inserted [] h = ap (λ k. k ∷ []) new-job
  put-inserted (z ∷ zs) h =
      let b = and_parts (within z) (list_all within zs) h in
      let test : is_before more (length jobs) z ≡ is_lt (slice_cmp nat_cmp j.1 (job_at jobs z).1) =
      ap (λ p. is_lt (job_cmp (p.1, length jobs) (place_at more z, z))) new-job
      ∙ ap (λ p. is_lt (job_cmp (j.1, length jobs) (p.1, z))) (same-job z b.0)
      ∙ later-last (slice_cmp nat_cmp j.1 (job_at jobs z).1) (length jobs) z (ltb-true z (length jobs) b.0)
      in
      ap (λ c. map (job_at more) (if c then length jobs ∷ z ∷ zs else z ∷ inserted (is_before more) (length jobs) zs)) test
      ∙ put-by (is_lt (slice_cmp nat_cmp j.1 (job_at jobs z).1)) z zs (same-job z b.0) (map-agree zs b.1) (put-inserted zs b.1)

  -- wherever it was put
  pub put-listed : (old new : List ℕ) → list_all within old ≡ true → IsPermutation new (length jobs ∷ old) → map (job_at more) (in_order (is_before more) new) ≡ with_job j (map (job_at jobs) (in_order (is_before jobs) old))
  put-listed old new h p =
      ap (map (job_at more)) (same-order (is_before more) (before-order more) (tie more) new (length jobs ∷ old) p ∙ ap (inserted (is_before more) (length jobs)) (order-agree old h))
      ∙ put-inserted (in_order (is_before jobs) old) (all-in_order (is_before jobs) within old h)

  -- ---- the others stay as they were

  many : length more ≡ length jobs + 1
  many = length-append jobs (j ∷ [])

  pub within-more : (xs : List ℕ) → list_all within xs ≡ true → are_within more xs ≡ true
  within-more xs h = all-by within (λ s. nat_lt s (length more)) xs (λ s e. let a = ltb-true s (length jobs) e in let b = many in lt-ltb s (length more) (omega (arith, a, b))) h

  pub new-within : nat_lt (length jobs) (length more) ≡ true
  new-within = let b = many in lt-ltb (length jobs) (length more) (omega (arith, b))

  pub before-more : (s : ℕ) (xs : List ℕ) → within s ≡ true → list_all within xs ≡ true → list_all (is_before jobs s) xs ≡ true → list_all (is_before more s) xs ≡ true
  before-more s [] h g e = refl
  before-more s (x ∷ xs) h g e =
      let b = and_parts (within x) (list_all within xs) g in
      let d = and_parts (is_before jobs s x) (list_all (is_before jobs s) xs) e in
      ap (λ c. c && list_all (is_before more s) xs) (same-before s x h b.0 ∙ d.0) ∙ before-more s xs h b.1 d.1

  pub rises-agree : (xs : List ℕ) → list_all within xs ≡ true → rises (is_before jobs) xs ≡ true → rises (is_before more) xs ≡ true
  rises-agree [] h e = refl
  rises-agree (x ∷ xs) h e =
      let b = and_parts (within x) (list_all within xs) h in
      let d = and_parts (list_all (is_before jobs x) xs) (rises (is_before jobs) xs) e in
      ap (λ c. c && rises (is_before more) xs) (before-more x xs b.0 b.1 d.0) ∙ rises-agree xs b.1 d.1

  pub heap-agree : (xs : List ℕ) → list_all within xs ≡ true → IsHeap jobs xs → IsHeap more xs
  heap-agree xs h e p k a b c = same-before (get_or xs k 0) (get_or xs p 0) (at-all within xs k h c) (at-all within xs p h (omega arith)) ∙ e p k a b c

  pub heap-push : (xs : List ℕ) (n : ℕ) → list_all within xs ≡ true → IsHeap jobs xs → IsHeapButLast more (xs ++ n ∷ [])
  heap-push xs n h e p k a b c =
      let l = length-append xs (n ∷ []) in
      let inside : k < length xs = omega (arith, l, c) in
      ap (λ m. is_before more m (get_or (xs ++ n ∷ []) p 0)) (get_or-append xs (n ∷ []) 0 k inside)
      ∙ ap (is_before more (get_or xs k 0)) (get_or-append xs (n ∷ []) 0 p (omega arith))
      ∙ heap-agree xs h e p k a b inside

-- ---- what comes first

module _ (jobs : List (ℕ × List ℕ)) where
  pub late-some : (queue late : List ℕ) → is_late_first jobs queue late ≡ true → 0 < length late
  late-some queue [] h = none-late queue h
    where
      none-late : (queue : List ℕ) → is_late_first jobs queue [] ≡ true → 0 < 0
      none-late queue e = cc
  late-some queue (t ∷ ts) h = omega arith

  pub late-head : (queue late : List ℕ) → rises (is_before jobs) queue ≡ true → IsHeap jobs late → is_late_first jobs queue late ≡ true
      → slice_get (map (job_at jobs) (in_order (is_before jobs) (queue ++ late))) 0 ≡ Some (job_at jobs (get_or late 0 0))
  late-head queue [] r heap h = let z : 0 < 0 = late-some queue [] h in absurd (omega (arith, z))
  late-head queue (t ∷ ts) r heap h =
      ap (λ ss. slice_get (map (job_at jobs) ss) 0) (late-first jobs queue (t ∷ ts) ts r heap h (IsPermutation-refl (t ∷ ts)))

  pub queue-head : (queue late : List ℕ) (q : ℕ) → 0 < length queue → q ≡ get_or queue 0 q → rises (is_before jobs) queue ≡ true → IsHeap jobs late → is_late_first jobs queue late ≡ false
      → slice_get (map (job_at jobs) (in_order (is_before jobs) (queue ++ late))) 0 ≡ Some (job_at jobs q)
  queue-head [] late q some is r heap h = absurd (omega arith)
  queue-head (p ∷ qs) late q some is r heap h =
      ap (λ ss. slice_get (map (job_at jobs) ss) 0) (queue-first jobs p qs late r heap h) ∙ ap (λ s. Some (job_at jobs s)) (sym is)

  pub none-first : (queue late : List ℕ) → length queue ≡ 0 → is_late_first jobs queue late ≡ false → slice_get (map (job_at jobs) (in_order (is_before jobs) (queue ++ late))) 0 ≡ None
  none-first [] [] z h = refl
  none-first [] (t ∷ ts) z h = cc
  none-first (q ∷ qs) late z h = absurd (omega arith)

  pub queue-tail : (queue late : List ℕ) → rises (is_before jobs) queue ≡ true → IsHeap jobs late → is_late_first jobs queue late ≡ false
      → map (job_at jobs) (in_order (is_before jobs) (drop 1 queue ++ late)) ≡ drop 1 (map (job_at jobs) (in_order (is_before jobs) (queue ++ late)))
  queue-tail [] [] r heap h = refl
  queue-tail [] (t ∷ ts) r heap h = cc
  queue-tail (q ∷ qs) late r heap h = sym (ap (λ ss. drop 1 (map (job_at jobs) ss)) (queue-first jobs q qs late r heap h))

-- ---- lists of the code

-- a slice of all of a vector, written back
pub written-back : (xs ys : List ℕ) (n : ℕ) → length xs ≡ length ys → n ≡ length ys → take n (xs ++ drop (length xs) ys) ≡ xs
written-back xs ys n same e =
    ap (λ zs. take n (xs ++ zs)) (drop_all (length xs) ys (omega (arith, same)))
    ∙ ap (take n) (append-nil xs)
    ∙ take_all n xs (omega (arith, same, e))
