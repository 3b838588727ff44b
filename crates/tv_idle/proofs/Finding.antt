-- The first of those that are looked for: in parts of a list, and in a list in order.
use Rattle.std.specs.Prelude.{◌≡◌, ℕ, zero, suc, ◌+◌, ◌<◌, ◌≤◌, ◌==◌, ◌&&◌, ◌||◌, not, nat_lt, Bool, true, false, List, [], ◌∷◌, ◌++◌, filter, length, map, option_map, slice_get, take, Option, Some, None, cond, if◌then◌else◌, refl}
use Rattle.std.specs.Cmp.{IsStrictWeakOrder}
use Rattle.std.specs.Cmp.Lexicographic.{slice_cmp}
use Rattle.std.specs.Ordering.{is_lt, nat_cmp}
use Rattle.std.specs.List.{list_all, list_any}
use Rattle.std.specs.Option.{ForSome}
use Rattle.std.proofs.Common.{arith, get_or, ap, sym, ◌∙◌, ◌⊎◌, inl, inr}
use Rattle.std.proofs.lemmas.Bool.{cases_eq, eq-eqb, eqb-true, ltb-false, ltb-true, and_parts, not-true, or_cases, or_right}
use Rattle.std.proofs.lemmas.Cmp.{nat_list_cmp_total}
use Rattle.std.proofs.lemmas.List.MinMax.{ranks_by}
use Rattle.std.proofs.lemmas.List.Folds.{list_all-append, list_any-append}
use Rattle.std.proofs.lemmas.Option.{slice_get-map}
use Rattle.tv_lemmas.proofs.Lists.{filter-map}
use Rattle.tv_lemmas.proofs.Orderings.{then-not_reversed}
use Rattle.tv_idle.specs.Laid.{rises}
use Rattle.tv_idle.specs.Orders.{are_within, in_order, inserted, is_before, job_at, place_at}
use Rattle.tv_idle.specs.Sought.{IsFirst, is_sought, is_sought_at, lesser, sought, stands_after}
use Rattle.tv_idle.proofs.Comparing.{before-order, tie}
use Rattle.tv_idle.proofs.Keeping.{all-at, rises-at}
use Rattle.tv_idle.proofs.Sorting.{IsOrdered, all-in_order, in_order-ordered, itself, none_before, onward}

-- ---- tests

-- one that doesn't pass is no matter
not-passed : (p b : Bool) → not p ≡ true → not (p && b) ≡ true
not-passed true b e = cc
not-passed false b e = refl

-- one test implies another
weaker : (p a b : Bool) → (b ≡ true → a ≡ true) → not (p && a) ≡ true → not (p && b) ≡ true
weaker true a true h e = ap (λ c. not c) (sym (h refl)) ∙ e
weaker true a false h e = refl
weaker false a b h e = refl

all-weaker : (p a b : ℕ → Bool) (xs : List ℕ) → ((x : ℕ) → b x ≡ true → a x ≡ true) → list_all (λ x. not (p x && a x)) xs ≡ true → list_all (λ x. not (p x && b x)) xs ≡ true
all-weaker p a b [] h e = refl
all-weaker p a b (x ∷ xs) h e =
    let w = and_parts (not (p x && a x)) (list_all (λ x. not (p x && a x)) xs) e in
    ap (λ c. c && list_all (λ x. not (p x && b x)) xs) (weaker (p x) (a x) (b x) (h x) w.0) ∙ all-weaker p a b xs h w.1

all-not-passed : (p b : ℕ → Bool) (xs : List ℕ) → list_all (λ x. not (p x)) xs ≡ true → list_all (λ x. not (p x && b x)) xs ≡ true
all-not-passed p b [] e = refl
all-not-passed p b (x ∷ xs) e =
    let w = and_parts (not (p x)) (list_all (λ x. not (p x)) xs) e in
    ap (λ c. c && list_all (λ x. not (p x && b x)) xs) (not-passed (p x) (b x) w.0) ∙ all-not-passed p b xs w.1

filter-none : (p : ℕ → Bool) (xs : List ℕ) → list_all (λ x. not (p x)) xs ≡ true → filter p xs ≡ []
filter-none p [] e = refl
filter-none p (x ∷ xs) e =
    let w = and_parts (not (p x)) (list_all (λ x. not (p x)) xs) e in
    ap (λ b. cond b (x ∷ filter p xs) (filter p xs)) (not-true (p x) w.0) ∙ filter-none p xs w.1

module _ (lt : ℕ → ℕ → Bool) (o : IsStrictWeakOrder lt) where
  -- ---- of two lists

  pub first-both : (p : ℕ → Bool) (xs ys : List ℕ) (a b : Option ℕ) → IsFirst lt p xs a → IsFirst lt p ys b → IsFirst lt p (xs ++ ys) (lesser lt a b)
  first-both p xs ys None None f g = list_all-append (λ s. not (p s)) xs ys ∙ ap (λ c. c && list_all (λ s. not (p s)) ys) f ∙ g
  first-both p xs ys None (Some t) f g = (
    list_any-append (λ s. s == t) xs ys ∙ or_right (list_any (λ s. s == t) xs) (list_any (λ s. s == t) ys) g.0,
    g.1,
    list_all-append (λ s. not (p s && lt s t)) xs ys ∙ ap (λ c. c && list_all (λ s. not (p s && lt s t)) ys) (all-not-passed p (λ s. lt s t) xs f) ∙ g.2,
  )
  first-both p xs ys (Some s) None f g = (
    list_any-append (λ x. x == s) xs ys ∙ ap (λ c. c || list_any (λ x. x == s) ys) f.0,
    f.1,
    list_all-append (λ x. not (p x && lt x s)) xs ys ∙ ap (λ c. c && list_all (λ x. not (p x && lt x s)) ys) f.2 ∙ all-not-passed p (λ x. lt x s) ys g,
  )
  first-both p xs ys (Some s) (Some t) f g = by (lt t s) refl
    where
      by : (c : Bool) → lt t s ≡ c → IsFirst lt p (xs ++ ys) (if c then Some t else Some s)
      by true e = (
        list_any-append (λ x. x == t) xs ys ∙ or_right (list_any (λ x. x == t) xs) (list_any (λ x. x == t) ys) g.0,
        g.1,
        list_all-append (λ x. not (p x && lt x t)) xs ys
            ∙ ap (λ c. c && list_all (λ x. not (p x && lt x t)) ys) (all-weaker p (λ x. lt x s) (λ x. lt x t) xs (λ x h. onward lt o x t s h e) f.2)
            ∙ g.2,
      )
      by false e = (
        list_any-append (λ x. x == s) xs ys ∙ ap (λ c. c || list_any (λ x. x == s) ys) f.0,
        f.1,
        list_all-append (λ x. not (p x && lt x s)) xs ys
            ∙ ap (λ c. c && list_all (λ x. not (p x && lt x s)) ys) f.2
            ∙ all-weaker p (λ x. lt x t) (λ x. lt x s) ys (λ x h. later x h) g.2,
      )
        where
          later : (x : ℕ) → lt x s ≡ true → lt x t ≡ true
          later x h = at (lt x t) refl
            where
              at : (b : Bool) → lt x t ≡ b → lt x t ≡ true
              at true u = u
              at false u = let f : false ≡ true = sym (o.chain x t s u e) ∙ h in cc

  -- of one alone
  pub first-one : (p : ℕ → Bool) (x : ℕ) → IsFirst lt p (x ∷ []) (if p x then Some x else None)
  first-one p x = by (p x) refl
    where
      by : (b : Bool) → p x ≡ b → IsFirst lt p (x ∷ []) (if b then Some x else None)
      by true e = (
        ap (λ b. b || false) (eq-eqb x x refl),
        e,
        ap (λ b. not (p x && b) && true) (itself lt o x) ∙ never (p x),
      )
        where
          never : (b : Bool) → (not (b && false) && true) ≡ true
          never true = refl
          never false = refl
      by false e = ap (λ b. not b && true) e

  -- ---- in a list in order

  any-inserted : (q : ℕ → Bool) (x : ℕ) (xs : List ℕ) → list_any q (x ∷ xs) ≡ true → list_any q (inserted lt x xs) ≡ true
  any-inserted q x [] e = e
  any-inserted q x (y ∷ ys) e = by (lt x y) (any-inserted q x ys)
    where
      by : (b : Bool) → (list_any q (x ∷ ys) ≡ true → list_any q (inserted lt x ys) ≡ true) → list_any q (if b then x ∷ y ∷ ys else y ∷ inserted lt x ys) ≡ true
      by true r = e
      by false r =
          elim (or_cases (q x) (q y || list_any q ys) e) [
            | inl h ↦ or_right (q y) (list_any q (inserted lt x ys)) (r (ap (λ b. b || list_any q ys) h))
            | inr h ↦
                elim (or_cases (q y) (list_any q ys) h) [
                  | inl g ↦ ap (λ b. b || list_any q (inserted lt x ys)) g
                  | inr g ↦ or_right (q y) (list_any q (inserted lt x ys)) (r (or_right (q x) (list_any q ys) g))
                ]
          ]

  any-in_order : (q : ℕ → Bool) (xs : List ℕ) → list_any q xs ≡ true → list_any q (in_order lt xs) ≡ true
  any-in_order q [] e = e
  any-in_order q (x ∷ xs) e =
      any-inserted q x (in_order lt xs)
      (elim (or_cases (q x) (list_any q xs) e) [
        | inl h ↦ ap (λ b. b || list_any q (in_order lt xs)) h
        | inr h ↦ or_right (q x) (list_any q (in_order lt xs)) (any-in_order q xs h)
      ])

  module _ (same : (a b : ℕ) → lt a b ≡ false → lt b a ≡ false → a ≡ b) where
    ordered-first : (p : ℕ → Bool) (m : ℕ) (ys : List ℕ) → IsOrdered lt ys → list_any (λ s. s == m) ys ≡ true → p m ≡ true
        → list_all (λ s. not (p s && lt s m)) ys ≡ true → slice_get (filter p ys) 0 ≡ Some m
    ordered-first p m [] r e h n = cc
    ordered-first p m (y ∷ ys) r e h n =
        by (p y) refl (or_cases (y == m) (list_any (λ s. s == m) ys) e)
        (λ i. ordered-first p m ys r.1 i h (and_parts (not (p y && lt y m)) (list_all (λ s. not (p s && lt s m)) ys) n).1)
      where
        w : (not (p y && lt y m) ≡ true) × (list_all (λ s. not (p s && lt s m)) ys ≡ true)
        w = and_parts (not (p y && lt y m)) (list_all (λ s. not (p s && lt s m)) ys) n

        among : (zs : List ℕ) → none_before lt y zs ≡ true → list_any (λ s. s == m) zs ≡ true → lt m y ≡ false
        among [] a b = cc
        among (z ∷ zs) a b =
            let c = and_parts (not (lt z y)) (none_before lt y zs) a in
            elim (or_cases (z == m) (list_any (λ s. s == m) zs) b) [
              | inl i ↦ ap (λ x. lt x y) (sym (eqb-true z m i)) ∙ not-true (lt z y) c.0
              | inr i ↦ among zs c.1 i
            ]

        open-test : (b c : Bool) → b ≡ true → not (b && c) ≡ true → c ≡ false
        open-test true c f g = not-true c g
        open-test false c f g = cc

        by : (b : Bool) → p y ≡ b → (((y == m) ≡ true) ⊎ (list_any (λ s. s == m) ys ≡ true)) → (list_any (λ s. s == m) ys ≡ true → slice_get (filter p ys) 0 ≡ Some m)
            → slice_get (cond b (y ∷ filter p ys) (filter p ys)) 0 ≡ Some m
        by true f (inl i) rest = ap Some (eqb-true y m i)
        by true f (inr i) rest = ap Some (same y m (open-test (p y) (lt y m) f w.0) (among ys r.0 i))
        by false f (inl i) rest = let g : false ≡ true = sym f ∙ ap p (eqb-true y m i) ∙ h in cc
        by false f (inr i) rest = rest i

    pub first-of-order : (p : ℕ → Bool) (ss : List ℕ) (m : Option ℕ) → IsFirst lt p ss m → slice_get (filter p (in_order lt ss)) 0 ≡ m
    first-of-order p ss None f = ap (λ l. slice_get l 0) (filter-none p (in_order lt ss) (all-in_order lt (λ s. not (p s)) ss f))
    first-of-order p ss (Some m) f =
        ordered-first p m (in_order lt ss) (in_order-ordered lt o ss) (any-in_order (λ s. s == m) ss f.0) f.1 (all-in_order lt (λ s. not (p s && lt s m)) ss f.2)

-- one that is the first stands among them
pub first-within : (lt : ℕ → ℕ → Bool) (p : ℕ → Bool) (n : ℕ) (ss : List ℕ) (m : Option ℕ) → list_all (λ s. nat_lt s n) ss ≡ true → IsFirst lt p ss m → ForSome m (λ s. s < n)
first-within lt p n ss None h f x e = cc
first-within lt p n ss (Some m) h f x e = let same : m ≡ x = cc in let l = inside ss h f.0 in omega (arith, same, l)
  where
    inside : (xs : List ℕ) → list_all (λ s. nat_lt s n) xs ≡ true → list_any (λ s. s == m) xs ≡ true → m < n
    inside [] a b = cc
    inside (x ∷ xs) a b =
        let c = and_parts (nat_lt x n) (list_all (λ s. nat_lt s n) xs) a in
        elim (or_cases (x == m) (list_any (λ s. s == m) xs) b) [
          | inl i ↦ let e = eqb-true x m i in let l = ltb-true x n c.0 in omega (arith, e, l)
          | inr i ↦ inside xs c.1 i
        ]

pub all-taken : (p : ℕ → Bool) (k : ℕ) (xs : List ℕ) → list_all p xs ≡ true → list_all p (take k xs) ≡ true
all-taken p zero xs h = refl
all-taken p (suc k) [] h = refl
all-taken p (suc k) (x ∷ xs) h = let w = and_parts (p x) (list_all p xs) h in ap (λ b. b && list_all p (take k xs)) w.0 ∙ all-taken p k xs w.1

pub some-within : (jobs : List (ℕ × List ℕ)) (p : ℕ → Bool) (xs ys : List ℕ) (a b : Option ℕ) (m : ℕ) → are_within jobs xs ≡ true → are_within jobs ys ≡ true
    → IsFirst (is_before jobs) p xs a → IsFirst (is_before jobs) p ys b → lesser (is_before jobs) a b ≡ Some m → m < length jobs
some-within jobs p xs ys a b m h g f e is =
    first-within (is_before jobs) p (length jobs) (xs ++ ys) (lesser (is_before jobs) a b) (list_all-append (λ s. nat_lt s (length jobs)) xs ys ∙ ap (λ c. c && list_all (λ s. nat_lt s (length jobs)) ys) h ∙ g)
    (first-both (is_before jobs) (before-order jobs) p xs ys a b f e) m is

-- ---- in a queue

any-at : (xs : List ℕ) (k : ℕ) → k < length xs → list_any (λ s. s == get_or xs k 0) xs ≡ true
any-at [] k l = absurd (omega arith)
any-at (x ∷ xs) zero l = ap (λ b. b || list_any (λ s. s == x) xs) (eq-eqb x x refl)
any-at (x ∷ xs) (suc k) l = or_right (x == get_or xs k 0) (list_any (λ s. s == get_or xs k 0) xs) (any-at xs k (omega arith))

abbrev pub places : IsStrictWeakOrder stands_after
places = ranks_by nat_list_cmp_total (λ (p : List ℕ). p)

module _ (jobs : List (ℕ × List ℕ)) where
  earlier-place : (s t : ℕ) → is_before jobs s t ≡ true → stands_after (place_at jobs t) (place_at jobs s) ≡ false
  earlier-place s t h =
      ap is_lt (nat_list_cmp_total.antisymm (place_at jobs t) (place_at jobs s)) ∙ then-not_reversed (slice_cmp nat_cmp (place_at jobs s) (place_at jobs t)) (nat_cmp s t) h

  -- those before one that doesn't stand after a place don't either
  pub none-after : (p qs : List ℕ) (m k : ℕ) → rises (is_before jobs) qs ≡ true → m < length qs → stands_after p (place_at jobs (get_or qs m 0)) ≡ false
      → k < m + 1 → stands_after p (place_at jobs (get_or qs k 0)) ≡ false
  none-after p qs m k r inside h l =
      elim (cases_eq k m) [
        | inl e ↦ ap (λ i. stands_after p (place_at jobs (get_or qs i 0))) e ∙ h
        | inr n ↦
            places.chain p (place_at jobs (get_or qs m 0)) (place_at jobs (get_or qs k 0)) h
            (earlier-place (get_or qs k 0) (get_or qs m 0) (rises-at jobs qs k m r (omega (arith, l, n)) inside))
      ]

  pub queue-found : (p : ℕ → Bool) (qs : List ℕ) (k m : ℕ) → rises (is_before jobs) qs ≡ true → k < length qs → ((i : ℕ) → i < k → p (get_or qs i 0) ≡ false)
      → m ≡ get_or qs k 0 → p m ≡ true → IsFirst (is_before jobs) p qs (Some m)
  queue-found p qs k m r inside none is h = (
    ap (λ n. list_any (λ s. s == n) qs) is ∙ any-at qs k inside,
    h,
    ap (λ n. list_all (λ s. not (p s && is_before jobs s n)) qs) is
        ∙ all-at (λ s. not (p s && is_before jobs s (get_or qs k 0))) qs (λ i l.
        elim (cases_eq i k) [
          | inl e ↦ not-second (p (get_or qs i 0)) (is_before jobs (get_or qs i 0) (get_or qs k 0)) (ap (λ j. is_before jobs (get_or qs j 0) (get_or qs k 0)) e ∙ itself (is_before jobs) (before-order jobs) (get_or qs k 0))
          | inr n ↦
              elim (lt_or_ge i k) [
                | inl b ↦ not-first (p (get_or qs i 0)) (is_before jobs (get_or qs i 0) (get_or qs k 0)) (none i b)
                | inr b ↦
                    not-second (p (get_or qs i 0)) (is_before jobs (get_or qs i 0) (get_or qs k 0))
                    ((before-order jobs).one_way (get_or qs k 0) (get_or qs i 0) (rises-at jobs qs k i r (omega (arith, n, b)) l))
              ]
        ]),
  )
    where
      not-first : (a b : Bool) → a ≡ false → not (a && b) ≡ true
      not-first true b e = cc
      not-first false b e = refl

      not-second : (a b : Bool) → b ≡ false → not (a && b) ≡ true
      not-second true b e = ap (λ c. not c) e
      not-second false b e = refl

      lt_or_ge : (a b : ℕ) → (a < b) ⊎ (b ≤ a)
      lt_or_ge a b = by (nat_lt a b) refl
        where
          by : (c : Bool) → nat_lt a b ≡ c → (a < b) ⊎ (b ≤ a)
          by true e = inl (ltb-true a b e)
          by false e = inr (ltb-false a b e)

  pub queue-none : (p : ℕ → Bool) (qs : List ℕ) → ((i : ℕ) → i < length qs → p (get_or qs i 0) ≡ false) → IsFirst (is_before jobs) p qs None
  queue-none p qs h = all-at (λ s. not (p s)) qs (λ i l. ap not (h i l))

-- ---- of the jobs of a table

module _ (place : List ℕ) (gone : List Bool) (jobs : List (ℕ × List ℕ)) where
  pub first-listed : (ss : List ℕ) (m : Option ℕ) → IsFirst (is_before jobs) (is_sought_at place gone jobs) ss m
      → option_map (job_at jobs) m ≡ slice_get (sought place gone (map (job_at jobs) (in_order (is_before jobs) ss))) 0
  first-listed ss m f =
      let positions = filter (is_sought_at place gone jobs) (in_order (is_before jobs) ss) in
      sym (
      ap (λ l. slice_get l 0) (filter-map (is_sought place gone) (job_at jobs) (in_order (is_before jobs) ss))
      ∙ slice_get-map (job_at jobs) positions 0
      ∙ ap (option_map (job_at jobs)) (first-of-order (is_before jobs) (before-order jobs) (tie jobs) (is_sought_at place gone jobs) ss m f)
      )
