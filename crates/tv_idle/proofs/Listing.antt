-- The jobs of one queue: where some go, where those at the front are dropped, and where one more is put.
use Rattle.std.specs.Prelude.{◌≡◌, ℕ, ◌+◌, ◌<◌, ◌==◌, ◌&&◌, ◌||◌, not, cond, if◌then◌else◌, nat_lt, Bool, true, false, List, [], ◌∷◌, Some, drop, filter, length, refl}
use Rattle.std.specs.Cmp.{IsStrictWeakOrder}
use Rattle.std.specs.Cmp.Lexicographic.{slice_cmp}
use Rattle.std.specs.List.{list_all}
use Rattle.std.specs.Ordering.{is_lt, nat_cmp}
use Rattle.std.proofs.Common.{arith, ap, sym, ◌∙◌, inl, inr}
use Rattle.std.proofs.lemmas.Bool.{eqb-true, lt-ltb, ltb-true, and_parts, not-true, or_cases, or_right}
use Rattle.std.proofs.lemmas.Cmp.{nat_list_cmp_total}
use Rattle.std.proofs.lemmas.List.MinMax.{ranks_by}
use Rattle.tv_idle.specs.Listed.{with_job}
use Rattle.tv_idle.specs.Sought.{sought, stands_after}
use Rattle.tv_idle.specs.Idles.{first_number, has_job, standing_after, without_job}
use Rattle.tv_idle.specs.Kept.{IsKept, are_below, are_in_order, is_gone, live, starts_gone, trimmed}

abbrev pub Job : Type 0
Job = ℕ × List ℕ

-- ---- tests

or-turned : (a b c : Bool) → (a || (b || c)) ≡ (b || (a || c))
or-turned true true c = refl
or-turned true false c = refl
or-turned false true c = refl
or-turned false false c = refl

all-by : (p q : Job → Bool) (js : List Job) → ((j : Job) → p j ≡ true → q j ≡ true) → list_all p js ≡ true → list_all q js ≡ true
all-by p q [] h e = refl
all-by p q (j ∷ js) h e = let b = and_parts (p j) (list_all p js) e in ap (λ c. c && list_all q js) (h j b.0) ∙ all-by p q js h b.1

all-filtered : (p q : Job → Bool) (js : List Job) → list_all p js ≡ true → list_all p (filter q js) ≡ true
all-filtered p q [] e = refl
all-filtered p q (j ∷ js) e = by (q j) (all-filtered p q js (and_parts (p j) (list_all p js) e).1)
  where
    by : (b : Bool) → list_all p (filter q js) ≡ true → list_all p (cond b (j ∷ filter q js) (filter q js)) ≡ true
    by true r = ap (λ c. c && list_all p (filter q js)) (and_parts (p j) (list_all p js) e).0 ∙ r
    by false r = r

-- ---- the order of places

abbrev lt : Job → Job → Bool
lt j k = is_lt (slice_cmp nat_cmp j.1 k.1)

abbrev order : IsStrictWeakOrder lt
order = ranks_by nat_list_cmp_total (λ (j : Job). j.1)

-- one that stands before another stands before those that don't stand before that
before-later : (j k m : Job) → lt j k ≡ true → lt m k ≡ false → lt j m ≡ true
before-later j k m h g = by (lt j m) refl
  where
    by : (b : Bool) → lt j m ≡ b → lt j m ≡ true
    by true e = e
    by false e = let f : false ≡ true = sym (order.chain j m k e g) ∙ h in cc

-- ---- jobs that have gone

module _ (gone : ℕ → Bool) where
  pub trimmed-live : (js : List Job) → live gone (trimmed gone js) ≡ live gone js
  trimmed-live [] = refl
  trimmed-live (j ∷ js) = by (gone j.0) refl (trimmed-live js)
    where
      by : (b : Bool) → gone j.0 ≡ b → live gone (trimmed gone js) ≡ live gone js → live gone (if b then trimmed gone js else j ∷ js) ≡ live gone (j ∷ js)
      by true e r = r ∙ sym (ap (λ b. cond (not b) (j ∷ live gone js) (live gone js)) e)
      by false e r = refl

  trimmed-all : (p : Job → Bool) (js : List Job) → list_all p js ≡ true → list_all p (trimmed gone js) ≡ true
  trimmed-all p [] e = refl
  trimmed-all p (j ∷ js) e = by (gone j.0) (trimmed-all p js (and_parts (p j) (list_all p js) e).1)
    where
      by : (b : Bool) → list_all p (trimmed gone js) ≡ true → list_all p (if b then trimmed gone js else j ∷ js) ≡ true
      by true r = r
      by false r = e

  trimmed-front : (js : List Job) → starts_gone gone (trimmed gone js) ≡ false
  trimmed-front [] = refl
  trimmed-front (j ∷ js) = by (gone j.0) refl (trimmed-front js)
    where
      by : (b : Bool) → gone j.0 ≡ b → starts_gone gone (trimmed gone js) ≡ false → starts_gone gone (if b then trimmed gone js else j ∷ js) ≡ false
      by true e r = r
      by false e r = e

  trimmed-order : (js : List Job) → are_in_order js ≡ true → are_in_order (trimmed gone js) ≡ true
  trimmed-order [] e = refl
  trimmed-order (j ∷ js) e = by (gone j.0) (trimmed-order js (and_parts (list_all (λ k. not (lt k j)) js) (are_in_order js) e).1)
    where
      by : (b : Bool) → are_in_order (trimmed gone js) ≡ true → are_in_order (if b then trimmed gone js else j ∷ js) ≡ true
      by true r = r
      by false r = e

  pub trimmed-has : (n : ℕ) (js : List Job) → has_job n (trimmed gone js) ≡ true → has_job n js ≡ true
  trimmed-has n [] e = e
  trimmed-has n (j ∷ js) e = by (gone j.0) (trimmed-has n js) e
    where
      by : (b : Bool) → (has_job n (trimmed gone js) ≡ true → has_job n js ≡ true) → has_job n (if b then trimmed gone js else j ∷ js) ≡ true → has_job n (j ∷ js) ≡ true
      by true r e = or_right (j.0 == n) (has_job n js) (r e)
      by false r e = e

  -- what is trimmed is kept
  pub trimmed-kept : (known : ℕ) (js : List Job) → are_below known js ≡ true → are_in_order js ≡ true → IsKept gone known (trimmed gone js)
  trimmed-kept known js b o = record {
    below = trimmed-all (λ j. nat_lt j.0 known) js b;
    front = trimmed-front js;
    order = trimmed-order js o;
  }

  -- the first has gone
  pub trimmed-next : (js : List Job) → starts_gone gone js ≡ true → trimmed gone (drop 1 js) ≡ trimmed gone js
  trimmed-next [] e = cc
  trimmed-next (j ∷ js) e = sym (ap (λ b. if b then trimmed gone js else j ∷ js) e)

  pub fewer : (js : List Job) → starts_gone gone js ≡ true → length (drop 1 js) < length js
  fewer [] e = cc
  fewer (j ∷ js) e = omega arith

  pub trimmed-none : (js : List Job) → starts_gone gone js ≡ false → trimmed gone js ≡ js
  trimmed-none [] e = refl
  trimmed-none (j ∷ js) e = ap (λ b. if b then trimmed gone js else j ∷ js) e

  -- ---- which there are

  pub live-has : (n : ℕ) (js : List Job) → has_job n (live gone js) ≡ true → (has_job n js ≡ true) × (gone n ≡ false)
  live-has n [] e = cc
  live-has n (j ∷ js) e = by (gone j.0) refl (live-has n js) e
    where
      by : (b : Bool) → gone j.0 ≡ b → (has_job n (live gone js) ≡ true → (has_job n js ≡ true) × (gone n ≡ false))
          → has_job n (cond (not b) (j ∷ live gone js) (live gone js)) ≡ true → (has_job n (j ∷ js) ≡ true) × (gone n ≡ false)
      by true g r e = (or_right (j.0 == n) (has_job n js) (r e).0, (r e).1)
      by false g r e =
          elim (or_cases (j.0 == n) (has_job n (live gone js)) e) [
            | inl same ↦ (ap (λ b. b || has_job n js) same, sym (ap gone (eqb-true j.0 n same)) ∙ g)
            | inr there ↦ (or_right (j.0 == n) (has_job n js) (r there).0, (r there).1)
          ]

  -- ---- one more

  pub live-grown : (j : Job) (js : List Job) → gone j.0 ≡ false → are_in_order js ≡ true → live gone (with_job j js) ≡ with_job j (live gone js)
  live-grown j [] e o = ap (λ b. cond (not b) (j ∷ []) []) e
  live-grown j (k ∷ ks) e o = by (lt j k) refl (live-grown j ks e (and_parts (list_all (λ m. not (lt m k)) ks) (are_in_order ks) o).1)
    where
      front : (ls : List Job) → list_all (lt j) ls ≡ true → j ∷ ls ≡ with_job j ls
      front [] h = refl
      front (l ∷ ls) h = sym (ap (λ b. if b then j ∷ l ∷ ls else l ∷ with_job j ls) (and_parts (lt j l) (list_all (lt j) ls) h).0)

      rest : (c : Bool) → gone k.0 ≡ c → lt j k ≡ false → live gone (with_job j ks) ≡ with_job j (live gone ks)
          → cond (not c) (k ∷ live gone (with_job j ks)) (live gone (with_job j ks)) ≡ with_job j (cond (not c) (k ∷ live gone ks) (live gone ks))
      rest true g h r = r
      rest false g h r = ap (λ l. k ∷ l) r ∙ sym (ap (λ b. if b then j ∷ k ∷ live gone ks else k ∷ with_job j (live gone ks)) h)

      by : (b : Bool) → lt j k ≡ b → live gone (with_job j ks) ≡ with_job j (live gone ks)
          → live gone (if b then j ∷ k ∷ ks else k ∷ with_job j ks) ≡ with_job j (live gone (k ∷ ks))
      by true h r =
          let later = all-by (λ m. not (lt m k)) (lt j) ks (λ m f. before-later j k m h (not-true (lt m k) f)) (and_parts (list_all (λ m. not (lt m k)) ks) (are_in_order ks) o).0 in
          let all : list_all (lt j) (k ∷ ks) ≡ true = ap (λ b. b && list_all (lt j) ks) h ∙ later in
          ap (λ b. cond (not b) (j ∷ live gone (k ∷ ks)) (live gone (k ∷ ks))) e
          ∙ front (live gone (k ∷ ks)) (all-filtered (lt j) (λ i. not (gone i.0)) (k ∷ ks) all)
      by false h r = rest (gone k.0) refl h r

  grown-front : (j : Job) (js : List Job) → gone j.0 ≡ false → starts_gone gone js ≡ false → starts_gone gone (with_job j js) ≡ false
  grown-front j [] e h = e
  grown-front j (k ∷ ks) e h = by (lt j k)
    where
      by : (b : Bool) → starts_gone gone (if b then j ∷ k ∷ ks else k ∷ with_job j ks) ≡ false
      by true = e
      by false = h

grown-all : (p : Job → Bool) (j : Job) (js : List Job) → p j ≡ true → list_all p js ≡ true → list_all p (with_job j js) ≡ true
grown-all p j [] h e = ap (λ b. b && true) h
grown-all p j (k ∷ ks) h e = by (lt j k) (grown-all p j ks h (and_parts (p k) (list_all p ks) e).1)
  where
    by : (b : Bool) → list_all p (with_job j ks) ≡ true → list_all p (if b then j ∷ k ∷ ks else k ∷ with_job j ks) ≡ true
    by true r = ap (λ b. b && list_all p (k ∷ ks)) h ∙ e
    by false r = ap (λ b. b && list_all p (with_job j ks)) (and_parts (p k) (list_all p ks) e).0 ∙ r

pub grown-order : (j : Job) (js : List Job) → are_in_order js ≡ true → are_in_order (with_job j js) ≡ true
grown-order j [] o = refl
grown-order j (k ∷ ks) o = by (lt j k) refl (grown-order j ks (and_parts (list_all (λ m. not (lt m k)) ks) (are_in_order ks) o).1)
  where
    by : (b : Bool) → lt j k ≡ b → are_in_order (with_job j ks) ≡ true → are_in_order (if b then j ∷ k ∷ ks else k ∷ with_job j ks) ≡ true
    by true h r =
        let back : lt k j ≡ false = order.one_way j k h in
        let later = all-by (λ m. not (lt m k)) (λ m. not (lt m j)) ks (λ m f. ap (λ b. not b) (order.chain m k j (not-true (lt m k) f) back)) (and_parts (list_all (λ m. not (lt m k)) ks) (are_in_order ks) o).0 in
        let first : list_all (λ m. not (lt m j)) (k ∷ ks) ≡ true = ap (λ b. not b && list_all (λ m. not (lt m j)) ks) back ∙ later in
        ap (λ b. b && are_in_order (k ∷ ks)) first ∙ o
    by false h r =
        let first = grown-all (λ m. not (lt m k)) j ks (ap (λ b. not b) h) (and_parts (list_all (λ m. not (lt m k)) ks) (are_in_order ks) o).0 in
        ap (λ b. b && are_in_order (with_job j ks)) first ∙ r

pub below-more : (n : ℕ) (js : List Job) → are_below n js ≡ true → are_below (n + 1) js ≡ true
below-more n js e = all-by (λ j. nat_lt j.0 n) (λ j. nat_lt j.0 (n + 1)) js (λ j h. let a = ltb-true j.0 n h in lt-ltb j.0 (n + 1) (omega (arith, a))) e

pub below-next : (n : ℕ) (js : List Job) → are_below n js ≡ true → are_below n (drop 1 js) ≡ true
below-next n [] e = e
below-next n (j ∷ js) e = (and_parts (nat_lt j.0 n) (are_below n js) e).1

pub first-below : (n m : ℕ) (js : List Job) → are_below n js ≡ true → Some m ≡ first_number js → m < n
first-below n m [] e f = cc
first-below n m (j ∷ js) e f = let same : m ≡ j.0 = cc in let low = ltb-true j.0 n (and_parts (nat_lt j.0 n) (are_below n js) e).0 in omega (arith, same, low)

-- the next job is kept
pub grown-kept : (gone : ℕ → Bool) (n : ℕ) (q : List ℕ) (js : List Job) → gone n ≡ false → IsKept gone n js → IsKept gone (n + 1) (with_job (n, q) js)
grown-kept gone n q js e k = record {
  below = grown-all (λ j. nat_lt j.0 (n + 1)) (n, q) js (lt-ltb n (n + 1) (omega arith)) (below-more n js k.below);
  front = grown-front gone (n, q) js e k.front;
  order = grown-order (n, q) js k.order;
}

pub kept-more : (gone : ℕ → Bool) (n : ℕ) (js : List Job) → IsKept gone n js → IsKept gone (n + 1) js
kept-more gone n js k = record { below = below-more n js k.below; front = k.front; order = k.order }

pub grown-has : (n : ℕ) (j : Job) (js : List Job) → has_job n (with_job j js) ≡ ((j.0 == n) || has_job n js)
grown-has n j [] = refl
grown-has n j (k ∷ ks) = by (lt j k) (grown-has n j ks)
  where
    by : (b : Bool) → has_job n (with_job j ks) ≡ ((j.0 == n) || has_job n ks) → has_job n (if b then j ∷ k ∷ ks else k ∷ with_job j ks) ≡ ((j.0 == n) || has_job n (k ∷ ks))
    by true r = refl
    by false r = ap (λ b. (k.0 == n) || b) r ∙ or-turned (k.0 == n) (j.0 == n) (has_job n ks)

pub has-below : (n m : ℕ) (js : List Job) → are_below n js ≡ true → has_job m js ≡ true → m < n
has-below n m [] b h = absurd (none h)
  where
    none : false ≡ true → ⊥
    none e = cc
has-below n m (j ∷ js) b h =
    let low = and_parts (nat_lt j.0 n) (are_below n js) b in
    elim (or_cases (j.0 == m) (has_job m js) h) [
      | inl same ↦ let e = eqb-true j.0 m same in let a = ltb-true j.0 n low.0 in omega (arith, e, a)
      | inr there ↦ has-below n m js low.1 there
    ]

-- ---- one goes

module _ (was gone : ℕ → Bool) (n : ℕ) (is : (m : ℕ) → gone m ≡ (was m || (m == n))) where
  pub gone-live : (js : List Job) → live gone js ≡ without_job n (live was js)
  gone-live [] = refl
  gone-live (j ∷ js) = ap (λ b. cond (not b) (j ∷ live gone js) (live gone js)) (is j.0) ∙ by (was j.0) (gone-live js)
    where
      by : (b : Bool) → live gone js ≡ without_job n (live was js)
          → cond (not (b || (j.0 == n))) (j ∷ live gone js) (live gone js) ≡ without_job n (cond (not b) (j ∷ live was js) (live was js))
      by true r = r
      by false r = ap (λ l. cond (not (j.0 == n)) (j ∷ l) l) r

  apart : (j : Job) (js : List Job) → has_job n (j ∷ js) ≡ false → gone j.0 ≡ was j.0
  apart j js e = is j.0 ∙ by (was j.0) (j.0 == n) (has_job n js) e
    where
      by : (a b c : Bool) → (b || c) ≡ false → (a || b) ≡ a
      by true b c e = refl
      by false true c e = cc
      by false false c e = refl

  rest-apart : (b c : Bool) → (b || c) ≡ false → c ≡ false
  rest-apart true c e = cc
  rest-apart false c e = e

  pub other-live : (js : List Job) → has_job n js ≡ false → live gone js ≡ live was js
  other-live [] e = refl
  other-live (j ∷ js) e =
      ap (λ b. cond (not b) (j ∷ live gone js) (live gone js)) (apart j js e)
      ∙ ap (λ l. cond (not (was j.0)) (j ∷ l) l) (other-live js (rest-apart (j.0 == n) (has_job n js) e))

  pub other-kept : (known : ℕ) (js : List Job) → has_job n js ≡ false → IsKept was known js → IsKept gone known js
  other-kept known js e k = record { below = k.below; front = front js e ∙ k.front; order = k.order }
    where
      front : (js : List Job) → has_job n js ≡ false → starts_gone gone js ≡ starts_gone was js
      front [] e = refl
      front (j ∷ js) e = apart j js e

pub without-has : (m n : ℕ) (js : List Job) → (m ≡ n → ⊥) → has_job m (without_job n js) ≡ has_job m js
without-has m n [] ne = refl
without-has m n (j ∷ js) ne = by (j.0 == n) refl (without-has m n js ne)
  where
    other : (b : Bool) → (j.0 == m) ≡ b → (j.0 == n) ≡ true → has_job m js ≡ (b || has_job m js)
    other true e f = absurd (ne (sym (eqb-true j.0 m e) ∙ eqb-true j.0 n f))
    other false e f = refl

    by : (b : Bool) → (j.0 == n) ≡ b → has_job m (without_job n js) ≡ has_job m js
        → has_job m (cond (not b) (j ∷ without_job n js) (without_job n js)) ≡ ((j.0 == m) || has_job m js)
    by true e r = r ∙ other (j.0 == m) refl e
    by false e r = ap (λ b. (j.0 == m) || b) r

-- ---- those after a place

-- what is looked for among all that are kept are those that are idle and stand after the place
pub sought-live : (p : List ℕ) (gone : List Bool) (js : List Job) → sought p gone js ≡ standing_after p (live (is_gone gone) js)
sought-live p gone [] = refl
sought-live p gone (j ∷ js) = by (is_gone gone j.0) (sought-live p gone js)
  where
    none : (a : Bool) → sought p gone js ≡ standing_after p (live (is_gone gone) js) → cond (a && false) (j ∷ sought p gone js) (sought p gone js) ≡ standing_after p (live (is_gone gone) js)
    none true r = r
    none false r = r

    one : (a : Bool) → sought p gone js ≡ standing_after p (live (is_gone gone) js)
        → cond (a && true) (j ∷ sought p gone js) (sought p gone js) ≡ cond a (j ∷ standing_after p (live (is_gone gone) js)) (standing_after p (live (is_gone gone) js))
    one true r = ap (λ l. j ∷ l) r
    one false r = r

    by : (g : Bool) → sought p gone js ≡ standing_after p (live (is_gone gone) js)
        → cond (stands_after p j.1 && not g) (j ∷ sought p gone js) (sought p gone js) ≡ standing_after p (cond (not g) (j ∷ live (is_gone gone) js) (live (is_gone gone) js))
    by true r = none (stands_after p j.1) r
    by false r = one (stands_after p j.1) r
