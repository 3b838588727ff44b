-- The queues of all steps, where those of one change.
use Rattle.std.specs.Prelude.{◌≡◌, ℕ, zero, suc, ◌+◌, ◌<◌, ◌⊎◌, ◌==◌, ◌||◌, not, Bool, true, false, List, [], ◌∷◌, ◌++◌, length, map, slice_index_or, slice_set, refl}
use Rattle.std.specs.List.{list_any}
use Rattle.std.proofs.Common.{arith, ap, sym, subst, ◌∙◌, inl, inr}
use Rattle.std.proofs.lemmas.Bool.{cases_eq, eq-eqb, eqb-true, false_from_ne_true, or_cases, or_right}
use Rattle.std.proofs.lemmas.List.{get_or-set_other, get_or-set_same, length-append, map-set}
use Rattle.tv_idle.specs.Listed.{Listed, with_job}
use Rattle.tv_idle.specs.declared.queues.Queues.{Queues}
use Rattle.tv_idle.specs.Idles.{StepIdle, has_job, is_idle, is_idle_at, none_idle, of_step, with_idle, with_rooms_of, without}
use Rattle.tv_idle.specs.Kept.{AreAllKept, AreKept, IsEmpty, IsGrown, IsKept, IsSame, IsTrimmed, is_gone, live, no_queues, queue_for, queues_of, queues_view, stands_at}
use Rattle.tv_idle.proofs.Listing.{Job, gone-live, grown-has, grown-kept, has-below, kept-more, live-grown, live-has, other-kept, other-live, trimmed-has, trimmed-kept, trimmed-live, without-has}

-- ---- lists

module _ {A : Type 0} where
  any-set : (p : A → Bool) (xs : List A) (i : ℕ) (y d : A) → (p (slice_index_or xs i d) ≡ true → p y ≡ true) → list_any p xs ≡ true → list_any p (slice_set xs i y) ≡ true
  any-set p [] i y d h e = cc
  any-set p (x ∷ xs) zero y d h e =
      elim (or_cases (p x) (list_any p xs) e) [
        | inl a ↦ ap (λ b. b || list_any p xs) (h a)
        | inr a ↦ or_right (p y) (list_any p xs) a
      ]
  any-set p (x ∷ xs) (suc i) y d h e =
      elim (or_cases (p x) (list_any p xs) e) [
        | inl a ↦ ap (λ b. b || list_any p (slice_set xs i y)) a
        | inr a ↦ or_right (p x) (list_any p (slice_set xs i y)) (any-set p xs i y d h a)
      ]

  any-here : (p : A → Bool) (xs : List A) (i : ℕ) (y : A) → i < length xs → p y ≡ true → list_any p (slice_set xs i y) ≡ true
  any-here p [] i y l e = absurd (omega arith)
  any-here p (x ∷ xs) zero y l e = ap (λ b. b || list_any p xs) e
  any-here p (x ∷ xs) (suc i) y l e = or_right (p x) (list_any p (slice_set xs i y)) (any-here p xs i y (omega arith) e)

  any-front : (p : A → Bool) (xs ys : List A) → list_any p xs ≡ true → list_any p (xs ++ ys) ≡ true
  any-front p [] ys e = cc
  any-front p (x ∷ xs) ys e =
      elim (or_cases (p x) (list_any p xs) e) [
        | inl a ↦ ap (λ b. b || list_any p (xs ++ ys)) a
        | inr a ↦ or_right (p x) (list_any p (xs ++ ys)) (any-front p xs ys a)
      ]

map-one-more : (f : Queues → StepIdle) (qs : List Queues) (q : Queues) → map f (qs ++ q ∷ []) ≡ map f qs ++ f q ∷ []
map-one-more f [] q = refl
map-one-more f (r ∷ qs) q = ap (λ l. f r ∷ l) (map-one-more f qs q)

-- what is seen of one step
pub of-shown : (g : ℕ → Bool) (qs : List Queues) (k : ℕ) → of_step (map (queues_view g) qs) k ≡ queues_view g (queues_of qs k)
of-shown g [] k = refl
of-shown g (q ∷ qs) zero = refl
of-shown g (q ∷ qs) (suc k) = of-shown g qs k

map-agree : (f g : Queues → StepIdle) (qs : List Queues) → ((k : ℕ) → f (queues_of qs k) ≡ g (queues_of qs k)) → map f qs ≡ map g qs
map-agree f g [] h = refl
map-agree f g (q ∷ qs) h = (λ i. h 0 i ∷ map-agree f g qs (λ k. h (suc k)) i)

set-agree : (f g : Queues → StepIdle) (qs : List Queues) (s : ℕ) (y : StepIdle) → ((k : ℕ) → (k ≡ s → ⊥) → f (queues_of qs k) ≡ g (queues_of qs k)) → slice_set (map f qs) s y ≡ slice_set (map g qs) s y
set-agree f g [] s y h = refl
set-agree f g (q ∷ qs) zero y h = ap (λ l. y ∷ l) (map-agree f g qs (λ k. h (suc k) (λ e. absurd (omega arith))))
set-agree f g (q ∷ qs) (suc s) y h = (λ i. h 0 (λ e. absurd (omega arith)) i ∷ set-agree f g qs s y (λ k ne. h (suc k) (λ e. ne (omega arith))) i)

-- ---- which are idle

-- one that has gone isn't
pub idle-not-gone : (g : ℕ → Bool) (qs : List Queues) (n : ℕ) → is_idle (map (queues_view g) qs) n ≡ true → g n ≡ false
idle-not-gone g [] n e = cc
idle-not-gone g (q ∷ qs) n e =
    elim (or_cases (is_idle_at n (queues_view g q)) (is_idle (map (queues_view g) qs) n) e) [
      | inr a ↦ idle-not-gone g qs n a
      | inl a ↦
          elim (or_cases (has_job n (live g q.good.jobs)) (has_job n (live g q.faulty.jobs)) a) [
            | inl b ↦ (live-has g n q.good.jobs b).1
            | inr b ↦ (live-has g n q.faulty.jobs b).1
          ]
    ]

pub idle-is : (g : ℕ → Bool) (known : ℕ) (qs : List Queues) (n : ℕ) → AreAllKept g known qs → n < known → not (g n) ≡ is_idle (map (queues_view g) qs) n
idle-is g known qs n a l = by (g n) refl
  where
    by : (b : Bool) → g n ≡ b → not b ≡ is_idle (map (queues_view g) qs) n
    by true e = sym (false_from_ne_true (is_idle (map (queues_view g) qs) n) (λ h. let f : false ≡ true = sym (idle-not-gone g qs n h) ∙ e in cc))
    by false e = sym (a.idle n l e)

-- one that is idle at a step stands there
pub stands-here : (g : ℕ → Bool) (q : Queues) (n : ℕ) → is_idle_at n (queues_view g q) ≡ true → stands_at n q ≡ true
stands-here g q n e =
    elim (or_cases (has_job n (live g q.good.jobs)) (has_job n (live g q.faulty.jobs)) e) [
      | inl a ↦ ap (λ b. b || has_job n q.faulty.jobs) (live-has g n q.good.jobs a).0
      | inr a ↦ or_right (has_job n q.good.jobs) (has_job n q.faulty.jobs) (live-has g n q.faulty.jobs a).0
    ]

pub stands-below : (g : ℕ → Bool) (known : ℕ) (q : Queues) (n : ℕ) → AreKept g known q → stands_at n q ≡ true → n < known
stands-below g known q n k e =
    elim (or_cases (has_job n q.good.jobs) (has_job n q.faulty.jobs) e) [
      | inl a ↦ has-below known n q.good.jobs k.good.below a
      | inr a ↦ has-below known n q.faulty.jobs k.faulty.below a
    ]

-- there is such a step
pub stands-within : (qs : List Queues) (k n : ℕ) → stands_at n (queues_of qs k) ≡ true → k < length qs
stands-within [] k n e = cc
stands-within (q ∷ qs) zero n e = omega arith
stands-within (q ∷ qs) (suc k) n e = let l = stands-within qs k n e in omega (arith, l)

-- ---- from here on the queues of one step change

module _ (qs : List Queues) (s : ℕ) (q : Queues) where
  abbrev new : List Queues
  new = slice_set qs s q

  at-step : s < length qs → queues_of new s ≡ q
  at-step l = get_or-set_same qs s q no_queues l

  at-other : (k : ℕ) → (k ≡ s → ⊥) → queues_of new k ≡ queues_of qs k
  at-other k ne = get_or-set_other qs s k q no_queues ne

  -- what holds at each step after it
  each-step : (Q : Queues → Type 0) → s < length qs → Q q → ((k : ℕ) → (k ≡ s → ⊥) → Q (queues_of qs k)) → (k : ℕ) → Q (queues_of new k)
  each-step Q l here there k =
      elim (cases_eq k s) [
        | inl e ↦ subst (λ m. Q (queues_of new m)) (sym e) (subst Q (sym (at-step l)) here)
        | inr ne ↦ subst Q (sym (at-other k ne)) (there k ne)
      ]

-- ---- one goes

module _ (was gone : ℕ → Bool) (n known : ℕ) (qs : List Queues) (s : ℕ) (q : Queues)
    (is : (m : ℕ) → gone m ≡ (was m || (m == n)))
    (all : AreAllKept was known qs)
    (stands : stands_at n (queues_of qs s) ≡ true)
    (good : IsTrimmed gone (queues_of qs s).good q.good)
    (faulty : IsTrimmed gone (queues_of qs s).faulty q.faulty)
  where
    abbrev before : Queues
    before = queues_of qs s

    not-there : (k : ℕ) → (k ≡ s → ⊥) → stands_at n (queues_of qs k) ≡ false
    not-there k ne = false_from_ne_true (stands_at n (queues_of qs k)) (λ e. ne (all.apart n k s e stands))

    first-none : (a b : Bool) → (a || b) ≡ false → a ≡ false
    first-none true b e = cc
    first-none false b e = refl

    second-none : (a b : Bool) → (a || b) ≡ false → b ≡ false
    second-none true b e = cc
    second-none false b e = e

    good-apart : (k : ℕ) → (k ≡ s → ⊥) → has_job n (queues_of qs k).good.jobs ≡ false
    good-apart k ne = first-none (has_job n (queues_of qs k).good.jobs) (has_job n (queues_of qs k).faulty.jobs) (not-there k ne)

    faulty-apart : (k : ℕ) → (k ≡ s → ⊥) → has_job n (queues_of qs k).faulty.jobs ≡ false
    faulty-apart k ne = second-none (has_job n (queues_of qs k).good.jobs) (has_job n (queues_of qs k).faulty.jobs) (not-there k ne)

    removed-here : AreKept gone known q
    removed-here =
        let k = all.each s in
        record {
          good = subst (IsKept gone known) (sym good.jobs) (trimmed-kept gone known before.good.jobs k.good.below k.good.order);
          faulty = subst (IsKept gone known) (sym faulty.jobs) (trimmed-kept gone known before.faulty.jobs k.faulty.below k.faulty.order);
          levels = faulty.levels ∙ k.levels ∙ sym good.levels;
        }

    removed-each : (k : ℕ) → AreKept gone known (queues_of (slice_set qs s q) k)
    removed-each =
        each-step qs s q (AreKept gone known) (stands-within qs s n stands) removed-here (λ k ne. record {
          good = other-kept was gone n is known (queues_of qs k).good.jobs (good-apart k ne) (all.each k).good;
          faulty = other-kept was gone n is known (queues_of qs k).faulty.jobs (faulty-apart k ne) (all.each k).faulty;
          levels = (all.each k).levels;
        })

    pub removed-steps : map (queues_view gone) (slice_set qs s q) ≡ slice_set (map (queues_view was) qs) s (without n (of_step (map (queues_view was) qs) s))
    removed-steps =
        let goods : live gone q.good.jobs ≡ (without n (queues_view was before)).good = ap (live gone) good.jobs ∙ trimmed-live gone before.good.jobs ∙ gone-live was gone n is before.good.jobs in
        let faults : live gone q.faulty.jobs ≡ (without n (queues_view was before)).faulty = ap (live gone) faulty.jobs ∙ trimmed-live gone before.faulty.jobs ∙ gone-live was gone n is before.faulty.jobs in
        let here : queues_view gone q ≡ without n (queues_view was before) = (λ i. record {
          good = goods i;
          faulty = faults i;
          levels = good.levels i;
          good_room = good.room i;
          faulty_room = faulty.room i;
        }) in
        map-set (queues_view gone) qs s q
        ∙ ap (slice_set (map (queues_view gone) qs) s) (here ∙ ap (without n) (sym (of-shown was qs s)))
        ∙ set-agree (queues_view gone) (queues_view was) qs s (without n (of_step (map (queues_view was) qs) s)) (λ k ne i. record {
          good = other-live was gone n is (queues_of qs k).good.jobs (good-apart k ne) i;
          faulty = other-live was gone n is (queues_of qs k).faulty.jobs (faulty-apart k ne) i;
          levels = (queues_of qs k).good.levels;
          good_room = (queues_of qs k).good.room;
          faulty_room = (queues_of qs k).faulty.room;
        })

    removed-stands : (m k : ℕ) → stands_at m (queues_of (slice_set qs s q) k) ≡ true → stands_at m (queues_of qs k) ≡ true
    removed-stands m k =
        elim (cases_eq k s) [
          | inr ne ↦ λ e. ap (stands_at m) (sym (at-other qs s q k ne)) ∙ e
          | inl same ↦ λ e.
              let e2 : stands_at m q ≡ true = ap (stands_at m) (sym (ap (queues_of (slice_set qs s q)) same ∙ at-step qs s q (stands-within qs s n stands))) ∙ e in
              ap (λ j. stands_at m (queues_of qs j)) same
              ∙ elim (or_cases (has_job m q.good.jobs) (has_job m q.faulty.jobs) e2) [
                | inl a ↦ ap (λ b. b || has_job m before.faulty.jobs) (trimmed-has gone m before.good.jobs (ap (has_job m) (sym good.jobs) ∙ a))
                | inr a ↦ or_right (has_job m before.good.jobs) (has_job m before.faulty.jobs) (trimmed-has gone m before.faulty.jobs (ap (has_job m) (sym faulty.jobs) ∙ a))
              ]
        ]

    removed-idle : (m : ℕ) → m < known → gone m ≡ false → is_idle (map (queues_view gone) (slice_set qs s q)) m ≡ true
    removed-idle m l e =
        let st = of_step (map (queues_view was) qs) s in
        let parts : (was m ≡ false) × (m ≡ n → ⊥) = by (was m) (m == n) refl (sym (is m) ∙ e) in
        ap (λ ss. is_idle ss m) removed-steps
        ∙ any-set (is_idle_at m) (map (queues_view was) qs) s (without n st) (none_idle 0)
        (λ h. (λ i. without-has m n st.good parts.1 i || without-has m n st.faulty parts.1 i) ∙ h)
        (all.idle m l parts.0)
      where
        by : (a b : Bool) → (m == n) ≡ b → (a || b) ≡ false → (a ≡ false) × (m ≡ n → ⊥)
        by true b f h = cc
        by false true f h = cc
        by false false f h = (refl, λ same. differ (sym f ∙ eq-eqb m n same))
          where
            differ : false ≡ true → ⊥
            differ x = cc

    pub removed-kept : AreAllKept gone known (slice_set qs s q)
    removed-kept = record {
      each = removed-each;
      apart = λ m k l a b. all.apart m k l (removed-stands m k a) (removed-stands m l b);
      idle = removed-idle;
    }

-- ---- one more

own-number : (n m : ℕ) → m ≡ n → (n == m) ≡ true
own-number n m e = eq-eqb n m (sym e)

newest : (b : Bool) (j : Job) (m : ℕ) (st : StepIdle) → m ≡ j.0 → is_idle_at m (with_idle b j st) ≡ true
newest true j m st e =
    or_right (has_job m st.good) (has_job m (with_job j st.faulty)) (grown-has m j st.faulty ∙ ap (λ b. b || has_job m st.faulty) (own-number j.0 m e))
newest false j m st e =
    ap (λ b. b || has_job m st.faulty) (grown-has m j st.good ∙ ap (λ b. b || has_job m st.good) (own-number j.0 m e))

still : (b : Bool) (j : Job) (m : ℕ) (st : StepIdle) → is_idle_at m st ≡ true → is_idle_at m (with_idle b j st) ≡ true
still true j m st h =
    elim (or_cases (has_job m st.good) (has_job m st.faulty) h) [
      | inl a ↦ ap (λ b. b || has_job m (with_job j st.faulty)) a
      | inr a ↦ or_right (has_job m st.good) (has_job m (with_job j st.faulty)) (grown-has m j st.faulty ∙ or_right (j.0 == m) (has_job m st.faulty) a)
    ]
still false j m st h =
    elim (or_cases (has_job m st.good) (has_job m st.faulty) h) [
      | inl a ↦ ap (λ b. b || has_job m st.faulty) (grown-has m j st.good ∙ or_right (j.0 == m) (has_job m st.good) a)
      | inr a ↦ or_right (has_job m (with_job j st.good)) (has_job m st.faulty) a
    ]

pub map-longer : (f : Queues → StepIdle) (qs : List Queues) → length (map f qs) ≡ length qs
map-longer f [] = refl
map-longer f (q ∷ qs) = ap suc (map-longer f qs)

module _ (g : ℕ → Bool) (known : ℕ) (place : List ℕ) (qs : List Queues) (s : ℕ) (all : AreAllKept g known qs) (fresh : g known ≡ false) (inside : s < length qs) where
  abbrev here : Queues
  here = queues_of qs s

  abbrev next : Job
  next = (known, place)

  grown-here : (b : Bool) (q : Queues) → IsGrown next (queue_for b here) (queue_for b q) → queue_for (not b) q ≡ queue_for (not b) here → AreKept g (known + 1) q
  grown-here true q grown other =
      let k = all.each s in
      record {
        good = subst (λ l. IsKept g (known + 1) l.jobs) (sym other) (kept-more g known here.good.jobs k.good);
        faulty = subst (IsKept g (known + 1)) (sym grown.jobs) (grown-kept g known place here.faulty.jobs fresh k.faulty);
        levels = grown.levels ∙ k.levels ∙ ap (λ l. l.levels) (sym other);
      }
  grown-here false q grown other =
      let k = all.each s in
      record {
        good = subst (IsKept g (known + 1)) (sym grown.jobs) (grown-kept g known place here.good.jobs fresh k.good);
        faulty = subst (λ l. IsKept g (known + 1) l.jobs) (sym other) (kept-more g known here.faulty.jobs k.faulty);
        levels = ap (λ l. l.levels) other ∙ k.levels ∙ sym grown.levels;
      }

  grown-shown : (b : Bool) (q : Queues) → IsGrown next (queue_for b here) (queue_for b q) → queue_for (not b) q ≡ queue_for (not b) here → queues_view g q ≡ with_idle b next (queues_view g here)
  grown-shown true q grown other =
      let f : live g q.faulty.jobs ≡ with_job next (live g here.faulty.jobs) = ap (live g) grown.jobs ∙ live-grown g next here.faulty.jobs fresh (all.each s).faulty.order in
      (λ i. record {
        good = live g (other i).jobs;
        faulty = f i;
        levels = (other i).levels;
        good_room = (other i).room;
        faulty_room = grown.room i;
      })
  grown-shown false q grown other =
      let f : live g q.good.jobs ≡ with_job next (live g here.good.jobs) = ap (live g) grown.jobs ∙ live-grown g next here.good.jobs fresh (all.each s).good.order in
      (λ i. record {
        good = f i;
        faulty = live g (other i).jobs;
        levels = grown.levels i;
        good_room = grown.room i;
        faulty_room = (other i).room;
      })

  grown-stands : (b : Bool) (q : Queues) (m : ℕ) → IsGrown next (queue_for b here) (queue_for b q) → queue_for (not b) q ≡ queue_for (not b) here → stands_at m q ≡ ((known == m) || stands_at m here)
  grown-stands true q m grown other =
      ap (λ l. has_job m l.jobs || has_job m q.faulty.jobs) other
      ∙ ap (λ js. has_job m here.good.jobs || has_job m js) grown.jobs
      ∙ ap (λ b. has_job m here.good.jobs || b) (grown-has m next here.faulty.jobs)
      ∙ turned (has_job m here.good.jobs) (known == m) (has_job m here.faulty.jobs)
    where
      turned : (a b c : Bool) → (a || (b || c)) ≡ (b || (a || c))
      turned true true c = refl
      turned true false c = refl
      turned false true c = refl
      turned false false c = refl
  grown-stands false q m grown other =
      ap (λ l. has_job m q.good.jobs || has_job m l.jobs) other
      ∙ ap (λ js. has_job m js || has_job m here.faulty.jobs) grown.jobs
      ∙ ap (λ b. b || has_job m here.faulty.jobs) (grown-has m next here.good.jobs)
      ∙ grouped (known == m) (has_job m here.good.jobs) (has_job m here.faulty.jobs)
    where
      grouped : (a b c : Bool) → ((a || b) || c) ≡ (a || (b || c))
      grouped true b c = refl
      grouped false b c = refl

  module _ (b : Bool) (q : Queues) (grown : IsGrown next (queue_for b here) (queue_for b q)) (other : queue_for (not b) q ≡ queue_for (not b) here) where
    pub grown-steps : map (queues_view g) (slice_set qs s q) ≡ slice_set (map (queues_view g) qs) s (with_idle b next (of_step (map (queues_view g) qs) s))
    grown-steps =
        map-set (queues_view g) qs s q
        ∙ ap (slice_set (map (queues_view g) qs) s) (grown-shown b q grown other ∙ ap (with_idle b next) (sym (of-shown g qs s)))

    -- it stands where it stood, or it is the next, at this step
    stood : (m k : ℕ) → stands_at m (queues_of (slice_set qs s q) k) ≡ true → (stands_at m (queues_of qs k) ≡ true) ⊎ ((m ≡ known) × (k ≡ s))
    stood m k =
        elim (cases_eq k s) [
          | inr ne ↦ λ e. inl (ap (stands_at m) (sym (at-other qs s q k ne)) ∙ e)
          | inl same ↦ λ e.
              let e2 : ((known == m) || stands_at m here) ≡ true =
              sym (grown-stands b q m grown other) ∙ ap (stands_at m) (sym (ap (queues_of (slice_set qs s q)) same ∙ at-step qs s q inside)) ∙ e
              in
              elim (or_cases (known == m) (stands_at m here) e2) [
                | inl a ↦ inr (sym (eqb-true known m a), same)
                | inr a ↦ inl (ap (λ j. stands_at m (queues_of qs j)) same ∙ a)
              ]
        ]

    grown-apart : (m k l : ℕ) → stands_at m (queues_of (slice_set qs s q) k) ≡ true → stands_at m (queues_of (slice_set qs s q) l) ≡ true → k ≡ l
    grown-apart m k l d e = by (stood m k d) (stood m l e)
      where
        late : (j : ℕ) → m ≡ known → stands_at m (queues_of qs j) ≡ true → k ≡ l
        late j same there = let low = stands-below g known (queues_of qs j) m (all.each j) there in absurd (omega (arith, low, same))

        by : (stands_at m (queues_of qs k) ≡ true) ⊎ ((m ≡ known) × (k ≡ s)) → (stands_at m (queues_of qs l) ≡ true) ⊎ ((m ≡ known) × (l ≡ s)) → k ≡ l
        by (inl x) (inl y) = all.apart m k l x y
        by (inl x) (inr y) = late k y.0 x
        by (inr x) (inl y) = late l x.0 y
        by (inr x) (inr y) = x.1 ∙ sym y.1

    grown-idle : (m : ℕ) → m < known + 1 → g m ≡ false → is_idle (map (queues_view g) (slice_set qs s q)) m ≡ true
    grown-idle m l e =
        let st = of_step (map (queues_view g) qs) s in
        ap (λ ss. is_idle ss m) grown-steps
        ∙ elim (cases_eq m known) [
          | inl same ↦
              any-here (is_idle_at m) (map (queues_view g) qs) s (with_idle b next st) (let n = map-longer (queues_view g) qs in omega (arith, n, inside)) (newest b next m st same)
          | inr ne ↦
              any-set (is_idle_at m) (map (queues_view g) qs) s (with_idle b next st) (none_idle 0) (still b next m st) (all.idle m (omega (arith, ne, l)) e)
        ]

    pub grown-all-kept : AreAllKept g (known + 1) (slice_set qs s q)
    grown-all-kept = record {
      each = each-step qs s q (AreKept g (known + 1)) inside (grown-here b q grown other) (λ k ne.
          let a = all.each k in
          record { good = kept-more g known (queues_of qs k).good.jobs a.good; faulty = kept-more g known (queues_of qs k).faulty.jobs a.faulty; levels = a.levels });
      apart = grown-apart;
      idle = grown-idle;
    }

-- ---- the same jobs

module _ (g : ℕ → Bool) (known : ℕ) (qs : List Queues) (s : ℕ) (q : Queues) (all : AreAllKept g known qs) (inside : s < length qs)
    (good : IsSame (queues_of qs s).good q.good)
    (faulty : IsSame (queues_of qs s).faulty q.faulty)
  where
    abbrev there : Queues
    there = queues_of qs s

    same-jobs : queues_view g q ≡ with_rooms_of (queues_view g q) (queues_view g there)
    same-jobs = (λ i. record {
      good = live g (good.jobs i);
      faulty = live g (faulty.jobs i);
      levels = good.levels i;
      good_room = q.good.room;
      faulty_room = q.faulty.room;
    })

    pub same-step : of_step (map (queues_view g) (slice_set qs s q)) s ≡ queues_view g q
    same-step = of-shown g (slice_set qs s q) s ∙ ap (queues_view g) (at-step qs s q inside)

    pub same-steps : map (queues_view g) (slice_set qs s q)
        ≡ slice_set (map (queues_view g) qs) s (with_rooms_of (of_step (map (queues_view g) (slice_set qs s q)) s) (of_step (map (queues_view g) qs) s))
    same-steps =
        map-set (queues_view g) qs s q
        ∙ ap (slice_set (map (queues_view g) qs) s)
        (same-jobs
        ∙ ap (λ r. with_rooms_of r (queues_view g there)) (sym same-step)
        ∙ ap (with_rooms_of (of_step (map (queues_view g) (slice_set qs s q)) s)) (sym (of-shown g qs s)))

    same-stands : (m k : ℕ) → stands_at m (queues_of (slice_set qs s q) k) ≡ stands_at m (queues_of qs k)
    same-stands m k =
        elim (cases_eq k s) [
          | inr ne ↦ ap (stands_at m) (at-other qs s q k ne)
          | inl same ↦
              ap (stands_at m) (ap (queues_of (slice_set qs s q)) same ∙ at-step qs s q inside)
              ∙ (λ i. has_job m (good.jobs i) || has_job m (faulty.jobs i))
              ∙ ap (λ j. stands_at m (queues_of qs j)) (sym same)
        ]

    pub same-kept : AreAllKept g known (slice_set qs s q)
    same-kept = record {
      each = each-step qs s q (AreKept g known) inside
          (let a = all.each s in
          record {
            good = subst (IsKept g known) (sym good.jobs) a.good;
            faulty = subst (IsKept g known) (sym faulty.jobs) a.faulty;
            levels = faulty.levels ∙ a.levels ∙ sym good.levels;
          })
          (λ k ne. all.each k);
      apart = λ m k l a b. all.apart m k l (sym (same-stands m k) ∙ a) (sym (same-stands m l) ∙ b);
      idle = λ m l e.
          ap (λ ss. is_idle ss m) same-steps
          ∙ any-set (is_idle_at m) (map (queues_view g) qs) s (with_rooms_of (of_step (map (queues_view g) (slice_set qs s q)) s) (of_step (map (queues_view g) qs) s)) (none_idle 0) (λ h. h) (all.idle m l e);
    }

-- ---- one more step

module _ (g : ℕ → Bool) (levels : ℕ) (q : Queues) (good : IsEmpty levels q.good) (faulty : IsEmpty levels q.faulty) where
  none-kept : (known : ℕ) → AreKept g known q
  none-kept known = record {
    good = subst (IsKept g known) (sym good.jobs) (record { below = refl; front = refl; order = refl });
    faulty = subst (IsKept g known) (sym faulty.jobs) (record { below = refl; front = refl; order = refl });
    levels = faulty.levels_are ∙ sym good.levels_are;
  }

  none-stands : (m : ℕ) → stands_at m q ≡ false
  none-stands m = (λ i. has_job m (good.jobs i) || has_job m (faulty.jobs i))

  added-each : (P : Queues → Type 0) (qs : List Queues) → ((k : ℕ) → P (queues_of qs k)) → P q → (k : ℕ) → P (queues_of (qs ++ q ∷ []) k)
  added-each P [] h own zero = own
  added-each P [] h own (suc k) = h k
  added-each P (r ∷ qs) h own zero = h 0
  added-each P (r ∷ qs) h own (suc k) = added-each P qs (λ i. h (suc i)) own k

  added-stands : (m : ℕ) (qs : List Queues) (k : ℕ) → stands_at m (queues_of (qs ++ q ∷ []) k) ≡ stands_at m (queues_of qs k)
  added-stands m [] zero = none-stands m
  added-stands m [] (suc k) = refl
  added-stands m (r ∷ qs) zero = refl
  added-stands m (r ∷ qs) (suc k) = added-stands m qs k

  pub added-kept : (known : ℕ) (qs : List Queues) → AreAllKept g known qs → AreAllKept g known (qs ++ q ∷ [])
  added-kept known qs all = record {
    each = added-each (AreKept g known) qs all.each (none-kept known);
    apart = λ m k l a b. all.apart m k l (sym (added-stands m qs k) ∙ a) (sym (added-stands m qs l) ∙ b);
    idle = λ m l e.
        ap (λ ss. is_idle ss m) (map-one-more (queues_view g) qs q)
        ∙ any-front (is_idle_at m) (map (queues_view g) qs) (queues_view g q ∷ []) (all.idle m l e);
  }

-- ---- marks

pub read-same : {A : Type 0} (xs : List A) (i : ℕ) (x d : A) → i < length xs → x ≡ slice_index_or xs i x → x ≡ slice_index_or xs i d
read-same [] i x d l e = absurd (omega arith)
read-same (y ∷ xs) zero x d l e = e
read-same (y ∷ xs) (suc i) x d l e = read-same xs i x d (omega arith) e

one-more-mark : (gs : List Bool) (m : ℕ) → is_gone (gs ++ false ∷ []) m ≡ is_gone gs m
one-more-mark [] zero = refl
one-more-mark [] (suc m) = refl
one-more-mark (g ∷ gs) zero = refl
one-more-mark (g ∷ gs) (suc m) = one-more-mark gs m

pub same-marks : (gs : List Bool) → is_gone (gs ++ false ∷ []) ≡ is_gone gs
same-marks gs = (λ i m. one-more-mark gs m i)

pub fresh-mark : (gs : List Bool) → is_gone gs (length gs) ≡ false
fresh-mark [] = refl
fresh-mark (g ∷ gs) = fresh-mark gs

pub set-mark : (gs : List Bool) (n : ℕ) → n < length gs → (m : ℕ) → is_gone (slice_set gs n true) m ≡ (is_gone gs m || (m == n))
set-mark gs n l m =
    elim (cases_eq m n) [
      | inl e ↦
          ap (is_gone (slice_set gs n true)) e
          ∙ get_or-set_same gs n true false l
          ∙ sym (or_right (is_gone gs m) (m == n) (eq-eqb m n e))
      | inr ne ↦
          get_or-set_other gs n m true false ne
          ∙ sym (ap (λ b. is_gone gs m || b) (false_from_ne_true (m == n) (λ e. ne (eqb-true m n e))) ∙ or-none (is_gone gs m))
    ]
  where
    or-none : (b : Bool) → (b || false) ≡ b
    or-none true = refl
    or-none false = refl

-- ---- as the calls use it

module _ (gone after : List Bool) (n : ℕ) (place : List ℕ) (qs : List Queues) (s : ℕ) (b : Bool) (from to : Queues)
    (marks : after ≡ gone ++ false ∷ [])
    (number : n ≡ length gone)
    (all : AreAllKept (is_gone gone) (length gone) qs)
    (inside : s < length qs)
    (there : from ≡ slice_index_or qs s from)
    (grown : IsGrown (n, place) (queue_for b from) (queue_for b to))
    (other : queue_for (not b) to ≡ queue_for (not b) from)
  where
    same-queues : from ≡ queues_of qs s
    same-queues = read-same qs s from no_queues inside there

    grown-one : IsGrown (length gone, place) (queue_for b (queues_of qs s)) (queue_for b to)
    grown-one = subst (λ m. IsGrown (m, place) (queue_for b (queues_of qs s)) (queue_for b to)) number (subst (λ q. IsGrown (n, place) (queue_for b q) (queue_for b to)) same-queues grown)

    other-one : queue_for (not b) to ≡ queue_for (not b) (queues_of qs s)
    other-one = other ∙ ap (queue_for (not b)) same-queues

    pub many : length after ≡ length gone + 1
    many = ap length marks ∙ length-append gone (false ∷ [])

    pub put-kept : AreAllKept (is_gone after) (length after) (slice_set qs s to)
    put-kept =
        subst (λ k. AreAllKept (is_gone after) k (slice_set qs s to)) (sym many)
        (subst (λ gs. AreAllKept gs (length gone + 1) (slice_set qs s to)) (sym (ap is_gone marks ∙ same-marks gone))
        (grown-all-kept (is_gone gone) (length gone) place qs s all (fresh-mark gone) inside b to grown-one other-one))

    pub put-seen : map (queues_view (is_gone after)) (slice_set qs s to)
        ≡ slice_set (map (queues_view (is_gone gone)) qs) s (with_idle b (length gone, place) (of_step (map (queues_view (is_gone gone)) qs) s))
    put-seen =
        ap (λ gs. map (queues_view gs) (slice_set qs s to)) (ap is_gone marks ∙ same-marks gone)
        ∙ grown-steps (is_gone gone) (length gone) place qs s all (fresh-mark gone) inside b to grown-one other-one

pub idle-stands : (g : ℕ → Bool) (qs : List Queues) (s n : ℕ) → is_idle_at n (of_step (map (queues_view g) qs) s) ≡ true → stands_at n (queues_of qs s) ≡ true
idle-stands g qs s n e = stands-here g (queues_of qs s) n (ap (is_idle_at n) (sym (of-shown g qs s)) ∙ e)

pub there-same : (p : Queues → Listed) (qs : List Queues) (s : ℕ) (from to : Queues) → s < length qs → from ≡ slice_index_or qs s from → IsSame (p from) (p to) → IsSame (p (queues_of qs s)) (p to)
there-same p qs s from to l e h = subst (λ q. IsSame (p q) (p to)) (read-same qs s from no_queues l e) h

pub there-trimmed : (g : ℕ → Bool) (p : Queues → Listed) (qs : List Queues) (s : ℕ) (from to : Queues) → s < length qs → from ≡ slice_index_or qs s from → IsTrimmed g (p from) (p to) → IsTrimmed g (p (queues_of qs s)) (p to)
there-trimmed g p qs s from to l e h = subst (λ q. IsTrimmed g (p q) (p to)) (read-same qs s from no_queues l e) h
