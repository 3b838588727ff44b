-- The jobs of one step at such a stage, where one seat stands at another.
use Rattle.std.specs.Prelude.{◌≡◌, ◌≢◌, ℕ, zero, suc, ◌<◌, ◌≤◌, ◌&&◌, ◌⊎◌, if◌then◌else◌, Bool, true, false, List, [], ◌∷◌, Some, length, slice_get, refl}
use Rattle.std.specs.Cmp.{IsStrictWeakOrder}
use Rattle.std.specs.Cmp.Lexicographic.{slice_cmp}
use Rattle.std.specs.List.{insert, list_all, remove}
use Rattle.std.specs.Ordering.{is_lt, nat_cmp}
use Rattle.std.proofs.Common.{arith, ap, subst, sym, ◌∙◌, inl, inr}
use Rattle.std.proofs.lemmas.Cmp.{nat_list_cmp_total}
use Rattle.std.proofs.lemmas.List.MinMax.{ranks_by}
use Rattle.std.proofs.lemmas.Map.Lookups.{exact_bytes}
use Rattle.std.proofs.lemmas.Bool.{and_parts}
use Rattle.tv_lemmas.proofs.Orderings.{not_lt-equal}
use Rattle.tv_idle.specs.Listed.{with_job}
use Rattle.tv_seats.specs.declared.stage.Stage.{Stage}
use Rattle.tv_seats.specs.Kept.{AreApart, AreJobsAt, AreNumbersAt, IsJobAt, IsOneOf, IsSeatAt, numbers_of, rises}
use Rattle.tv_seats.specs.Seats.{Seat, staged, with_stage}
use Rattle.tv_seats.proofs.Staging.{at-after, at-before, some-same, staged-here}

abbrev pub Job : Type 0
Job = ℕ × List ℕ

-- ---- the order of places

abbrev pub lt : Job → Job → Bool
lt j k = is_lt (slice_cmp nat_cmp j.1 k.1)

abbrev order : IsStrictWeakOrder lt
order = ranks_by nat_list_cmp_total (λ (j : Job). j.1)

pub itself : (j : Job) → lt j j ≡ true → ⊥
itself j h = let f : true ≡ false = sym h ∙ order.one_way j j h in cc

onward : (j k m : Job) → lt j k ≡ true → lt k m ≡ true → lt j m ≡ true
onward j k m g h = by (lt j m) refl
  where
    by : (b : Bool) → lt j m ≡ b → lt j m ≡ true
    by true e = e
    by false e = let f : false ≡ true = sym (order.chain j m k e (order.one_way k m h)) ∙ g in cc

-- neither stands before the other: they have one place
tie : (j k : Job) → lt j k ≡ false → lt k j ≡ false → j.1 ≡ k.1
tie j k g h =
    exact_bytes j.1 k.1
    (not_lt-equal (slice_cmp nat_cmp j.1 k.1) g (ap is_lt (sym (nat_list_cmp_total.antisymm k.1 j.1)) ∙ h))

-- ---- lists of jobs

pub all-one : (p : Job → Bool) (j : Job) (js : List Job) → list_all p js ≡ true → IsOneOf j js → p j ≡ true
all-one p j [] h o = absurd o
all-one p j (k ∷ ks) h o =
    let b = and_parts (p k) (list_all p ks) h in
    elim o [
      | inl e ↦ ap p e ∙ b.0
      | inr there ↦ all-one p j ks b.1 there
    ]

all-by : (p : Job → Bool) (js : List Job) → ((j : Job) → IsOneOf j js → p j ≡ true) → list_all p js ≡ true
all-by p [] h = refl
all-by p (j ∷ js) h = ap (λ c. c && list_all p js) (h j (inl refl)) ∙ all-by p js (λ k o. h k (inr o))

-- one more is one of them
pub put-here : (j : Job) (js : List Job) → IsOneOf j (with_job j js)
put-here j [] = inl refl
put-here j (k ∷ ks) = by (lt j k) (put-here j ks)
  where
    by : (b : Bool) → IsOneOf j (with_job j ks) → IsOneOf j (if b then j ∷ k ∷ ks else k ∷ with_job j ks)
    by true o = inl refl
    by false o = inr o

pub put-there : (m j : Job) (js : List Job) → IsOneOf m js → IsOneOf m (with_job j js)
put-there m j [] o = absurd o
put-there m j (k ∷ ks) o = by (lt j k) (put-there m j ks)
  where
    by : (b : Bool) → (IsOneOf m ks → IsOneOf m (with_job j ks)) → IsOneOf m (if b then j ∷ k ∷ ks else k ∷ with_job j ks)
    by true r = inr o
    by false r =
        elim o [
          | inl e ↦ inl e
          | inr there ↦ inr (r there)
        ]

pub put-one : (m j : Job) (js : List Job) → IsOneOf m (with_job j js) → (m ≡ j) ⊎ IsOneOf m js
put-one m j [] o = o
put-one m j (k ∷ ks) o = by (lt j k) (put-one m j ks) o
  where
    by : (b : Bool) → (IsOneOf m (with_job j ks) → (m ≡ j) ⊎ IsOneOf m ks)
        → IsOneOf m (if b then j ∷ k ∷ ks else k ∷ with_job j ks) → (m ≡ j) ⊎ IsOneOf m (k ∷ ks)
    by true r o = o
    by false r o =
        elim o [
          | inl e ↦ inr (inl e)
          | inr there ↦
              elim (r there) [
                | inl e ↦ inl e
                | inr in_rest ↦ inr (inr in_rest)
              ]
        ]

-- where none has its place, one more stands in its order
pub put-rises : (j : Job) (js : List Job) → ((k : Job) → IsOneOf k js → k.1 ≢ j.1) → rises js ≡ true → rises (with_job j js) ≡ true
put-rises j [] free h = refl
put-rises j (k ∷ ks) free h = by (lt j k) refl (put-rises j ks (λ m o. free m (inr o)) (and_parts (list_all (lt k) ks) (rises ks) h).1)
  where
    later : (list_all (lt k) ks ≡ true) × (rises ks ≡ true)
    later = and_parts (list_all (lt k) ks) (rises ks) h

    by : (b : Bool) → lt j k ≡ b → rises (with_job j ks) ≡ true → rises (if b then j ∷ k ∷ ks else k ∷ with_job j ks) ≡ true
    by true e r =
        ap (λ b. b && rises (k ∷ ks))
        (all-by (lt j) (k ∷ ks) (λ m o.
        elim o [
          | inl is ↦ ap (lt j) is ∙ e
          | inr there ↦ onward j k m e (all-one (lt k) m ks later.0 there)
        ]))
        ∙ h
    by false e r =
        ap (λ b. b && rises (with_job j ks))
        (all-by (lt k) (with_job j ks) (λ m o.
        elim (put-one m j ks o) [
          | inl is ↦ ap (lt k) is ∙ before (lt k j) refl
          | inr there ↦ all-one (lt k) m ks later.0 there
        ]))
        ∙ r
      where
        before : (b : Bool) → lt k j ≡ b → lt k j ≡ true
        before true g = g
        before false g = absurd (free k (inl refl) (tie k j g e))

-- ---- positions

pub get-one : (js : List Job) (p : ℕ) (j : Job) → slice_get js p ≡ Some j → IsOneOf j js
get-one [] p j e = cc
get-one (k ∷ ks) zero j e = inl (sym (some-same e))
get-one (k ∷ ks) (suc p) j e = inr (get-one ks p j e)

pub one-at : (js : List Job) (j : Job) → IsOneOf j js → (p : ℕ) × (slice_get js p ≡ Some j)
one-at [] j o = absurd o
one-at (k ∷ ks) j o =
    elim o [
      | inl e ↦ (0, ap Some (sym e))
      | inr there ↦ let r = one-at ks j there in (suc r.0, r.1)
    ]

pub number-there : (js : List Job) (p : ℕ) (j : Job) → slice_get js p ≡ Some j → slice_get (numbers_of js) p ≡ Some j.0
number-there [] p j e = cc
number-there (k ∷ ks) zero j e = ap (λ (i : Job). Some i.0) (some-same e)
number-there (k ∷ ks) (suc p) j e = number-there ks p j e

pub number-of : (js : List Job) (p n : ℕ) → slice_get (numbers_of js) p ≡ Some n → (j : Job) × (slice_get js p ≡ Some j) × (j.0 ≡ n)
number-of [] p n e = cc
number-of (k ∷ ks) zero n e = (k, refl, some-same e)
number-of (k ∷ ks) (suc p) n e = number-of ks p n e

pub many-numbers : (js : List Job) → length (numbers_of js) ≡ length js
many-numbers [] = refl
many-numbers (j ∷ js) = ap suc (many-numbers js)

-- the earlier one stands before the later one
pub earlier-before : (js : List Job) (p q : ℕ) (j k : Job) → rises js ≡ true → p < q → slice_get js p ≡ Some j → slice_get js q ≡ Some k → lt j k ≡ true
earlier-before [] p q j k h l e f = cc
earlier-before (i ∷ js) zero zero j k h l e f = absurd (omega (arith, l))
earlier-before (i ∷ js) zero (suc q) j k h l e f =
    ap (λ m. lt m k) (sym (some-same e))
    ∙ all-one (lt i) k js (and_parts (list_all (lt i) js) (rises js) h).0 (get-one js q k f)
earlier-before (i ∷ js) (suc p) zero j k h l e f = absurd (omega (arith, l))
earlier-before (i ∷ js) (suc p) (suc q) j k h l e f =
    earlier-before js p q j k (and_parts (list_all (lt i) js) (rises js) h).1 (omega (arith, l)) e f

-- just so many, the first ones, stand before a job
pub record IsPlaced (js : List Job) (j : Job) (p : ℕ) : Type 0 where
  pub before : (i : ℕ) (m : Job) → i < p → slice_get js i ≡ Some m → lt m j ≡ true
  pub behind : (m : Job) → slice_get js p ≡ Some m → lt m j ≡ false

placed-later : (k : Job) (ks : List Job) (j : Job) (p : ℕ) → IsPlaced (k ∷ ks) j (suc p) → IsPlaced ks j p
placed-later k ks j p h = record { before = λ i m l e. h.before (suc i) m (omega (arith, l)) e; behind = λ m e. h.behind m e }

-- one of them stands at that position
pub placed-there : (js : List Job) (p : ℕ) (j : Job) → rises js ≡ true → IsOneOf j js → IsPlaced js j p → slice_get js p ≡ Some j
placed-there [] p j h o w = absurd o
placed-there (k ∷ ks) zero j h o w =
    elim o [
      | inl e ↦ ap Some (sym e)
      | inr there ↦
          let g : true ≡ false = sym (all-one (lt k) j ks (and_parts (list_all (lt k) ks) (rises ks) h).0 there) ∙ w.behind k refl in cc
    ]
placed-there (k ∷ ks) (suc p) j h o w =
    elim o [
      | inl e ↦ absurd (itself j (ap (λ i. lt i j) e ∙ w.before 0 k (omega arith) refl))
      | inr there ↦ placed-there ks p j (and_parts (list_all (lt k) ks) (rises ks) h).1 there (placed-later k ks j p w)
    ]

-- and one more is put there
pub placed-put : (js : List Job) (p : ℕ) (j : Job) → p ≤ length js → IsPlaced js j p → ((k : Job) → IsOneOf k js → k.1 ≢ j.1)
    → insert (numbers_of js) p j.0 ≡ numbers_of (with_job j js)
placed-put [] zero j l w free = refl
placed-put [] (suc p) j l w free = absurd (omega (arith, l))
placed-put (k ∷ ks) zero j l w free =
    by (lt j k) refl
  where
    by : (b : Bool) → lt j k ≡ b → j.0 ∷ k.0 ∷ numbers_of ks ≡ numbers_of (if b then j ∷ k ∷ ks else k ∷ with_job j ks)
    by true e = refl
    by false e = absurd (free k (inl refl) (tie k j (w.behind k refl) e))
placed-put (k ∷ ks) (suc p) j l w free =
    ap (λ l. k.0 ∷ l) (placed-put ks p j (omega (arith, l)) (placed-later k ks j p w) (λ m o. free m (inr o)))
    ∙ ap (λ b. numbers_of (if b then j ∷ k ∷ ks else k ∷ with_job j ks)) (sym (order.one_way k j (w.before 0 k (omega arith) refl)))

-- ---- without one of them

pub left-numbers : (js : List Job) (p : ℕ) → remove (numbers_of js) p ≡ numbers_of (remove js p)
left-numbers [] zero = refl
left-numbers [] (suc p) = refl
left-numbers (k ∷ ks) zero = refl
left-numbers (k ∷ ks) (suc p) = ap (λ l. k.0 ∷ l) (left-numbers ks p)

pub left-one : (m : Job) (js : List Job) (p : ℕ) → IsOneOf m (remove js p) → IsOneOf m js
left-one m [] zero o = o
left-one m [] (suc p) o = o
left-one m (k ∷ ks) zero o = inr o
left-one m (k ∷ ks) (suc p) o =
    elim o [
      | inl e ↦ inl e
      | inr there ↦ inr (left-one m ks p there)
    ]

pub left-other : (m : Job) (js : List Job) (p : ℕ) → IsOneOf m js → (slice_get js p ≡ Some m) ⊎ IsOneOf m (remove js p)
left-other m [] p o = absurd o
left-other m (k ∷ ks) zero o =
    elim o [
      | inl e ↦ inl (ap Some (sym e))
      | inr there ↦ inr there
    ]
left-other m (k ∷ ks) (suc p) o =
    elim o [
      | inl e ↦ inr (inl e)
      | inr there ↦
          elim (left-other m ks p there) [
            | inl e ↦ inl e
            | inr in_rest ↦ inr (inr in_rest)
          ]
    ]

pub left-rises : (js : List Job) (p : ℕ) → rises js ≡ true → rises (remove js p) ≡ true
left-rises [] zero h = refl
left-rises [] (suc p) h = refl
left-rises (k ∷ ks) zero h = (and_parts (list_all (lt k) ks) (rises ks) h).1
left-rises (k ∷ ks) (suc p) h =
    let b = and_parts (list_all (lt k) ks) (rises ks) h in
    ap (λ c. c && rises (remove ks p)) (all-by (lt k) (remove ks p) (λ m o. all-one (lt k) m ks b.0 (left-one m ks p o)))
    ∙ left-rises ks p b.1

-- no other has its place
pub left-apart : (js : List Job) (p : ℕ) (j m : Job) → rises js ≡ true → slice_get js p ≡ Some j → IsOneOf m (remove js p) → m.1 ≢ j.1
left-apart [] p j m h e o same = cc
left-apart (k ∷ ks) zero j m h e o same =
    let b = and_parts (list_all (lt k) ks) (rises ks) h in
    itself m
    (ap (λ q. is_lt (slice_cmp nat_cmp q m.1)) (same ∙ ap (λ (i : Job). i.1) (sym (some-same e)))
    ∙ all-one (lt k) m ks b.0 o)
left-apart (k ∷ ks) (suc p) j m h e o same =
    let b = and_parts (list_all (lt k) ks) (rises ks) h in
    elim o [
      | inl is ↦
          itself j
          (ap (λ q. is_lt (slice_cmp nat_cmp q j.1)) (sym same ∙ ap (λ (i : Job). i.1) is)
          ∙ all-one (lt k) j ks b.0 (get-one ks p j e))
      | inr there ↦ left-apart ks p j m b.1 e there same
    ]

-- ---- those at a stage

-- the first of them
pub record IsFirstAt (p : Stage → Bool) (seats : List Seat) (k n : ℕ) : Type 0 where
  pub seat : Seat
  pub is : IsSeatAt p seats k n seat
  pub first : (m : ℕ) (t : Seat) → IsSeatAt p seats k m t → is_lt (slice_cmp nat_cmp t.place seat.place) ≡ false

module _ (p : Stage → Bool) (seats : List Seat) (k : ℕ) where
  -- none where there are no jobs
  pub none-at : (n : ℕ) (s : Seat) → AreJobsAt p seats k [] → IsSeatAt p seats k n s → ⊥
  none-at n s a i = a.all (n, s.place) (s, i, refl)

  -- the first job's is the first seat
  pub first-is : (j : Job) (js : List Job) → AreJobsAt p seats k (j ∷ js) → IsFirstAt p seats k j.0
  first-is j js a =
      let here = a.each j (inl refl) in
      record {
        seat = here.0;
        is = here.1;
        first = λ m t i.
            ap (λ q. is_lt (slice_cmp nat_cmp t.place q)) here.2
            ∙ elim (a.all (m, t.place) (t, i, refl)) [
              | inl e ↦ ap (λ (i : Job). lt i j) e ∙ not-itself (lt j j) refl
              | inr there ↦
                  order.one_way j (m, t.place)
                  (all-one (lt j) (m, t.place) js (and_parts (list_all (lt j) js) (rises js) a.in_order).0 there)
            ];
      }
    where
      not-itself : (b : Bool) → lt j j ≡ b → lt j j ≡ false
      not-itself true e = absurd (itself j e)
      not-itself false e = e

  -- the first seat's is the first job
  pub first-one : (n : ℕ) (js : List Job) → AreJobsAt p seats k js → (f : IsFirstAt p seats k n) → (rest : List Job) × (js ≡ (n, f.seat.place) ∷ rest)
  first-one n [] a f = absurd (none-at n f.seat a f.is)
  first-one n (j ∷ js) a f =
      elim (a.all (n, f.seat.place) (f.seat, f.is, refl)) [
        | inl e ↦ (js, ap (λ (i : Job). i ∷ js) (sym e))
        | inr there ↦
            let here = a.each j (inl refl) in
            let before : lt j (n, f.seat.place) ≡ true = all-one (lt j) (n, f.seat.place) js (and_parts (list_all (lt j) js) (rises js) a.in_order).0 there in
            let not_before : lt j (n, f.seat.place) ≡ false =
            ap (λ q. is_lt (slice_cmp nat_cmp q f.seat.place)) (sym here.2) ∙ f.first j.0 here.0 here.1
            in
            let bad : true ≡ false = sym before ∙ not_before in
            cc
      ]

-- ---- one seat stands at another stage

module _ (p : Stage → Bool) (seats : List Seat) (n : ℕ) (s : Seat) (x : Stage) (there : slice_get seats n ≡ Some s) (k : ℕ) where
  abbrev after : List Seat
  after = with_stage n x seats

  -- the same are so, where it is so in that step neither before nor after
  pub same-at : (js : List Job) → (s.step ≡ k → p s.stage ≡ false) → (s.step ≡ k → p x ≡ false)
      → AreJobsAt p seats k js → AreJobsAt p after k js
  same-at js was becomes a = record {
    in_order = a.in_order;
    each = λ j o.
        let i = a.each j o in
        at-after seats n s x there p k j.0 i.0 i.1 (λ ne h. (i.0, h, i.2))
        (λ is at.
        let of_step : s.step ≡ k = ap (λ (t : Seat). t.step) (sym at) ∙ i.1.of_step in
        let f : true ≡ false = sym i.1.stands ∙ ap (λ (t : Seat). p t.stage) at ∙ was of_step in
        cc);
    all = λ j i.
        a.all j
        (at-before seats n s x there p k j.0 i.0 i.1 (λ ne h. (i.0, h, i.2))
        (λ is at.
        let of_step : s.step ≡ k = ap (λ (t : Seat). t.step) (sym at) ∙ i.1.of_step in
        let f : true ≡ false = sym i.1.stands ∙ ap (λ (t : Seat). p t.stage) at ∙ becomes of_step in
        cc));
  }

  pub same-numbers : (ns : List ℕ) → (s.step ≡ k → p s.stage ≡ false) → (s.step ≡ k → p x ≡ false)
      → AreNumbersAt p seats k ns → AreNumbersAt p after k ns
  same-numbers ns was becomes a = record { jobs = a.jobs; numbers = a.numbers; are = same-at a.jobs was becomes a.are }

  -- one of them is so no more
  pub left-at : (js : List Job) (q : ℕ) → slice_get js q ≡ Some (n, s.place) → p x ≡ false → AreJobsAt p seats k js → AreJobsAt p after k (remove js q)
  left-at js q it becomes a = record {
    in_order = left-rises js q a.in_order;
    each = λ j o.
        let i = a.each j (left-one j js q o) in
        at-after seats n s x there p k j.0 i.0 i.1 (λ ne h. (i.0, h, i.2))
        (λ is at. absurd (left-apart js q (n, s.place) j a.in_order it o (sym i.2 ∙ ap (λ (t : Seat). t.place) at)));
    all = λ j i.
        at-before seats n s x there p k j.0 i.0 i.1
        (λ ne h.
        elim (left-other j js q (a.all j (i.0, h, i.2))) [
          | inl e ↦ absurd (ne (ap (λ (j : Job). j.0) (some-same (sym e ∙ it))))
          | inr in_rest ↦ in_rest
        ])
        (λ is at.
        let f : true ≡ false = sym i.1.stands ∙ ap (λ (t : Seat). p t.stage) at ∙ becomes in
        cc);
  }

  -- no other job of the step has its place
  pub free-at : (js : List Job) → s.step ≡ k → p s.stage ≡ false → AreApart seats → AreJobsAt p seats k js → (j : Job) → IsOneOf j js → j.1 ≢ s.place
  free-at js of_step was apart a j o e =
      let i = a.each j o in
      let is = apart j.0 n i.0 s i.1.there there (i.1.of_step ∙ sym of_step) (i.2 ∙ e) in
      let at : i.0 ≡ s = some-same (sym (sym there ∙ (ap (slice_get seats) (sym is) ∙ i.1.there))) in
      let f : true ≡ false = sym i.1.stands ∙ ap (λ (t : Seat). p t.stage) at ∙ was in
      cc

  -- one more is so
  pub put-at : (js : List Job) → s.step ≡ k → p s.stage ≡ false → p x ≡ true → AreApart seats
      → AreJobsAt p seats k js → AreJobsAt p after k (with_job (n, s.place) js)
  put-at js of_step was becomes apart a = record {
    in_order = put-rises (n, s.place) js (free-at js of_step was apart a) a.in_order;
    each = λ j o.
        elim (put-one j (n, s.place) js o) [
          | inl e ↦ (
            staged x s,
            record {
              there = ap (slice_get after) (ap (λ (j : Job). j.0) e) ∙ staged-here seats n s x there;
              of_step = of_step;
              stands = becomes;
            },
            sym (ap (λ (j : Job). j.1) e),
          )
          | inr in_js ↦ still j (a.each j in_js)
        ];
    all = λ j i.
        at-before seats n s x there p k j.0 i.0 i.1
        (λ ne h. put-there j (n, s.place) js (a.all j (i.0, h, i.2)))
        (λ is at.
        let place : j.1 ≡ s.place = sym i.2 ∙ ap (λ (t : Seat). t.place) at in
        let same : j ≡ (n, s.place) = (λ z. (is z, place z)) in
        let put : IsOneOf (n, s.place) (with_job (n, s.place) js) = put-here (n, s.place) js in
        subst (λ (i : Job). IsOneOf i (with_job (n, s.place) js)) (sym same) put);
  }
    where
      still : (j : Job) → IsJobAt p seats k j → IsJobAt p after k j
      still j i =
          at-after seats n s x there p k j.0 i.0 i.1 (λ ne h. (i.0, h, i.2))
          (λ is at.
          let f : true ≡ false = sym i.1.stands ∙ ap (λ (t : Seat). p t.stage) at ∙ was in
          cc)
