-- Idle jobs stay those of a frame.
use Rattle.std.specs.Prelude.{◌≡◌, ◌⊎◌, refl, ℕ, ◌<◌, ◌==◌, ◌&&◌, not, Bool, true, false, if◌then◌else◌, List, [], ◌∷◌, ◌++◌, length, Some, slice_get, slice_set}
use Rattle.std.specs.Cmp.Lexicographic.{slice_cmp}
use Rattle.std.specs.Ordering.{is_lt, nat_cmp}
use Rattle.std.proofs.Common.{ap, sym, subst, ◌∙◌, inl, inr}
use Rattle.std.proofs.lemmas.Bool.{cases_eq, eq-eqb, ne_eqb, and_parts, not-true, or_parts, both_ways, false_from_ne_true, or_from, not_from_false}
use Rattle.std.proofs.lemmas.List.{get_or-set_other, get_or-set_same}
use Rattle.tv_lemmas.specs.Members.{In}
use Rattle.tv_lemmas.proofs.Lists.{get-last, in-front, get-end}
use Rattle.tv_value.specs.Nested.{Place}
use Rattle.tv_value.specs.Orders.{same_name}
use Rattle.tv_value.specs.Values.{Name}
use Rattle.tv_value.proofs.NameLemmas.{same_name-is, same_name-refl}
use Rattle.tv_flow.specs.Flows.{Step}
use Rattle.tv_flow.specs.Formed.{is_ascending}
use Rattle.tv_naming.specs.Naming.{has_name}
use Rattle.tv_naming.specs.Numbers.{position}
use Rattle.tv_naming.proofs.ByPosition.{names_of}
use Rattle.tv_naming.proofs.Forms.{steps-named}
use Rattle.tv_check.proofs.Ranked.{one-place}
use Rattle.tv_idle.specs.Listed.{with_job}
use Rattle.tv_idle.specs.Idles.{StepIdle, none_idle, of_step, with_idle, without}
use Rattle.tv_idle.specs.Kept.{are_in_order}
use Rattle.tv_idle.proofs.Listing.{grown-order}
use Rattle.tv_model.specs.instance.Events as events
use Rattle.tv_model.specs.instance.Events.{Event, fault_set, gave, gives_at, has_result, is_spot, is_taken, takes_at, took}
use Rattle.tv_framing.specs.Answers.{numbered}
use Rattle.tv_framing.specs.turns.Changes.{AreIdleStill, AreIdleWithOneMore, AreIdleWithoutOne, IsOfJob, NoneAreIdleAtFirst}
use Rattle.tv_framing.specs.turns.IdleJobs.{AreInOrder, IsIdle}
use Rattle.tv_framing.proofs.turns.Ranks.{in-at, named-step, number-of}
use Rattle.tv_framing.proofs.turns.Turns.{Job, in-passed, passed-in, passed-order}

-- ---- one step

abbrev IsAt : StepIdle → Job → Type 0
IsAt st j = In j st.good ⊎ In j st.faulty

in-with : (x : Job) (js : List Job) (j : Job) → In j (with_job x js) → (j ≡ x) ⊎ In j js
in-with x [] j (inl e) = inl e
in-with x [] j (inr i) = absurd i
in-with x (k ∷ ks) j i = by (is_lt (slice_cmp nat_cmp x.1 k.1)) i (in-with x ks j)
  where
    by : (b : Bool) → In j (if b then x ∷ k ∷ ks else k ∷ with_job x ks) → (In j (with_job x ks) → (j ≡ x) ⊎ In j ks) → (j ≡ x) ⊎ In j (k ∷ ks)
    by true (inl e) rec = inl e
    by true (inr r) rec = inr r
    by false (inl e) rec = inr (inl e)
    by false (inr r) rec = side (rec r)
      where
        side : (j ≡ x) ⊎ In j ks → (j ≡ x) ⊎ In j (k ∷ ks)
        side (inl e) = inl e
        side (inr m) = inr (inr m)

with-in : (x : Job) (js : List Job) (j : Job) → (j ≡ x) ⊎ In j js → In j (with_job x js)
with-in x [] j (inl e) = inl e
with-in x [] j (inr i) = absurd i
with-in x (k ∷ ks) j i = by (is_lt (slice_cmp nat_cmp x.1 k.1)) i (with-in x ks j)
  where
    by : (b : Bool) → (j ≡ x) ⊎ In j (k ∷ ks) → ((j ≡ x) ⊎ In j ks → In j (with_job x ks)) → In j (if b then x ∷ k ∷ ks else k ∷ with_job x ks)
    by true (inl e) rec = inl e
    by true (inr r) rec = inr r
    by false (inl e) rec = inr (rec (inl e))
    by false (inr (inl e)) rec = inl e
    by false (inr (inr m)) rec = inr (rec (inr m))

idle-with : (b : Bool) (x : Job) (st : StepIdle) (j : Job) → IsAt (with_idle b x st) j → (j ≡ x) ⊎ IsAt st j
idle-with true x st j (inl i) = inr (inl i)
idle-with true x st j (inr i) = by (in-with x st.faulty j i)
  where
    by : (j ≡ x) ⊎ In j st.faulty → (j ≡ x) ⊎ IsAt st j
    by (inl e) = inl e
    by (inr m) = inr (inr m)
idle-with false x st j (inr i) = inr (inr i)
idle-with false x st j (inl i) = by (in-with x st.good j i)
  where
    by : (j ≡ x) ⊎ In j st.good → (j ≡ x) ⊎ IsAt st j
    by (inl e) = inl e
    by (inr m) = inr (inl m)

with-idle : (b : Bool) (x : Job) (st : StepIdle) (j : Job) → (j ≡ x) ⊎ IsAt st j → IsAt (with_idle b x st) j
with-idle true x st j (inl e) = inr (with-in x st.faulty j (inl e))
with-idle true x st j (inr (inl i)) = inl i
with-idle true x st j (inr (inr i)) = inr (with-in x st.faulty j (inr i))
with-idle false x st j (inl e) = inl (with-in x st.good j (inl e))
with-idle false x st j (inr (inl i)) = inl (with-in x st.good j (inr i))
with-idle false x st j (inr (inr i)) = inr i

idle-without : (n : ℕ) (st : StepIdle) (j : Job) → IsAt (without n st) j → IsAt st j × ((j.0 == n) ≡ false)
idle-without n st j (inl i) = let m = in-passed (λ j. not (j.0 == n)) st.good j i in (inl m.0, not-true (j.0 == n) m.1)
idle-without n st j (inr i) = let m = in-passed (λ j. not (j.0 == n)) st.faulty j i in (inr m.0, not-true (j.0 == n) m.1)

without-idle : (n : ℕ) (st : StepIdle) (j : Job) → IsAt st j → (j.0 == n) ≡ false → IsAt (without n st) j
without-idle n st j (inl i) h = inl (passed-in (λ j. not (j.0 == n)) st.good j i (not_from_false (j.0 == n) h))
without-idle n st j (inr i) h = inr (passed-in (λ j. not (j.0 == n)) st.faulty j i (not_from_false (j.0 == n) h))

good-with : (b : Bool) (x : Job) (st : StepIdle) → are_in_order st.good ≡ true → are_in_order (with_idle b x st).good ≡ true
good-with true x st h = h
good-with false x st h = grown-order x st.good h

faulty-with : (b : Bool) (x : Job) (st : StepIdle) → are_in_order st.faulty ≡ true → are_in_order (with_idle b x st).faulty ≡ true
faulty-with true x st h = grown-order x st.faulty h
faulty-with false x st h = h

-- ---- of all steps one that changes

module _ (ss : List StepIdle) (k : ℕ) (y : StepIdle) (l : k < length ss) where
  abbrev new : List StepIdle
  new = slice_set ss k y

  at-step : of_step new k ≡ y
  at-step = get_or-set_same ss k y (none_idle 0) l

  at-other : (i : ℕ) → (i ≡ k → ⊥) → of_step new i ≡ of_step ss i
  at-other i ne = get_or-set_other ss k i y (none_idle 0) ne

  each-step : (Q : StepIdle → Type 0) → Q y → ((i : ℕ) → Q (of_step ss i)) → (i : ℕ) → Q (of_step new i)
  each-step Q here there i =
      elim (cases_eq i k) [
        | inl e ↦ subst (λ m. Q (of_step new m)) (sym e) (subst Q (sym at-step) here)
        | inr ne ↦ subst Q (sym (at-other i ne)) (there i)
      ]

  in-order : AreInOrder ss → are_in_order y.good ≡ true → are_in_order y.faulty ≡ true → AreInOrder new
  in-order o g f = record {
    good = each-step (λ st. are_in_order st.good ≡ true) g o.good;
    faulty = each-step (λ st. are_in_order st.faulty ≡ true) f o.faulty;
  }

  parted : (i : ℕ) (j : Job) → IsIdle new i j → ((i ≡ k) × IsAt y j) ⊎ ((i ≡ k → ⊥) × IsIdle ss i j)
  parted i j h =
      elim (cases_eq i k) [
        | inl e ↦ inl (e, subst (λ st. IsAt st j) (ap (of_step new) e ∙ at-step) h)
        | inr ne ↦ inr (ne, subst (λ st. IsAt st j) (at-other i ne) h)
      ]

  placed : (i : ℕ) (j : Job) → (i ≡ k → IsAt y j) → ((i ≡ k → ⊥) → IsIdle ss i j) → IsIdle new i j
  placed i j here there =
      elim (cases_eq i k) [
        | inl e ↦ subst (λ st. IsAt st j) (sym (ap (of_step new) e ∙ at-step)) (here e)
        | inr ne ↦ subst (λ st. IsAt st j) (sym (at-other i ne)) (there ne)
      ]

one-step : (xs : List (Name × Step)) (i k : ℕ) (t s : Name × Step) → i ≡ k → slice_get xs i ≡ Some t → slice_get xs k ≡ Some s → s.0 ≡ t.0
one-step xs i k t s e g h =
    let both : Some s ≡ Some t = sym h ∙ ap (slice_get xs) (sym e) ∙ g in
    let same : s ≡ t = cc in
    ap (λ (x : Name × Step). x.0) same

-- ---- none

pub none-first : NoneAreIdleAtFirst
none-first v none ss empty = record {
  order = record { good = λ k. ap are_in_order (empty k).0; faulty = λ k. ap are_in_order (empty k).1 };
  steps = λ n x e. absurd (no n x e);
  all = λ n x e t r. absurd (no n x e);
  known = λ k s j h i. absurd (out k j i);
  free = λ k s j h i. absurd (out k j i);
}
  where
    no : (n : ℕ) (x : Name × Place) → numbered v n ≡ Some x → ⊥
    no n x e = nothing (ap (λ js. slice_get js n) (sym none) ∙ e)
      where
        nothing : slice_get [] n ≡ Some x → ⊥
        nothing f = cc

    out : (k : ℕ) (j : Job) → IsIdle ss k j → ⊥
    out k j (inl i) = subst (In j) (empty k).0 i
    out k j (inr i) = subst (In j) (empty k).1 i

-- ---- one more

pub with-one-more : AreIdleWithOneMore
with-one-more v wired ss a k s h l q taken given b = record {
  order = in-order ss k y l a.order (good-with b (n, q) (of_step ss k) (a.order.good k)) (faulty-with b (n, q) (of_step ss k) (a.order.faulty k));
  steps = λ m x e. elim (get-last v.jobs (s.0, q) m x e) [
    | inl f ↦ a.steps m x f
    | inr p ↦ subst (λ (z : Name × Place). has_name v.flow.steps z.0 ≡ true) (sym p.1) (named-step v.flow.steps s (in-at v.flow.steps k s h))
  ];
  all = λ m x e t r. elim (get-last v.jobs (s.0, q) m x e) [
    | inl f ↦
        let i = a.all m x f t r in
        placed ss k y l (position x.0 v.flow.steps) (m, x.1) (λ same. with-idle b (n, q) (of_step ss k) (m, x.1) (inr (subst (λ c. IsIdle ss c (m, x.1)) same i))) (λ ne. i)
    | inr p ↦
        let at : position x.0 v.flow.steps ≡ k = ap (λ (z : Name × Place). position z.0 v.flow.steps) p.1 ∙ number-of v.flow.steps k s rise h in
        placed ss k y l (position x.0 v.flow.steps) (m, x.1)
        (λ same. with-idle b (n, q) (of_step ss k) (m, x.1) (inl (λ i. (p.0 i, (p.1 i).1))))
        (λ ne. absurd (ne at))
  ];
  known = λ i t j g at. elim (parted ss k y l i j at) [
    | inl p ↦ elim (idle-with b (n, q) (of_step ss k) j p.1) [
      | inl e ↦
          ap (λ m. slice_get (v.jobs ++ (s.0, q) ∷ []) m) (ap (λ (x : Job). x.0) e)
          ∙ get-end v.jobs (s.0, q)
          ∙ (λ w. Some (one-step v.flow.steps i k t s p.0 g h w, (sym e w).1))
      | inr old ↦ in-front v.jobs ((s.0, q) ∷ []) j.0 (t.0, j.1) (a.known i t j g (subst (λ c. IsIdle ss c j) (sym p.0) old))
    ]
    | inr p ↦ in-front v.jobs ((s.0, q) ∷ []) j.0 (t.0, j.1) (a.known i t j g p.1)
  ];
  free = λ i t j g at. elim (parted ss k y l i j at) [
    | inl p ↦ elim (idle-with b (n, q) (of_step ss k) j p.1) [
      | inl e ↦
          let same = one-step v.flow.steps i k t s p.0 g h in (
            ap (λ c. is_taken v.events c j.1) (sym same) ∙ ap (λ (x : Job). is_taken v.events s.0 x.1) e ∙ taken,
            ap (λ c. has_result v.events c j.1) (sym same) ∙ ap (λ (x : Job). has_result v.events s.0 x.1) e ∙ given,
          )
      | inr old ↦ a.free i t j g (subst (λ c. IsIdle ss c j) (sym p.0) old)
    ]
    | inr p ↦ a.free i t j g p.1
  ];
}
  where
    n : ℕ
    n = length v.jobs

    y : StepIdle
    y = with_idle b (n, q) (of_step ss k)

    rise : is_ascending (names_of v.flow.steps) ≡ true
    rise = (steps-named v.flow wired.formed).rise

-- ---- something else

pub still : AreIdleStill
still v ss a e leaves = record {
  order = a.order;
  steps = a.steps;
  all = λ n x h t r. a.all n x h (or_parts (takes_at x.0 x.1 e) (is_taken v.events x.0 x.1) t).1 (or_parts (gives_at x.0 x.1 e) (has_result v.events x.0 x.1) r).1;
  known = a.known;
  free = λ k s j h i.
      let f = a.free k s j h i in
      let o = leaves s.0 j.1 f.0 f.1 in
      (or_from (takes_at s.0 j.1 e) (is_taken v.events s.0 j.1) o.0 f.0, or_from (gives_at s.0 j.1 e) (has_result v.events s.0 j.1) o.1 f.1);
}

-- ---- one goes

spot : (a : Name) (b : Place) (s : Name) (q : Place) → (a ≡ s) × (b ≡ q) → (t : Name) (r : Place) → is_spot t r a b ≡ true → (t ≡ s) × (r ≡ q)
spot a b s q o t r h = let p = and_parts (same_name t a) (same_name r b) h in (same_name-is t a p.0 ∙ o.0, same_name-is r b p.1 ∙ o.1)

itself : (a : Name) (b : Place) (s : Name) (q : Place) → (a ≡ s) × (b ≡ q) → is_spot s q a b ≡ true
itself a b s q o =
    ap (λ c. same_name s c && same_name q b) o.0
    ∙ ap (λ c. same_name s s && same_name q c) o.1
    ∙ ap (λ c. c && same_name q q) (same_name-refl s)
    ∙ same_name-refl q

-- an event of a job is of what stands at its place alone
own-spot : (e : Event) (s : Name) (q : Place) → IsOfJob e s q → (t : Name) (r : Place) → (takes_at t r e ≡ true) ⊎ (gives_at t r e ≡ true) → (t ≡ s) × (r ≡ q)
own-spot (gave a b vs) s q o t r (inl h) = cc
own-spot (gave a b vs) s q o t r (inr h) = spot a b s q o t r h
own-spot (took a b) s q o t r (inl h) = spot a b s q o t r h
own-spot (took a b) s q o t r (inr h) = cc
own-spot (events.closed a b n) s q o t r h = absurd o
own-spot (fault_set a b x) s q o t r h = absurd o

-- and makes it taken or gives its result
is-own : (e : Event) (s : Name) (q : Place) → IsOfJob e s q → (takes_at s q e ≡ true) ⊎ (gives_at s q e ≡ true)
is-own (gave a b vs) s q o = inr (itself a b s q o)
is-own (took a b) s q o = inl (itself a b s q o)
is-own (events.closed a b n) s q o = absurd o
is-own (fault_set a b x) s q o = absurd o

pub without-one : AreIdleWithoutOne
without-one v wired ss a k s h l n q is only e own = record {
  order = in-order ss k y l a.order (passed-order (λ j. not (j.0 == n)) (of_step ss k).good (a.order.good k)) (passed-order (λ j. not (j.0 == n)) (of_step ss k).faulty (a.order.faulty k));
  steps = a.steps;
  all = λ m x g t r.
      let t2 = or_parts (takes_at x.0 x.1 e) (is_taken v.events x.0 x.1) t in
      let r2 = or_parts (gives_at x.0 x.1 e) (has_result v.events x.0 x.1) r in
      let i = a.all m x g t2.1 r2.1 in
      placed ss k y l (position x.0 v.flow.steps) (m, x.1)
      (λ same. without-idle n (of_step ss k) (m, x.1) (subst (λ c. IsIdle ss c (m, x.1)) same i) (ne_eqb m n (other m x g t2.0 r2.0)))
      (λ ne. i);
  known = λ i t j g at. a.known i t j g (before i j at);
  free = λ i t j g at.
      let f = a.free i t j g (before i j at) in (
        or_from (takes_at t.0 j.1 e) (is_taken v.events t.0 j.1) (false_from_ne_true (takes_at t.0 j.1 e) (λ u. apart i t j g at (own-spot e s.0 q own t.0 j.1 (inl u)))) f.0,
        or_from (gives_at t.0 j.1 e) (has_result v.events t.0 j.1) (false_from_ne_true (gives_at t.0 j.1 e) (λ u. apart i t j g at (own-spot e s.0 q own t.0 j.1 (inr u)))) f.1,
      );
}
  where
    y : StepIdle
    y = without n (of_step ss k)

    rise : is_ascending (names_of v.flow.steps) ≡ true
    rise = (steps-named v.flow wired.formed).rise

    -- one that is neither taken nor gives its result is another
    other : (m : ℕ) (x : Name × Place) → numbered v m ≡ Some x → takes_at x.0 x.1 e ≡ false → gives_at x.0 x.1 e ≡ false → m ≡ n → ⊥
    other m x g t r same =
        let both : Some x ≡ Some (s.0, q) = sym g ∙ ap (numbered v) same ∙ is in
        let spot : x ≡ (s.0, q) = cc in
        elim (is-own e s.0 q own) [
          | inl u ↦ both_ways (takes_at x.0 x.1 e) t (ap (λ (z : Name × Place). takes_at z.0 z.1 e) spot ∙ u)
          | inr u ↦ both_ways (gives_at x.0 x.1 e) r (ap (λ (z : Name × Place). gives_at z.0 z.1 e) spot ∙ u)
        ]

    before : (i : ℕ) (j : Job) → IsIdle (slice_set ss k y) i j → IsIdle ss i j
    before i j at =
        elim (parted ss k y l i j at) [
          | inl p ↦ subst (λ c. IsIdle ss c j) (sym p.0) (idle-without n (of_step ss k) j p.1).0
          | inr p ↦ p.1
        ]

    apart : (i : ℕ) (t : Name × Step) (j : Job) → slice_get v.flow.steps i ≡ Some t → IsIdle (slice_set ss k y) i j → (t.0 ≡ s.0) × (j.1 ≡ q) → ⊥
    apart i t j g at o =
        let same = only j.0 (a.known i t j g (before i j at) ∙ (λ w. Some (o.0 w, o.1 w))) in
        elim (parted ss k y l i j at) [
          | inl p ↦ both_ways (j.0 == n) (idle-without n (of_step ss k) j p.1).1 (ap (λ m. j.0 == m) (sym same) ∙ own-eq j.0)
          | inr p ↦ p.0 (one-place v.flow.steps i k t s rise g h o.0)
        ]
      where
        own-eq : (m : ℕ) → (m == m) ≡ true
        own-eq m = eq-eqb m m refl
