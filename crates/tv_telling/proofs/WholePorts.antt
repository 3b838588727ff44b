-- How a call begins and ends, and the law.
use Rattle.std.specs.Prelude.{◌≡◌, ℕ, zero, suc, ◌+◌, ◌-◌, ◌<◌, ◌≤◌, List, [], ◌∷◌, ◌++◌, length, map, set, replicate, flat_map, count_by, nat_lt, not, Bool, true, false, ◌==◌, ◌&&◌, ◌||◌, cond, vec_capacity, refl}
use Rattle.std.specs.List.{list_all, range_with_len}
use Rattle.std.proofs.Common.{arith, get_or, ap, sym, subst, ◌∙◌, inl, inr}
use Rattle.std.proofs.Math.Seq.{drop-cons}
use Rattle.std.proofs.lemmas.Bool.{cases_eq, eq-eqb, lt-ltb, ltb-true, ne_eqb}
use Rattle.std.proofs.lemmas.List.{drop_all, get_or-set_other, get_or-set_same, length-append, length-map, length-replicate, length-set}
use Rattle.std.proofs.lemmas.List.Sums.{count_by-le-length}
use Rattle.tv_naming.proofs.Lists.{list_all-at}
use Rattle.tv_check.specs.Turned.{all_waits, from_number}
use Rattle.tv_telling.specs.declared.endings.endings.Endings.{Endings}
use Rattle.tv_telling.specs.endings.Ends.{after_of, ended_now, has_ended, have_ended, is_one_of, is_whole, AreTurned, IsSound}
use Rattle.tv_telling.specs.endings.Counting.{to_lower, IsCounting}
use Rattle.tv_telling.specs.endings.Stated.{AllEndWhereAllAreWhole, AreRanked}
use Rattle.tv_telling.proofs.Counts.{count-cons, count-none, count-same, count-set, none-fails, one}
use Rattle.tv_telling.proofs.Turns.{row-inside}
use Rattle.tv_telling.proofs.Lowering.{EndsOne, ended-itself, ended-more, ended-other, fewer-left, fewer-to-end, lower-more-often, now-more}
use Rattle.tv_lemmas.proofs.Tests.{and-right_false}

-- ---- the next step whose dependents are counted down

pub fresh-inside : (after dependents : List (List ℕ)) (was : ℕ → Bool) (e : Endings) (first : List ℕ) (k j : ℕ) → IsCounting after dependents was e first k → j < length e.fresh.items → get_or e.fresh.items j 0 < length after
fresh-inside after dependents was e first k j c lt = ltb-true (get_or e.fresh.items j 0) (length after) (list_all-at (λ s. nat_lt s (length after)) e.fresh.items j 0 c.inside lt)

pub next-step : (after dependents : List (List ℕ)) (was : ℕ → Bool) (e : Endings) (k a : ℕ) → IsCounting after dependents was e [] k → (lt : k < length e.fresh.items) → a ≡ get_or e.fresh.items k 0 → IsCounting after dependents was e (get_or dependents a []) (k + 1)
next-step after dependents was e k a c lt is =
    let n : suc k ≡ k + 1 = omega arith in
    let below : a < length after = subst (λ b. b < length after) (sym is) (fresh-inside after dependents was e [] k k c lt) in
    let all : to_lower dependents k e ≡ get_or dependents a [] ++ to_lower dependents (k + 1) e =
    ap (flat_map (λ s. get_or dependents s [])) (drop-cons e.fresh.items k 0 lt)
    ∙ ap (λ b. get_or dependents b [] ++ to_lower dependents (suc k) e) (sym is)
    ∙ ap (λ m. get_or dependents a [] ++ to_lower dependents m e) n
    in
    record {
      turned = c.turned;
      left = λ s h. c.left s h ∙ ap (λ ns. count_by (λ b. not (has_ended e b)) (after_of after s) + count_by (λ j. j == s) ns) all;
      ended = c.ended;
      now = c.now;
      kept = c.kept;
      growing = c.growing;
      whole_each = c.whole_each;
      ended_each = c.ended_each;
      left_each = c.left_each;
      first_inside = row-inside after dependents c.turned a below;
      inside = c.inside;
      room = c.room;
      capacity = c.capacity;
      counted = omega (arith, lt);
    }

-- ---- the start

none-there : (n s : ℕ) → get_or (replicate n false) s false ≡ false
none-there zero s = refl
none-there (suc n) zero = refl
none-there (suc n) (suc s) = none-there n s

lengths-at : (rows : List (List ℕ)) (s : ℕ) → s < length rows → get_or (map length rows) s 0 ≡ length (get_or rows s [])
lengths-at [] s lt = absurd (omega arith)
lengths-at (r ∷ rows) zero lt = refl
lengths-at (r ∷ rows) (suc s) lt = lengths-at rows s (omega arith)

count-all : (p : ℕ → Bool) → ((n : ℕ) → p n ≡ true) → (ns : List ℕ) → count_by p ns ≡ length ns
count-all p h [] = refl
count-all p h (n ∷ ns) =
    let a = count-cons p n ns in
    let b : one (p n) ≡ 1 = ap one (h n) in
    let c = count-all p h ns in
    omega (arith, a, b, c)

pub sound-at_start : (after : List (List ℕ)) (e : Endings) → e.left.items ≡ map length after → e.whole.items ≡ replicate (length after) false → e.ended.items ≡ replicate (length after) false → e.growing ≡ length after → length after ≤ vec_capacity e.fresh → IsSound after e
sound-at_start after e left whole ended growing room =
    let none-ended : (s : ℕ) → has_ended e s ≡ false = λ s. ap (λ bs. get_or bs s false) ended ∙ none-there (length after) s in
    let none-whole : (s : ℕ) → is_whole e s ≡ false = λ s. ap (λ bs. get_or bs s false) whole ∙ none-there (length after) s in
    record {
      ended = λ s lt. none-ended s ∙ ap (λ b. b && have_ended e (after_of after s)) (sym (none-whole s));
      left = λ s lt. ap (λ ns. get_or ns s 0) left ∙ lengths-at after s lt ∙ sym (count-all (λ a. not (has_ended e a)) (λ a. ap (λ b. not b) (none-ended a)) (after_of after s));
      growing = growing ∙ sym (ap (count_by not) whole ∙ count-none (length after));
      whole_each = ap length whole ∙ length-replicate (length after) false;
      ended_each = ap length ended ∙ length-replicate (length after) false;
      left_each = ap length left ∙ length-map after length;
      room = room;
    }

-- all are whole but one
pub last-is : (after : List (List ℕ)) (e : Endings) (step : ℕ) → IsSound after e → step < length after → is_whole e step ≡ false → (e.growing == 1) ≡ list_all (λ b. b) (set e.whole.items step true)
last-is after e step sound inside new =
    let lt : step < length e.whole.items = let n = sound.whole_each in omega (arith, n, inside) in
    let a = count-set e.whole.items step lt new in
    let n = count_by not (set e.whole.items step true) in
    let g : e.growing ≡ n + 1 = sound.growing ∙ sym a in
    ap (λ k. k == 1) g ∙ one-more-is n ∙ none-fails (λ b. b) (set e.whole.items step true)
  where
    one-more-is : (n : ℕ) → (n + 1 == 1) ≡ (n == 0)
    one-more-is n =
        elim (cases_eq n 0) [
          | inl p ↦ eq-eqb (n + 1) 1 (omega (arith, p)) ∙ sym (eq-eqb n 0 p)
          | inr ne ↦ ne_eqb (n + 1) 1 (λ q. ne (omega (arith, q))) ∙ sym (ne_eqb n 0 ne)
        ]

length-range : (k n : ℕ) → length (range_with_len k n) ≡ n
length-range k zero = refl
length-range k (suc n) = ap suc (length-range (k + 1) n)

-- there are as many lists of those that run after
pub rows-many : (after dependents : List (List ℕ)) → AreTurned after dependents → length dependents ≡ length after
rows-many after dependents turned = ap length turned ∙ length-map (range_with_len 0 (length after)) (λ n. from_number n (all_waits after)) ∙ length-range 0 (length after)

-- ---- the beginning

pub record Marks (e e2 : Endings) (step : ℕ) : Type 0 where
  pub whole : e2.whole.items ≡ set e.whole.items step true
  pub growing : e2.growing ≡ e.growing - 1
  pub left : e2.left ≡ e.left
  pub ended : e2.ended.items ≡ cond (get_or e.left.items step 0 == 0) (set e.ended.items step true) e.ended.items
  pub fresh : e2.fresh.items ≡ cond (get_or e.left.items step 0 == 0) (e.fresh.items ++ step ∷ []) e.fresh.items
  pub room : vec_capacity e.fresh ≤ vec_capacity e2.fresh

and-not : (b : Bool) → false ≡ (b && not b)
and-not true = refl
and-not false = refl

module _ (after dependents : List (List ℕ)) (turned : AreTurned after dependents) (e e2 : Endings) (step : ℕ) (sound : IsSound after e) (empty : e.fresh.items ≡ [])
    (inside : step < length after) (new : is_whole e step ≡ false) (m : Marks e e2 step) where
  at-whole : step < length e.whole.items
  at-whole = let n = sound.whole_each in omega (arith, n, inside)

  at-ended : step < length e.ended.items
  at-ended = let n = sound.ended_each in omega (arith, n, inside)

  not-ended : has_ended e step ≡ false
  not-ended = sound.ended step inside ∙ ap (λ b. b && have_ended e (after_of after step)) new

  left-is : (s : ℕ) → s < length after → get_or e2.left.items s 0 ≡ count_by (λ a. not (has_ended e a)) (after_of after s)
  left-is s lt = ap (λ v. get_or v.items s 0) m.left ∙ sound.left s lt

  growing-now : e2.growing ≡ count_by not e2.whole.items
  growing-now =
      let a = count-set e.whole.items step at-whole new in
      let b = sound.growing in
      let c = m.growing in
      let d = ap (count_by not) m.whole in
      omega (arith, a, b, c, d)

  whole-itself : is_whole e2 step ≡ true
  whole-itself = ap (λ bs. get_or bs step false) m.whole ∙ get_or-set_same e.whole.items step true false at-whole

  whole-other : (s : ℕ) → (s ≡ step → ⊥) → is_whole e2 s ≡ is_whole e s
  whole-other s ne = ap (λ bs. get_or bs s false) m.whole ∙ get_or-set_other e.whole.items step s true false ne

  ended-elsewhere : (s : ℕ) → s < length after → (s ≡ step → ⊥) → has_ended e2 s ≡ has_ended e s → has_ended e2 s ≡ (is_whole e2 s && get_or e2.left.items s 0 == 0)
  ended-elsewhere s lt ne same =
      same
      ∙ sound.ended s lt
      ∙ ap (λ b. b && have_ended e (after_of after s)) (sym (whole-other s ne))
      ∙ ap (λ b. is_whole e2 s && b) (sym (none-fails (has_ended e) (after_of after s)) ∙ ap (λ n. n == 0) (sym (left-is s lt)))

  none-now : (s : ℕ) → ended_now e s ≡ (has_ended e s && not (has_ended e s))
  none-now s = ap (λ ns. is_one_of ns s) empty ∙ and-not (has_ended e s)

  whole-each : length e2.whole.items ≡ length after
  whole-each = ap length m.whole ∙ length-set e.whole.items step true ∙ sound.whole_each

  left-each : length e2.left.items ≡ length after
  left-each = ap (λ v. length v.items) m.left ∙ sound.left_each

  capacity-now : length after ≤ vec_capacity e2.fresh
  capacity-now = let a = m.room in let b = sound.room in omega (arith, a, b)

  none-fresh : length e.fresh.items ≡ 0
  none-fresh = ap length empty

  ended-within : count_by not e.ended.items ≤ length after
  ended-within = let a = count_by-le-length not e.ended.items in let b = sound.ended_each in omega (arith, a, b)

  module _ (no : (get_or e.left.items step 0 == 0) ≡ false) where
    same-ended : e2.ended.items ≡ e.ended.items
    same-ended = m.ended ∙ ap (λ b. cond b (set e.ended.items step true) e.ended.items) no

    same-fresh : e2.fresh.items ≡ []
    same-fresh = m.fresh ∙ ap (λ b. cond b (e.fresh.items ++ step ∷ []) e.fresh.items) no ∙ empty

    same-at : (s : ℕ) → has_ended e2 s ≡ has_ended e s
    same-at s = ap (λ bs. get_or bs s false) same-ended

    stays : IsCounting after dependents (has_ended e) e2 [] 0
    stays = record {
      turned = turned;
      left = λ s lt.
          let a = left-is s lt in
          let b = count-same (λ a. not (has_ended e a)) (λ a. not (has_ended e2 a)) (λ a. ap (λ b. not b) (sym (same-at a))) (after_of after s) in
          let c = ap (λ ns. count_by (λ j. j == s) (flat_map (λ t. get_or dependents t []) ns)) same-fresh in
          omega (arith, a, b, c);
      ended = λ s lt. elim (cases_eq s step) [
        | inl p ↦
            ap (has_ended e2) p ∙ same-at step ∙ not-ended
            ∙ sym (ap (λ t. is_whole e2 t && get_or e2.left.items t 0 == 0) p ∙ and-right_false (is_whole e2 step) (get_or e2.left.items step 0 == 0) (ap (λ v. get_or v.items step 0 == 0) m.left ∙ no))
        | inr ne ↦ ended-elsewhere s lt ne (same-at s)
      ];
      now = λ s. ap (λ ns. is_one_of ns s) same-fresh ∙ and-not (has_ended e s) ∙ ap (λ b. b && not (has_ended e s)) (sym (same-at s));
      kept = λ s h. same-at s ∙ h;
      growing = growing-now;
      whole_each = whole-each;
      ended_each = ap length same-ended ∙ sound.ended_each;
      left_each = left-each;
      first_inside = refl;
      inside = ap (list_all (λ s. nat_lt s (length after))) same-fresh;
      room = let a = ap (count_by not) same-ended in let b = ap length same-fresh in let c = ended-within in omega (arith, a, b, c);
      capacity = capacity-now;
      counted = omega arith;
    }

  module _ (yes : (get_or e.left.items step 0 == 0) ≡ true) where
    single : EndsOne e e2 step
    single = record {
      ended = m.ended ∙ ap (λ b. cond b (set e.ended.items step true) e.ended.items) yes;
      fresh = m.fresh ∙ ap (λ b. cond b (e.fresh.items ++ step ∷ []) e.fresh.items) yes;
    }

    begins : IsCounting after dependents (has_ended e) e2 [] 0
    begins = record {
      turned = turned;
      left = λ s lt.
          let a = left-is s lt in
          let b = fewer-left e e2 step single at-ended not-ended (after_of after s) in
          let c = lower-more-often e e2 step single at-ended after dependents turned inside 0 (omega arith) [] s in
          let d = ap (λ ns. count_by (λ j. j == s) (flat_map (λ t. get_or dependents t []) ns)) empty in
          omega (arith, a, b, c, d);
      ended = λ s lt. elim (cases_eq s step) [
        | inl p ↦
            ap (has_ended e2) p ∙ ended-itself e e2 step single at-ended
            ∙ sym (ap (λ t. is_whole e2 t && get_or e2.left.items t 0 == 0) p ∙ ap (λ b. b && get_or e2.left.items step 0 == 0) whole-itself ∙ ap (λ v. get_or v.items step 0 == 0) m.left ∙ yes)
        | inr ne ↦ ended-elsewhere s lt ne (ended-other e e2 step single at-ended s ne)
      ];
      now = now-more e e2 step single at-ended not-ended (has_ended e) not-ended none-now;
      kept = ended-more e e2 step single at-ended;
      growing = growing-now;
      whole_each = whole-each;
      ended_each = ap length single.ended ∙ length-set e.ended.items step true ∙ sound.ended_each;
      left_each = left-each;
      first_inside = refl;
      inside = ap (list_all (λ s. nat_lt s (length after))) (single.fresh ∙ ap (λ ns. ns ++ step ∷ []) empty) ∙ ap (λ b. b && true) (lt-ltb step (length after) inside);
      room =
          let a = fewer-to-end e e2 step single at-ended not-ended in
          let b = ap length single.fresh ∙ length-append e.fresh.items (step ∷ []) in
          let c = none-fresh in
          let d = ended-within in
          omega (arith, a, b, c, d);
      capacity = capacity-now;
      counted = omega arith;
    }

  pub marked : IsCounting after dependents (has_ended e) e2 [] 0
  marked = cases (get_or e.left.items step 0 == 0) stays begins refl
    where
      cases : (b : Bool) → ((get_or e.left.items step 0 == 0) ≡ false → IsCounting after dependents (has_ended e) e2 [] 0) → ((get_or e.left.items step 0 == 0) ≡ true → IsCounting after dependents (has_ended e) e2 [] 0) → (get_or e.left.items step 0 == 0) ≡ b → IsCounting after dependents (has_ended e) e2 [] 0
      cases true f g h = g h
      cases false f g h = f h

-- ---- the end

pub sound-at_end : (after dependents : List (List ℕ)) (was : ℕ → Bool) (e : Endings) (k : ℕ) → IsCounting after dependents was e [] k → length e.fresh.items ≤ k → IsSound after e
sound-at_end after dependents was e k c past =
    let none : to_lower dependents k e ≡ [] = ap (flat_map (λ s. get_or dependents s [])) (drop_all k e.fresh.items past) in
    let left : (s : ℕ) → s < length after → get_or e.left.items s 0 ≡ count_by (λ a. not (has_ended e a)) (after_of after s) =
    λ s lt. let a = c.left s lt in let b = ap (count_by (λ j. j == s)) none in omega (arith, a, b)
    in
    record {
      ended = λ s lt. c.ended s lt ∙ ap (λ n. is_whole e s && n == 0) (left s lt) ∙ ap (λ b. is_whole e s && b) (none-fails (has_ended e) (after_of after s));
      left = left;
      growing = c.growing;
      whole_each = c.whole_each;
      ended_each = c.ended_each;
      left_each = c.left_each;
      room = c.capacity;
    }

-- ---- the law

module _ (after : List (List ℕ)) (r : AreRanked after) (e : Endings) (sound : IsSound after e) (whole : (s : ℕ) → s < length after → is_whole e s ≡ true) where
  each-ends : (ns : List ℕ) → ((a : ℕ) → is_one_of ns a ≡ true → has_ended e a ≡ true) → have_ended e ns ≡ true
  each-ends [] h = refl
  each-ends (n ∷ ns) h =
      ap (λ b. b && have_ended e ns) (h n (ap (λ b. b || is_one_of ns n) (eq-eqb n n refl)))
      ∙ each-ends ns (λ a g. h a (later (n == a) (is_one_of ns a) g))
    where
      later : (b c : Bool) → c ≡ true → (b || c) ≡ true
      later true c g = refl
      later false c g = g

  ends-below : (m s : ℕ) → r.rank s < m → s < length after → has_ended e s ≡ true
  ends-below zero s below lt = absurd (omega arith)
  ends-below (suc m) s below lt =
      sound.ended s lt
      ∙ ap (λ b. b && have_ended e (after_of after s)) (whole s lt)
      ∙ each-ends (after_of after s) (λ a g. let h = r.above s a lt g in ends-below m a (omega (arith, h, below)) (r.inside s a lt g))

pub all-end : AllEndWhereAllAreWhole
all-end after r e sound whole s lt = ends-below after r e sound whole (suc (r.rank s)) s (omega arith) lt
