-- What one call does step by step: those that run after the steps that ended are counted down, one by one.
use Rattle.std.specs.Prelude.{◌≡◌, ℕ, suc, ◌+◌, ◌-◌, ◌<◌, ◌≤◌, List, [], ◌∷◌, ◌++◌, length, drop, set, flat_map, count_by, nat_lt, not, Bool, true, false, ◌==◌, ◌&&◌, ◌||◌, cond, vec_capacity, refl}
use Rattle.std.specs.List.{list_all}
use Rattle.std.proofs.Common.{arith, get_or, ap, sym, subst, ◌∙◌, inl, inr, append_assoc}
use Rattle.std.proofs.Math.Seq.{drop-cons}
use Rattle.std.proofs.lemmas.Bool.{cases_eq, eq-eqb, lt-ltb, ltb-true, ne_eqb, and_parts, false_from_ne_true}
use Rattle.std.proofs.lemmas.List.{append-nil, drop-append-le, get_or-set_other, get_or-set_same, length-append, length-set}
use Rattle.std.proofs.lemmas.List.Folds.{list_all-append}
use Rattle.std.proofs.lemmas.Grind.{flat_map-append}
use Rattle.tv_telling.specs.declared.endings.endings.Endings.{Endings}
use Rattle.tv_telling.specs.endings.Ends.{after_of, ended_now, has_ended, is_one_of, is_whole, AreTurned}
use Rattle.tv_telling.specs.endings.Counting.{to_lower, IsCounting}
use Rattle.tv_telling.proofs.Counts.{count-append, count-cons, count-same, count-set, count-split, one, one-more, ones}
use Rattle.tv_telling.proofs.Turns.{as-often}
use Rattle.tv_lemmas.proofs.Tests.{and-right_false}

-- ---- one more step has ended

-- the same but for one step d, which ended
pub record EndsOne (e e2 : Endings) (d : ℕ) : Type 0 where
  pub ended : e2.ended.items ≡ set e.ended.items d true
  pub fresh : e2.fresh.items ≡ e.fresh.items ++ d ∷ []

module _ (e e2 : Endings) (d : ℕ) (o : EndsOne e e2 d) (lt : d < length e.ended.items) where
  pub ended-itself : has_ended e2 d ≡ true
  ended-itself = ap (λ bs. get_or bs d false) o.ended ∙ get_or-set_same e.ended.items d true false lt

  pub ended-other : (s : ℕ) → (s ≡ d → ⊥) → has_ended e2 s ≡ has_ended e s
  ended-other s ne = ap (λ bs. get_or bs s false) o.ended ∙ get_or-set_other e.ended.items d s true false ne

  pub ended-more : (s : ℕ) → has_ended e s ≡ true → has_ended e2 s ≡ true
  ended-more s h = elim (cases_eq s d) [ inl p ↦ ap (has_ended e2) p ∙ ended-itself | inr ne ↦ ended-other s ne ∙ h ]

  module _ (new : has_ended e d ≡ false) where
    -- of any list, as many fewer haven't ended as are this one
    pub fewer-left : (xs : List ℕ) → count_by (λ a. not (has_ended e a)) xs ≡ count_by (λ a. not (has_ended e2 a)) xs + count_by (λ a. a == d) xs
    fewer-left = count-split (λ a. not (has_ended e a)) (λ a. not (has_ended e2 a)) (λ a. a == d) at
      where
        at : (a : ℕ) → ones (has_ended e a) ≡ ones (has_ended e2 a) + one (a == d)
        at a =
            elim (cases_eq a d) [
              | inl p ↦
                  let x : ones (has_ended e a) ≡ 1 = ap ones (ap (has_ended e) p ∙ new) in
                  let y : ones (has_ended e2 a) ≡ 0 = ap ones (ap (has_ended e2) p ∙ ended-itself) in
                  let z : one (a == d) ≡ 1 = ap one (eq-eqb a d p) in
                  omega (arith, x, y, z)
              | inr ne ↦
                  let x : ones (has_ended e2 a) ≡ ones (has_ended e a) = ap ones (ended-other a ne) in
                  let z : one (a == d) ≡ 0 = ap one (ne_eqb a d ne) in
                  omega (arith, x, z)
            ]

    pub fewer-to-end : count_by not e2.ended.items + 1 ≡ count_by not e.ended.items
    fewer-to-end = ap (λ bs. count_by not bs + 1) o.ended ∙ count-set e.ended.items d lt new

    -- what ended with this call
    pub now-more : (was : ℕ → Bool) → was d ≡ false → ((s : ℕ) → ended_now e s ≡ (has_ended e s && not (was s))) → (s : ℕ) → ended_now e2 s ≡ (has_ended e2 s && not (was s))
    now-more was before h s =
        ap (λ ns. is_one_of ns s) o.fresh
        ∙ one-more e.fresh.items d s
        ∙ ap (λ b. b || d == s) (h s)
        ∙ elim (cases_eq s d) [
          | inl p ↦
              ap (λ b. has_ended e s && not (was s) || b) (eq-eqb d s (sym p))
              ∙ last (has_ended e s && not (was s))
              ∙ sym (ap (λ b. b && not (was s)) (ap (has_ended e2) p ∙ ended-itself) ∙ ap (λ b. not b) (ap was p ∙ before))
          | inr ne ↦
              ap (λ b. has_ended e s && not (was s) || b) (ne_eqb d s (λ q. ne (sym q)))
              ∙ none (has_ended e s && not (was s))
              ∙ ap (λ b. b && not (was s)) (sym (ended-other s ne))
        ]
      where
        last : (b : Bool) → (b || true) ≡ true
        last true = refl
        last false = refl

        none : (b : Bool) → (b || false) ≡ b
        none true = refl
        none false = refl

  -- those that run after it are still to be counted down
  pub lower-more : (dependents : List (List ℕ)) (k : ℕ) → k ≤ length e.fresh.items → to_lower dependents k e2 ≡ to_lower dependents k e ++ get_or dependents d []
  lower-more dependents k within =
      ap (λ ns. flat_map (λ s. get_or dependents s []) (drop k ns)) o.fresh
      ∙ ap (flat_map (λ s. get_or dependents s [])) (drop-append-le k e.fresh.items (d ∷ []) within)
      ∙ flat_map-append (λ s. get_or dependents s []) (drop k e.fresh.items) (d ∷ [])
      ∙ ap (λ ns. to_lower dependents k e ++ ns) (append-nil (get_or dependents d []))

  -- so, of each step, as often as it runs after it
  module _ (after dependents : List (List ℕ)) (turned : AreTurned after dependents) (inside : d < length after) (k : ℕ) (within : k ≤ length e.fresh.items) where
    pub lower-more-often : (first : List ℕ) (s : ℕ) → count_by (λ j. j == s) (first ++ to_lower dependents k e2) ≡ count_by (λ j. j == s) (first ++ to_lower dependents k e) + count_by (λ a. a == d) (after_of after s)
    lower-more-often first s =
        let row = get_or dependents d [] in
        let often = as-often after dependents turned d inside s in
        let all = count-append (λ j. j == s) (first ++ to_lower dependents k e) row in
        ap (λ ns. count_by (λ j. j == s) (first ++ ns)) (lower-more dependents k within)
        ∙ ap (count_by (λ j. j == s)) (sym (append_assoc first (to_lower dependents k e) row))
        ∙ omega (arith, often, all)

-- ---- one step is counted down

pub record Lowers (e e2 : Endings) (d : ℕ) : Type 0 where
  pub left : e2.left.items ≡ set e.left.items d (get_or e.left.items d 0 - 1)
  pub ended : e2.ended.items ≡ cond (is_whole e d && get_or e.left.items d 0 == 1) (set e.ended.items d true) e.ended.items
  pub fresh : e2.fresh.items ≡ cond (is_whole e d && get_or e.left.items d 0 == 1) (e.fresh.items ++ d ∷ []) e.fresh.items
  pub room : vec_capacity e.fresh ≤ vec_capacity e2.fresh
  pub whole : e2.whole ≡ e.whole
  pub growing : e2.growing ≡ e.growing

one-is-last : (n : ℕ) → 1 ≤ n → (n - 1 == 0) ≡ (n == 1)
one-is-last n h =
    elim (cases_eq n 1) [
      | inl p ↦ eq-eqb (n - 1) 0 (omega (arith, p)) ∙ sym (eq-eqb n 1 p)
      | inr ne ↦ ne_eqb (n - 1) 0 (λ q. ne (omega (arith, q, h))) ∙ sym (ne_eqb n 1 ne)
    ]

module _ (after dependents : List (List ℕ)) (was : ℕ → Bool) (e : Endings) (d : ℕ) (first : List ℕ) (k : ℕ)
    (c : IsCounting after dependents was e (d ∷ first) k) (inside : d < length after) where
  pub within-left : d < length e.left.items
  within-left = let n = c.left_each in omega (arith, n, inside)

  pub within-ended : d < length e.ended.items
  within-ended = let n = c.ended_each in omega (arith, n, inside)

  -- those still to be counted down after it
  abbrev pub others : ℕ → ℕ
  others s = count_by (λ j. j == s) (first ++ to_lower dependents k e)

  pub left-with : (s : ℕ) → s < length after → get_or e.left.items s 0 ≡ count_by (λ a. not (has_ended e a)) (after_of after s) + (one (d == s) + others s)
  left-with s lt = c.left s lt ∙ ap (λ n. count_by (λ a. not (has_ended e a)) (after_of after s) + n) (count-cons (λ j. j == s) d (first ++ to_lower dependents k e))

  pub some-left : 1 ≤ get_or e.left.items d 0
  some-left =
      let a = left-with d inside in
      let b : one (d == d) ≡ 1 = ap one (eq-eqb d d refl) in
      omega (arith, a, b)

  pub still-open : has_ended e d ≡ false
  still-open =
      let a = some-left in
      c.ended d inside ∙ and-right_false (is_whole e d) (get_or e.left.items d 0 == 0) (ne_eqb (get_or e.left.items d 0) 0 (λ q. omega (arith, q, a)))

  pub has-room : length e.fresh.items < vec_capacity e.fresh
  has-room =
      let a = count-set e.ended.items d within-ended still-open in
      let b = c.room in
      let n = c.capacity in
      omega (arith, a, b, n)

module _ (after dependents : List (List ℕ)) (was : ℕ → Bool) (e e2 : Endings) (d : ℕ) (first : List ℕ) (k : ℕ)
    (c : IsCounting after dependents was e (d ∷ first) k) (inside : d < length after) (l : Lowers e e2 d) where
  abbrev rest : ℕ → ℕ
  rest s = count_by (λ j. j == s) (first ++ to_lower dependents k e)

  at-left : d < length e.left.items
  at-left = within-left after dependents was e d first k c inside

  at-ended : d < length e.ended.items
  at-ended = within-ended after dependents was e d first k c inside

  left-is : (s : ℕ) → s < length after → get_or e.left.items s 0 ≡ count_by (λ a. not (has_ended e a)) (after_of after s) + (one (d == s) + rest s)
  left-is = left-with after dependents was e d first k c inside

  positive : 1 ≤ get_or e.left.items d 0
  positive = some-left after dependents was e d first k c inside

  not-ended : has_ended e d ≡ false
  not-ended = still-open after dependents was e d first k c inside

  left-same : get_or e2.left.items d 0 ≡ get_or e.left.items d 0 - 1
  left-same = ap (λ ns. get_or ns d 0) l.left ∙ get_or-set_same e.left.items d (get_or e.left.items d 0 - 1) 0 at-left

  left-other : (s : ℕ) → (s ≡ d → ⊥) → get_or e2.left.items s 0 ≡ get_or e.left.items s 0
  left-other s ne = ap (λ ns. get_or ns s 0) l.left ∙ get_or-set_other e.left.items d s (get_or e.left.items d 0 - 1) 0 ne

  left-less : (s : ℕ) → get_or e2.left.items s 0 + one (d == s) ≡ get_or e.left.items s 0
  left-less s =
      elim (cases_eq s d) [
        | inl p ↦
            let a = left-same in
            let b : one (d == s) ≡ 1 = ap one (eq-eqb d s (sym p)) in
            let h = positive in
            let x : get_or e2.left.items s 0 ≡ get_or e2.left.items d 0 = ap (λ i. get_or e2.left.items i 0) p in
            let y : get_or e.left.items s 0 ≡ get_or e.left.items d 0 = ap (λ i. get_or e.left.items i 0) p in
            omega (arith, a, b, h, x, y)
        | inr ne ↦
            let a = left-other s ne in
            let b : one (d == s) ≡ 0 = ap one (ne_eqb d s (λ q. ne (sym q))) in
            omega (arith, a, b)
      ]

  left-now : (s : ℕ) → s < length after → get_or e2.left.items s 0 ≡ count_by (λ a. not (has_ended e a)) (after_of after s) + rest s
  left-now s lt = let a = left-is s lt in let b = left-less s in omega (arith, a, b)

  whole-same : (s : ℕ) → is_whole e2 s ≡ is_whole e s
  whole-same s = ap (λ v. get_or v.items s false) l.whole

  growing-now : e2.growing ≡ count_by not e2.whole.items
  growing-now = l.growing ∙ c.growing ∙ ap (λ v. count_by not v.items) (sym l.whole)

  whole-each : length e2.whole.items ≡ length after
  whole-each = ap (λ v. length v.items) l.whole ∙ c.whole_each

  left-each : length e2.left.items ≡ length after
  left-each = ap length l.left ∙ length-set e.left.items d (get_or e.left.items d 0 - 1) ∙ c.left_each

  capacity-now : length after ≤ vec_capacity e2.fresh
  capacity-now = let a = l.room in let b = c.capacity in omega (arith, a, b)

  ended-elsewhere : (s : ℕ) → s < length after → (s ≡ d → ⊥) → has_ended e2 s ≡ has_ended e s → has_ended e2 s ≡ (is_whole e2 s && get_or e2.left.items s 0 == 0)
  ended-elsewhere s lt ne same =
      same ∙ c.ended s lt ∙ ap (λ b. b && get_or e.left.items s 0 == 0) (sym (whole-same s)) ∙ ap (λ n. is_whole e2 s && n == 0) (sym (left-other s ne))

  -- whether it ends
  ends-is : (is_whole e2 d && get_or e2.left.items d 0 == 0) ≡ (is_whole e d && get_or e.left.items d 0 == 1)
  ends-is =
      ap (λ b. b && get_or e2.left.items d 0 == 0) (whole-same d)
      ∙ ap (λ n. is_whole e d && n == 0) left-same
      ∙ ap (λ b. is_whole e d && b) (one-is-last (get_or e.left.items d 0) positive)

  module _ (no : (is_whole e d && get_or e.left.items d 0 == 1) ≡ false) where
    same-ended : e2.ended.items ≡ e.ended.items
    same-ended = l.ended ∙ ap (λ b. cond b (set e.ended.items d true) e.ended.items) no

    same-fresh : e2.fresh.items ≡ e.fresh.items
    same-fresh = l.fresh ∙ ap (λ b. cond b (e.fresh.items ++ d ∷ []) e.fresh.items) no

    same-at : (s : ℕ) → has_ended e2 s ≡ has_ended e s
    same-at s = ap (λ bs. get_or bs s false) same-ended

    goes-on : IsCounting after dependents was e2 first k
    goes-on = record {
      turned = c.turned;
      left = λ s lt.
          left-now s lt
          ∙ ap (λ n. n + rest s) (count-same (λ a. not (has_ended e a)) (λ a. not (has_ended e2 a)) (λ a. ap (λ b. not b) (sym (same-at a))) (after_of after s))
          ∙ ap (λ ns. count_by (λ a. not (has_ended e2 a)) (after_of after s) + count_by (λ j. j == s) (first ++ flat_map (λ t. get_or dependents t []) (drop k ns))) (sym same-fresh);
      ended = λ s lt. elim (cases_eq s d) [
        | inl p ↦
            ap (has_ended e2) p ∙ same-at d ∙ not-ended ∙ sym (ap (λ t. is_whole e2 t && get_or e2.left.items t 0 == 0) p ∙ ends-is ∙ no)
        | inr ne ↦ ended-elsewhere s lt ne (same-at s)
      ];
      now = λ s. ap (λ ns. is_one_of ns s) same-fresh ∙ c.now s ∙ ap (λ b. b && not (was s)) (sym (same-at s));
      kept = λ s h. same-at s ∙ c.kept s h;
      growing = growing-now;
      whole_each = whole-each;
      ended_each = ap length same-ended ∙ c.ended_each;
      left_each = left-each;
      first_inside = (and_parts (nat_lt d (length after)) (list_all (λ s. nat_lt s (length after)) first) c.first_inside).1;
      inside = ap (list_all (λ s. nat_lt s (length after))) same-fresh ∙ c.inside;
      room = let a = ap (count_by not) same-ended in let b = ap length same-fresh in let r = c.room in omega (arith, a, b, r);
      capacity = capacity-now;
      counted = let b = ap length same-fresh in let r = c.counted in omega (arith, b, r);
    }

  module _ (yes : (is_whole e d && get_or e.left.items d 0 == 1) ≡ true) where
    single : EndsOne e e2 d
    single = record {
      ended = l.ended ∙ ap (λ b. cond b (set e.ended.items d true) e.ended.items) yes;
      fresh = l.fresh ∙ ap (λ b. cond b (e.fresh.items ++ d ∷ []) e.fresh.items) yes;
    }

    ends-now : IsCounting after dependents was e2 first k
    ends-now = record {
      turned = c.turned;
      left = λ s lt.
          let a = left-now s lt in
          let b = fewer-left e e2 d single at-ended not-ended (after_of after s) in
          let o = lower-more-often e e2 d single at-ended after dependents c.turned inside k c.counted first s in
          omega (arith, a, b, o);
      ended = λ s lt. elim (cases_eq s d) [
        | inl p ↦ ap (has_ended e2) p ∙ ended-itself e e2 d single at-ended ∙ sym (ap (λ t. is_whole e2 t && get_or e2.left.items t 0 == 0) p ∙ ends-is ∙ yes)
        | inr ne ↦ ended-elsewhere s lt ne (ended-other e e2 d single at-ended s ne)
      ];
      now = now-more e e2 d single at-ended not-ended was (false_from_ne_true (was d) (λ h. let f : false ≡ true = sym not-ended ∙ c.kept d h in cc)) c.now;
      kept = λ s h. ended-more e e2 d single at-ended s (c.kept s h);
      growing = growing-now;
      whole_each = whole-each;
      ended_each = ap length single.ended ∙ length-set e.ended.items d true ∙ c.ended_each;
      left_each = left-each;
      first_inside = (and_parts (nat_lt d (length after)) (list_all (λ s. nat_lt s (length after)) first) c.first_inside).1;
      inside =
          ap (list_all (λ s. nat_lt s (length after))) single.fresh
          ∙ list_all-append (λ s. nat_lt s (length after)) e.fresh.items (d ∷ [])
          ∙ ap (λ b. b && (nat_lt d (length after) && true)) c.inside
          ∙ ap (λ b. b && true) (lt-ltb d (length after) inside);
      room =
          let a = fewer-to-end e e2 d single at-ended not-ended in
          let b = ap length single.fresh ∙ length-append e.fresh.items (d ∷ []) in
          let r = c.room in
          omega (arith, a, b, r);
      capacity = capacity-now;
      counted = let b = ap length single.fresh ∙ length-append e.fresh.items (d ∷ []) in let r = c.counted in omega (arith, b, r);
    }

  pub lowered : IsCounting after dependents was e2 first k
  lowered = cases (is_whole e d && get_or e.left.items d 0 == 1) goes-on ends-now refl
    where
      cases : (b : Bool) → ((is_whole e d && get_or e.left.items d 0 == 1) ≡ false → IsCounting after dependents was e2 first k) → ((is_whole e d && get_or e.left.items d 0 == 1) ≡ true → IsCounting after dependents was e2 first k) → (is_whole e d && get_or e.left.items d 0 == 1) ≡ b → IsCounting after dependents was e2 first k
      cases true f g h = g h
      cases false f g h = f h

-- ---- the steps of a list, one by one

module _ (after dependents : List (List ℕ)) (was : ℕ → Bool) (e : Endings) (steps : List ℕ) (i k : ℕ) (lt : i < length steps)
    (c : IsCounting after dependents was e (drop i steps) k) where
  pub at-next : IsCounting after dependents was e (get_or steps i 0 ∷ drop (suc i) steps) k
  at-next = subst (λ ns. IsCounting after dependents was e ns k) (drop-cons steps i 0 lt) c

  pub next-inside : get_or steps i 0 < length after
  next-inside = ltb-true (get_or steps i 0) (length after) (and_parts _ _ at-next.first_inside).0
