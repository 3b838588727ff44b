-- How many jobs that bind a fault stand in the queues.
use Rattle.std.specs.Prelude.{◌≡◌, ℕ, zero, suc, ◌+◌, ◌-◌, ◌<◌, ◌≤◌, ◌==◌, not, Bool, true, false, cond, if◌then◌else◌, List, [], ◌∷◌, ◌++◌, length, slice_index_or, slice_set, Some, refl}
use Rattle.std.specs.Cmp.Lexicographic.{slice_cmp}
use Rattle.std.specs.Ordering.{is_lt, nat_cmp}
use Rattle.std.proofs.Common.{arith, ap, sym, subst, ◌∙◌}
use Rattle.std.proofs.lemmas.Bool.{eqb-true, not-false}
use Rattle.std.proofs.lemmas.List.Sums.{get_or-le-sum_by, sum_by-append, sum_by-cons, sum_by-set}
use Rattle.tv_idle.specs.Listed.{Listed, with_job}
use Rattle.tv_idle.specs.declared.queues.Queues.{Queues}
use Rattle.tv_idle.specs.Idles.{first_number}
use Rattle.tv_idle.specs.Kept.{AreAllKept, IsGrown, IsSame, faulty_in, faulty_of, live, queue_for, queues_of, starts_gone, trimmed}

branch : (b : Bool) (xs ys : List (ℕ × List ℕ)) (n : ℕ) → length xs ≡ n → length ys ≡ n → length (if b then xs else ys) ≡ n
branch true xs ys n h k = h
branch false xs ys n h k = k

one-longer : (j : ℕ × List ℕ) (ks : List (ℕ × List ℕ)) → length (with_job j ks) ≡ length ks + 1
one-longer j [] = refl
one-longer j (k ∷ ks) =
    branch (is_lt (slice_cmp nat_cmp j.1 k.1)) (j ∷ k ∷ ks) (k ∷ with_job j ks) (suc (length ks) + 1) (omega arith)
    (let h = one-longer j ks in omega (arith, h))

either : (b : Bool) (xs ys : List (ℕ × List ℕ)) (n : ℕ) → length xs ≤ n → length ys ≤ n → length (if b then xs else ys) ≤ n
either true xs ys n h k = h
either false xs ys n h k = k

pub no-longer : (gone : ℕ → Bool) (js : List (ℕ × List ℕ)) → length (trimmed gone js) ≤ length js
no-longer gone [] = omega arith
no-longer gone (j ∷ js) =
    either (gone j.0) (trimmed gone js) (j ∷ js) (suc (length js)) (let h = no-longer gone js in omega (arith, h)) (omega arith)

-- where the queues of one step change
module _ (qs : List Queues) (s : ℕ) (from to : Queues) (inside : s < length qs) (is : from ≡ slice_index_or qs s from) where
  changed : faulty_in (slice_set qs s to) + faulty_of from ≡ faulty_in qs + faulty_of to
  changed = ap (λ q. faulty_in (slice_set qs s to) + faulty_of q) is ∙ sum_by-set faulty_of qs s to from inside

  within : faulty_of from ≤ faulty_in qs
  within = subst (λ q. faulty_of q ≤ faulty_in qs) (sym is) (get_or-le-sum_by faulty_of qs s from inside)

  pub same-faulty : IsSame from.faulty to.faulty → faulty_in qs ≡ faulty_in (slice_set qs s to)
  same-faulty h = let e = ap length h.jobs in let c = changed in omega (arith, c, e)

  one-faulty : (j : ℕ × List ℕ) → IsGrown j from.faulty to.faulty → faulty_in qs + 1 ≡ faulty_in (slice_set qs s to)
  one-faulty j h = let e = ap length h.jobs ∙ one-longer j from.faulty.jobs in let c = changed in omega (arith, c, e)

  none-faulty : to.faulty ≡ from.faulty → faulty_in qs ≡ faulty_in (slice_set qs s to)
  none-faulty h = let e = ap (λ (l : Listed). length l.jobs) h in let c = changed in omega (arith, c, e)

  pub more-by : (b : Bool) (j : ℕ × List ℕ) → IsGrown j (queue_for b from) (queue_for b to) → queue_for (not b) to ≡ queue_for (not b) from → faulty_in qs + cond b 1 0 ≡ faulty_in (slice_set qs s to)
  more-by true j h o = one-faulty j h
  more-by false j h o = let e = none-faulty o in omega (arith, e)

  -- what was dropped is counted no more
  pub fewer-faulty : (dropped : ℕ) → dropped + faulty_of to ≡ faulty_of from → (dropped ≤ faulty_in qs) × (faulty_in qs - dropped ≡ faulty_in (slice_set qs s to))
  fewer-faulty dropped d = let c = changed in let w = within in (omega (arith, d, w), omega (arith, d, c, w))

pub one-more : (f g n m : ℕ) (b : Bool) → f ≤ g → n ≡ cond b 1 0 → m ≡ g + 1 → f + n ≤ m
one-more f g n m true h e l = omega (arith, h, e, l)
one-more f g n m false h e l = omega (arith, h, e, l)

-- a step more, without jobs
pub more-faulty : (qs : List Queues) (q : Queues) → q.faulty.jobs ≡ [] → faulty_in qs ≡ faulty_in (qs ++ q ∷ [])
more-faulty qs q e =
    let a = sum_by-append faulty_of qs (q ∷ []) in
    let b = sum_by-cons faulty_of q [] in
    let l = ap length e in
    omega (arith, a, b, l)

-- where none stands, no step has one
no-job : (js : List (ℕ × List ℕ)) → length js ≡ 0 → js ≡ []
no-job [] h = refl
no-job (j ∷ js) h = absurd (omega (arith, h))

pub none-stands : (qs : List Queues) (k : ℕ) → faulty_in qs ≡ 0 → (queues_of qs k).faulty.jobs ≡ []
none-stands [] k h = refl
none-stands (q ∷ qs) zero h = no-job q.faulty.jobs (let a = sum_by-cons faulty_of q qs in omega (arith, a, h))
none-stands (q ∷ qs) (suc k) h = none-stands qs k (let a = sum_by-cons faulty_of q qs in omega (arith, a, h))

-- where some stand, a step has a first one
abbrev FirstOf : List Queues → Type 0
FirstOf qs = (k : ℕ) × (j : ℕ × List ℕ) × (js : List (ℕ × List ℕ)) × ((queues_of qs k).faulty.jobs ≡ j ∷ js)

here-or-further : (q : Queues) (qs : List Queues) → (1 ≤ faulty_in qs → FirstOf qs) → 1 ≤ faulty_in (q ∷ qs) → (js : List (ℕ × List ℕ)) → q.faulty.jobs ≡ js → FirstOf (q ∷ qs)
here-or-further q qs further h [] e =
    let a = sum_by-cons faulty_of q qs in
    let l = ap length e in
    let i = further (omega (arith, a, l, h)) in
    (suc i.0, i.1, i.2, i.3)
here-or-further q qs further h (j ∷ js) e = (zero, j, js, e)

some-stand : (qs : List Queues) → 1 ≤ faulty_in qs → FirstOf qs
some-stand [] h = absurd (omega (arith, h))
some-stand (q ∷ qs) h = here-or-further q qs (some-stand qs) h q.faulty.jobs refl

-- it hasn't gone
first-live : (gone : ℕ → Bool) (ks : List (ℕ × List ℕ)) (j : ℕ × List ℕ) (js : List (ℕ × List ℕ)) → ks ≡ j ∷ js → starts_gone gone ks ≡ false → first_number (live gone ks) ≡ Some j.0
first-live gone ks j js e h =
    ap (λ l. first_number (live gone l)) e
    ∙ ap (λ b. first_number (if not b then j ∷ live gone js else live gone js)) (ap (starts_gone gone) (sym e) ∙ h)

pub some-first : (gone : ℕ → Bool) (known : ℕ) (qs : List Queues) → AreAllKept gone known qs → 1 ≤ faulty_in qs → (k : ℕ) × (n : ℕ) × (first_number (live gone (queues_of qs k).faulty.jobs) ≡ Some n)
some-first gone known qs kept h =
    let f = some-stand qs h in
    (f.0, f.1.0, first-live gone (queues_of qs f.0).faulty.jobs f.1 f.2 f.3 (kept.each f.0).faulty.front)

pub some-counted : (f n : ℕ) → f ≡ n → not (f == 0) ≡ true → 1 ≤ n
some-counted zero n e h = cc
some-counted (suc f) n e h = omega (arith, e)

pub none-live : (gone : ℕ → Bool) (js : List (ℕ × List ℕ)) → js ≡ [] → live gone js ≡ []
none-live gone js e = ap (live gone) e

pub none-of : (n : ℕ) → not (n == 0) ≡ false → n ≡ 0
none-of n h = eqb-true n 0 (not-false (n == 0) h)
