-- What is sorted of a list of things from a position on.
use Rattle.std.specs.Prelude.{◌≡◌, ℕ, zero, suc, ◌+◌, ◌≤◌, not, Bool, true, false, cond, List, [], ◌∷◌, ◌++◌, Some, count_by, drop, slice_get, refl}
use Rattle.std.proofs.Common.{arith, ap, sym, ◌∙◌, append_assoc}
use Rattle.std.proofs.lemmas.List.Sums.{sum_by-cons}
use Rattle.std.proofs.Math.Numerals.{suc-eq-add-one}
use Rattle.tv_value.specs.Nested.{Place}
use Rattle.tv_matching.specs.Matchers.{Outcome}
use Rattle.tv_match.specs.Seen.{is_faulty, outcome_kind}
use Rattle.tv_match.specs.declared.kinds.Kind.{Kind}
use Rattle.tv_match.specs.declared.kinds.Kind.TheVariants.{Job, Closed, Passed}
use Rattle.tv_intake.specs.declared.found.Found.{Found}
use Rattle.tv_intake.specs.Sorting.{faulty_count, found_at, found_jobs, found_others, good_count, if_job, if_other, job_count, job_places, jobs_among}

drop-here : {A : Type 0} (os : List A) (i : ℕ) (o : A) → slice_get os i ≡ Some o → drop i os ≡ o ∷ drop (suc i) os
drop-here [] i o e = absurd (cc)
drop-here (x ∷ os) zero o e = let f : x ≡ o = cc in ap (λ y. y ∷ os) f
drop-here (x ∷ os) (suc i) o e = drop-here os i o e

pub drop-next : {A : Type 0} (os : List A) (i : ℕ) (o : A) → slice_get os i ≡ Some o → drop i os ≡ o ∷ drop (i + 1) os
drop-next os i o e = drop-here os i o e ∙ ap (λ k. o ∷ drop k os) (suc-eq-add-one i)

-- the one at this position has this kind
module _ (s : ℕ) (os : List Outcome) (i : ℕ) where
  pub jobs-next : (before : List Found) (k : Kind) (q : Place) → slice_get os i ≡ Some (outcome_kind q k) → (before ++ if_job k (found_at s i)) ++ found_jobs s (i + 1) (drop (i + 1) os) ≡ before ++ found_jobs s i (drop i os)
  jobs-next before k q e =
      append_assoc before (if_job k (found_at s i)) (found_jobs s (i + 1) (drop (i + 1) os))
      ∙ ap (λ j. before ++ (if_job k (found_at s i) ++ found_jobs s j (drop (i + 1) os))) (sym (suc-eq-add-one i))
      ∙ ap (λ l. before ++ l) (by k ∙ ap (found_jobs s i) (sym (drop-next os i (outcome_kind q k) e)))
    where
      by : (k : Kind) → if_job k (found_at s i) ++ found_jobs s (suc i) (drop (i + 1) os) ≡ found_jobs s i (outcome_kind q k ∷ drop (i + 1) os)
      by (Job b) = refl
      by (Closed n) = refl
      by (Passed l) = refl

  pub others-next : (before : List Found) (k : Kind) (q : Place) → slice_get os i ≡ Some (outcome_kind q k) → (before ++ if_other k (found_at s i)) ++ found_others s (i + 1) (drop (i + 1) os) ≡ before ++ found_others s i (drop i os)
  others-next before k q e =
      append_assoc before (if_other k (found_at s i)) (found_others s (i + 1) (drop (i + 1) os))
      ∙ ap (λ j. before ++ (if_other k (found_at s i) ++ found_others s j (drop (i + 1) os))) (sym (suc-eq-add-one i))
      ∙ ap (λ l. before ++ l) (by k ∙ ap (found_others s i) (sym (drop-next os i (outcome_kind q k) e)))
    where
      by : (k : Kind) → if_other k (found_at s i) ++ found_others s (suc i) (drop (i + 1) os) ≡ found_others s i (outcome_kind q k ∷ drop (i + 1) os)
      by (Job b) = refl
      by (Closed n) = refl
      by (Passed l) = refl

  pub count-next : (n m : ℕ) (k : Kind) (q : Place) → m ≡ job_count k → slice_get os i ≡ Some (outcome_kind q k) → (n + m) + jobs_among (drop (i + 1) os) ≡ n + jobs_among (drop i os)
  count-next n m k q c e =
      let f = ap jobs_among (drop-next os i (outcome_kind q k) e) in
      let g = by k in
      omega (arith, f, g, c)
    where
      by : (k : Kind) → job_count k + jobs_among (drop (i + 1) os) ≡ jobs_among (outcome_kind q k ∷ drop (i + 1) os)
      by (Job b) = omega arith
      by (Closed n) = omega arith
      by (Passed l) = omega arith

pub few : (k : Kind) → job_count k ≤ 1
few (Job b) = omega arith
few (Closed n) = omega arith
few (Passed l) = omega arith

pub few-good : (k : Kind) → good_count k ≤ 1
few-good (Job true) = omega arith
few-good (Job false) = omega arith
few-good (Closed n) = omega arith
few-good (Passed l) = omega arith

pub few-faulty : (k : Kind) → faulty_count k ≤ 1
few-faulty (Job true) = omega arith
few-faulty (Job false) = omega arith
few-faulty (Closed n) = omega arith
few-faulty (Passed l) = omega arith

-- one more thing, of which a job is counted by whether it binds a fault
module _ (test : Place → Bool) (os : List Outcome) (i : ℕ) (k : Kind) (q : Place) (told : is_faulty k ≡ test q) (here : slice_get os i ≡ Some (outcome_kind q k)) where
  pub good-next : (n m : ℕ) → m ≡ good_count k → (n + m) + count_by (λ r. not (test r)) (job_places (drop (i + 1) os)) ≡ n + count_by (λ r. not (test r)) (job_places (drop i os))
  good-next n m c =
      let f = ap (λ l. count_by (λ r. not (test r)) (job_places l)) (drop-next os i (outcome_kind q k) here) in
      let g = by k told in
      omega (arith, f, g, c)
    where
      by : (k : Kind) → is_faulty k ≡ test q → good_count k + count_by (λ r. not (test r)) (job_places (drop (i + 1) os)) ≡ count_by (λ r. not (test r)) (job_places (outcome_kind q k ∷ drop (i + 1) os))
      by (Job true) e = ap (λ b. cond (not b) 1 0 + count_by (λ r. not (test r)) (job_places (drop (i + 1) os))) e ∙ sym (sum_by-cons (λ r. cond (not (test r)) 1 0) q (job_places (drop (i + 1) os)))
      by (Job false) e = ap (λ b. cond (not b) 1 0 + count_by (λ r. not (test r)) (job_places (drop (i + 1) os))) e ∙ sym (sum_by-cons (λ r. cond (not (test r)) 1 0) q (job_places (drop (i + 1) os)))
      by (Closed n) e = omega arith
      by (Passed l) e = omega arith

  pub faulty-next : (n m : ℕ) → m ≡ faulty_count k → (n + m) + count_by test (job_places (drop (i + 1) os)) ≡ n + count_by test (job_places (drop i os))
  faulty-next n m c =
      let f = ap (λ l. count_by test (job_places l)) (drop-next os i (outcome_kind q k) here) in
      let g = by k told in
      omega (arith, f, g, c)
    where
      by : (k : Kind) → is_faulty k ≡ test q → faulty_count k + count_by test (job_places (drop (i + 1) os)) ≡ count_by test (job_places (outcome_kind q k ∷ drop (i + 1) os))
      by (Job true) e = ap (λ b. cond b 1 0 + count_by test (job_places (drop (i + 1) os))) e ∙ sym (sum_by-cons (λ r. cond (test r) 1 0) q (job_places (drop (i + 1) os)))
      by (Job false) e = ap (λ b. cond b 1 0 + count_by test (job_places (drop (i + 1) os))) e ∙ sym (sum_by-cons (λ r. cond (test r) 1 0) q (job_places (drop (i + 1) os)))
      by (Closed n) e = omega arith
      by (Passed l) e = omega arith
