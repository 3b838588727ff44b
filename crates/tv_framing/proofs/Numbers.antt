-- No two known jobs of a frame are the same: no step has two items at one place, and no two steps have one name.
use Rattle.std.specs.Prelude.{◌≡◌, refl, ℕ, zero, suc, ◌+◌, ◌≤◌, ◌&&◌, Bool, true, false, cond, List, [], ◌∷◌, flat_map, length, Some, slice_get, sum_by}
use Rattle.std.specs.Cmp.Lexicographic.{bytes_decides}
use Rattle.std.proofs.Common.{sym, ap, ap₂, subst, ◌∙◌, arith, length-append}
use Rattle.std.proofs.lemmas.List.Sorted.{sum_by-IsPermutation}
use Rattle.std.proofs.lemmas.List.Sums.{sum_by-append, sum_by-cons}
use Rattle.std.proofs.lemmas.Option.{none-some, same_Some}
use Rattle.tv_lemmas.specs.Members.{Each}
use Rattle.tv_value.specs.Nested.{Place}
use Rattle.tv_value.specs.Orders.{same_name}
use Rattle.tv_value.specs.Values.{Name}
use Rattle.tv_lemmas.proofs.Cases.{on_test}
use Rattle.tv_strategy.specs.Origins.{Origin}
use Rattle.tv_strategy.specs.Splits.{same_place}
use Rattle.tv_strategy.proofs.PlaceLemmas.{same-itself}
use Rattle.tv_strategy.proofs.Each.{each-weaken}
use Rattle.tv_matching.specs.Items.{Bound, Item, Kind, Stopped, closes, ends, if_so, item, known_items, passes}
use Rattle.tv_matching.specs.Members.{at_place}
use Rattle.tv_matching.proofs.Onces.{known-once}
use Rattle.tv_model.specs.instance.ByResults.{InstanceStep}
use Rattle.tv_model.specs.instance.Events.{known_by}
use Rattle.tv_framing.specs.Answers.{numbered}
use Rattle.tv_framing.specs.Frames.{IsFrame, job_places, known_jobs}
use Rattle.tv_framing.specs.Views.{View, steps_with}
use Rattle.tv_framing.proofs.Frames.{AreDistinct, Other, steps-distinct, swap}
use Rattle.tv_framing.proofs.Possible.{some-possible}

module _ (s : Name) (q : Place) where
  abbrev one : Name × Place → ℕ
  one x = cond (same_name s x.0 && same_place q x.1) 1 0

  -- how often the job of that step and place is among these
  abbrev times : List (Name × Place) → ℕ
  times xs = sum_by one xs

  -- ---- of one step

  one-kind : (t : Name) (r : Place) (k : Kind Bound Stopped) → times (job_places t (item r k)) ≤ length (if_so (same_place q r) (item {X = Bound} {F = Stopped} r k))
  one-kind t r (ends b) =
      subst (λ c. c ≤ length (if_so (same_place q r) (item {X = Bound} {F = Stopped} r (ends b)))) (sym (sum_by-cons one (t, r) [])) (by (same_name s t) (same_place q r))
    where
      by : (c d : Bool) → cond (c && d) 1 0 + 0 ≤ length (if_so d (item {X = Bound} {F = Stopped} r (ends b)))
      by true true = omega arith
      by true false = omega arith
      by false true = omega arith
      by false false = omega arith
  one-kind t r (closes n) = omega arith
  one-kind t r (passes f) = omega arith

  step-times : (t : Name) (xs : List (Item Bound Stopped)) → times (flat_map (job_places t) xs) ≤ length (at_place q xs)
  step-times t [] = omega arith
  step-times t (x ∷ xs) =
      sums (times (job_places t x)) (times (flat_map (job_places t) xs)) (length (if_so (same_place q x.place) x)) (length (at_place q xs)) (times (flat_map (job_places t) (x ∷ xs))) (length (at_place q (x ∷ xs)))
      (sum_by-append one (job_places t x) (flat_map (job_places t) xs))
      (length-append (if_so (same_place q x.place) x) (at_place q xs))
      (one-kind t x.place x.kind) (step-times t xs)
    where
      sums : (a b c d e f : ℕ) → e ≡ a + b → f ≡ c + d → a ≤ c → b ≤ d → e ≤ f
      sums a b c d e f g h i j = omega arith

  none-kind : (t : Name) → same_name s t ≡ false → (r : Place) (k : Kind Bound Stopped) → times (job_places t (item r k)) ≡ 0
  none-kind t e r (ends b) = sum_by-cons one (t, r) [] ∙ ap (λ c. cond (c && same_place q r) 1 0 + 0) e
  none-kind t e r (closes n) = refl
  none-kind t e r (passes f) = refl

  none-here : (t : Name) → same_name s t ≡ false → (xs : List (Item Bound Stopped)) → times (flat_map (job_places t) xs) ≡ 0
  none-here t e [] = refl
  none-here t e (x ∷ xs) = sum_by-append one (job_places t x) (flat_map (job_places t) xs) ∙ ap₂ (λ a b. a + b) (none-kind t e x.place x.kind) (none-here t e xs)

  -- ---- of all steps

  module _ (known : Origin → Bool) where
    abbrev jobs_of : InstanceStep → List (Name × Place)
    jobs_of f = flat_map (job_places f.step.step) (known_items known f.step.iteration)

    none-there : (fs : List InstanceStep) → Each (λ (f : InstanceStep). same_name s f.step.step ≡ false) fs → times (known_jobs known fs) ≡ 0
    none-there [] h = refl
    none-there (f ∷ fs) h =
        sum_by-append one (jobs_of f) (known_jobs known fs) ∙ ap₂ (λ a b. a + b) (none-here f.step.step h.0 (known_items known f.step.iteration)) (none-there fs h.1)

    once-there : (fs : List InstanceStep) → AreDistinct fs → times (known_jobs known fs) ≤ 1
    once-there [] d = omega arith
    once-there (f ∷ fs) d =
        let split = sum_by-append one (jobs_of f) (known_jobs known fs) in
        on_test (same_name s f.step.step)
        (λ e.
        here (times (jobs_of f)) (times (known_jobs known fs)) (times (known_jobs known (f ∷ fs))) (length (at_place q (known_items known f.step.iteration))) split
        (step-times f.step.step (known_items known f.step.iteration)) (known-once known q f.step.iteration) (none-there fs (others e)))
        (λ e.
        later (times (jobs_of f)) (times (known_jobs known fs)) (times (known_jobs known (f ∷ fs))) split
        (none-here f.step.step e (known_items known f.step.iteration)) (once-there fs d.1))
      where
        here : (a b c l : ℕ) → c ≡ a + b → a ≤ l → l ≤ 1 → b ≡ 0 → c ≤ 1
        here a b c l h i j k = omega arith

        later : (a b c : ℕ) → c ≡ a + b → a ≡ 0 → b ≤ 1 → c ≤ 1
        later a b c h i j = omega arith

        others : same_name s f.step.step ≡ true → Each (λ (g : InstanceStep). same_name s g.step.step ≡ false) fs
        others e =
            each-weaken (Other f.step.step) (λ (g : InstanceStep). same_name s g.step.step ≡ false)
            (λ g h. subst (λ n. same_name n g.step.step ≡ false) (sym ((bytes_decides s f.step.step).0 e)) (swap g.step.step f.step.step h))
            fs d.0

  -- ---- two of one list

  its-own : (x : Name × Place) → x ≡ (s, q) → one x ≡ 1
  its-own x e = ap one e ∙ ap₂ (λ a b. cond (a && b) 1 0) ((bytes_decides s s).1 refl) (same-itself q)

  some-times : (xs : List (Name × Place)) (m : ℕ) → slice_get xs m ≡ Some (s, q) → 1 ≤ times xs
  some-times [] m e = absurd (none-some (s, q) e)
  some-times (x ∷ xs) zero e = first (one x) (times xs) (times (x ∷ xs)) (its-own x (same_Some x (s, q) e)) (sum_by-cons one x xs)
    where
      first : (a b c : ℕ) → a ≡ 1 → c ≡ a + b → 1 ≤ c
      first a b c h i = omega arith
  some-times (x ∷ xs) (suc m) e = later (one x) (times xs) (times (x ∷ xs)) (some-times xs m e) (sum_by-cons one x xs)
    where
      later : (a b c : ℕ) → 1 ≤ b → c ≡ a + b → 1 ≤ c
      later a b c h i = omega arith

  two : (a b c : ℕ) → a ≡ 1 → 1 ≤ b → c ≡ a + b → c ≤ 1 → ⊥
  two a b c h i j k = omega arith

  rest : (a b c : ℕ) → c ≡ a + b → c ≤ 1 → b ≤ 1
  rest a b c h i = omega arith

  one-number : (xs : List (Name × Place)) (m n : ℕ) → slice_get xs m ≡ Some (s, q) → slice_get xs n ≡ Some (s, q) → times xs ≤ 1 → m ≡ n
  one-number [] m n e g l = absurd (none-some (s, q) e)
  one-number (x ∷ xs) zero zero e g l = refl
  one-number (x ∷ xs) zero (suc n) e g l = absurd (two (one x) (times xs) (times (x ∷ xs)) (its-own x (same_Some x (s, q) e)) (some-times xs n g) (sum_by-cons one x xs) l)
  one-number (x ∷ xs) (suc m) zero e g l = absurd (two (one x) (times xs) (times (x ∷ xs)) (its-own x (same_Some x (s, q) g)) (some-times xs m e) (sum_by-cons one x xs) l)
  one-number (x ∷ xs) (suc m) (suc n) e g l = ap suc (one-number xs m n e g (rest (one x) (times xs) (times (x ∷ xs)) (sum_by-cons one x xs) l))

-- one job has one number
pub jobs-differ : (v : View) → IsFrame v → (s : Name) (q : Place) (m n : ℕ) → numbered v m ≡ Some (s, q) → numbered v n ≡ Some (s, q) → m ≡ n
jobs-differ v frame s q m n e g =
    let r = some-possible v [] frame.given in
    one-number s q v.jobs m n e g
    (subst (λ c. c ≤ 1) (sum_by-IsPermutation (one s q) v.jobs (known_jobs (known_by [] v.events) (steps_with v [] r.0)) (frame.known [] r.0 r.1 r.2))
    (once-there s q (known_by [] v.events) (steps_with v [] r.0) (steps-distinct v [] r.0)))
