-- Where faults stand after a change.
use Rattle.std.proofs.Common.{◌≡◌, ◌≤◌, ℕ, zero, suc, Bool, false, ◌||◌, [], ◌∷◌, length, take, refl, sym, ap, ◌∙◌, le_of_suc-le-suc, not-suc-le-zero}
use Rattle.std.proofs.Math.Bool.{or-false}
use Rattle.tv_value.specs.Nested.{Place}
use Rattle.tv_parts.specs.Partials.{Partial, wanting, item, growing, closed, no_parts, part_of, part_at, known_at, holds_some, some_holds}
use Rattle.tv_parts.specs.Changes.{arrive, close_at, CanArrive, CanClose}
use Rattle.tv_stream.proofs.Listed.{holds-with, holds-filled}
use Rattle.tv_stream.proofs.Counting.{part-with}
use Rattle.tv_stream.proofs.Places.{arrive-wanting, close-wanting}

module _ {A : Type 0} (test : A → Bool) where
  -- an item that arrives is there, and in all lists around it
  arrive-holds : (q : Place) (x : A) (r : Partial A) → CanArrive q r → holds_some test (arrive q x r) ≡ (holds_some test r || test x)
  arrive-holds [] x wanting can = refl
  arrive-holds [] x (item y) can = absurd can
  arrive-holds [] x (growing ps) can = absurd can
  arrive-holds [] x (closed ps) can = absurd can
  arrive-holds (i ∷ q) x wanting can = holds-with test (test x) (arrive q x wanting) no_parts i (arrive-new q)
    where
      arrive-new : (q : Place) → holds_some test (arrive q x wanting) ≡ test x
      arrive-new [] = refl
      arrive-new (j ∷ q) = holds-with test (test x) (arrive q x wanting) no_parts j (arrive-new q)
  arrive-holds (i ∷ q) x (item y) can = absurd can
  arrive-holds (i ∷ q) x (growing ps) can = holds-with test (test x) (arrive q x (part_of ps i)) ps i (arrive-holds q x (part_of ps i) can)
  arrive-holds (i ∷ q) x (closed ps) can = holds-with test (test x) (arrive q x (part_of ps i)) ps i (arrive-holds q x (part_of ps i) can.1)

  close-holds : (q : Place) (n : ℕ) (r : Partial A) → CanClose q n r → holds_some test (close_at q n r) ≡ holds_some test r
  close-holds [] n wanting can = holds-filled test no_parts n
  close-holds [] n (item y) can = absurd can
  close-holds [] n (growing ps) can = holds-filled test ps n
  close-holds [] n (closed ps) can = absurd can
  close-holds (i ∷ q) n wanting can = holds-with test false (close_at q n wanting) no_parts i (close-new q)
    where
      close-new : (q : Place) → holds_some test (close_at q n wanting) ≡ false
      close-new [] = holds-filled test no_parts n
      close-new (j ∷ q) = holds-with test false (close_at q n wanting) no_parts j (close-new q)
  close-holds (i ∷ q) n (item y) can = absurd can
  close-holds (i ∷ q) n (growing ps) can = holds-with test false (close_at q n (part_of ps i)) ps i (close-holds q n (part_of ps i) can ∙ sym (or-false (holds_some test (part_of ps i)))) ∙ or-false (some_holds test ps)
  close-holds (i ∷ q) n (closed ps) can = holds-with test false (close_at q n (part_of ps i)) ps i (close-holds q n (part_of ps i) can.1 ∙ sym (or-false (holds_some test (part_of ps i)))) ∙ or-false (some_holds test ps)

-- what arrives at a place arrives at the rest of the place in the part
arrive-inside : {A : Type 0} (i : ℕ) (q : Place) (x : A) (r : Partial A) → CanArrive (i ∷ q) r → (part_at (arrive (i ∷ q) x r) i ≡ arrive q x (part_at r i)) × CanArrive q (part_at r i)
arrive-inside i q x wanting can = (part-with (arrive q x wanting) no_parts i, arrive-wanting _ q)
arrive-inside i q x (item y) can = absurd can
arrive-inside i q x (growing ps) can = (part-with (arrive q x (part_of ps i)) ps i, can)
arrive-inside i q x (closed ps) can = (part-with (arrive q x (part_of ps i)) ps i, can.1)

close-inside : {A : Type 0} (i : ℕ) (q : Place) (n : ℕ) (r : Partial A) → CanClose (i ∷ q) n r → (part_at (close_at (i ∷ q) n r) i ≡ close_at q n (part_at r i)) × CanClose q n (part_at r i)
close-inside i q n wanting can = (part-with (close_at q n wanting) no_parts i, close-wanting _ q n)
close-inside i q n (item y) can = absurd can
close-inside i q n (growing ps) can = (part-with (close_at q n (part_of ps i)) ps i, can)
close-inside i q n (closed ps) can = (part-with (close_at q n (part_of ps i)) ps i, can.1)

-- at each prefix of the place
pub arrive-levels : {A : Type 0} (test : A → Bool) (q : Place) (x : A) (r : Partial A) → CanArrive q r → (m : ℕ) → m ≤ length q → holds_some test (known_at (take m q) (arrive q x r)) ≡ (holds_some test (known_at (take m q) r) || test x)
arrive-levels test q x r can zero h = arrive-holds test q x r can
arrive-levels test [] x r can (suc m) h = absurd (not-suc-le-zero {n = m} h)
arrive-levels test (i ∷ q) x r can (suc m) h =
    let inside = arrive-inside i q x r can in
    ap (λ t. holds_some test (known_at (take m q) t)) inside.0 ∙ arrive-levels test q x (part_at r i) inside.1 m (le_of_suc-le-suc {n = m} {m = length q} h)

pub close-levels : {A : Type 0} (test : A → Bool) (q : Place) (n : ℕ) (r : Partial A) → CanClose q n r → (m : ℕ) → m ≤ length q → holds_some test (known_at (take m q) (close_at q n r)) ≡ holds_some test (known_at (take m q) r)
close-levels test q n r can zero h = close-holds test q n r can
close-levels test [] n r can (suc m) h = absurd (not-suc-le-zero {n = m} h)
close-levels test (i ∷ q) n r can (suc m) h =
    let inside = close-inside i q n r can in
    ap (λ t. holds_some test (known_at (take m q) t)) inside.0 ∙ close-levels test q n (part_at r i) inside.1 m (le_of_suc-le-suc {n = m} {m = length q} h)
