-- What stands where in a partial tree after one change of it.
use Rattle.std.specs.Prelude.{◌≡◌, refl, ℕ, zero, suc, ◌≤◌, ◌<◌, Bool, true, false, ◌&&◌, nat_le, if◌then◌else◌, List, [], ◌∷◌, ◌++◌, Option, Some, None, length, take, unwrap_or}
use Rattle.std.specs.Option.{option_map}
use Rattle.std.proofs.Common.{arith, sym, ap, subst, ◌∙◌, le_of_suc-le-suc, suc-le-suc}
use Rattle.std.proofs.lemmas.Bool.{and_parts, true≢false}
use Rattle.tv_lemmas.proofs.Numbers.{less-back}
use Rattle.tv_lemmas.proofs.Tests.{less-if}
use Rattle.tv_value.specs.Nested.{Place}
use Rattle.tv_parts.specs.Partials.{Partial, wanting, item, growing, closed, Parts, no_parts, part, part_count, part_of, part_at, known_at, whole, all_whole}
use Rattle.tv_parts.specs.Changes.{with_part, filled, arrive, close_here, close_at, is_place}
use Rattle.tv_stream.specs.Trees.{least_whole}

-- ---- parts of lists

place-wanting : (A : Type 0) (q : Place) → is_place {A = A} q wanting ≡ true
place-wanting A [] = refl
place-wanting A (i ∷ q) = refl

module _ {A : Type 0} where
  pub part-there : (r : Partial A) (ps : Parts A) (i : ℕ) → part_of (with_part r ps i) i ≡ r
  part-there r no_parts zero = refl
  part-there r no_parts (suc i) = part-there r no_parts i
  part-there r (part p ps) zero = refl
  part-there r (part p ps) (suc i) = part-there r ps i

  pub part-other : (r : Partial A) (ps : Parts A) (i j : ℕ) → (j ≡ i → ⊥) → part_of (with_part r ps i) j ≡ part_of ps j
  part-other r no_parts zero zero h = absurd (h refl)
  part-other r no_parts zero (suc j) h = refl
  part-other r no_parts (suc i) zero h = refl
  part-other r no_parts (suc i) (suc j) h = part-other r no_parts i j (λ e. h (ap (λ n. suc n) e))
  part-other r (part p ps) zero zero h = absurd (h refl)
  part-other r (part p ps) zero (suc j) h = refl
  part-other r (part p ps) (suc i) zero h = refl
  part-other r (part p ps) (suc i) (suc j) h = part-other r ps i j (λ e. h (ap (λ n. suc n) e))

  pub count-within : (r : Partial A) (ps : Parts A) (i c : ℕ) → part_count ps ≤ c → i < c → part_count (with_part r ps i) ≤ c
  count-within r no_parts zero c h l = omega arith
  count-within r no_parts (suc i) zero h l = absurd (omega arith)
  count-within r no_parts (suc i) (suc c) h l = suc-le-suc {n = (part_count (with_part r no_parts i))} (count-within r no_parts i c (omega arith) (less-back i c l))
  count-within r (part p ps) zero c h l = h
  count-within r (part p ps) (suc i) zero h l = absurd (omega arith)
  count-within r (part p ps) (suc i) (suc c) h l = suc-le-suc {n = (part_count (with_part r ps i))} (count-within r ps i c (le_of_suc-le-suc {n = part_count ps} {m = c} h) (less-back i c l))

  pub count-kept : (r : Partial A) (ps : Parts A) (i : ℕ) → i < part_count ps → part_count (with_part r ps i) ≡ part_count ps
  count-kept r no_parts i l = absurd (omega arith)
  count-kept r (part p ps) zero l = refl
  count-kept r (part p ps) (suc i) l = ap (λ n. suc n) (count-kept r ps i (less-back i (part_count ps) l))

  pub part-filled : (ps : Parts A) (n j : ℕ) → part_of (filled ps n) j ≡ part_of ps j
  part-filled no_parts zero j = refl
  part-filled no_parts (suc n) zero = refl
  part-filled no_parts (suc n) (suc j) = part-filled no_parts n j
  part-filled (part p ps) zero j = refl
  part-filled (part p ps) (suc n) zero = refl
  part-filled (part p ps) (suc n) (suc j) = part-filled ps n j

  pub count-filled : (ps : Parts A) (n : ℕ) → part_count ps ≤ n → part_count (filled ps n) ≡ n
  count-filled no_parts zero h = refl
  count-filled no_parts (suc n) h = ap (λ m. suc m) (count-filled no_parts n (omega arith))
  count-filled (part p ps) zero h = absurd (omega arith)
  count-filled (part p ps) (suc n) h = ap (λ m. suc m) (count-filled ps n (le_of_suc-le-suc {n = part_count ps} {m = n} h))

  pub known-wanting : (q : Place) → known_at {A = A} q wanting ≡ wanting
  known-wanting [] = refl
  known-wanting (i ∷ q) = known-wanting q

  pub known-append : (q r : Place) (p : Partial A) → known_at (q ++ r) p ≡ known_at r (known_at q p)
  known-append [] r p = refl
  known-append (i ∷ q) r p = known-append q r (part_at p i)

  -- ---- one change

  -- an item arrives at a place, or a list is closed there: h changes what stands there
  abbrev pub change_at : Place → (Partial A → Partial A) → Partial A → Partial A
  change_at [] h p = h p
  change_at (i ∷ q) h wanting = growing (with_part (change_at q h wanting) no_parts i)
  change_at (i ∷ q) h (item v) = item v
  change_at (i ∷ q) h (growing ps) = growing (with_part (change_at q h (part_of ps i)) ps i)
  change_at (i ∷ q) h (closed ps) = closed (with_part (change_at q h (part_of ps i)) ps i)

  pub arrive-changes : (q : Place) (w : A) (p : Partial A) → arrive q w p ≡ change_at q (λ _. item w) p
  arrive-changes [] w p = refl
  arrive-changes (i ∷ q) w wanting = ap (λ r. growing (with_part r no_parts i)) (arrive-changes q w wanting)
  arrive-changes (i ∷ q) w (item v) = refl
  arrive-changes (i ∷ q) w (growing ps) = ap (λ r. growing (with_part r ps i)) (arrive-changes q w (part_of ps i))
  arrive-changes (i ∷ q) w (closed ps) = ap (λ r. closed (with_part r ps i)) (arrive-changes q w (part_of ps i))

  pub close-changes : (q : Place) (n : ℕ) (p : Partial A) → close_at q n p ≡ change_at q (close_here n) p
  close-changes [] n p = refl
  close-changes (i ∷ q) n wanting = ap (λ r. growing (with_part r no_parts i)) (close-changes q n wanting)
  close-changes (i ∷ q) n (item v) = refl
  close-changes (i ∷ q) n (growing ps) = ap (λ r. growing (with_part r ps i)) (close-changes q n (part_of ps i))
  close-changes (i ∷ q) n (closed ps) = ap (λ r. closed (with_part r ps i)) (close-changes q n (part_of ps i))

  pub close-inside : (n : ℕ) (p : Partial A) (j : ℕ) → part_at (close_here n p) j ≡ part_at p j
  close-inside n wanting j = part-filled no_parts n j
  close-inside n (item v) j = refl
  close-inside n (growing ps) j = part-filled ps n j
  close-inside n (closed ps) j = refl

  -- ---- whole from some length on

  pub part-whole : (ps : Parts A) (i : ℕ) → i < part_count ps → all_whole ps ≡ true → whole (part_of ps i) ≡ true
  part-whole no_parts i l h = absurd (omega arith)
  part-whole (part p ps) zero l h = (and_parts (whole p) (all_whole ps) h).0
  part-whole (part p ps) (suc i) l h = part-whole ps i (less-back i (part_count ps) l) ((and_parts (whole p) (all_whole ps) h).1)

  pub place-inside : (i : ℕ) (q : Place) (p : Partial A) → is_place (i ∷ q) p ≡ true → is_place q (part_at p i) ≡ true
  place-inside i q wanting h = place-wanting A q
  place-inside i q (item v) h = absurd (true≢false (sym h))
  place-inside i q (growing ps) h = h
  place-inside i q (closed ps) h = (less-if i (part_count ps) (is_place q (part_of ps i)) h).1

  whole-inside : (i : ℕ) (q : Place) (p : Partial A) → is_place (i ∷ q) p ≡ true → whole p ≡ true → whole (part_at p i) ≡ true
  whole-inside i q wanting h w = absurd (true≢false (sym w))
  whole-inside i q (item v) h w = absurd (true≢false (sym h))
  whole-inside i q (growing ps) h w = absurd (true≢false (sym w))
  whole-inside i q (closed ps) h w = part-whole ps i ((less-if i (part_count ps) (is_place q (part_of ps i)) h).0) w

  -- what is whole is so at each prefix of a place in it
  pub whole-down : (q : Place) (p : Partial A) → is_place q p ≡ true → whole p ≡ true → (n : ℕ) → n ≤ length q → whole (known_at (take n q) p) ≡ true
  whole-down q p h w zero l = w
  whole-down [] p h w (suc n) l = absurd (omega arith)
  whole-down (i ∷ q) p h w (suc n) l = whole-down q (part_at p i) (place-inside i q p h) (whole-inside i q p h w) n (omega arith)

  -- and so it is where a prefix of the place is whole
  pub whole-lower : (q : Place) (p : Partial A) → is_place q p ≡ true → (n : ℕ) → n ≤ length q → whole (known_at (take n q) p) ≡ true → whole (known_at q p) ≡ true
  whole-lower [] p h zero l w = w
  whole-lower [] p h (suc n) l w = absurd (omega arith)
  whole-lower (i ∷ q) p h zero l w = whole-lower q (part_at p i) (place-inside i q p h) zero (omega arith) (whole-inside i q p h w)
  whole-lower (i ∷ q) p h (suc n) l w = whole-lower q (part_at p i) (place-inside i q p h) n (omega arith) w

  pub least-from : (q : Place) (p : Partial A) → is_place q p ≡ true → (n : ℕ) → n ≤ length q → whole (known_at (take n q) p) ≡ nat_le (unwrap_or (least_whole q p) (suc (length q))) n
  least-from [] p h zero l = by (whole p)
    where
      by : (b : Bool) → b ≡ nat_le (unwrap_or (if b then Some 0 else None) 1) 0
      by true = grind arith
      by false = grind arith
  least-from [] p h (suc n) l = absurd (omega arith)
  least-from (i ∷ q) p h n l = by (whole p) refl n l (λ m k. least-from q (part_at p i) (place-inside i q p h) m k)
    where
      least : Option ℕ
      least = least_whole q (part_at p i)

      all-more : (m : ℕ) → true ≡ nat_le 0 m
      all-more m = grind arith

      none-less : (m : ℕ) → false ≡ nat_le (suc m) 0
      none-less m = grind arith

      both-more : (m k : ℕ) → nat_le m k ≡ nat_le (suc m) (suc k)
      both-more m k = grind arith

      fewer : (m k : ℕ) → suc m ≤ suc k → m ≤ k
      fewer m k g = omega arith

      one-up : (o : Option ℕ) (m : ℕ) → suc (unwrap_or o m) ≡ unwrap_or (option_map (λ x. suc x) o) (suc m)
      one-up None m = refl
      one-up (Some x) m = refl

      by : (b : Bool) → whole p ≡ b → (n : ℕ) → n ≤ suc (length q) → ((m : ℕ) → m ≤ length q → whole (known_at (take m q) (part_at p i)) ≡ nat_le (unwrap_or least (suc (length q))) m) → whole (known_at (take n (i ∷ q)) p) ≡ nat_le (unwrap_or (if b then Some 0 else option_map (λ x. suc x) least) (suc (suc (length q)))) n
      by true e n k rec = whole-down (i ∷ q) p h e n k ∙ all-more n
      by false e zero k rec = e ∙ none-less (unwrap_or least (suc (length q))) ∙ ap (λ m. nat_le m 0) (one-up least (suc (length q)))
      by false e (suc n) k rec =
          rec n (fewer n (length q) k)
          ∙ both-more (unwrap_or least (suc (length q))) n
          ∙ ap (λ m. nat_le m (suc n)) (one-up least (suc (length q)))
