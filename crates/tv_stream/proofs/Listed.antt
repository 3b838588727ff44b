-- Lists of parts that are given by their indices, and a change of one of them.
use Rattle.std.proofs.Common.{◌≡◌, ◌≢◌, ℕ, zero, suc, ◌+◌, ◌<◌, ◌≤◌, max, arith, Bool, true, false, ◌||◌, if◌then◌else◌, List, ◌∷◌, refl, sym, ap, ◌∙◌, zero-le, suc-le-suc, suc-ne-zero}
use Rattle.tv_lemmas.proofs.Numbers.{zero-not_suc}
use Rattle.tv_parts.specs.Partials.{Partial, wanting, item, growing, closed, Parts, no_parts, part, part_count, part_of, part_at, whole, one_if, whole_count, holds_some, some_holds}
use Rattle.tv_parts.specs.Changes.{with_part, filled, arrive, close_at}
use Rattle.tv_stream.specs.Trees.{listed}

-- how many parts a list has once there is one at an index
abbrev pub cover : ℕ → ℕ → ℕ
cover zero i = suc i
cover (suc n) zero = suc n
cover (suc n) (suc i) = suc (cover n i)

pub cover-max : (n i : ℕ) → cover n i ≡ max n (i + 1)
cover-max zero i = omega arith
cover-max (suc n) zero = omega arith
cover-max (suc n) (suc i) = up (cover n i) (cover-max n i)
  where
    up : (c : ℕ) → c ≡ max n (i + 1) → suc c ≡ max (suc n) (suc i + 1)
    up c h = omega arith

pub cover-less : (n i : ℕ) → i < n → cover n i ≡ n
cover-less zero i h = absurd (none i h)
  where
    none : (i : ℕ) → i < zero → ⊥
    none i h = omega arith
cover-less (suc n) zero h = refl
cover-less (suc n) (suc i) h = ap suc (cover-less n i (down i n h))
  where
    down : (i n : ℕ) → suc i < suc n → i < n
    down i n h = omega arith

suc-apart : (j i : ℕ) → j ≢ i → suc j ≢ suc i
suc-apart j i ne h = ne (down j i h)
  where
    down : (j i : ℕ) → suc j ≡ suc i → j ≡ i
    down j i h = omega arith

module _ {A : Type 0} where
  pub listed-same : (n : ℕ) (f g : ℕ → Partial A) → ((i : ℕ) → f i ≡ g i) → listed n f ≡ listed n g
  listed-same zero f g h = refl
  listed-same (suc n) f g h = ap (λ p. part p (listed n (λ i. f (suc i)))) (h 0) ∙ ap (part (g 0)) (listed-same n (λ i. f (suc i)) (λ i. g (suc i)) (λ i. h (suc i)))

  pub part-listed : (n : ℕ) (f : ℕ → Partial A) (i : ℕ) → ((j : ℕ) → n ≤ j → f j ≡ wanting) → part_of (listed n f) i ≡ f i
  part-listed zero f i h = sym (h i zero-le)
  part-listed (suc n) f zero h = refl
  part-listed (suc n) f (suc i) h = part-listed n (λ j. f (suc j)) i (λ j k. h (suc j) (suc-le-suc {n = n} k))

  pub count-listed : (n : ℕ) (f : ℕ → Partial A) → part_count (listed n f) ≡ n
  count-listed zero f = refl
  count-listed (suc n) f = ap suc (count-listed n (λ i. f (suc i)))

  pub with-listed : (n : ℕ) (f g : ℕ → Partial A) (i : ℕ) → ((j : ℕ) → j ≢ i → g j ≡ f j) → ((j : ℕ) → n ≤ j → f j ≡ wanting) → with_part (g i) (listed n f) i ≡ listed (cover n i) g
  with-listed zero f g zero same none = refl
  with-listed zero f g (suc i) same none =
      ap (λ p. part p (with_part (g (suc i)) no_parts i)) (sym (none 0 zero-le) ∙ sym (same 0 (zero-not_suc i)))
      ∙ ap (part (g 0)) (with-listed zero (λ j. f (suc j)) (λ j. g (suc j)) i (λ j ne. same (suc j) (suc-apart j i ne)) (λ j h. none (suc j) (zero-le)))
  with-listed (suc n) f g zero same none = ap (part (g 0)) (listed-same n (λ j. f (suc j)) (λ j. g (suc j)) (λ j. sym (same (suc j) (suc-ne-zero j))))
  with-listed (suc n) f g (suc i) same none =
      ap (λ p. part p (with_part (g (suc i)) (listed n (λ j. f (suc j))) i)) (sym (same 0 (zero-not_suc i)))
      ∙ ap (part (g 0)) (with-listed n (λ j. f (suc j)) (λ j. g (suc j)) i (λ j ne. same (suc j) (suc-apart j i ne)) (λ j h. none (suc j) (suc-le-suc {n = n} h)))

  pub filled-listed : (n most : ℕ) (f : ℕ → Partial A) → most ≤ n → ((j : ℕ) → most ≤ j → f j ≡ wanting) → filled (listed most f) n ≡ listed n f
  filled-listed zero zero f h none = refl
  filled-listed zero (suc most) f h none = absurd (never most h)
    where
      never : (m : ℕ) → suc m ≤ 0 → ⊥
      never m h = omega arith
  filled-listed (suc n) zero f h none =
      ap (λ p. part p (filled no_parts n)) (sym (none 0 zero-le))
      ∙ ap (part (f 0)) (filled-listed n zero (λ j. f (suc j)) (zero-le) (λ j k. none (suc j) (zero-le)))
  filled-listed (suc n) (suc most) f h none = ap (part (f 0)) (filled-listed n most (λ j. f (suc j)) (down most n h) (λ j k. none (suc j) (suc-le-suc {n = most} k)))
    where
      down : (m n : ℕ) → suc m ≤ suc n → m ≤ n
      down m n h = omega arith

  pub count-filled : (ps : Parts A) (n : ℕ) → whole_count (filled ps n) ≡ whole_count ps
  count-filled ps zero = refl
  count-filled no_parts (suc n) = ap (λ k. 0 + k) (count-filled no_parts n)
  count-filled (part p ps) (suc n) = ap (λ k. one_if (whole p) + k) (count-filled ps n)

  pub holds-filled : (test : A → Bool) (ps : Parts A) (n : ℕ) → some_holds test (filled ps n) ≡ some_holds test ps
  holds-filled test ps zero = refl
  holds-filled test no_parts (suc n) = holds-filled test no_parts n
  holds-filled test (part p ps) (suc n) = ap (λ b. if holds_some test p then true else b) (holds-filled test ps n)

  pub holds-with : (test : A → Bool) (m : Bool) (t : Partial A) (ps : Parts A) (i : ℕ) → holds_some test t ≡ (holds_some test (part_of ps i) || m) → some_holds test (with_part t ps i) ≡ (some_holds test ps || m)
  holds-with test m t no_parts zero h = ap (λ b. if b then true else false) h ∙ by m
    where
      by : (b : Bool) → (if (false || b) then true else false) ≡ (false || b)
      by true = refl
      by false = refl
  holds-with test m t no_parts (suc i) h = holds-with test m t no_parts i h
  holds-with test m t (part r ps) zero h = ap (λ b. if b then true else some_holds test ps) h ∙ by (holds_some test r) m (some_holds test ps)
    where
      by : (a b c : Bool) → (if (a || b) then true else c) ≡ ((if a then true else c) || b)
      by true b c = refl
      by false true true = refl
      by false true false = refl
      by false false true = refl
      by false false false = refl
  holds-with test m t (part r ps) (suc i) h = ap (λ b. if holds_some test r then true else b) (holds-with test m t ps i h) ∙ by (holds_some test r) (some_holds test ps) m
    where
      by : (a b c : Bool) → (if a then true else (b || c)) ≡ ((if a then true else b) || c)
      by true b c = refl
      by false b c = refl

  -- ---- a change of a part, as a change of the list

  abbrev pub stepped : Partial A → ℕ → Partial A → Partial A
  stepped t i wanting = growing (with_part t no_parts i)
  stepped t i (item v) = item v
  stepped t i (growing ps) = growing (with_part t ps i)
  stepped t i (closed ps) = closed (with_part t ps i)

  pub arrive-step : (i : ℕ) (q : List ℕ) (x : A) (r : Partial A) → arrive (i ∷ q) x r ≡ stepped (arrive q x (part_at r i)) i r
  arrive-step i q x wanting = refl
  arrive-step i q x (item v) = refl
  arrive-step i q x (growing ps) = refl
  arrive-step i q x (closed ps) = refl

  pub close-step : (i : ℕ) (q : List ℕ) (n : ℕ) (r : Partial A) → close_at (i ∷ q) n r ≡ stepped (close_at q n (part_at r i)) i r
  close-step i q n wanting = refl
  close-step i q n (item v) = refl
  close-step i q n (growing ps) = refl
  close-step i q n (closed ps) = refl
