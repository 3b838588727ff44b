use Rattle.std.proofs.Common.{◌≡◌, ◌≤◌, ◌<◌, ◌+◌, ℕ, zero, suc, add-one, arith, refl, sym, ap, ◌∙◌, subst, Bool, true, false, ◌⊎◌, inl, inr, List, [], ◌∷◌, length}
use Rattle.std.proofs.lemmas.Bool.{cases_lt, le-ltb, lt-ltb}
use Rattle.std.specs.Prelude.{nat_lt, take, if◌then◌else◌}
use Rattle.tv_pool.specs.Pool.{item_in, lies_at}
use Rattle.tv_parts.specs.Partials.{Partial, wanting, item, growing, closed, Parts, no_parts, part, part_at, part_of, known_at, holds_some, some_holds}
use Rattle.tv_stream.specs.Trees.{Marked}
use Rattle.tv_stream.specs.Stands.{is_marked}
use Rattle.tv_stream.specs.Inside.{IsAt}
use Rattle.tv_stream.proofs.Looks.{marked-at, walk-part, walk-none}
use Rattle.tv_stream.proofs.Places.{known-wanting}
use Rattle.tv_stream.proofs.Ways.{nil-of, node-of}
use Rattle.tv_stream.proofs.levels.+marked_in.Goals as goal

first-false : (a b : Bool) → (if a then true else b) ≡ false → a ≡ false
first-false true b h = h
first-false false b h = refl

rest-false : (a b : Bool) → (if a then true else b) ≡ false → b ≡ false
rest-false true b h = absurd (cc)
rest-false false b h = h

module _ {A : Type 0} (test : A → Bool) where
  mutual
    -- what holds none holds none inside
    none-inside : (r : Partial A) (q : List ℕ) → holds_some test r ≡ false → holds_some test (known_at q r) ≡ false
    none-inside r [] h = h
    none-inside wanting (i ∷ q) h = ap (holds_some test) (known-wanting A q)
    none-inside (item x) (i ∷ q) h = ap (holds_some test) (known-wanting A q)
    none-inside (growing ps) (i ∷ q) h = none-part ps i q h
    none-inside (closed ps) (i ∷ q) h = none-part ps i q h

    none-part : (ps : Parts A) (i : ℕ) (q : List ℕ) → some_holds test ps ≡ false → holds_some test (known_at q (part_of ps i)) ≡ false
    none-part no_parts i q h = ap (holds_some test) (known-wanting A q)
    none-part (part p ps) zero q h = none-inside p q (first-false (holds_some test p) (some_holds test ps) h)
    none-part (part p ps) (suc i) q h = none-part ps i q (rest-false (holds_some test p) (some_holds test ps) h)

less-none : (k : ℕ) → nat_lt k 0 ≡ false
less-none k = le-ltb k 0 (omega arith)

none-after : (k : ℕ) → nat_lt (suc k) 1 ≡ false
none-after k = le-ltb (suc k) 1 (omega arith)

less-suc : (k n : ℕ) → nat_lt (suc k) (n + 1) ≡ nat_lt k n
less-suc k n = elim (cases_lt k n) [
  | inl h ↦ lt-ltb (suc k) (n + 1) (up k n h) ∙ sym (lt-ltb k n h)
  | inr h ↦ le-ltb (suc k) (n + 1) (over k n h) ∙ sym (le-ltb k n h)
]
  where
    up : (k n : ℕ) → k < n → suc k < n + 1
    up k n h = omega arith

    over : (k n : ℕ) → n ≤ k → n + 1 ≤ suc k
    over k n h = omega arith

-- where no part stands, marks are here alone
here-alone : {T : Type 0} (i : ℕ) (q : List ℕ) (r : Partial (Marked T)) → holds_some is_marked r ≡ true → part_at r i ≡ wanting → (k : ℕ) → nat_lt k 1 ≡ holds_some is_marked (known_at (take k (i ∷ q)) r)
here-alone i q r marked none zero = sym marked
here-alone i q r marked none (suc k) = none-after k ∙ sym (ap (λ t. holds_some is_marked (known_at (take k q) t)) none ∙ ap (holds_some is_marked) (known-wanting _ (take k q)))

-- where a part stands, they are as many levels more
one-more : {T : Type 0} (i n : ℕ) (q : List ℕ) (r : Partial (Marked T)) → holds_some is_marked r ≡ true → ((k : ℕ) → k ≤ length q → nat_lt k n ≡ holds_some is_marked (known_at (take k q) (part_at r i))) → (k : ℕ) → k ≤ length (i ∷ q) → nat_lt k (n + 1) ≡ holds_some is_marked (known_at (take k (i ∷ q)) r)
one-more i n q r marked h zero fits = lt-ltb 0 (n + 1) (positive n) ∙ sym marked
  where
    positive : (n : ℕ) → 0 < n + 1
    positive n = omega arith
one-more i n q r marked h (suc k) fits = less-suc k n ∙ h k (down k (length q) fits)
  where
    down : (k n : ℕ) → suc k ≤ suc n → k ≤ n
    down k n h = omega arith

here-only : {T : Type 0} (r : Partial (Marked T)) → holds_some is_marked r ≡ true → (k : ℕ) → k ≤ 0 → nat_lt k 1 ≡ holds_some is_marked (known_at (take k []) r)
here-only r marked zero fits = sym marked
here-only r marked (suc k) fits = absurd (never k fits)
  where
    never : (k : ℕ) → suc k ≤ 0 → ⊥
    never k h = omega arith

pub body-requires : goal.body-requires
body-requires g t c = let r = c.requires in (r.0, node-of c.args.pool.now r.0 r.1.1.spots (lies_at c.args.node) r.1.1.height r.1.1.inside)

pub returns-then-not-body-clause-levels : goal.returns-then-not-body-clause-levels
returns-then-not-body-clause-levels g t c number r at k fits =
    let b = c.body.ensures number (node-of c.args.pool.now number at.spots (lies_at c.args.node) at.height at.inside) in
    less-none k ∙ sym (none-inside is_marked r (take k c.args.place.now) (marked-at (item_in c.args.pool.now number) (lies_at c.args.node) r c.body.result.now at b ∙ c.if-not-body.true))

pub returns-in_default-clause-levels : goal.returns-in_default-clause-levels
returns-in_default-clause-levels g t c number r at k fits =
    let b = c.body.ensures number (node-of c.args.pool.now number at.spots (lies_at c.args.node) at.height at.inside) in
    let empty : c.args.place.now ≡ [] = sym (nil-of c.args.place.now c.in_default.ensures.cases) in
    subst (λ q. nat_lt k 1 ≡ holds_some is_marked (known_at (take k q) r)) (sym empty) (here-only r (marked-at (item_in c.args.pool.now number) (lies_at c.args.node) r c.body.result.now at b ∙ c.if-not-body.false) k (subst (λ q. k ≤ length q) empty fits))

pub marked_in-requires : goal.marked_in-requires
marked_in-requires g t c κs bound =
    let r = c.requires in
    let place = c.in-Some.ensures.cases in
    let i = c.in-Some.field-0-0.now in
    let q = c.in-Some.rest.now in
    let m = item_in c.args.pool.now r.0 in
    let s = lies_at c.args.node in
    let a = r.1.1 in
    let found = c.in-Found.ensures r.0 (node-of c.args.pool.now r.0 a.spots s a.height a.inside) in
    let shorter : length q < length c.args.place.now = omega arith in
    (subst (λ x. length q < x) c.decreases shorter, (bound, (r.0, (part_at r.1.0 i, walk-part m s i (lies_at c.in-Found.part) q r.1.0 a found))))

pub returns-in-Found-clause-levels : goal.returns-in-Found-clause-levels
returns-in-Found-clause-levels g t c number r at k fits =
    let place = c.in-Some.ensures.cases in
    let i = c.in-Some.field-0-0.now in
    let q = c.in-Some.rest.now in
    let m = item_in c.args.pool.now number in
    let s = lies_at c.args.node in
    let n = node-of c.args.pool.now number at.spots s at.height at.inside in
    let marked = marked-at m s r c.body.result.now at (c.body.ensures number n) ∙ c.if-not-body.false in
    subst (λ l. nat_lt k (c.marked_in.result + 1) ≡ holds_some is_marked (known_at (take k l) r)) (sym place.0)
    (one-more i c.marked_in.result q r marked (c.marked_in.ensures.levels number (part_at r i) (walk-part m s i (lies_at c.in-Found.part) q r at (c.in-Found.ensures number n))) k (subst (λ l. k ≤ length l) place.0 fits))

pub returns-in-Free-clause-levels : goal.returns-in-Free-clause-levels
returns-in-Free-clause-levels g t c number r at k fits =
    let place = c.in-Some.ensures.cases in
    let i = c.in-Some.field-0-0.now in
    let q = c.in-Some.rest.now in
    let m = item_in c.args.pool.now number in
    let s = lies_at c.args.node in
    let n = node-of c.args.pool.now number at.spots s at.height at.inside in
    let marked = marked-at m s r c.body.result.now at (c.body.ensures number n) ∙ c.if-not-body.false in
    subst (λ l. nat_lt k 1 ≡ holds_some is_marked (known_at (take k l) r)) (sym place.0) (here-alone i q r marked (walk-none m s i r at (c.in-Free.ensures number n).0) k)
