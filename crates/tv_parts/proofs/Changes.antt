-- What changes a partial tree: it stays below its value, what was known stays, and nothing whole is changed.
use Rattle.std.specs.Prelude.{◌≡◌, refl, ℕ, zero, suc, ◌<◌, nat_lt, Bool, true, false, ◌||◌, ◌&&◌, ◌==◌, if◌then◌else◌, [], ◌∷◌, Option, Some, None, option_and_then}
use Rattle.std.proofs.Common.{arith, sym, ap, subst, ◌∙◌}
use Rattle.std.proofs.lemmas.Bool.{eqb-true, eq-eqb, lt-ltb, ne_eqb}
use Rattle.std.proofs.lemmas.Option.{same_Some}
use Rattle.std.proofs.Math.Bool.{or-false}
use Rattle.tv_lemmas.proofs.Tests.{less-if}
use Rattle.tv_value.specs.Nested.{leaf, list, no_trees, tree, Place, count, at, item_at}
use Rattle.tv_value.specs.Values.{Value}
use Rattle.tv_value.specs.Orders.{is_prefix}
use Rattle.tv_parts.specs.Partials.{Partial, wanting, item, growing, closed, Parts, no_parts, part, part_count, part_of, known_at, shows, whole, all_whole}
use Rattle.tv_parts.specs.Below.{Values, Below, FirstBelow, EachBelow}
use Rattle.tv_parts.specs.Changes.{with_part, filled, arrive, close_here, close_at, CanArrive, CanClose, is_place, MayClose}
use Rattle.tv_parts.specs.Stated.{same_place}

-- ---- below the value

first-part : (ps : Parts Value) (vs : Values) (i : ℕ) (v : Value) → FirstBelow ps vs → item_at vs i ≡ Some v → Below (part_of ps i) v
first-part no_parts vs i v h e = tt
first-part (part p ps) no_trees i v h e = absurd h
first-part (part p ps) (tree u vs) zero v h e = subst (Below p) (same_Some u v e) h.0
first-part (part p ps) (tree u vs) (suc i) v h e = first-part ps vs i v h.1 e

each-part : (ps : Parts Value) (vs : Values) (i : ℕ) (v : Value) → EachBelow ps vs → item_at vs i ≡ Some v → Below (part_of ps i) v
each-part no_parts vs i v h e = tt
each-part (part p ps) no_trees i v h e = absurd h
each-part (part p ps) (tree u vs) zero v h e = subst (Below p) (same_Some u v e) h.0
each-part (part p ps) (tree u vs) (suc i) v h e = each-part ps vs i v h.1 e

first-with : (p : Partial Value) (ps : Parts Value) (vs : Values) (i : ℕ) (v : Value) → FirstBelow ps vs → item_at vs i ≡ Some v → Below p v → FirstBelow (with_part p ps i) vs
first-with p no_parts no_trees i v h e b = absurd (cc)
first-with p no_parts (tree u vs) zero v h e b = (subst (Below p) (sym (same_Some u v e)) b, tt)
first-with p no_parts (tree u vs) (suc i) v h e b = (tt, first-with p no_parts vs i v tt e b)
first-with p (part r ps) no_trees i v h e b = absurd h
first-with p (part r ps) (tree u vs) zero v h e b = (subst (Below p) (sym (same_Some u v e)) b, h.1)
first-with p (part r ps) (tree u vs) (suc i) v h e b = (h.0, first-with p ps vs i v h.1 e b)

each-with : (p : Partial Value) (ps : Parts Value) (vs : Values) (i : ℕ) (v : Value) → EachBelow ps vs → item_at vs i ≡ Some v → Below p v → EachBelow (with_part p ps i) vs
each-with p no_parts no_trees i v h e b = absurd (cc)
each-with p no_parts (tree u vs) i v h e b = absurd h
each-with p (part r ps) no_trees i v h e b = absurd h
each-with p (part r ps) (tree u vs) zero v h e b = (subst (Below p) (sym (same_Some u v e)) b, h.1)
each-with p (part r ps) (tree u vs) (suc i) v h e b = (h.0, each-with p ps vs i v h.1 e b)

-- the item of a list at an index, where something stands at a place inside it
abbrev Stands : Values → ℕ → Place → Value → Type 0
Stands vs i q w = (v : Value) × (item_at vs i ≡ Some v) × (at v q ≡ Some w)

stands : (vs : Values) (i : ℕ) (q : Place) (w : Value) → option_and_then (λ v. at v q) (item_at vs i) ≡ Some w → Stands vs i q w
stands vs i q w h = by (item_at vs i) refl h
  where
    by : (o : Option Value) → item_at vs i ≡ o → option_and_then (λ v. at v q) o ≡ Some w → Stands vs i q w
    by None e k = absurd (cc)
    by (Some v) e k = (v, e, k)

pub arrive-below : (q : Place) (w : Value) (r : Partial Value) (v : Value) → Below r v → at v q ≡ Some w → Below (arrive q w r) v
arrive-below [] w r v h e = sym (same_Some v w e)
arrive-below (i ∷ q) w wanting (leaf n a) h e = absurd (cc)
arrive-below (i ∷ q) w wanting (list n vs) h e = let s = stands vs i q w e in first-with (arrive q w wanting) no_parts vs i s.0 tt s.1 (arrive-below q w wanting s.0 tt s.2)
arrive-below (i ∷ q) w (item u) v h e = h
arrive-below (i ∷ q) w (growing ps) (leaf n a) h e = absurd h
arrive-below (i ∷ q) w (growing ps) (list n vs) h e = let s = stands vs i q w e in first-with (arrive q w (part_of ps i)) ps vs i s.0 h s.1 (arrive-below q w (part_of ps i) s.0 (first-part ps vs i s.0 h s.1) s.2)
arrive-below (i ∷ q) w (closed ps) (leaf n a) h e = absurd h
arrive-below (i ∷ q) w (closed ps) (list n vs) h e = let s = stands vs i q w e in each-with (arrive q w (part_of ps i)) ps vs i s.0 h s.1 (arrive-below q w (part_of ps i) s.0 (each-part ps vs i s.0 h s.1) s.2)

filled-below : (ps : Parts Value) (vs : Values) (n : ℕ) → FirstBelow ps vs → count vs ≡ n → EachBelow (filled ps n) vs
filled-below no_parts no_trees zero h e = tt
filled-below no_parts no_trees (suc n) h e = absurd (none n e)
  where
    none : (n : ℕ) → 0 ≡ suc n → ⊥
    none n e = omega arith
filled-below no_parts (tree v vs) zero h e = absurd (none (count vs) e)
  where
    none : (n : ℕ) → suc n ≡ 0 → ⊥
    none n e = omega arith
filled-below no_parts (tree v vs) (suc n) h e = (tt, filled-below no_parts vs n tt (omega arith))
filled-below (part p ps) no_trees n h e = absurd h
filled-below (part p ps) (tree v vs) zero h e = absurd (none (count vs) e)
  where
    none : (n : ℕ) → suc n ≡ 0 → ⊥
    none n e = omega arith
filled-below (part p ps) (tree v vs) (suc n) h e = (h.0, filled-below ps vs n h.1 (omega arith))

close_here-below : (n : ℕ) (r : Partial Value) (m : Unit {0}) (vs : Values) → count vs ≡ n → Below r (list m vs) → Below (close_here n r) (list m vs)
close_here-below n wanting m vs e h = filled-below no_parts vs n tt e
close_here-below n (item u) m vs e h = h
close_here-below n (growing ps) m vs e h = filled-below ps vs n h e
close_here-below n (closed ps) m vs e h = h

pub close-below : (q : Place) (n : ℕ) (r : Partial Value) (v : Value) (m : Unit {0}) (us : Values) → Below r v → at v q ≡ Some (list m us) → count us ≡ n → Below (close_at q n r) v
close-below [] n r v m us h e c = subst (Below (close_here n r)) (sym (same_Some v (list m us) e)) (close_here-below n r m us c (subst (Below r) (same_Some v (list m us) e) h))
close-below (i ∷ q) n wanting (leaf l a) m us h e c = absurd (cc)
close-below (i ∷ q) n wanting (list l vs) m us h e c = let s = stands vs i q (list m us) e in first-with (close_at q n wanting) no_parts vs i s.0 tt s.1 (close-below q n wanting s.0 m us tt s.2 c)
close-below (i ∷ q) n (item u) v m us h e c = h
close-below (i ∷ q) n (growing ps) (leaf l a) m us h e c = absurd h
close-below (i ∷ q) n (growing ps) (list l vs) m us h e c = let s = stands vs i q (list m us) e in first-with (close_at q n (part_of ps i)) ps vs i s.0 h s.1 (close-below q n (part_of ps i) s.0 m us (first-part ps vs i s.0 h s.1) s.2 c)
close-below (i ∷ q) n (closed ps) (leaf l a) m us h e c = absurd h
close-below (i ∷ q) n (closed ps) (list l vs) m us h e c = let s = stands vs i q (list m us) e in each-with (close_at q n (part_of ps i)) ps vs i s.0 h s.1 (close-below q n (part_of ps i) s.0 m us (each-part ps vs i s.0 h s.1) s.2 c)

-- ---- what is known after

pred-same : (m n : ℕ) → (m == n) ≡ (suc m == suc n)
pred-same m n = test (m == n) refl
  where
    up : (m n : ℕ) → m ≡ n → suc m ≡ suc n
    up m n e = omega arith

    down : (m n : ℕ) → suc m ≡ suc n → m ≡ n
    down m n e = omega arith

    test : (b : Bool) → (m == n) ≡ b → (m == n) ≡ (suc m == suc n)
    test true e = e ∙ sym (eq-eqb (suc m) (suc n) (up m n (eqb-true m n e)))
    test false e = e ∙ sym (ne_eqb (suc m) (suc n) (λ k. apart (m == n) e (eq-eqb m n (down m n k))))
      where
        apart : (b : Bool) → b ≡ false → b ≡ true → ⊥
        apart true i j = absurd (cc)
        apart false i j = absurd (cc)

of-with : {A : Type 0} (p : Partial A) (ps : Parts A) (i j : ℕ) (b : Bool) → (j == i) ≡ b → part_of (with_part p ps i) j ≡ (if b then p else part_of ps j)
of-with p no_parts zero zero b e = ap (λ c. if c then p else wanting) (sym (eq-eqb 0 0 refl) ∙ e)
of-with p no_parts zero (suc j) b e = ap (λ c. if c then p else wanting) (sym (ne_eqb (suc j) 0 (λ k. nonzero j k)) ∙ e)
  where
    nonzero : (j : ℕ) → suc j ≡ 0 → ⊥
    nonzero j e = omega arith
of-with p no_parts (suc i) zero b e = ap (λ c. if c then p else wanting) (sym (ne_eqb 0 (suc i) (λ k. nonzero i k)) ∙ e)
  where
    nonzero : (j : ℕ) → 0 ≡ suc j → ⊥
    nonzero j e = omega arith
of-with p no_parts (suc i) (suc j) b e = of-with p no_parts i j b (pred-same j i ∙ e)
of-with p (part r ps) zero zero b e = ap (λ c. if c then p else r) (sym (eq-eqb 0 0 refl) ∙ e)
of-with p (part r ps) zero (suc j) b e = ap (λ c. if c then p else part_of ps j) (sym (ne_eqb (suc j) 0 (λ k. nonzero j k)) ∙ e)
  where
    nonzero : (j : ℕ) → suc j ≡ 0 → ⊥
    nonzero j e = omega arith
of-with p (part r ps) (suc i) zero b e = ap (λ c. if c then p else r) (sym (ne_eqb 0 (suc i) (λ k. nonzero i k)) ∙ e)
  where
    nonzero : (j : ℕ) → 0 ≡ suc j → ⊥
    nonzero j e = omega arith
of-with p (part r ps) (suc i) (suc j) b e = of-with p ps i j b (pred-same j i ∙ e)

clash : (b : Bool) → b ≡ false → b ≡ true → ⊥
clash true i j = absurd (cc)
clash false i j = absurd (cc)

-- at an index, where the part at i came to show more
at-index : {A : Type 0} (p : Partial A) (ps : Parts A) (i j : ℕ) (s : Place) (more : Bool) → shows p s ≡ (shows (part_of ps i) s || more) → shows (part_of (with_part p ps i) j) s ≡ (shows (part_of ps j) s || ((i == j) && more))
at-index p ps i j s more h = ap (λ r. shows r s) (of-with p ps i j (j == i) refl) ∙ by (j == i) refl
  where
    by : (b : Bool) → (j == i) ≡ b → shows (if b then p else part_of ps j) s ≡ (shows (part_of ps j) s || ((i == j) && more))
    by true e = h ∙ ap (λ k. shows (part_of ps k) s || more) (sym (eqb-true j i e)) ∙ ap (λ b. shows (part_of ps j) s || (b && more)) (sym (eq-eqb i j (sym (eqb-true j i e))))
    by false e = sym (or-false (shows (part_of ps j) s)) ∙ ap (λ b. shows (part_of ps j) s || (b && more)) (sym (ne_eqb i j (λ k. clash (j == i) e (eq-eqb j i (sym k)))))

free : (A : Type 0) (q : Place) → CanArrive {A = A} q wanting
free A [] = tt
free A (i ∷ q) = tt

-- an item shows itself and all inside it
pub arrive-shows : {A : Type 0} (q : Place) (w : A) (r : Partial A) → CanArrive q r → (s : Place) → shows (arrive q w r) s ≡ (shows r s || is_prefix q s)
arrive-shows [] w wanting h s = refl
arrive-shows [] w (item v) h s = absurd h
arrive-shows [] w (growing ps) h s = absurd h
arrive-shows [] w (closed ps) h s = absurd h
arrive-shows {A} (i ∷ q) w wanting h [] = refl
arrive-shows {A} (i ∷ q) w wanting h (j ∷ s) = at-index (arrive q w wanting) no_parts i j s (is_prefix q s) (arrive-shows q w wanting (free A q) s)
arrive-shows (i ∷ q) w (item v) h s = absurd h
arrive-shows (i ∷ q) w (growing ps) h [] = refl
arrive-shows (i ∷ q) w (growing ps) h (j ∷ s) = at-index (arrive q w (part_of ps i)) ps i j s (is_prefix q s) (arrive-shows q w (part_of ps i) h s)
arrive-shows (i ∷ q) w (closed ps) h [] = refl
arrive-shows (i ∷ q) w (closed ps) h (j ∷ s) = at-index (arrive q w (part_of ps i)) ps i j s (is_prefix q s) (arrive-shows q w (part_of ps i) h.1 s)

of-filled : {A : Type 0} (ps : Parts A) (n j : ℕ) → part_of (filled ps n) j ≡ part_of ps j
of-filled no_parts zero j = refl
of-filled no_parts (suc n) zero = refl
of-filled no_parts (suc n) (suc j) = of-filled no_parts n j
of-filled (part p ps) zero j = refl
of-filled (part p ps) (suc n) zero = refl
of-filled (part p ps) (suc n) (suc j) = of-filled ps n j

can-close : (A : Type 0) (q : Place) (n : ℕ) → CanClose {A = A} q n wanting
can-close A [] n = tt
can-close A (i ∷ q) n = tt

-- a closed list shows itself
pub close-shows : {A : Type 0} (q : Place) (n : ℕ) (r : Partial A) → CanClose q n r → (s : Place) → shows (close_at q n r) s ≡ (shows r s || same_place q s)
close-shows [] n wanting h [] = refl
close-shows [] n wanting h (j ∷ s) = ap (λ r. shows r s) (of-filled no_parts n j)
close-shows [] n (item v) h s = absurd h
close-shows [] n (growing ps) h [] = refl
close-shows [] n (growing ps) h (j ∷ s) = ap (λ r. shows r s) (of-filled ps n j) ∙ sym (or-false (shows (part_of ps j) s))
close-shows [] n (closed ps) h s = absurd h
close-shows {A} (i ∷ q) n wanting h [] = refl
close-shows {A} (i ∷ q) n wanting h (j ∷ s) = at-index (close_at q n wanting) no_parts i j s (same_place q s) (close-shows q n wanting (can-close A q n) s)
close-shows (i ∷ q) n (item v) h s = absurd h
close-shows (i ∷ q) n (growing ps) h [] = refl
close-shows (i ∷ q) n (growing ps) h (j ∷ s) = at-index (close_at q n (part_of ps i)) ps i j s (same_place q s) (close-shows q n (part_of ps i) h s)
close-shows (i ∷ q) n (closed ps) h [] = refl
close-shows (i ∷ q) n (closed ps) h (j ∷ s) = at-index (close_at q n (part_of ps i)) ps i j s (same_place q s) (close-shows q n (part_of ps i) h.1 s)

-- ---- what can arrive or be closed stands in no whole part

part-not_whole : {A : Type 0} (ps : Parts A) (i : ℕ) → i < part_count ps → whole (part_of ps i) ≡ false → all_whole ps ≡ false
part-not_whole no_parts i l h = absurd (none i l)
  where
    none : (i : ℕ) → i < 0 → ⊥
    none i l = omega arith
part-not_whole (part p ps) zero l h = ap (λ b. b && all_whole ps) h
part-not_whole (part p ps) (suc i) l h = ap (λ b. whole p && b) (part-not_whole ps i (omega arith) h) ∙ nothing (whole p)
  where
    nothing : (b : Bool) → (b && false) ≡ false
    nothing true = refl
    nothing false = refl

pub arrive-not_whole : {A : Type 0} (q : Place) (r : Partial A) → CanArrive q r → whole r ≡ false
arrive-not_whole [] wanting h = refl
arrive-not_whole [] (item v) h = absurd h
arrive-not_whole [] (growing ps) h = absurd h
arrive-not_whole [] (closed ps) h = absurd h
arrive-not_whole (i ∷ q) wanting h = refl
arrive-not_whole (i ∷ q) (item v) h = absurd h
arrive-not_whole (i ∷ q) (growing ps) h = refl
arrive-not_whole (i ∷ q) (closed ps) h = part-not_whole ps i h.0 (arrive-not_whole q (part_of ps i) h.1)

pub close-not_whole : {A : Type 0} (q : Place) (n : ℕ) (r : Partial A) → CanClose q n r → whole r ≡ false
close-not_whole [] n wanting h = refl
close-not_whole [] n (item v) h = absurd h
close-not_whole [] n (growing ps) h = refl
close-not_whole [] n (closed ps) h = absurd h
close-not_whole (i ∷ q) n wanting h = refl
close-not_whole (i ∷ q) n (item v) h = absurd h
close-not_whole (i ∷ q) n (growing ps) h = refl
close-not_whole (i ∷ q) n (closed ps) h = part-not_whole ps i h.0 (close-not_whole q n (part_of ps i) h.1)

-- ---- where a change can be

if-less : (i n : ℕ) (b : Bool) → i < n → (if nat_lt i n then b else false) ≡ b
if-less i n b h = ap (λ c. if c then b else false) (lt-ltb i n h)

known-wanting : (A : Type 0) (q : Place) → known_at {A = A} q wanting ≡ wanting
known-wanting A [] = refl
known-wanting A (i ∷ q) = known-wanting A q

pub arrive-there : {A : Type 0} (q : Place) (r : Partial A) → CanArrive q r → (is_place q r ≡ true) × (known_at q r ≡ wanting)
arrive-there [] wanting h = (refl, refl)
arrive-there [] (item v) h = absurd h
arrive-there [] (growing ps) h = absurd h
arrive-there [] (closed ps) h = absurd h
arrive-there {A} (i ∷ q) wanting h = (refl, known-wanting A q)
arrive-there (i ∷ q) (item v) h = absurd h
arrive-there (i ∷ q) (growing ps) h = arrive-there q (part_of ps i) h
arrive-there (i ∷ q) (closed ps) h = let k = arrive-there q (part_of ps i) h.1 in (if-less i (part_count ps) (is_place q (part_of ps i)) h.0 ∙ k.0, k.1)

pub there-arrive : {A : Type 0} (q : Place) (r : Partial A) → is_place q r ≡ true → known_at q r ≡ wanting → CanArrive q r
there-arrive [] wanting h k = tt
there-arrive [] (item v) h k = absurd (cc)
there-arrive [] (growing ps) h k = absurd (cc)
there-arrive [] (closed ps) h k = absurd (cc)
there-arrive (i ∷ q) wanting h k = tt
there-arrive (i ∷ q) (item v) h k = absurd (cc)
there-arrive (i ∷ q) (growing ps) h k = there-arrive q (part_of ps i) h k
there-arrive (i ∷ q) (closed ps) h k = let l = less-if i (part_count ps) (is_place q (part_of ps i)) h in (l.0, there-arrive q (part_of ps i) l.1 k)

may-wanting : (A : Type 0) (q : Place) (n : ℕ) → MayClose {A = A} n (known_at q wanting)
may-wanting A q n = subst (MayClose n) (sym (known-wanting A q)) tt

pub close-there : {A : Type 0} (q : Place) (n : ℕ) (r : Partial A) → CanClose q n r → (is_place q r ≡ true) × MayClose n (known_at q r)
close-there [] n wanting h = (refl, tt)
close-there [] n (item v) h = absurd h
close-there [] n (growing ps) h = (refl, h)
close-there [] n (closed ps) h = absurd h
close-there {A} (i ∷ q) n wanting h = (refl, may-wanting A q n)
close-there (i ∷ q) n (item v) h = absurd h
close-there (i ∷ q) n (growing ps) h = close-there q n (part_of ps i) h
close-there (i ∷ q) n (closed ps) h = let k = close-there q n (part_of ps i) h.1 in (if-less i (part_count ps) (is_place q (part_of ps i)) h.0 ∙ k.0, k.1)

pub there-close : {A : Type 0} (q : Place) (n : ℕ) (r : Partial A) → is_place q r ≡ true → MayClose n (known_at q r) → CanClose q n r
there-close [] n wanting h k = tt
there-close [] n (item v) h k = absurd k
there-close [] n (growing ps) h k = k
there-close [] n (closed ps) h k = absurd k
there-close (i ∷ q) n wanting h k = tt
there-close (i ∷ q) n (item v) h k = absurd (cc)
there-close (i ∷ q) n (growing ps) h k = there-close q n (part_of ps i) h k
there-close (i ∷ q) n (closed ps) h k = let l = less-if i (part_count ps) (is_place q (part_of ps i)) h in (l.0, there-close q n (part_of ps i) l.1 k)
