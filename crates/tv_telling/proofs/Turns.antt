-- A step stands as often among those that run after another as this one among those that it runs after.
use Rattle.std.specs.Prelude.{◌≡◌, ℕ, zero, suc, ◌+◌, ◌<◌, ◌≤◌, List, [], ◌∷◌, ◌++◌, length, map, filter, flat_map, count_by, nat_lt, Bool, true, false, ◌==◌, ◌&&◌, cond, refl}
use Rattle.std.specs.List.{list_all, range_with_len}
use Rattle.std.proofs.Common.{arith, get_or, ap, ◌∙◌}
use Rattle.std.proofs.lemmas.Bool.{eq-eqb, lt-ltb, ne_eqb}
use Rattle.std.proofs.lemmas.List.{map-append}
use Rattle.std.proofs.lemmas.List.Elements.{filter-append}
use Rattle.std.proofs.lemmas.List.Folds.{list_all-append}
use Rattle.tv_naming.specs.Naming.{numbered}
use Rattle.tv_check.specs.Turned.{all_waits, from_number, waits_of}
use Rattle.tv_telling.specs.endings.Ends.{after_of, AreTurned}
use Rattle.tv_telling.proofs.Counts.{count-append, count-cons, one}

from-append : (d : ℕ) (xs ys : List (ℕ × ℕ)) → from_number d (xs ++ ys) ≡ from_number d xs ++ from_number d ys
from-append d xs ys = ap (map (λ x. x.1)) (filter-append (λ x. x.0 == d) xs ys) ∙ map-append (λ x. x.1) (filter (λ x. x.0 == d) xs) (filter (λ x. x.0 == d) ys)

from-next : (d a k : ℕ) (ns : List ℕ) → from_number d (map (λ a. (a, k)) (a ∷ ns)) ≡ cond (a == d) (k ∷ from_number d (map (λ a. (a, k)) ns)) (from_number d (map (λ a. (a, k)) ns))
from-next d a k ns = cases (a == d)
  where
    cases : (b : Bool) → map (λ (x : ℕ × ℕ). x.1) (cond b ((a, k) ∷ filter (λ x. x.0 == d) (map (λ a. (a, k)) ns)) (filter (λ x. x.0 == d) (map (λ a. (a, k)) ns))) ≡ cond b (k ∷ from_number d (map (λ a. (a, k)) ns)) (from_number d (map (λ a. (a, k)) ns))
    cases true = refl
    cases false = refl

-- ---- how often

from-step : (b c : Bool) (q : ℕ → Bool) (k : ℕ) (r : List ℕ) (n m : ℕ) → q k ≡ c → count_by q r ≡ cond c n 0 → m ≡ one b + n → count_by q (cond b (k ∷ r) r) ≡ cond c m 0
from-step true true q k r n m e h g = let f = count-cons q k r in let t : one (q k) ≡ 1 = ap one e in omega (arith, f, t, h, g)
from-step true false q k r n m e h g = let f = count-cons q k r in let t : one (q k) ≡ 0 = ap one e in omega (arith, f, t, h)
from-step false true q k r n m e h g = omega (arith, h, g)
from-step false false q k r n m e h g = h

nothing : (b : Bool) → count_by {X = ℕ} (λ n. b) [] ≡ cond b 0 0
nothing true = refl
nothing false = refl

-- of what one step runs after, all that comes from d is that step
from-one : (q : ℕ → Bool) (d k : ℕ) (ns : List ℕ) → count_by q (from_number d (map (λ a. (a, k)) ns)) ≡ cond (q k) (count_by (λ a. a == d) ns) 0
from-one q d k [] = nothing (q k)
from-one q d k (a ∷ ns) =
    ap (count_by q) (from-next d a k ns)
    ∙ from-step (a == d) (q k) q k (from_number d (map (λ a. (a, k)) ns)) (count_by (λ a. a == d) ns) (count_by (λ a. a == d) (a ∷ ns)) refl (from-one q d k ns) (count-cons (λ a. a == d) a ns)

earlier-none : (d m k : ℕ) (after : List (List ℕ)) → m < k → count_by (λ j. j == m) (from_number d (flat_map waits_of (numbered k after))) ≡ 0
earlier-none d m k [] lt = refl
earlier-none d m k (ns ∷ after) lt =
    let rest = flat_map waits_of (numbered (suc k) after) in
    let a = from-one (λ j. j == m) d k ns ∙ ap (λ b. cond b (count_by (λ a. a == d) ns) 0) (ne_eqb k m (λ e. omega (arith, e))) in
    let b = earlier-none d m (suc k) after (omega arith) in
    ap (count_by (λ j. j == m)) (from-append d (map (λ a. (a, k)) ns) rest)
    ∙ count-append (λ j. j == m) (from_number d (map (λ a. (a, k)) ns)) (from_number d rest)
    ∙ omega (arith, a, b)

turned-from : (d k s : ℕ) (after : List (List ℕ)) → count_by (λ j. j == k + s) (from_number d (flat_map waits_of (numbered k after))) ≡ count_by (λ a. a == d) (get_or after s [])
turned-from d k s [] = refl
turned-from d k zero (ns ∷ after) =
    let rest = flat_map waits_of (numbered (suc k) after) in
    let n : k + 0 ≡ k = omega arith in
    let a = from-one (λ j. j == k) d k ns ∙ ap (λ b. cond b (count_by (λ a. a == d) ns) 0) (eq-eqb k k refl) in
    let b = earlier-none d k (suc k) after (omega arith) in
    ap (λ m. count_by (λ j. j == m) (from_number d (flat_map waits_of (numbered k (ns ∷ after))))) n
    ∙ ap (count_by (λ j. j == k)) (from-append d (map (λ a. (a, k)) ns) rest)
    ∙ count-append (λ j. j == k) (from_number d (map (λ a. (a, k)) ns)) (from_number d rest)
    ∙ omega (arith, a, b)
turned-from d k (suc s) (ns ∷ after) =
    let rest = flat_map waits_of (numbered (suc k) after) in
    let n : k + suc s ≡ suc k + s = omega arith in
    let a = from-one (λ j. j == suc k + s) d k ns ∙ ap (λ b. cond b (count_by (λ a. a == d) ns) 0) (ne_eqb k (suc k + s) (λ e. omega (arith, e))) in
    let b = turned-from d (suc k) s after in
    ap (λ m. count_by (λ j. j == m) (from_number d (flat_map waits_of (numbered k (ns ∷ after))))) n
    ∙ ap (count_by (λ j. j == suc k + s)) (from-append d (map (λ a. (a, k)) ns) rest)
    ∙ count-append (λ j. j == suc k + s) (from_number d (map (λ a. (a, k)) ns)) (from_number d rest)
    ∙ omega (arith, a, b)

-- ---- the numbers of steps

one-below : (d m k : ℕ) (ns : List ℕ) → k < m → list_all (λ j. nat_lt j m) (from_number d (map (λ a. (a, k)) ns)) ≡ true
one-below d m k [] h = refl
one-below d m k (a ∷ ns) h = ap (list_all (λ j. nat_lt j m)) (from-next d a k ns) ∙ cases (a == d) (one-below d m k ns h)
  where
    cases : (b : Bool) → list_all (λ j. nat_lt j m) (from_number d (map (λ a. (a, k)) ns)) ≡ true → list_all (λ j. nat_lt j m) (cond b (k ∷ from_number d (map (λ a. (a, k)) ns)) (from_number d (map (λ a. (a, k)) ns))) ≡ true
    cases true e = ap (λ c. c && list_all (λ j. nat_lt j m) (from_number d (map (λ a. (a, k)) ns))) (lt-ltb k m h) ∙ e
    cases false e = e

all-below : (d k : ℕ) (rows : List (List ℕ)) (m : ℕ) → k + length rows ≤ m → list_all (λ j. nat_lt j m) (from_number d (flat_map waits_of (numbered k rows))) ≡ true
all-below d k [] m h = refl
all-below d k (ns ∷ rows) m h =
    let rest = flat_map waits_of (numbered (suc k) rows) in
    ap (list_all (λ j. nat_lt j m)) (from-append d (map (λ a. (a, k)) ns) rest)
    ∙ list_all-append (λ j. nat_lt j m) (from_number d (map (λ a. (a, k)) ns)) (from_number d rest)
    ∙ ap (λ c. c && list_all (λ j. nat_lt j m) (from_number d rest)) (one-below d m k ns (omega arith))
    ∙ all-below d (suc k) rows m (omega arith)

-- ---- the list of a number

row-at : {A : Type 0} (g : ℕ → List A) (k n d : ℕ) → d < n → get_or (map g (range_with_len k n)) d [] ≡ g (k + d)
row-at g k zero d lt = absurd (omega arith)
row-at g k (suc n) zero lt = let e : k ≡ k + 0 = omega arith in ap g e
row-at g k (suc n) (suc d) lt = let e : k + 1 + d ≡ k + suc d = omega arith in row-at g (k + 1) n d (omega arith) ∙ ap g e

module _ (after dependents : List (List ℕ)) (turned : AreTurned after dependents) (d : ℕ) (lt : d < length after) where
  row-is : get_or dependents d [] ≡ from_number d (all_waits after)
  row-is =
      let e : 0 + d ≡ d = omega arith in
      ap (λ xss. get_or xss d []) turned ∙ row-at (λ n. from_number n (all_waits after)) 0 (length after) d lt ∙ ap (λ n. from_number n (all_waits after)) e

  pub as-often : (s : ℕ) → count_by (λ j. j == s) (get_or dependents d []) ≡ count_by (λ a. a == d) (after_of after s)
  as-often s =
      let e : s ≡ 0 + s = omega arith in
      ap (count_by (λ j. j == s)) row-is ∙ ap (λ m. count_by (λ j. j == m) (from_number d (all_waits after))) e ∙ turned-from d 0 s after

  pub row-inside : list_all (λ j. nat_lt j (length after)) (get_or dependents d []) ≡ true
  row-inside = ap (list_all (λ j. nat_lt j (length after))) row-is ∙ all-below d 0 after (length after) (omega arith)
